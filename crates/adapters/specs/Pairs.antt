-- Two patterns side by side, and two banks.
use Rattle.std.specs.Prelude.{ℕ, ◌-◌, cond, List, ◌++◌, length, take, None, nat_lt}
use Rattle.pattern.specs.declared.relation.Relation.TheVariants.{Outside}
use Rattle.pattern.specs.Sets.{PlaceSet}
use Rattle.pattern.specs.Banks.{Meaning}
use Rattle.adapters.specs.declared.pair.Owner.{Owner}
use Rattle.adapters.specs.declared.pair.Owner.TheVariants.{First, Second, Neither}

-- The leaves of the first and then those of the second, as far as the 65,535th.
unfoldable pub side_by_side : List PlaceSet → List PlaceSet → List PlaceSet
side_by_side first second = take 65535 (first ++ second)

-- What is known of a leaf, by its number: from the first while its n leaves last, then from the second, counted from
-- there; past the 65,535th leaf it is `none`.
abbrev pub from_either : {A : Type 0} → ℕ → (ℕ → A) → (ℕ → A) → A → ℕ → A
from_either n first second none leaf = cond (nat_lt leaf 65535) (cond (nat_lt leaf n) (first leaf) (second (leaf - n))) none

-- Whose leaf that is, and the number that it has there.
abbrev pub owner_of : ℕ → ℕ → Owner
owner_of n leaf = from_either n First Second Neither leaf

-- The two meanings side by side.
abbrev pub pair_meaning : Meaning → Meaning → Meaning
pair_meaning first second = record {
  sets = side_by_side first.sets second.sets;
  bound = from_either (length first.sets) first.bound second.bound None;
  relation = λ leaf c. from_either (length first.sets) (λ i. first.relation i c) (λ i. second.relation i c) Outside leaf;
}
