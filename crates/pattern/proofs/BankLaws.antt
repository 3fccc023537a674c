-- What a bank of one leaf has to show. Assumes nothing.
use Rattle.std.proofs.Common.{◌≡◌, ℕ, zero, suc, true, Option, refl, arith}
use Rattle.std.proofs.lemmas.Bool.{false≢true}
use Rattle.grid.specs.declared.cell.Cell.{Cell}
use Rattle.grid.specs.declared.place.Place.{Place}
use Rattle.grid.specs.Laws.{Holds}
use Rattle.pattern.specs.declared.relation.Relation.{Relation}
use Rattle.pattern.specs.Sets.{PlaceSet, leaf_set}
use Rattle.pattern.specs.Relations.{Says}
use Rattle.pattern.specs.Banks.{Facts, one_leaf}

module _ (s : PlaceSet) (b : Option Cell) (r : Cell → Relation) (bounds : (p : Place) → s p ≡ true → Holds b p) (relates : (c : Cell) → Says (r c) s c) where
  one_bounds : (leaf : ℕ) (p : Place) → leaf_set (one_leaf s b r).sets leaf p ≡ true → Holds ((one_leaf s b r).bound leaf) p
  one_bounds zero p t = bounds p t
  one_bounds (suc leaf) p t = absurd (false≢true t)

  one_relates : (leaf : ℕ) (c : Cell) → Says ((one_leaf s b r).relation leaf c) (leaf_set (one_leaf s b r).sets leaf) c
  one_relates zero c = relates c
  one_relates (suc leaf) c = λ p i. refl

  pub one_leaf_facts : Facts (one_leaf s b r)
  one_leaf_facts = record {
    bounds = one_bounds;
    relates = one_relates;
    missing_bound = elim [ zero ↦ λ h. absurd (omega arith) | suc leaf ↦ λ h. refl ];
    missing_relation = elim [ zero ↦ λ c h. absurd (omega arith) | suc leaf ↦ λ c h. refl ];
  }
