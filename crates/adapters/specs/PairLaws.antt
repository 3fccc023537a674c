-- Two banks side by side owe what every bank owes, if each does. Assumes nothing.
use Rattle.std.specs.Prelude.{◌≡◌, ℕ, ◌+◌, ◌-◌, ◌<◌, ◌≤◌, min, true, false, cond, List, ◌++◌, length, None, nat_lt, refl}
use Rattle.std.proofs.Common.{sym, ap, subst, ◌∙◌, arith}
use Rattle.std.proofs.lemmas.List.{get_or-take, get_or_past, get_or_append_left, get_or-append_right, length-take, length-append}
use Rattle.std.proofs.lemmas.Bool.{cond_both, ltb-true, ltb-false, false≢true}
use Rattle.grid.specs.declared.cell.Cell.{Cell}
use Rattle.grid.specs.declared.place.Place.{Place}
use Rattle.grid.specs.Laws.{Holds}
use Rattle.pattern.specs.declared.relation.Relation.TheVariants.{Outside}
use Rattle.pattern.specs.Sets.{PlaceSet, nowhere, leaf_set}
use Rattle.pattern.specs.Relations.{Says}
use Rattle.pattern.specs.Banks.{Meaning, Facts}
use Rattle.adapters.specs.Pairs.{side_by_side, from_either, pair_meaning}

-- what holds of the first, the second and the missing leaves holds of the leaf
pub either : {A : Type 0} (P : A → Type 0) (n : ℕ) (first second : ℕ → A) (none : A) (leaf : ℕ) → (leaf < 65535 → leaf < n → P (first leaf)) → (leaf < 65535 → n ≤ leaf → P (second (leaf - n))) → (65535 ≤ leaf → P none) → P (from_either n first second none leaf)
either P n first second none leaf f s m =
    cond_both (nat_lt leaf 65535) (cond (nat_lt leaf n) (first leaf) (second (leaf - n))) none P
    (λ t. cond_both (nat_lt leaf n) (first leaf) (second (leaf - n)) P (λ u. f (ltb-true leaf 65535 t) (ltb-true leaf n u)) (λ u. s (ltb-true leaf 65535 t) (ltb-false leaf n u)))
    (λ t. m (ltb-false leaf 65535 t))

pub length_pair : (a b : List PlaceSet) → length (side_by_side a b) ≡ min 65535 (length a + length b)
unfolding side_by_side
length_pair a b = length-take 65535 (a ++ b) ∙ ap (min 65535) (length-append a b)

-- what is known of the sets of each is known of the two
pub pair_own : {a b s t : List PlaceSet} → a ≡ s → b ≡ t → side_by_side a b ≡ side_by_side s t
pair_own e f = cc

-- the set of a leaf of the two: one of the first, one of the second, or none

module _ (a b : List PlaceSet) (leaf : ℕ) where
  pub first_set : leaf < 65535 → leaf < length a → leaf_set (side_by_side a b) leaf ≡ leaf_set a leaf
  unfolding side_by_side
  first_set t u = get_or-take 65535 (a ++ b) leaf nowhere t ∙ get_or_append_left a b nowhere leaf u

  pub second_set : leaf < 65535 → length a ≤ leaf → leaf_set (side_by_side a b) leaf ≡ leaf_set b (leaf - length a)
  unfolding side_by_side
  second_set t u = get_or-take 65535 (a ++ b) leaf nowhere t ∙ get_or-append_right a b (length a) leaf nowhere refl u

  pub no_set : 65535 ≤ leaf → leaf_set (side_by_side a b) leaf ≡ nowhere
  no_set t = get_or_past (side_by_side a b) leaf nowhere (omega (arith, length_pair a b))

-- so the two hold a place as from_either tells
pub pair_set : (a b : List PlaceSet) (leaf : ℕ) (p : Place) → leaf_set (side_by_side a b) leaf p ≡ from_either (length a) (λ i. leaf_set a i p) (λ i. leaf_set b i p) false leaf
pair_set a b leaf p =
    let has = λ (s : PlaceSet). s p in
    either (λ x. leaf_set (side_by_side a b) leaf p ≡ x) (length a) (λ i. leaf_set a i p) (λ i. leaf_set b i p) false leaf
    (λ h k. ap has (first_set a b leaf h k)) (λ h k. ap has (second_set a b leaf h k)) (λ h. ap has (no_set a b leaf h))

module _ (m n : Meaning) (fm : Facts m) (fn : Facts n) where
  pair_bounds : (leaf : ℕ) (p : Place) → leaf_set (pair_meaning m n).sets leaf p ≡ true → Holds ((pair_meaning m n).bound leaf) p
  pair_bounds leaf p t =
      either (λ o. Holds o p) (length m.sets) m.bound n.bound None leaf
      (λ h k. fm.bounds leaf p (subst (λ (s : PlaceSet). s p ≡ true) (first_set m.sets n.sets leaf h k) t))
      (λ h k. fn.bounds (leaf - length m.sets) p (subst (λ (s : PlaceSet). s p ≡ true) (second_set m.sets n.sets leaf h k) t))
      (λ h. false≢true (subst (λ (s : PlaceSet). s p ≡ true) (no_set m.sets n.sets leaf h) t))

  pair_relates : (leaf : ℕ) (c : Cell) → Says ((pair_meaning m n).relation leaf c) (leaf_set (pair_meaning m n).sets leaf) c
  pair_relates leaf c =
      either (λ r. Says r (leaf_set (pair_meaning m n).sets leaf) c) (length m.sets) (λ i. m.relation i c) (λ i. n.relation i c) Outside leaf
      (λ h k. subst (λ s. Says (m.relation leaf c) s c) (sym (first_set m.sets n.sets leaf h k)) (fm.relates leaf c))
      (λ h k. subst (λ s. Says (n.relation (leaf - length m.sets) c) s c) (sym (second_set m.sets n.sets leaf h k)) (fn.relates (leaf - length m.sets) c))
      (λ h. subst (λ s. Says Outside s c) (sym (no_set m.sets n.sets leaf h)) (λ p i. refl))

  -- past the leaves of both, what each tells of a missing leaf
  missing : {A : Type 0} (first second : ℕ → A) (none : A) (leaf : ℕ) → ((i : ℕ) → length m.sets ≤ i → first i ≡ none) → ((i : ℕ) → length n.sets ≤ i → second i ≡ none) → length (pair_meaning m n).sets ≤ leaf → from_either (length m.sets) first second none leaf ≡ none
  missing first second none leaf f s past =
      either (λ x. x ≡ none) (length m.sets) first second none leaf
      (λ h k. f leaf (omega (arith, length_pair m.sets n.sets)))
      (λ h k. s (leaf - length m.sets) (omega (arith, length_pair m.sets n.sets)))
      (λ h. refl)

  pub pair_facts : Facts (pair_meaning m n)
  pair_facts = record {
    bounds = pair_bounds;
    relates = pair_relates;
    missing_bound = λ leaf past. missing m.bound n.bound None leaf fm.missing_bound fn.missing_bound past;
    missing_relation = λ leaf c past. missing (λ i. m.relation i c) (λ i. n.relation i c) Outside leaf (λ i. fm.missing_relation i c) (λ i. fn.missing_relation i c) past;
  }
