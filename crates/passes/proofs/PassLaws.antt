-- A pass list owes what every bank owes. Assumes nothing.
use Rattle.std.proofs.Common.{◌≡◌, Bool, true, false, ◌||◌, ◌⊎◌, List, [], ◌∷◌, None, Decides, Option, sym, refl, subst, inl, inr, ⊎_elim, arith}
use Rattle.std.proofs.lemmas.Bool.{or_cases, or_left, or_right, or_from, false≢true}
use Rattle.std.proofs.lemmas.Bool.Decides.{nat_tests}
use Rattle.grid.specs.declared.axis.Axis.TheVariants.{Needle, Course, Track}
use Rattle.grid.specs.declared.cell.Cell.{Cell}
use Rattle.grid.specs.declared.place.Place.{Place}
use Rattle.grid.specs.Axes.{along, Below}
use Rattle.grid.specs.Places.{at}
use Rattle.grid.specs.Cells.{hull_of}
use Rattle.grid.specs.Laws.{Holds, Part}
use Rattle.grid.proofs.Meanings.{box_law, hull_law}
use Rattle.pattern.specs.Sets.{PlaceSet}
use Rattle.pattern.specs.Relations.{Says, box_holds, box_meets, boxed, box_relation}
use Rattle.pattern.specs.Banks.{Facts, one_leaf}
use Rattle.pattern.proofs.ExactLaws.{exact_says}
use Rattle.pattern.proofs.BoxLaws.{box_exact}
use Rattle.pattern.proofs.BankLaws.{one_leaf_facts}
use Rattle.passes.specs.declared.pass.Pass.{Pass}
use Rattle.passes.specs.Passes.{pass_set, some, passes_set, pass_box, hull_with, passes_bound, HullOfPasses, passes_relation}

-- A pass holds just the places of its box.

Between : Pass → Place → Type 0
Between s p = Below (along s.from s.course s.track) (at p) × Below (at p) (along s.to s.course s.track)

held_between : (s : Pass) (p : Place) → pass_set s p ≡ true → Between s p
unfolding Between
held_between s p t = (
  elim [ Needle ↦ grind (arith, nat_tests) | Course ↦ grind (arith, nat_tests) | Track ↦ grind (arith, nat_tests) ],
  elim [ Needle ↦ grind (arith, nat_tests) | Course ↦ grind (arith, nat_tests) | Track ↦ grind (arith, nat_tests) ],
)

between_held : (s : Pass) (p : Place) → Between s p → pass_set s p ≡ true
unfolding Between
between_held s p b =
    let n = b.0 Needle in
    let n' = b.1 Needle in
    let c = b.0 Course in
    let c' = b.1 Course in
    let t = b.0 Track in
    let t' = b.1 Track in
    grind (arith, nat_tests)

pub decides_pass : (s : Pass) (p : Place) → Decides (pass_set s p) (Holds (pass_box s) p)
unfolding Between
decides_pass s p =
    let law = box_law (along s.from s.course s.track) (along s.to s.course s.track) p in
    (λ t. law.1 (held_between s p t), λ h. between_held s p (law.0 h))

-- one more pass beside the others: what is said of each is said of both
says_more : (a b : PlaceSet) (c : Cell) (h m H M : Bool) → Says (boxed h m) a c → Says (boxed H M) b c → Says (boxed (h || H) (m || M)) (λ p. a p || b p) c
says_more a b c true m H M here rest = λ p i. or_left (a p) (b p) (here p i)
says_more a b c false m true M here rest = λ p i. or_right (a p) (b p) (rest p i)
says_more a b c false true false M here rest = here
says_more a b c false false false true here rest = rest
says_more a b c false false false false here rest = λ p i. or_from (a p) (b p) (here p i) (rest p i)

passes_say : (xs : List Pass) (c : Cell) → Says (passes_relation xs c) (passes_set xs) c
passes_say [] c = λ p i. refl
passes_say (s ∷ rest) c =
    says_more (pass_set s) (passes_set rest) c (box_holds (pass_box s) c) (box_meets (pass_box s) c) (some (λ s. box_holds (pass_box s) c) rest) (some (λ s. box_meets (pass_box s) c) rest)
    (exact_says (pass_set s) c (box_relation (pass_box s) c) (box_exact (pass_set s) c (pass_box s) (decides_pass s)))
    (passes_say rest c)

-- the hull of a possible cell and the passes holds what either holds
hull_holds : (xs : List Pass) (b : Option Cell) (p : Place) → Holds b p ⊎ (passes_set xs p ≡ true) → Holds (hull_with b xs) p
hull_holds [] b p (inl h) = h
hull_holds [] b p (inr t) = absurd (false≢true t)
hull_holds (s ∷ rest) b p (inl h) = hull_holds rest (hull_of b (pass_box s)) p (inl ((hull_law b (pass_box s)).first p h))
hull_holds (s ∷ rest) b p (inr t) =
    hull_holds rest (hull_of b (pass_box s)) p
    (⊎_elim (λ here. inl ((hull_law b (pass_box s)).second p ((decides_pass s p).0 here))) (λ there. inr there) (or_cases (pass_set s p) (passes_set rest p) t))

-- and lies in whatever holds both
hull_lies : (xs : List Pass) (b c : Option Cell) → Part b c → ((p : Place) → passes_set xs p ≡ true → Holds c p) → Part (hull_with b xs) c
hull_lies [] b c part held = part
hull_lies (s ∷ rest) b c part held =
    hull_lies rest (hull_of b (pass_box s)) c
    ((hull_law b (pass_box s)).least c part (λ p h. held p (or_left (pass_set s p) (passes_set rest p) ((decides_pass s p).1 h))))
    (λ p t. held p (or_right (pass_set s p) (passes_set rest p) t))

pub passes_hull : (xs : List Pass) → HullOfPasses xs (passes_bound xs)
passes_hull xs = record { all = λ p t. hull_holds xs None p (inr t); least = λ c held. hull_lies xs None c (λ p h. absurd h) held }

pub passes_facts : (xs : List Pass) → Facts (one_leaf (passes_set xs) (passes_bound xs) (passes_relation xs))
passes_facts xs = one_leaf_facts (passes_set xs) (passes_bound xs) (passes_relation xs) (passes_hull xs).all (passes_say xs)

-- the same of any answer that is the bound
pub hull_told : (xs : List Pass) (r : Option Cell) → r ≡ passes_bound xs → HullOfPasses xs r
hull_told xs r is = subst (HullOfPasses xs) (sym is) (passes_hull xs)
