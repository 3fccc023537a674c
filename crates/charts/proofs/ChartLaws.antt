-- A chart owes what every bank owes. Assumes nothing.
use Rattle.std.proofs.Common.{◌≡◌, ℕ, true, false, cond, not, leb, List, length, Some, None, Option, ⊎_elim, arith}
use Rattle.std.proofs.lemmas.Bool.{cases_Bool, cond_both, leb-false, not-true}
use Rattle.std.proofs.lemmas.Bool.Decides.{not_from_Decides}
use Rattle.grid.specs.declared.cell.Cell.{Cell}
use Rattle.grid.specs.declared.place.Place.{Place}
use Rattle.grid.specs.Cells.{meet, single, places_of}
use Rattle.grid.specs.Laws.{Holds}
use Rattle.grid.proofs.HalfLaws.{lone}
use Rattle.grid.proofs.Meanings.{decides_meet}
use Rattle.pattern.specs.declared.relation.Relation.TheVariants.{Outside, Mixed}
use Rattle.pattern.specs.Sets.{PlaceSet}
use Rattle.pattern.specs.Relations.{NoneIn, Says, box_meets, exactly}
use Rattle.pattern.specs.Banks.{Facts, one_leaf}
use Rattle.pattern.proofs.BankLaws.{one_leaf_facts}
use Rattle.pattern.proofs.ExactLaws.{exactly_says}
use Rattle.charts.specs.declared.frame.Frame.{Frame}
use Rattle.charts.specs.Charts.{stitch_set}
use Rattle.charts.specs.Relations.{chart_bound, chart_relation}
use Rattle.charts.proofs.BoundLaws.{stitch_bound}

-- a cell that misses the bound of a set has no place of the set
missed : (s : PlaceSet) (bound : Option Cell) (c : Cell) → ((p : Place) → s p ≡ true → Holds bound p) → not (box_meets bound c) ≡ true → NoneIn s c
missed s (Some b) c bounds apart p i =
    ⊎_elim (λ t. absurd (not_from_Decides (meet c b) (decides_meet c b) (not-true (meet c b) apart) (p, (i, bounds p t)))) (λ f. f) (cases_Bool (s p))
missed s None c bounds apart p i = ⊎_elim (λ t. absurd (bounds p t)) (λ f. f) (cases_Bool (s p))

-- a cell of more than 1,024 places has several
large_several : (c : Cell) → leb (places_of c) 1024 ≡ false → single c ≡ false
large_several c large = ⊎_elim (λ one. absurd (omega (arith, leb-false (places_of c) 1024 large, (lone c one).places))) (λ several. several) (cases_Bool (single c))

relation_says : (f : Frame) (bytes : List ℕ) (c : Cell) → Says (chart_relation f bytes c) (stitch_set f bytes) c
relation_says f bytes c =
    let s = stitch_set f bytes in
    let judged = cond (leb (places_of c) 1024) (exactly s c) Mixed in
    cond_both (not (box_meets (chart_bound f (length bytes)) c)) Outside judged (λ r. Says r s c) (missed s (chart_bound f (length bytes)) c (stitch_bound f bytes))
    (λ _. cond_both (leb (places_of c) 1024) (exactly s c) Mixed (λ r. Says r s c) (λ _. exactly_says s c) (large_several c))

pub chart_facts : (f : Frame) (bytes : List ℕ) → Facts (one_leaf (stitch_set f bytes) (chart_bound f (length bytes)) (chart_relation f bytes))
chart_facts f bytes = one_leaf_facts (stitch_set f bytes) (chart_bound f (length bytes)) (chart_relation f bytes) (stitch_bound f bytes) (relation_says f bytes)
