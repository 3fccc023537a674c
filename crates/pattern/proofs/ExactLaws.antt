-- The exact relation of a set to a cell: there is one, and it is the one that is computed. Assumes nothing.
use Rattle.std.proofs.Common.{◌≡◌, ℕ, ◌+◌, ◌-◌, ◌<◌, Bool, true, false, cond, Some, None, Decides, Option, sym, refl, ap, ◌∙◌, ⊎_elim, arith}
use Rattle.std.proofs.lemmas.Bool.{both_ways, cases_Bool, cond_both, not-true, not_from_false}
use Rattle.std.proofs.lemmas.Bool.Decides.{Decides-below_and, Decides-like, not_from_Decides}
use Rattle.grid.specs.declared.axis.Axis.{Axis}
use Rattle.grid.specs.declared.axis.Axis.TheVariants.{Needle, Course, Track}
use Rattle.grid.specs.declared.cell.Cell.{Cell}
use Rattle.grid.specs.declared.place.Place.{Place}
use Rattle.grid.specs.Axes.{top, along, below}
use Rattle.grid.specs.Places.{at, place_if, place_from}
use Rattle.grid.specs.Cells.{lo, side, single}
use Rattle.grid.proofs.PlaceLaws.{along_is, place_from_is}
use Rattle.grid.proofs.Meanings.{low_in, decides_single}
use Rattle.pattern.specs.declared.relation.Relation.{Relation}
use Rattle.pattern.specs.declared.relation.Relation.TheVariants.{Inside, Outside, Mixed}
use Rattle.pattern.specs.Sets.{PlaceSet, nowhere, without}
use Rattle.pattern.specs.Relations.{AllIn, NoneIn, Says, Exact, every, if_there, all_in, exactly}

-- the test of all places of a cell

decides_every : (k n : ℕ) (test : ℕ → Bool) (P : ℕ → Type 0) → ((i : ℕ) → Decides (test i) (P i)) → Decides (every k n test) ((i : ℕ) → i < n → P (k + i))
decides_every k n test P each = Decides-below_and (λ i. test (k + i)) (λ i. P (k + i)) (λ n. every k n test) (λ i. each (k + i)) refl (λ _. refl) n

-- the numbers f, if they are those of a place, are those of one in the set
Tested : PlaceSet → (Axis → ℕ) → Type 0
Tested s f = (p : Place) → ((x : Axis) → at p x ≡ f x) → s p ≡ true

found_tested : (s : PlaceSet) (f : Axis → ℕ) (o : Option Place) → ((p : Place) → ((x : Axis) → at p x ≡ f x) → Some p ≡ o) → ((p : Place) → Some p ≡ o → (x : Axis) → at p x ≡ f x) → Decides (if_there o s) (Tested s f)
unfolding Tested
found_tested s f (Some q) only is = (
  λ t p same. ap s (let e = only p same in cc) ∙ t,
  λ h. h q (is q refl),
)
found_tested s f None only is = (λ t p same. absurd (let e = only p same in cc), λ h. refl)

place_if_at : (f : Axis → ℕ) (b : Bool) (e : below f top ≡ b) (p : Place) → Some p ≡ place_if f b e → (x : Axis) → at p x ≡ f x
place_if_at f true e p h x = ap (λ o. numbers o x) h ∙ along_is f x
  where
    numbers : Option Place → Axis → ℕ
    numbers (Some q) = at q
    numbers None = top
place_if_at f false e p h x = absurd (cc)

decides_tested : (s : PlaceSet) (f : Axis → ℕ) → Decides (if_there (place_from f) s) (Tested s f)
decides_tested s f = found_tested s f (place_from f) (place_from_is f) (place_if_at f (below f top) refl)

-- what the three loops of the test say
Gone : PlaceSet → Cell → Type 0
Gone s c = (i : ℕ) → i < side c Needle → (j : ℕ) → j < side c Course → (k : ℕ) → k < side c Track → Tested s (along (lo c Needle + i) (lo c Course + j) (lo c Track + k))

gone_all : (s : PlaceSet) (c : Cell) → Gone s c → AllIn s c
unfolding Gone Tested
gone_all s c gone p i =
    gone (at p Needle - lo c Needle) (omega (arith, i.0 Needle, i.1 Needle)) (at p Course - lo c Course) (omega (arith, i.0 Course, i.1 Course)) (at p Track - lo c Track) (omega (arith, i.0 Track, i.1 Track))
    p
    elim [ Needle ↦ omega (arith, i.0 Needle) | Course ↦ omega (arith, i.0 Course) | Track ↦ omega (arith, i.0 Track) ]

all_gone : (s : PlaceSet) (c : Cell) → AllIn s c → Gone s c
unfolding Gone Tested
all_gone s c all i hi' j hj k hk p same =
    all p (
      elim [ Needle ↦ omega (arith, same Needle) | Course ↦ omega (arith, same Course) | Track ↦ omega (arith, same Track) ],
      elim [ Needle ↦ omega (arith, same Needle) | Course ↦ omega (arith, same Course) | Track ↦ omega (arith, same Track) ],
    )

pub decides_all : (s : PlaceSet) (c : Cell) → Decides (all_in s c) (AllIn s c)
unfolding all_in Gone
decides_all s c =
    Decides-like (all_in s c) (gone_all s c) (all_gone s c)
    (decides_every (lo c Needle) (side c Needle) _ _
    (λ n. decides_every (lo c Course) (side c Course) _ _ (λ k. decides_every (lo c Track) (side c Track) _ _ (λ t. decides_tested s (along n k t)))))

decides_none : (s : PlaceSet) (c : Cell) → Decides (all_in (without s) c) (NoneIn s c)
decides_none s c =
    Decides-like (all_in (without s) c) (λ all p i. not-true (s p) (all p i)) (λ none p i. not_from_false (s p) (none p i)) (decides_all (without s) c)

-- no cell has all and none of its places in a set
pub not_both : (s : PlaceSet) (c : Cell) → AllIn s c → NoneIn s c → ⊥
not_both s c all none = both_ways (s c.low) (none c.low (low_in c)) (all c.low (low_in c))

pub inside_exact : (s : PlaceSet) (c : Cell) → AllIn s c → Exact Inside s c
inside_exact s c all = record { inside = (λ _. all, λ _. refl); outside = (λ e. absurd (cc), λ none. absurd (not_both s c all none)) }

pub outside_exact : (s : PlaceSet) (c : Cell) → NoneIn s c → Exact Outside s c
outside_exact s c none = record { inside = (λ e. absurd (cc), λ all. absurd (not_both s c all none)); outside = (λ _. none, λ _. refl) }

pub mixed_exact : (s : PlaceSet) (c : Cell) → (AllIn s c → ⊥) → (NoneIn s c → ⊥) → Exact Mixed s c
mixed_exact s c some_out some_in = record {
  inside = (λ e. absurd (cc), λ all. absurd (some_out all));
  outside = (λ e. absurd (cc), λ none. absurd (some_in none));
}

-- an exact relation by the two tests
tested_exact : (s : PlaceSet) (c : Cell) (a n : Bool) → Decides a (AllIn s c) → Decides n (NoneIn s c) → Exact (cond a Inside (cond n Outside Mixed)) s c
tested_exact s c true n da dn = inside_exact s c (da.0 refl)
tested_exact s c false true da dn = outside_exact s c (dn.0 refl)
tested_exact s c false false da dn = mixed_exact s c (not_from_Decides false da refl) (not_from_Decides false dn refl)

pub exactly_exact : (s : PlaceSet) (c : Cell) → Exact (exactly s c) s c
unfolding exactly
exactly_exact s c = tested_exact s c (all_in s c) (all_in (without s) c) (decides_all s c) (decides_none s c)

-- only one relation is exact
pub exact_same : (s : PlaceSet) (c : Cell) (q r : Relation) → Exact q s c → Exact r s c → q ≡ r
exact_same s c Inside r a b = sym (b.inside.1 (a.inside.0 refl))
exact_same s c Outside r a b = sym (b.outside.1 (a.outside.0 refl))
exact_same s c Mixed Inside a b = a.inside.1 (b.inside.0 refl)
exact_same s c Mixed Outside a b = a.outside.1 (b.outside.0 refl)
exact_same s c Mixed Mixed a b = refl

pub is_exactly : (s : PlaceSet) (c : Cell) (r : Relation) → Exact r s c → r ≡ exactly s c
is_exactly s c r e = exact_same s c r (exactly s c) e (exactly_exact s c)

-- in a cell of one place all or none is in the set
single_decided : (s : PlaceSet) (c : Cell) → single c ≡ true → (AllIn s c → ⊥) → (NoneIn s c → ⊥) → ⊥
single_decided s c one some_out some_in =
    let only = (decides_single c).0 one in
    ⊎_elim (λ t. some_out (λ p i. ap s (only p i) ∙ t)) (λ f. some_in (λ p i. ap s (only p i) ∙ f)) (cases_Bool (s c.low))

pub exact_says : (s : PlaceSet) (c : Cell) (r : Relation) → Exact r s c → Says r s c
exact_says s c Inside e = e.inside.0 refl
exact_says s c Outside e = e.outside.0 refl
exact_says s c Mixed e =
    ⊎_elim
    (λ one. absurd (single_decided s c one (λ all. let h = e.inside.1 all in cc) (λ none. let h = e.outside.1 none in cc)))
    (λ many. many) (cases_Bool (single c))

pub exactly_says : (s : PlaceSet) (c : Cell) → Says (exactly s c) s c
exactly_says s c = exact_says s c (exactly s c) (exactly_exact s c)

pub exactly_nowhere : (c : Cell) → exactly nowhere c ≡ Outside
exactly_nowhere c = (exactly_exact nowhere c).outside.1 (λ p i. refl)

-- one place is Inside if it is in the set, or else Outside
pub single_exact : (s : PlaceSet) (c : Cell) → single c ≡ true → Exact (cond (s c.low) Inside Outside) s c
single_exact s c one =
    let only = (decides_single c).0 one in
    cond_both (s c.low) Inside Outside (λ r. Exact r s c) (λ t. inside_exact s c (λ p i. ap s (only p i) ∙ t)) (λ f. outside_exact s c (λ p i. ap s (only p i) ∙ f))
