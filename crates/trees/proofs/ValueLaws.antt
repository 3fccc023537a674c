-- The values of a table's nodes, read one by one. Assumes nothing.
use Rattle.std.proofs.Common.{◌≡◌, ℕ, zero, suc, ◌+◌, ◌<◌, List, [], ◌∷◌, ◌++◌, length, get_or, take, sym, refl, ap, ◌∙◌, arith, get_or-take}
use lib.Seq.{get_or-append_seam, take-append_seam}
use Rattle.std.proofs.lemmas.List.{get_or_append_left, length_push, append-nil, append_assoc}
use Rattle.trees.specs.declared.node.Operation.{Operation}
use Rattle.trees.specs.declared.node.Node.TheVariants.{Leaf, Inner}
use Rattle.trees.specs.Values.{worked, Rule, value_of, values, value_at}

-- What holds of a number if it holds of all below it holds of every number.
pub rising : (P : ℕ → Type 0) → ((i : ℕ) → ((j : ℕ) → j < i → P j) → P i) → (i : ℕ) → P i
rising P step i = step i (below i)
  where
    below : (n : ℕ) → (j : ℕ) → j < n → P j
    below zero j h = absurd (omega arith)
    below (suc n) j h = step j (λ k l. below n k (omega arith))

module _ {A V : Type 0} (step : ℕ → A → List V → V) where
  worked_length : (done : List V) (table : List A) → length (worked step done table) ≡ length done + length table
  worked_length done [] = omega arith
  worked_length done (a ∷ rest) = omega (arith, worked_length (done ++ (step (length done) a done ∷ [])) rest, length_push done (step (length done) a done))

  -- what was done stays
  worked_keeps : (done : List V) (table : List A) (j : ℕ) (d : V) → j < length done → get_or (worked step done table) j d ≡ get_or done j d
  worked_keeps done [] j d h = refl
  worked_keeps done (a ∷ rest) j d h =
      let v = step (length done) a done in
      worked_keeps (done ++ (v ∷ [])) rest j d (omega (arith, length_push done v)) ∙ get_or_append_left done (v ∷ []) d j h

  -- and more is added behind it
  worked_adds : (done : List V) (table : List A) → (more : List V) × (worked step done table ≡ done ++ more)
  worked_adds done [] = ([], sym (append-nil done))
  worked_adds done (a ∷ rest) =
      let v = step (length done) a done in
      let m = worked_adds (done ++ (v ∷ [])) rest in
      (v ∷ m.0, m.1 ∙ append_assoc done (v ∷ []) m.0)

  worked_take : (done : List V) (table : List A) → take (length done) (worked step done table) ≡ done
  worked_take done table = let m = worked_adds done table in ap (take (length done)) m.1 ∙ take-append_seam done m.0

  -- the value of a record is worked out from those before it
  worked_at : (done : List V) (table : List A) (i n : ℕ) (d : V) (e : A) → n ≡ length done + i → i < length table → get_or (worked step done table) n d ≡ step n (get_or table i e) (take n (worked step done table))
  worked_at done [] i n d e q h = absurd (omega arith)
  worked_at done (a ∷ rest) zero n d e q h =
      let v = step (length done) a done in
      let W = worked step (done ++ (v ∷ [])) rest in
      let here : n ≡ length done = omega arith in
      let front : take (length done) W ≡ done = worked_take done (a ∷ rest) in
      let last : get_or W (length done) d ≡ v = worked_keeps (done ++ (v ∷ [])) rest (length done) d (omega (arith, length_push done v)) ∙ get_or-append_seam done v [] d in
      rw here (last ∙ ap (step (length done) a) (sym front))
  worked_at done (a ∷ rest) (suc i) n d e q h =
      let v = step (length done) a done in
      worked_at (done ++ (v ∷ [])) rest i n d e (omega (arith, length_push done v)) (omega arith)

module _ {A V : Type 0} (w : Rule A V) where
  pub values_length : (table : List A) → length (values w table) ≡ length table
  unfolding values
  values_length table = omega (arith, worked_length (λ i a done. value_of w i a (w.node a) done) [] table)

  -- the value of a node, from those of the nodes before it
  value_before : (table : List A) (i : ℕ) (e : A) → i < length table → value_at w table i ≡ value_of w i (get_or table i e) (w.node (get_or table i e)) (take i (values w table))
  unfolding values
  value_before table i e h = worked_at (λ i a done. value_of w i a (w.node a) done) [] table i i w.none e (omega arith) h

  -- The value of a leaf node.
  pub value_leaf : (table : List A) (i k : ℕ) (e : A) → i < length table → w.node (get_or table i e) ≡ Leaf k → value_at w table i ≡ w.leaf i (get_or table i e) k
  value_leaf table i k e h is = value_before table i e h ∙ ap (λ n. value_of w i (get_or table i e) n (take i (values w table))) is

  -- The value of an inner node.
  pub value_inner : (table : List A) (i : ℕ) (o : Operation) (l r : ℕ) (e : A) → i < length table → w.node (get_or table i e) ≡ Inner o l r → l < i → r < i → value_at w table i ≡ w.inner (get_or table i e) o (value_at w table l) (value_at w table r)
  value_inner table i o l r e h is left right =
      value_before table i e h
      ∙ ap (λ n. value_of w i (get_or table i e) n (take i (values w table))) is
      ∙ ap (λ v. w.inner (get_or table i e) o v (get_or (take i (values w table)) r w.none)) (get_or-take i (values w table) l w.none left)
      ∙ ap (λ v. w.inner (get_or table i e) o (value_at w table l) v) (get_or-take i (values w table) r w.none right)
