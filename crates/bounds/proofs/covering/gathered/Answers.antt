use Rattle.std.proofs.Common.{ℕ, Bool, false, [], ◌∷◌, ◌++◌, length, get_or, sym, ap, ◌∙◌, arith}
use Rattle.std.proofs.lemmas.List.{length_push}
use Rattle.bounds.specs.Trees.{numbers_of}
use Rattle.bounds.proofs.PassingLaws.{passing_none, passing_one, passing_same}
use Rattle.bounds.proofs.covering.gathered.Goals as goal
use Rattle.bounds.proofs.covering.gathered.Goals.{then-marked, else-marked}

pub loop-number-init : goal.loop-number-init
loop-number-init c = (c.new-leaves.ensures ∙ sym (passing_none _), omega (arith, ap length c.new-leaves.ensures))

pub loop-number-preserved : goal.loop-number-preserved
loop-number-preserved c =
    let test : ℕ → Bool = λ j. get_or c.args.marks.now j false in
    let n = c.loop-number.number in
    elim c.if-marked.branch [
      | then-marked w ↦ (
        ap numbers_of w.leaves-is
            ∙ w.push.ensures
            ∙ ap (λ xs. xs ++ (n ∷ [])) c.loop-number.invariant.0
            ∙ sym (passing_one test n w.if-marked.true),
        omega (arith, ap (λ l. length (numbers_of l)) w.leaves-is, ap length w.push.ensures, length_push (numbers_of c.loop-number.leaves) n, c.loop-number.invariant.1),
      )
      | else-marked w ↦ (
        ap numbers_of w.leaves-is ∙ c.loop-number.invariant.0 ∙ sym (passing_same test n w.if-marked.false),
        omega (arith, ap (λ l. length (numbers_of l)) w.leaves-is, c.loop-number.invariant.1),
      )
    ]
