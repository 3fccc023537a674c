use Rattle.passes.proofs.SearchLaws.{SoFar}
use Rattle.passes.proofs.relation.Given as goal

abbrev pub invariant-loop-pass : goal.invariant-loop-pass
invariant-loop-pass l = SoFar l.cell l.passes l.pass-index l.seen
