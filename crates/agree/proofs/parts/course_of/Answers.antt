use Rattle.std.proofs.Common.{rules}
use Rattle.grid.specs.declared.bare.BarePlace.{BarePlace}
use Rattle.agree.proofs.Courses.{whole_course, ends_of}
use Rattle.agree.proofs.parts.course_of.Goals as goal

pub returns : goal.returns
returns c =
    let low : BarePlace = record { needle = 0; course = c.args.course; track = 0 } in
    let high : BarePlace = record { needle = 4095; course = c.args.course; track = 7 } in
    let cell = c.in_ok-ok.field-0 in
    let ends = ends_of low high c.workspace.result cell (search rules) c.workspace.ensures in
    let whole = whole_course cell c.args.course ends.0 ends.1 in
    let cut = c.cut.ensures.law.shared in
    λ p. (λ h. let i = (cut p).0 h in (i.0, (whole p).0 i.1), λ i. (cut p).1 (i.0, (whole p).1 i.1))
