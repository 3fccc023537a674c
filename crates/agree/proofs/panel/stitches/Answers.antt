use Rattle.std.proofs.Common.{rules}
use Rattle.agree.proofs.PanelLaws.{stitches_are}
use Rattle.agree.proofs.panel.stitches.Goals as goal

pub returns : goal.returns
returns c = rw (stitches_are c.args.picture.now) (search rules)
