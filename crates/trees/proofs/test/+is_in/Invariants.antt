use Rattle.std.proofs.Common.{◌+◌, ◌*◌}
use Rattle.trees.proofs.test.+is_in.Given as goal

abbrev pub decreases-PlaceTest::is_in : goal.decreases-PlaceTest::is_in
decreases-PlaceTest::is_in g l = 2 * l.number

abbrev pub decreases-in_right : goal.decreases-in_right
decreases-in_right g l = 2 * l.right + 1
