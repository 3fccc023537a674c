-- What a pass list was made from.
use Rattle.std.specs.Prelude.{List}
use Rattle.passes.specs.declared.pass.Pass.{Pass}
use Rattle.lists.specs.declared.pass_list.PassList.{PassList}

-- The passes that a list was made from.
abbrev pub listed : PassList → List Pass
listed l = l.passes.now
