-- How the panel and the carriage program are written down.
use Rattle.std.specs.Prelude.{ℕ, ◌-◌, cond, ◌&&◌, List, [], ◌∷◌, ◌==◌, nat_le, slice_index}
use Rattle.passes.specs.declared.pass.Pass.{Pass}

-- The yarn that a mark of the picture names: the digits 0 to 7 (codes 48 to 55) are yarns, and any other mark is no
-- stitch.
abbrev pub yarn_of : ℕ → ℕ
yarn_of mark = cond (nat_le 48 mark && nat_le mark 55) (mark - 48) 9

-- A mark is one stitch of the chart; a line feed (code 10) is none.
abbrev pub stitch_of : ℕ → List ℕ
stitch_of mark = cond (mark == 10) [] (yarn_of mark ∷ [])

-- Four numbers are a pass: course, track, first and last needle.
abbrev pub pass_of : List ℕ → Pass
pass_of run = record { course = slice_index run 0; track = slice_index run 1; from = slice_index run 2; to = slice_index run 3 }
