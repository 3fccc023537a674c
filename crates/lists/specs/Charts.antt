-- What a chart was made from.
use Rattle.std.specs.Prelude.{ℕ, List}
use Rattle.charts.specs.declared.frame.Frame.{Frame}
use Rattle.lists.specs.declared.chart.Chart.{Chart}

-- A frame by its left needle, its first course and its width.
abbrev pub frame : ℕ → ℕ → ℕ → Frame
frame l f w = record { left = l; first = f; width = w }

-- The frame and the bytes that a chart was made from.
abbrev pub frame_of : Chart → Frame
frame_of c = c.frame

abbrev pub bytes_of : Chart → List ℕ
bytes_of c = c.bytes.now
