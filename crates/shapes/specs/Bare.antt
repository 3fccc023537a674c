-- Bare places by their numbers.
use Rattle.std.specs.Prelude.{ℕ}
use Rattle.grid.specs.declared.axis.Axis.{Axis}
use Rattle.grid.specs.declared.axis.Axis.TheVariants.{Needle, Course, Track}
use Rattle.grid.specs.declared.bare.BarePlace.{BarePlace}

-- The bare place with the numbers f.
abbrev pub bare_at : (Axis → ℕ) → BarePlace
bare_at f = record { needle = f Needle; course = f Course; track = f Track }
