use Rattle.std.proofs.Common.{refl, ap}
use Rattle.grid.specs.Refusals.{numbers, or_refuse}
use Rattle.grid.proofs.PlaceLaws.{place_from_is}
use Rattle.grid.proofs.place.Place.new.Goals as goal

pub returns : goal.returns
returns c = ap (λ o. or_refuse o 3) (place_from_is (numbers c.args.bare) _ (λ x. refl))
