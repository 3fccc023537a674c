-- The relation of a block is exact. Assumes nothing.
use Rattle.std.proofs.lemmas.Bool.Decides.{Decides-and, Decides-like}
use Rattle.std.proofs.Common.{◌≡◌, Option, Decides, sym, ap, ◌∙◌, subst}
use Rattle.grid.specs.declared.cell.Cell.{Cell}
use Rattle.grid.specs.declared.place.Place.{Place}
use Rattle.grid.specs.Axes.{below}
use Rattle.grid.specs.Places.{at}
use Rattle.grid.specs.Laws.{Holds}
use Rattle.grid.specs.Refusals.{numbers}
use Rattle.grid.proofs.PlaceLaws.{decides_below}
use Rattle.grid.proofs.Meanings.{box_law}
use Rattle.pattern.specs.declared.relation.Relation.{Relation}
use Rattle.pattern.specs.Relations.{Exact, box_relation}
use Rattle.pattern.proofs.BoxLaws.{box_exact}
use Rattle.shapes.specs.declared.block.Block.{Block}
use Rattle.shapes.specs.Blocks.{block_set, bound_between, block_bound}

pub decides_block : (b : Block) (p : Place) → Decides (block_set b p) (Holds (block_bound b) p)
unfolding bound_between
decides_block b p =
    let low = numbers b.low in
    let high = numbers b.high in
    let law = box_law low high p in
    Decides-like (block_set b p) law.1 law.0 (Decides-and (below low (at p)) (below (at p) high) (decides_below low (at p)) (decides_below (at p) high))

pub block_exact : (b : Block) (c : Cell) → Exact (box_relation (block_bound b) c) (block_set b) c
block_exact b c = box_exact (block_set b) c (block_bound b) (decides_block b)

pub block_told : (b : Block) (o : Option Cell) (c : Cell) (r : Relation) → o ≡ block_bound b → r ≡ box_relation o c → Exact r (block_set b) c
block_told b o c r bound e = subst (λ r. Exact r (block_set b) c) (sym (e ∙ ap (λ o. box_relation o c) bound)) (block_exact b c)
