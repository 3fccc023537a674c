-- The word for a relation, as it is printed.
use Rattle.std.specs.Prelude.{ℕ, List, codes}
use Rattle.pattern.specs.declared.relation.Relation.{Relation}
use Rattle.pattern.specs.declared.relation.Relation.TheVariants.{Inside, Outside, Mixed}

-- Each relation is printed as its name in small letters.
abbrev pub word_of : Relation → List ℕ
word_of Inside = codes "inside"
word_of Outside = codes "outside"
word_of Mixed = codes "mixed"
