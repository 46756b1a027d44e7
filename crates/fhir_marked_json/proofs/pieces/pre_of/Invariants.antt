use Rattle.std.proofs.Common.{◌≡◌, [], drop, map}
use Rattle.fhir_markup.specs.Markup.{element, none}
use Rattle.fhir_markup.specs.Views.{element_node}
use Rattle.fhir_markup.specs.declared.names.Tag.TheVariants.{Pre}
use Rattle.fhir_marked_json.specs.Lines.{with_pieces}
use Rattle.fhir_marked_json.specs.Views.{piece_seen}
use Rattle.fhir_marked_json.proofs.pieces.pre_of.Given as goal

abbrev pub invariant-loop-piece : goal.invariant-loop-piece
invariant-loop-piece l =
    with_pieces (element_node l.pre) (map piece_seen (drop l.piece-index l.pieces))
    ≡ with_pieces (element Pre [] none) (map piece_seen l.pieces)
