-- What contracts see of pieces.
use Rattle.std.specs.Prelude.{List, map, string_bytes}
use Rattle.fhir_json.specs.Tree.{Text}
use Rattle.fhir_marked_json.specs.Lines.{PieceValue, text_of}
use Rattle.fhir_marked_json.specs.declared.pieces.Piece.{Piece}

abbrev pub piece_seen : Piece → PieceValue
piece_seen p = record { text = string_bytes p.text; is_marked = p.is_marked }

-- the text of pieces
abbrev pub told : List Piece → Text
told ps = text_of (map piece_seen ps)
