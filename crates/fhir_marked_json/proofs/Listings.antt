-- What pieces come to.
use Rattle.std.proofs.Common.{◌≡◌, ◌++◌, ◌∷◌, ◌∙◌, List, [], map, append-nil, append_assoc, ap, sym, string_bytes}
use Rattle.fhir_json.specs.Tree.{Text}
use Rattle.fhir_markup.specs.Markup.{Node, element, none}
use Rattle.fhir_markup.specs.declared.names.Tag.TheVariants.{Pre}
use Rattle.fhir_marked_json.specs.Lines.{with_pieces, IsListing}
use Rattle.fhir_marked_json.specs.Views.{piece_seen, told}
use Rattle.fhir_marked_json.specs.declared.pieces.Piece.{Piece}

pub one_more : (ps : List Piece) (p : Piece) → told (ps ++ p ∷ []) ≡ told ps ++ string_bytes p.text
one_more [] p = append-nil (string_bytes p.text)
one_more (q ∷ ps) p =
    ap (λ (t : Text). string_bytes q.text ++ t) (one_more ps p) ∙ sym (append_assoc (string_bytes q.text) (told ps) (string_bytes p.text))

pub is_listing : (ps : List Piece) (text : Text) (n : Node) → told ps ≡ text → n ≡ with_pieces (element Pre [] none) (map piece_seen ps)
    → IsListing text n
is_listing ps text n told_is is = record { pieces = map piece_seen ps; is = is; text_is = told_is }
