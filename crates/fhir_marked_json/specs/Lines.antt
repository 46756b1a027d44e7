-- The lines of a resource, and an element of them in which some texts are marked.
use Rattle.std.specs.Prelude.{◌≡◌, List, [], ◌∷◌, ◌++◌, flat_map, Bool, true, false, Result, Ok, Err, codes}
use Rattle.std.specs.Str.Lossy.{utf8_lossy}
use Rattle.fhir_json.specs.Tree.{Text, Tree, null, boolean, number, string, array, object, Items, no_items, item, Members, no_members, member}
use Rattle.fhir_json.specs.Compact.{compact, comma_if, quoted_text}
use Rattle.fhir_json.specs.declared.fault.JsonFault.{JsonFault}
use Rattle.fhir_markup.specs.Markup.{Node, words, element, none, with_child}
use Rattle.fhir_markup.specs.declared.names.Tag.TheVariants.{Pre, Mark}
use Rattle.fhir_page_frame.specs.Frame.{saying}

-- ---- lines

-- the margin of what stands inside
abbrev pub deeper : Text → Text
deeper margin = margin ++ codes "  "

-- the end of a line, and the margin of the next
abbrev pub line : Text → Text
line margin = codes "\n" ++ margin

abbrev pub name_shown : Text → Text
name_shown name = compact (string name) ++ codes ": "

-- a value behind a margin: what is inside stands on lines of its own, further in
abbrev mutual
  pub lines : Text → Tree → Text
  lines margin null = compact null
  lines margin (boolean b) = compact (boolean b)
  lines margin (number n) = compact (number n)
  lines margin (string s) = compact (string s)
  lines margin (array ts) = codes "[" ++ (item_lines (deeper margin) false ts ++ (line margin ++ codes "]"))
  lines margin (object ms) = codes "{" ++ (member_lines (deeper margin) false ms ++ (line margin ++ codes "}"))

  -- what follows, after a first item or before it
  pub item_lines : Text → Bool → Items → Text
  item_lines margin begun no_items = []
  item_lines margin begun (item t ts) = comma_if begun ++ (line margin ++ (lines margin t ++ item_lines margin true ts))

  pub member_lines : Text → Bool → Members → Text
  member_lines margin begun no_members = []
  member_lines margin begun (member name t ms) =
      comma_if begun ++ (line margin ++ (name_shown name ++ (lines margin t ++ member_lines margin true ms)))

-- the lines of bytes, by what they are read as
abbrev pub lines_of : Text → Result Tree JsonFault → Text
lines_of bytes (Ok t) = lines [] t
lines_of bytes (Err fault) = utf8_lossy bytes

-- ---- an element of them

-- a piece of a text, which may be marked
pub record PieceValue : Type 0 where
  pub text : Text
  pub is_marked : Bool

abbrev pub node_if : (is_marked : Bool) → Text → Node
node_if true text = saying Mark [] text
node_if false text = words text

abbrev pub piece_node : PieceValue → Node
piece_node p = node_if p.is_marked p.text

-- an element with pieces put into it, one behind the other
abbrev pub with_pieces : Node → List PieceValue → Node
with_pieces n [] = n
with_pieces n (p ∷ ps) = with_pieces (with_child n (piece_node p)) ps

abbrev pub text_of : List PieceValue → Text
text_of ps = flat_map (λ p. p.text) ps

-- an element whose pieces, of which some may be marked, are together the text
pub record IsListing (text : Text) (n : Node) : Type 0 where
  pub pieces : List PieceValue
  pub is : n ≡ with_pieces (element Pre [] none) pieces
  pub text_is : text_of pieces ≡ text
