-- Pages: a tree, and how it is written (HTML).
use Rattle.std.specs.Prelude.{if◌then◌else◌, ◌==◌, ◌++◌, ◌∷◌, ◌/◌, ◌%◌, ◌&&◌, ◌||◌, [], ℕ, List, Bool, true, false, not, nat_le, flat_map, codes, encode_utf8}
use Rattle.std.specs.Char.{is_control, digit_char}
use Rattle.std.specs.Fmt.{decimal}
use Rattle.std.specs.Str.{chars}
use Rattle.fhir_json.specs.Tree.{Text}
use Rattle.fhir_markup.specs.declared.names.Tag.{Tag}
use Rattle.fhir_markup.specs.declared.names.Tag.TheVariants as tags
use Rattle.fhir_markup.specs.declared.names.AttributeName.{AttributeName}
use Rattle.fhir_markup.specs.declared.names.AttributeName.TheVariants as names
use Rattle.fhir_markup.specs.declared.names.Part.{Part}
use Rattle.fhir_markup.specs.declared.names.Part.TheVariants as parts

-- ---- a page

-- an attribute: one with a text, one with a number, a part's place by its number, and an address or a name by such a place
pub data AttributeValue : Type 0 where
  fixed : AttributeName → Text → AttributeValue
  counted : AttributeName → ℕ → AttributeValue
  place : Part → ℕ → AttributeValue
  link : Part → ℕ → AttributeValue
  labelled_by : Part → ℕ → AttributeValue

mutual
  pub data Node : Type 0 where
    words : Text → Node
    element : Tag → List AttributeValue → Nodes → Node

  pub data Nodes : Type 0 where
    none : Nodes
    also : Node → Nodes → Nodes

abbrev pub nodes_of : List Node → Nodes
nodes_of [] = none
nodes_of (n ∷ ns) = also n (nodes_of ns)

-- ---- how a page grows

-- a piece behind others
abbrev pub and_last : Nodes → Node → Nodes
and_last none n = also n none
and_last (also m ns) n = also m (and_last ns n)

-- an element with one more attribute, and with one more piece in it
abbrev pub with_attribute : Node → AttributeValue → Node
with_attribute (words text) a = words text
with_attribute (element tag xs ns) a = element tag (xs ++ a ∷ []) ns

abbrev pub with_child : Node → Node → Node
with_child (words text) n = words text
with_child (element tag xs ns) n = element tag xs (and_last ns n)

-- ---- texts

-- a character by its code
abbrev pub coded : ℕ → Text
coded c = codes "\\u" ++ digit_char (c / 4096 % 16) ∷ digit_char (c / 256 % 16) ∷ digit_char (c / 16 % 16) ∷ digit_char (c % 16) ∷ []

-- whether a character turns the direction in which those behind it are written (Unicode, UAX 9)
abbrev pub is_turning : ℕ → Bool
is_turning c = (nat_le 8234 c && nat_le c 8238) || (nat_le 8294 c && nat_le c 8297)

-- whether a character is shown by its code, since it would hide what it is
abbrev pub is_coded : ℕ → Bool
is_coded c = (is_control c && not (c == 10)) || is_turning c

-- one that means nothing to a reader of pages
abbrev pub plain_character : ℕ → Text
plain_character c = if is_coded c then coded c else encode_utf8 c

-- a character by its reference, where it means something to a reader of pages
abbrev pub escaped_character : ℕ → Text
escaped_character c =
    if c == 38 then codes "&amp;" else
    if c == 60 then codes "&lt;" else
    if c == 62 then codes "&gt;" else
    if c == 34 then codes "&quot;" else
    if c == 39 then codes "&#39;" else plain_character c

abbrev pub escaped : Text → Text
escaped text = flat_map escaped_character (chars text)

-- what a reader of pages is to see of a text: all of it, and what would hide by its code
abbrev pub shown : Text → Text
shown text = flat_map plain_character (chars text)

-- ---- names
abbrev pub tag_text : Tag → Text
tag_text tags.Html = codes "html"
tag_text tags.Head = codes "head"
tag_text tags.Meta = codes "meta"
tag_text tags.Title = codes "title"
tag_text tags.Style = codes "style"
tag_text tags.Body = codes "body"
tag_text tags.Main = codes "main"
tag_text tags.Header = codes "header"
tag_text tags.Section = codes "section"
tag_text tags.H1 = codes "h1"
tag_text tags.H2 = codes "h2"
tag_text tags.H3 = codes "h3"
tag_text tags.H4 = codes "h4"
tag_text tags.P = codes "p"
tag_text tags.Dl = codes "dl"
tag_text tags.Dt = codes "dt"
tag_text tags.Dd = codes "dd"
tag_text tags.Ul = codes "ul"
tag_text tags.Li = codes "li"
tag_text tags.Div = codes "div"
tag_text tags.Span = codes "span"
tag_text tags.A = codes "a"
tag_text tags.Code = codes "code"
tag_text tags.Strong = codes "strong"
tag_text tags.Pre = codes "pre"
tag_text tags.Mark = codes "mark"
tag_text tags.Table = codes "table"
tag_text tags.Thead = codes "thead"
tag_text tags.Tbody = codes "tbody"
tag_text tags.Tr = codes "tr"
tag_text tags.Th = codes "th"
tag_text tags.Td = codes "td"
tag_text tags.Svg = codes "svg"
tag_text tags.G = codes "g"
tag_text tags.Path = codes "path"
tag_text tags.Rect = codes "rect"
tag_text tags.Text = codes "text"
tag_text tags.Tspan = codes "tspan"

abbrev pub name_text : AttributeName → Text
name_text names.Charset = codes "charset"
name_text names.HttpEquiv = codes "http-equiv"
name_text names.Content = codes "content"
name_text names.Name = codes "name"
name_text names.Lang = codes "lang"
name_text names.Class = codes "class"
name_text names.Scope = codes "scope"
name_text names.Colspan = codes "colspan"
name_text names.Tabindex = codes "tabindex"
name_text names.Role = codes "role"
name_text names.Width = codes "width"
name_text names.Height = codes "height"
name_text names.X = codes "x"
name_text names.Y = codes "y"
name_text names.D = codes "d"
name_text names.Dx = codes "dx"

abbrev pub part_text : Part → Text
part_text parts.Heading = codes "h"
part_text parts.Profile = codes "p"
part_text parts.Differences = codes "d"

abbrev pub is_void : Tag → Bool
is_void tags.Meta = true
is_void _ = false

-- ---- how it is written

abbrev pub place_text : Part → ℕ → Text
place_text part n = part_text part ++ decimal n

-- `NAME="VALUE"`, behind a blank
abbrev pub valued : Text → Text → Text
valued name value = codes " " ++ name ++ codes "=\"" ++ value ++ codes "\""

abbrev pub attribute_text : AttributeValue → Text
attribute_text (fixed name text) = valued (name_text name) (escaped text)
attribute_text (counted name n) = valued (name_text name) (decimal n)
attribute_text (place part n) = valued (codes "id") (place_text part n)
attribute_text (link part n) = valued (codes "href") (codes "#" ++ place_text part n)
attribute_text (labelled_by part n) = valued (codes "aria-labelledby") (place_text part n)

abbrev pub start_tag : Tag → List AttributeValue → Text
start_tag tag attributes = codes "<" ++ tag_text tag ++ flat_map attribute_text attributes ++ codes ">"

abbrev pub end_tag : Tag → Text
end_tag tag = if is_void tag then [] else codes "</" ++ tag_text tag ++ codes ">"

abbrev mutual
  pub html : Node → Text
  html (words text) = escaped text
  html (element tag attributes children) = start_tag tag attributes ++ html_each children ++ end_tag tag

  pub html_each : Nodes → Text
  html_each none = []
  html_each (also n ns) = html n ++ html_each ns

abbrev pub document : Node → Text
document n = codes "<!DOCTYPE html>\n" ++ html n

-- ---- the marks of a page

-- whether a character begins or ends a tag, or a value in it
abbrev pub is_mark : ℕ → Bool
is_mark c = c == 60 || c == 62 || c == 34

abbrev pub start_marks : List AttributeValue → Text
start_marks attributes = codes "<" ++ flat_map (λ a. codes "\"\"") attributes ++ codes ">"

abbrev pub end_marks : Tag → Text
end_marks tag = if is_void tag then [] else codes "<>"

-- those of its tags, whatever its texts are
abbrev mutual
  pub marks : Node → Text
  marks (words text) = []
  marks (element tag attributes children) = start_marks attributes ++ marks_each children ++ end_marks tag

  pub marks_each : Nodes → Text
  marks_each none = []
  marks_each (also n ns) = marks n ++ marks_each ns
