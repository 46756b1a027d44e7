-- The marks of a page.
use Rattle.std.proofs.Common.{◌≡◌, ◌<◌, ℕ, zero, suc, List, [], ◌∷◌, ◌++◌, ◌/◌, ◌%◌, ◌==◌, filter, flat_map, Bool, true, false, cond, codes, refl, ap₂, ◌∙◌, arith}
use Rattle.std.proofs.lemmas.Bool.Decides.{nat_tests}
use Rattle.std.proofs.lemmas.List.Elements.{filter-append}
use Rattle.std.specs.Char.{digit_char}
use Rattle.std.specs.Fmt.{decimal, digits, digits_onto, digit_glyph}
use Rattle.std.specs.Str.{chars}
use Rattle.fhir_json.specs.Tree.{Text}
use Rattle.fhir_markup.specs.declared.names.Tag.{Tag}
use Rattle.fhir_markup.specs.declared.names.Tag.TheVariants as tags
use Rattle.fhir_markup.specs.declared.names.AttributeName.{AttributeName}
use Rattle.fhir_markup.specs.declared.names.AttributeName.TheVariants as names
use Rattle.fhir_markup.specs.declared.names.Part.{Part}
use Rattle.fhir_markup.specs.declared.names.Part.TheVariants as parts
use Rattle.fhir_markup.proofs.Without.{Without, IsLow, both, either, skip, plain_without}
use Rattle.fhir_markup.specs.Markup.{AttributeValue, fixed, counted, place, link, labelled_by, Node, Nodes, words, element, none, also, escaped_character, escaped, tag_text, name_text, part_text, is_void, place_text, valued, attribute_text, start_tag, end_tag, html, html_each, is_mark, start_marks, end_marks, marks, marks_each}

-- ---- texts have none

abbrev Unmarked : Text → Type 0
Unmarked text = Without is_mark text

digit_unmarked : (d : ℕ) → is_mark (digit_char d) ≡ false
digit_unmarked d = grind (arith, nat_tests)

above : (x : ℕ) → 62 < x → is_mark x ≡ false
above x more = grind (arith, nat_tests)

low : IsLow is_mark
low = record { above = above; digit = digit_unmarked }

none_of : (c : ℕ) → (c == 60) ≡ false → (c == 62) ≡ false → (c == 34) ≡ false → is_mark c ≡ false
none_of c less greater quote = grind (arith, nat_tests)

character_unmarked : (c : ℕ) → Unmarked (escaped_character c)
character_unmarked c =
    either is_mark (c == 38) _ _ (λ is. refl)
    (λ ampersand. either is_mark (c == 60) _ _ (λ is. refl)
    (λ less. either is_mark (c == 62) _ _ (λ is. refl)
    (λ greater. either is_mark (c == 34) _ _ (λ is. refl)
    (λ quote. either is_mark (c == 39) _ _ (λ is. refl) (λ apostrophe. plain_without is_mark low c (none_of c less greater quote))))))

each_unmarked : (cs : List ℕ) → Unmarked (flat_map escaped_character cs)
each_unmarked [] = refl
each_unmarked (c ∷ cs) = both is_mark (escaped_character c) (flat_map escaped_character cs) (character_unmarked c) (each_unmarked cs)

escaped_unmarked : (text : Text) → Unmarked (escaped text)
escaped_unmarked text = each_unmarked (chars text)

-- ---- nor have names and numbers

tag_unmarked : (tag : Tag) → Unmarked (tag_text tag)
tag_unmarked tags.Html = refl
tag_unmarked tags.Head = refl
tag_unmarked tags.Meta = refl
tag_unmarked tags.Title = refl
tag_unmarked tags.Style = refl
tag_unmarked tags.Body = refl
tag_unmarked tags.Main = refl
tag_unmarked tags.Header = refl
tag_unmarked tags.Section = refl
tag_unmarked tags.H1 = refl
tag_unmarked tags.H2 = refl
tag_unmarked tags.H3 = refl
tag_unmarked tags.H4 = refl
tag_unmarked tags.P = refl
tag_unmarked tags.Dl = refl
tag_unmarked tags.Dt = refl
tag_unmarked tags.Dd = refl
tag_unmarked tags.Ul = refl
tag_unmarked tags.Li = refl
tag_unmarked tags.Div = refl
tag_unmarked tags.Span = refl
tag_unmarked tags.A = refl
tag_unmarked tags.Code = refl
tag_unmarked tags.Strong = refl
tag_unmarked tags.Pre = refl
tag_unmarked tags.Mark = refl
tag_unmarked tags.Table = refl
tag_unmarked tags.Thead = refl
tag_unmarked tags.Tbody = refl
tag_unmarked tags.Tr = refl
tag_unmarked tags.Th = refl
tag_unmarked tags.Td = refl
tag_unmarked tags.Svg = refl
tag_unmarked tags.G = refl
tag_unmarked tags.Path = refl
tag_unmarked tags.Rect = refl
tag_unmarked tags.Text = refl
tag_unmarked tags.Tspan = refl

name_unmarked : (name : AttributeName) → Unmarked (name_text name)
name_unmarked names.Charset = refl
name_unmarked names.HttpEquiv = refl
name_unmarked names.Content = refl
name_unmarked names.Name = refl
name_unmarked names.Lang = refl
name_unmarked names.Class = refl
name_unmarked names.Scope = refl
name_unmarked names.Colspan = refl
name_unmarked names.Tabindex = refl
name_unmarked names.Role = refl
name_unmarked names.Width = refl
name_unmarked names.Height = refl
name_unmarked names.X = refl
name_unmarked names.Y = refl
name_unmarked names.D = refl
name_unmarked names.Dx = refl

part_unmarked : (part : Part) → Unmarked (part_text part)
part_unmarked parts.Heading = refl
part_unmarked parts.Profile = refl
part_unmarked parts.Differences = refl

glyph_unmarked : (d : ℕ) → is_mark (digit_glyph false d) ≡ false
glyph_unmarked d = grind (arith, nat_tests)

digits_unmarked : (k n : ℕ) (behind : Text) → Unmarked behind → Unmarked (digits_onto k 10 false n behind)
digits_unmarked zero n behind of_behind = of_behind
digits_unmarked (suc k) n behind of_behind =
    let more = skip is_mark (digit_glyph false (n % 10)) behind (glyph_unmarked (n % 10)) of_behind in
    either is_mark (n / 10 == 0) (digit_glyph false (n % 10) ∷ behind) (digits_onto k 10 false (n / 10) (digit_glyph false (n % 10) ∷ behind)) (λ is. more)
    (λ is. digits_unmarked k (n / 10) (digit_glyph false (n % 10) ∷ behind) more)

decimal_unmarked : (n : ℕ) → Unmarked (decimal n)
unfolding digits
decimal_unmarked n = digits_unmarked 64 n [] refl

place_unmarked : (part : Part) (n : ℕ) → Unmarked (place_text part n)
place_unmarked part n = both is_mark (part_text part) (decimal n) (part_unmarked part) (decimal_unmarked n)

-- ---- an attribute has those of its value

marked : (xs ys : Text) {ms ns : Text} → filter is_mark xs ≡ ms → filter is_mark ys ≡ ns → filter is_mark (xs ++ ys) ≡ ms ++ ns
marked xs ys of_xs of_ys = filter-append is_mark xs ys ∙ ap₂ (λ (a b : List ℕ). a ++ b) of_xs of_ys

valued_marked : (name value : Text) → Unmarked name → Unmarked value → filter is_mark (valued name value) ≡ codes "\"\""
valued_marked name value of_name of_value =
    marked (codes " " ++ name ++ codes "=\"" ++ value) (codes "\"")
    (marked (codes " " ++ name ++ codes "=\"") value (marked (codes " " ++ name) (codes "=\"") (marked (codes " ") name refl of_name) refl) of_value) refl

attribute_marked : (a : AttributeValue) → filter is_mark (attribute_text a) ≡ codes "\"\""
attribute_marked (fixed name text) = valued_marked (name_text name) (escaped text) (name_unmarked name) (escaped_unmarked text)
attribute_marked (counted name n) = valued_marked (name_text name) (decimal n) (name_unmarked name) (decimal_unmarked n)
attribute_marked (place part n) = valued_marked (codes "id") (place_text part n) refl (place_unmarked part n)
attribute_marked (link part n) =
    valued_marked (codes "href") (codes "#" ++ place_text part n) refl (both is_mark (codes "#") (place_text part n) refl (place_unmarked part n))
attribute_marked (labelled_by part n) = valued_marked (codes "aria-labelledby") (place_text part n) refl (place_unmarked part n)

attributes_marked : (xs : List AttributeValue) → filter is_mark (flat_map attribute_text xs) ≡ flat_map (λ a. codes "\"\"") xs
attributes_marked [] = refl
attributes_marked (a ∷ xs) = marked (attribute_text a) (flat_map attribute_text xs) (attribute_marked a) (attributes_marked xs)

-- ---- a page has those of its tags

start_marked : (tag : Tag) (xs : List AttributeValue) → filter is_mark (start_tag tag xs) ≡ start_marks xs
start_marked tag xs =
    marked (codes "<" ++ tag_text tag ++ flat_map attribute_text xs) (codes ">")
    (marked (codes "<" ++ tag_text tag) (flat_map attribute_text xs) (marked (codes "<") (tag_text tag) refl (tag_unmarked tag)) (attributes_marked xs)) refl

closing_marked : (b : Bool) (name : Text) → Unmarked name
    → filter is_mark (cond b [] (codes "</" ++ name ++ codes ">")) ≡ cond b [] (codes "<>")
closing_marked true name of_name = refl
closing_marked false name of_name = marked (codes "</" ++ name) (codes ">") (marked (codes "</") name refl of_name) refl

end_marked : (tag : Tag) → filter is_mark (end_tag tag) ≡ end_marks tag
end_marked tag = closing_marked (is_void tag) (tag_text tag) (tag_unmarked tag)

mutual
  pub marks_alone : (n : Node) → filter is_mark (html n) ≡ marks n
  marks_alone (words text) = escaped_unmarked text
  marks_alone (element tag xs children) =
      marked (start_tag tag xs ++ html_each children) (end_tag tag)
      (marked (start_tag tag xs) (html_each children) (start_marked tag xs) (each_alone children)) (end_marked tag)

  each_alone : (ns : Nodes) → filter is_mark (html_each ns) ≡ marks_each ns
  each_alone none = refl
  each_alone (also n ns) = marked (html n) (html_each ns) (marks_alone n) (each_alone ns)
