-- No character of a page hides what it is.
use Rattle.std.proofs.Common.{◌≡◌, ◌<◌, ◌==◌, ◌||◌, ℕ, zero, suc, List, [], ◌∷◌, ◌++◌, ◌/◌, ◌%◌, ◌&&◌, filter, flat_map, Bool, true, false, cond, IsUtf8, nat_lt, encode_utf8, codes, refl, sym, ap, ap₂, subst, ◌∙◌, append-nil, arith}
use Rattle.std.proofs.lemmas.Bool.Decides.{nat_tests}
use Rattle.std.proofs.lemmas.List.Elements.{filter-append}
use Rattle.std.proofs.lemmas.Str.{IsUtf8-append, IsUtf8-nil, chars-nil, chars-append, chars-encodes, scalars-chars, encode_ascii}
use Rattle.std.specs.Char.{digit_char}
use Rattle.std.specs.Fmt.{decimal, digits, digits_onto, digit_glyph}
use Rattle.std.specs.List.{list_all}
use Rattle.std.specs.Str.{chars}
use lib.Utf8.{scalar, scalars, encode, low_scalar}
use Rattle.fhir_json.specs.Tree.{Text}
use Rattle.fhir_markup.specs.declared.names.Tag.{Tag}
use Rattle.fhir_markup.specs.declared.names.Tag.TheVariants as tags
use Rattle.fhir_markup.specs.declared.names.AttributeName.{AttributeName}
use Rattle.fhir_markup.specs.declared.names.AttributeName.TheVariants as names
use Rattle.fhir_markup.specs.declared.names.Part.{Part}
use Rattle.fhir_markup.specs.declared.names.Part.TheVariants as parts
use Rattle.fhir_markup.specs.Markup.{AttributeValue, fixed, counted, place, link, labelled_by, Node, Nodes, words, element, none, also, is_coded, coded, escaped_character, escaped, tag_text, name_text, part_text, is_void, place_text, valued, attribute_text, start_tag, end_tag, html, html_each, document}
use Rattle.page_laws.specs.Texts.{IsText, AreTexts, HasTexts, HaveTexts}

-- a text of UTF-8 without such characters
record Clean (text : Text) : Type 0 where
  pub utf8 : IsUtf8 text
  pub none : filter is_coded (chars text) ≡ []

join : (xs ys : Text) → Clean xs → Clean ys → Clean (xs ++ ys)
join xs ys a b = record {
  utf8 = IsUtf8-append xs ys a.utf8 b.utf8;
  none =
      ap (filter is_coded) (chars-append xs ys a.utf8)
      ∙ filter-append is_coded (chars xs) (chars ys)
      ∙ ap₂ (λ (us vs : List ℕ). us ++ vs) a.none b.none;
}

nothing : Clean []
nothing = record { utf8 = IsUtf8-nil; none = ap (filter is_coded) chars-nil }

choose : (b : Bool) (xs ys : Text) → (b ≡ true → Clean xs) → (b ≡ false → Clean ys) → Clean (cond b xs ys)
choose true xs ys of_xs of_ys = of_xs refl
choose false xs ys of_xs of_ys = of_ys refl

-- ---- characters

both_left : (a b : Bool) → (a && b) ≡ true → a ≡ true
both_left true b is = refl
both_left false b is = cc

both_right : (a b : Bool) → (a && b) ≡ true → b ≡ true
both_right true b is = is
both_right false b is = cc

one : (c : ℕ) → scalar c ≡ true → is_coded c ≡ false → Clean (encode_utf8 c)
one c of_c is_none = record {
  utf8 = (c ∷ [], (ap (λ (b : Bool). b && true) of_c, append-nil (encode_utf8 c)));
  none =
      ap (λ (xs : List ℕ). filter is_coded (chars xs)) (sym (append-nil (encode_utf8 c)))
      ∙ ap (filter is_coded) (chars-encodes (c ∷ []) (ap (λ (b : Bool). b && true) of_c))
      ∙ ap (λ (b : Bool). cond b (c ∷ []) []) is_none;
}

-- a printed character of ASCII, or a line feed
abbrev is_shown : ℕ → Bool
is_shown c = (nat_lt 31 c && nat_lt c 127) || c == 10

shown_small : (c : ℕ) → is_shown c ≡ true → c < 128
shown_small c is = grind (arith, nat_tests)

shown_plain : (c : ℕ) → is_shown c ≡ true → is_coded c ≡ false
shown_plain c is = grind (arith, nat_tests)

one_shown : (c : ℕ) → is_shown c ≡ true → Clean (c ∷ [])
one_shown c is =
    subst Clean (encode_ascii c (shown_small c is)) (one c (low_scalar c (omega (arith, shown_small c is))) (shown_plain c is))

ascii : (text : Text) → list_all is_shown text ≡ true → Clean text
ascii [] is = nothing
ascii (c ∷ cs) is =
    join (c ∷ []) cs (one_shown c (both_left (is_shown c) (list_all is_shown cs) is)) (ascii cs (both_right (is_shown c) (list_all is_shown cs) is))

-- ---- texts

digit : (d : ℕ) → d < 16 → Clean (digit_char d ∷ [])
digit d small = one_shown (digit_char d) (grind (arith, nat_tests))

coded_clean : (c : ℕ) → Clean (coded c)
coded_clean c =
    let a = digit_char (c / 4096 % 16) in
    let b = digit_char (c / 256 % 16) in
    let d = digit_char (c / 16 % 16) in
    let e = digit_char (c % 16) in
    join (codes "\\u") (a ∷ b ∷ d ∷ e ∷ []) (ascii (codes "\\u") refl)
    (join (a ∷ []) (b ∷ d ∷ e ∷ []) (digit (c / 4096 % 16) (omega arith))
    (join (b ∷ []) (d ∷ e ∷ []) (digit (c / 256 % 16) (omega arith))
    (join (d ∷ []) (e ∷ []) (digit (c / 16 % 16) (omega arith)) (digit (c % 16) (omega arith)))))

character_clean : (c : ℕ) → scalar c ≡ true → Clean (escaped_character c)
character_clean c of_c =
    choose (c == 38) (codes "&amp;") _ (λ is. ascii (codes "&amp;") refl)
    (λ ampersand. choose (c == 60) (codes "&lt;") _ (λ is. ascii (codes "&lt;") refl)
    (λ less. choose (c == 62) (codes "&gt;") _ (λ is. ascii (codes "&gt;") refl)
    (λ greater. choose (c == 34) (codes "&quot;") _ (λ is. ascii (codes "&quot;") refl)
    (λ quote. choose (c == 39) (codes "&#39;") _ (λ is. ascii (codes "&#39;") refl)
    (λ apostrophe. choose (is_coded c) (coded c) (encode_utf8 c) (λ is. coded_clean c) (λ is. one c of_c is))))))

each_clean : (cs : List ℕ) → scalars cs ≡ true → Clean (flat_map escaped_character cs)
each_clean [] all = nothing
each_clean (c ∷ cs) all =
    join (escaped_character c) (flat_map escaped_character cs) (character_clean c (both_left (scalar c) (scalars cs) all))
    (each_clean cs (both_right (scalar c) (scalars cs) all))

escaped_clean : (text : Text) → IsUtf8 text → Clean (escaped text)
escaped_clean text is = each_clean (chars text) (scalars-chars text is)

-- ---- names and numbers

tag_shown : (tag : Tag) → list_all is_shown (tag_text tag) ≡ true
tag_shown tags.Html = refl
tag_shown tags.Head = refl
tag_shown tags.Meta = refl
tag_shown tags.Title = refl
tag_shown tags.Style = refl
tag_shown tags.Body = refl
tag_shown tags.Main = refl
tag_shown tags.Header = refl
tag_shown tags.Section = refl
tag_shown tags.H1 = refl
tag_shown tags.H2 = refl
tag_shown tags.H3 = refl
tag_shown tags.H4 = refl
tag_shown tags.P = refl
tag_shown tags.Dl = refl
tag_shown tags.Dt = refl
tag_shown tags.Dd = refl
tag_shown tags.Ul = refl
tag_shown tags.Li = refl
tag_shown tags.Div = refl
tag_shown tags.Span = refl
tag_shown tags.A = refl
tag_shown tags.Code = refl
tag_shown tags.Strong = refl
tag_shown tags.Pre = refl
tag_shown tags.Mark = refl
tag_shown tags.Table = refl
tag_shown tags.Thead = refl
tag_shown tags.Tbody = refl
tag_shown tags.Tr = refl
tag_shown tags.Th = refl
tag_shown tags.Td = refl
tag_shown tags.Svg = refl
tag_shown tags.G = refl
tag_shown tags.Path = refl
tag_shown tags.Rect = refl
tag_shown tags.Text = refl
tag_shown tags.Tspan = refl

name_shown : (name : AttributeName) → list_all is_shown (name_text name) ≡ true
name_shown names.Charset = refl
name_shown names.HttpEquiv = refl
name_shown names.Content = refl
name_shown names.Name = refl
name_shown names.Lang = refl
name_shown names.Class = refl
name_shown names.Scope = refl
name_shown names.Colspan = refl
name_shown names.Tabindex = refl
name_shown names.Role = refl
name_shown names.Width = refl
name_shown names.Height = refl
name_shown names.X = refl
name_shown names.Y = refl
name_shown names.D = refl
name_shown names.Dx = refl

part_shown : (part : Part) → list_all is_shown (part_text part) ≡ true
part_shown parts.Heading = refl
part_shown parts.Profile = refl
part_shown parts.Differences = refl

glyph : (d : ℕ) → d < 10 → Clean (digit_glyph false d ∷ [])
glyph d small = one_shown (digit_glyph false d) (grind (arith, nat_tests))

digits_clean : (k n : ℕ) (behind : Text) → Clean behind → Clean (digits_onto k 10 false n behind)
digits_clean zero n behind of_behind = of_behind
digits_clean (suc k) n behind of_behind =
    let more = join (digit_glyph false (n % 10) ∷ []) behind (glyph (n % 10) (omega arith)) of_behind in
    choose (n / 10 == 0) (digit_glyph false (n % 10) ∷ behind) (digits_onto k 10 false (n / 10) (digit_glyph false (n % 10) ∷ behind)) (λ is. more)
    (λ is. digits_clean k (n / 10) (digit_glyph false (n % 10) ∷ behind) more)

decimal_clean : (n : ℕ) → Clean (decimal n)
unfolding digits
decimal_clean n = digits_clean 64 n [] nothing

place_clean : (part : Part) (n : ℕ) → Clean (place_text part n)
place_clean part n = join (part_text part) (decimal n) (ascii (part_text part) (part_shown part)) (decimal_clean n)

-- ---- attributes

valued_clean : (name value : Text) → Clean name → Clean value → Clean (valued name value)
valued_clean name value of_name of_value =
    join (codes " " ++ name ++ codes "=\"" ++ value) (codes "\"")
    (join (codes " " ++ name ++ codes "=\"") value
    (join (codes " " ++ name) (codes "=\"") (join (codes " ") name (ascii (codes " ") refl) of_name) (ascii (codes "=\"") refl)) of_value)
    (ascii (codes "\"") refl)

name_clean : (name : AttributeName) → Clean (name_text name)
name_clean name = ascii (name_text name) (name_shown name)

attribute_clean : (a : AttributeValue) → IsText a → Clean (attribute_text a)
attribute_clean (fixed name text) is = valued_clean (name_text name) (escaped text) (name_clean name) (escaped_clean text is)
attribute_clean (counted name n) is = valued_clean (name_text name) (decimal n) (name_clean name) (decimal_clean n)
attribute_clean (place part n) is = valued_clean (codes "id") (place_text part n) (ascii (codes "id") refl) (place_clean part n)
attribute_clean (link part n) is =
    valued_clean (codes "href") (codes "#" ++ place_text part n) (ascii (codes "href") refl)
    (join (codes "#") (place_text part n) (ascii (codes "#") refl) (place_clean part n))
attribute_clean (labelled_by part n) is =
    valued_clean (codes "aria-labelledby") (place_text part n) (ascii (codes "aria-labelledby") refl) (place_clean part n)

attributes_clean : (xs : List AttributeValue) → AreTexts xs → Clean (flat_map attribute_text xs)
attributes_clean [] are = nothing
attributes_clean (a ∷ xs) are = join (attribute_text a) (flat_map attribute_text xs) (attribute_clean a are.0) (attributes_clean xs are.1)

-- ---- pages

tag_clean : (tag : Tag) → Clean (tag_text tag)
tag_clean tag = ascii (tag_text tag) (tag_shown tag)

start_clean : (tag : Tag) (xs : List AttributeValue) → AreTexts xs → Clean (start_tag tag xs)
start_clean tag xs are =
    join (codes "<" ++ tag_text tag ++ flat_map attribute_text xs) (codes ">")
    (join (codes "<" ++ tag_text tag) (flat_map attribute_text xs) (join (codes "<") (tag_text tag) (ascii (codes "<") refl) (tag_clean tag))
    (attributes_clean xs are)) (ascii (codes ">") refl)

end_clean : (tag : Tag) → Clean (end_tag tag)
end_clean tag =
    choose (is_void tag) [] (codes "</" ++ tag_text tag ++ codes ">") (λ is. nothing)
    (λ is. join (codes "</" ++ tag_text tag) (codes ">") (join (codes "</") (tag_text tag) (ascii (codes "</") refl) (tag_clean tag)) (ascii (codes ">") refl))

mutual
  html_clean : (n : Node) → HasTexts n → Clean (html n)
  html_clean (words text) is = escaped_clean text is
  html_clean (element tag xs ns) is =
      join (start_tag tag xs ++ html_each ns) (end_tag tag) (join (start_tag tag xs) (html_each ns) (start_clean tag xs is.0) (html_each_clean ns is.1))
      (end_clean tag)

  html_each_clean : (ns : Nodes) → HaveTexts ns → Clean (html_each ns)
  html_each_clean none is = nothing
  html_each_clean (also n ns) is = join (html n) (html_each ns) (html_clean n is.0) (html_each_clean ns is.1)

pub nothing_hides : (n : Node) → HasTexts n → IsUtf8 (document n) × (filter is_coded (chars (document n)) ≡ [])
nothing_hides n is =
    let clean = join (codes "<!DOCTYPE html>\n") (html n) (ascii (codes "<!DOCTYPE html>\n") refl) (html_clean n is) in (clean.utf8, clean.none)
