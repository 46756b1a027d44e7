-- The text of a certificate: what is written in it, and how. Lines end with a line feed, and their fields are parted by one tab.
-- In format 1 an element is named by the url of its definition; in format 2 definitions have lines, which number them, and an
-- element is named by that number.
use Rattle.std.specs.Prelude.{◌≡◌, ℕ, ◌+◌, List, [], ◌∷◌, ◌++◌, map, Bool, true, not, ◌==◌, ◌&&◌, Option, None, Some, IsUtf8, IsTrue, codes}
use Rattle.std.specs.List.{list_all, flat_map}
use Rattle.std.specs.Option.{option_map, option_map_or}
use Rattle.fhir_json.specs.Bytes.{tab, line_feed}
use Rattle.fhir_json.specs.Sound.{is_among, differ}
use Rattle.fhir_json.specs.Tree.{Text}
use Rattle.fhir_certificate.specs.Numbers.{Numbering, number_text, url_text}
use Rattle.fhir_certificate.specs.Versions.{is_version}

-- an element by the url of its definition and its id
pub record Name : Type 0 where
  pub url : Text
  pub id : Text

pub data Line : Type 0 where
  item : (derived base : Name) → Line
  kids : (derived base : Name) → Line

-- a definition that has a line: its url, and how its version is written
pub record Stated : Type 0 where
  pub url : Text
  pub version : Text

pub record Written : Type 0 where
  -- the definitions in the order of their numbers, in format 2
  pub definitions : Option (List Stated)
  pub derived : Text
  pub base : Text
  pub lines : List Line

abbrev pub urls_of : List Stated → List Text
urls_of ds = map (λ d. d.url) ds

abbrev pub numbering : Option (List Stated) → Numbering
numbering ds = option_map urls_of ds

-- ---- how it is written

-- fields behind a word, each behind a tab, and a line feed
abbrev pub line_text : Text → List Text → Text
line_text word fields = word ++ flat_map (λ field. tab ∷ field) fields ++ line_feed ∷ []

abbrev pub pair_text : Numbering → Line → Text
pair_text ns (item derived base) = line_text (codes "item") (url_text ns derived.url ∷ derived.id ∷ url_text ns base.url ∷ base.id ∷ [])
pair_text ns (kids derived base) = line_text (codes "kids") (url_text ns derived.url ∷ derived.id ∷ url_text ns base.url ∷ base.id ∷ [])

-- the lines of definitions, of which the first has that number
abbrev pub definitions_text : ℕ → List Stated → Text
definitions_text n [] = []
definitions_text n (d ∷ ds) = line_text (codes "def") (number_text n ∷ d.url ∷ d.version ∷ []) ++ definitions_text (n + 1) ds

-- what stands in front of the two profiles
abbrev pub front_text : Option (List Stated) → Text
front_text None = line_text (codes "fhirprof-certificate 1") []
front_text (Some ds) = line_text (codes "fhirprof-certificate 2") [] ++ definitions_text 0 ds

abbrev pub text_of : Written → Text
text_of w =
    let ns = numbering w.definitions in
    front_text w.definitions
    ++ line_text (codes "derived") (url_text ns w.derived ∷ [])
    ++ line_text (codes "base") (url_text ns w.base ∷ [])
    ++ flat_map (pair_text ns) w.lines
    ++ line_text (codes "end") []

-- a field has no tab and no line feed, so that it ends where one stands
abbrev pub is_field : Text → Bool
is_field = list_all (λ b. not (b == tab) && not (b == line_feed))

-- the text can name the definition at the url: in format 2 it has a line
abbrev pub is_url : Numbering → Text → Bool
is_url None url = is_field url
is_url (Some urls) url = is_among url urls

abbrev pub is_name : Numbering → Name → Bool
is_name ns n = is_url ns n.url && is_field n.id

abbrev pub is_line : Numbering → Line → Bool
is_line ns (item derived base) = is_name ns derived && is_name ns base
is_line ns (kids derived base) = is_name ns derived && is_name ns base

abbrev pub is_stated : Stated → Bool
is_stated d = is_field d.url && is_field d.version && is_version d.version

-- each can be written, and no two have one url
abbrev pub are_stated : List Stated → Bool
are_stated ds = list_all is_stated ds && differ (urls_of ds)

abbrev pub are_stated_if_any : Option (List Stated) → Bool
are_stated_if_any ds = option_map_or are_stated ds true

-- the bytes are a certificate's text, with that written in it
pub record Spells (bytes : Text) (w : Written) : Type 0 where
  pub utf8 : IsUtf8 bytes
  pub text : bytes ≡ text_of w
  pub definitions : IsTrue (are_stated_if_any w.definitions)
  pub derived : IsTrue (is_url (numbering w.definitions) w.derived)
  pub base : IsTrue (is_url (numbering w.definitions) w.base)
  pub lines : IsTrue (list_all (is_line (numbering w.definitions)) w.lines)
