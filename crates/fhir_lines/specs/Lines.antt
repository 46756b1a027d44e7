-- The lines of a report, and how they are written.
use Rattle.std.specs.Prelude.{ℕ, ◌/◌, ◌%◌, ◌==◌, List, [], ◌∷◌, ◌++◌, map, flat_map, Bool, true, false, Option, None, Some, option_map, if◌then◌else◌, codes, encode_utf8, string_bytes}
use Rattle.std.specs.Char.{is_control, digit_char}
use Rattle.std.specs.Fmt.{decimal}
use Rattle.std.specs.Str.{chars}
use Rattle.fhir_json.specs.Tree.{Text, Tree, boolean, string, number, object, members_of, Property}
use Rattle.fhir_json.specs.Compact.{compact}
use Rattle.fhir_json.specs.Faults.{fault_number}
use Rattle.fhir_elements.specs.Numbers.{reason_number}
use Rattle.fhir_snapshot.specs.Faults.{number_text as snapshot_number}
use Rattle.fhir_certificate.specs.Faults.{cert_number}
use Rattle.fhir_lines.specs.declared.line.Line.{Line}
use Rattle.fhir_lines.specs.declared.line.FaultNumber.{FaultNumber}
use Rattle.fhir_lines.specs.declared.line.FaultNumber.TheVariants.{Unreadable, Clash, Json, Unusable, Snapshot, Certificate}
use Rattle.fhir_lines.specs.declared.line.Details.{Details}
use Rattle.fhir_words.specs.declared.request.Format.{Format}
use Rattle.fhir_words.specs.declared.request.Format.TheVariants.{Text as AsText, Json as AsJson}

-- What is told of something that several elements may carry: the key and the sentence of a constraint, whether it names a definition that the
-- package lacks, and how many elements carry it.
pub record DetailsValue : Type 0 where
  pub key : Option Text
  pub sentence : Option Text
  pub lacks : Bool
  pub count : Option ℕ

abbrev pub no_details : DetailsValue
no_details = record { key = None; sentence = None; lacks = false; count = None }

-- something that was found, and where
pub record LineValue : Type 0 where
  pub file : Option Text
  pub line : Option ℕ
  pub column : Option ℕ
  pub number : Option FaultNumber
  pub url : Option Text
  pub id : Option Text
  pub text : Text
  pub details : DetailsValue

abbrev pub text_line : Text → LineValue
text_line text = record { file = None; line = None; column = None; number = None; url = None; id = None; text = text; details = no_details }

-- on a file
abbrev pub file_line : Text → Option FaultNumber → Text → LineValue
file_line file of_fault text = record (text_line text) { file = Some file; number = of_fault }

-- ---- as a text: FILE:LINE:COLUMN: NUMBER URL ID: TEXT; KEY: SENTENCE; the package lacks it; COUNT elements

abbrev pub number_text : FaultNumber → Text
number_text Unreadable = codes "P1"
number_text Clash = codes "P3"
number_text (Json fault) = fault_number fault
number_text (Unusable reason) = reason_number reason
number_text (Snapshot n) = snapshot_number n
number_text (Certificate fault) = cert_number fault

-- what is there
abbrev pub parts_of : Option Text → List Text
parts_of None = []
parts_of (Some text) = text ∷ []

-- parts behind one another, and a colon behind the last
abbrev pub group : Text → List Text → Text
group separator [] = []
group separator (p ∷ ps) = p ++ flat_map (λ q. separator ++ q) ps ++ codes ": "

abbrev pub place_text : LineValue → Text
place_text l = group (codes ":") (parts_of l.file ++ parts_of (option_map decimal l.line) ++ parts_of (option_map decimal l.column))

abbrev pub name_text : LineValue → Text
name_text l = group (codes " ") (parts_of (option_map number_text l.number) ++ parts_of l.url ++ parts_of l.id)

-- the key of a constraint and its sentence, as far as they are there
abbrev pub constraint_text : Option Text → Option Text → Option Text
constraint_text (Some key) (Some sentence) = Some (key ++ codes ": " ++ sentence)
constraint_text (Some key) None = Some key
constraint_text None sentence = sentence

abbrev pub lacks_text : Bool → Option Text
lacks_text lacks = if lacks then Some (codes "the package lacks it") else None

abbrev pub count_text : ℕ → Text
count_text n = decimal n ++ (if n == 1 then codes " element" else codes " elements")

abbrev pub details_parts : DetailsValue → List Text
details_parts d = parts_of (constraint_text d.key d.sentence) ++ parts_of (lacks_text d.lacks) ++ parts_of (option_map count_text d.count)

abbrev pub details_text : DetailsValue → Text
details_text d = flat_map (λ p. codes "; " ++ p) (details_parts d)

abbrev pub line_text : LineValue → Text
line_text l = place_text l ++ name_text l ++ l.text ++ details_text l.details

-- why something can't be used: the number, the id and the text, each behind a colon
abbrev pub reason_text : LineValue → Text
reason_text l = flat_map (λ p. codes ": " ++ p) (parts_of (option_map number_text l.number) ++ parts_of l.id ++ parts_of (Some l.text))

-- ---- as a JSON object

abbrev pub text_member : Text → Option Text → List Property
text_member name None = []
text_member name (Some text) = (name, string text) ∷ []

abbrev pub count_property : Text → ℕ → Property
count_property name n = (name, number (decimal n))

abbrev pub count_member : Text → Option ℕ → List Property
count_member name None = []
count_member name (Some n) = count_property name n ∷ []

abbrev pub flag_member : Text → Bool → List Property
flag_member name is = if is then (name, boolean true) ∷ [] else []

abbrev pub details_members : DetailsValue → List Property
details_members d =
    text_member (codes "key") d.key ++ text_member (codes "human") d.sentence ++ flag_member (codes "lacks") d.lacks ++ count_member (codes "count") d.count

abbrev pub line_tree : LineValue → Tree
line_tree l =
    object
    (members_of
    (text_member (codes "file") l.file ++ count_member (codes "line") l.line ++ count_member (codes "column") l.column
    ++ text_member (codes "number") (option_map number_text l.number) ++ text_member (codes "url") l.url ++ text_member (codes "id") l.id
    ++ text_member (codes "text") (Some l.text) ++ details_members l.details))

-- ---- rows

-- a control character by its code, as JSON may have it, and any other as it is
abbrev pub escaped_character : ℕ → Text
escaped_character c = if is_control c then codes "\\u00" ++ digit_char (c / 16) ∷ digit_char (c % 16) ∷ [] else encode_utf8 c

abbrev pub escaped : Text → Text
escaped text = flat_map escaped_character (chars text)

abbrev pub row_text : Format → LineValue → Text
row_text AsText l = line_text l
row_text AsJson l = compact (line_tree l)

-- a text as a row, in which no text puts in a control character
abbrev pub text_row : Text → Text
text_row text = escaped text ++ codes "\n"

-- one for each text
abbrev pub text_rows : List Text → Text
text_rows texts = flat_map text_row texts

abbrev pub row : Format → LineValue → Text
row format l = text_row (row_text format l)

-- one for each line
abbrev pub rows : Format → List LineValue → Text
rows format ls = flat_map (row format) ls

-- a number behind a word
abbrev pub counted : Text → ℕ → Text
counted word n = word ++ decimal n

-- ---- what contracts see

abbrev pub details_seen : Details → DetailsValue
details_seen d = record {
  key = option_map (λ t. t.now) d.key;
  sentence = option_map (λ t. t.now) d.sentence;
  lacks = d.lacks;
  count = d.count;
}

abbrev pub line_seen : Line → LineValue
line_seen l = record {
  file = option_map (λ t. t.now) l.file;
  line = l.line;
  column = l.column;
  number = l.number;
  url = option_map (λ t. t.now) l.url;
  id = option_map (λ t. t.now) l.id;
  text = string_bytes l.text;
  details = details_seen l.details;
}

abbrev pub lines_seen : List Line → List LineValue
lines_seen ls = map line_seen ls
