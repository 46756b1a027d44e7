-- Reading a certificate's text from left to right: its lines, and the fields of each.
use Rattle.std.specs.Prelude.{ℕ, zero, suc, ◌+◌, List, [], ◌∷◌, length, Bool, true, ◌&&◌, ◌==◌, Option, None, Some, Result, Err, if◌then◌else◌, codes}
use Rattle.std.specs.Option.{option_map, option_map_or, option_and_then}
use Rattle.std.specs.Str.{bytes_eq, is_utf8}
use Rattle.fhir_json.specs.Tree.{Text}
use Rattle.fhir_schema.specs.Schemas.{SchemaValue}
use Rattle.fhir_certificate.specs.declared.fault.CertFault.{CertFault}
use Rattle.fhir_certificate.specs.declared.fault.CertFault.TheVariants.{WrongFormat}
use Rattle.fhir_certificate.specs.Certificate.{CertificateValue}
use Rattle.fhir_json.specs.Bytes.{tab, line_feed, is_empty}
use Rattle.fhir_json.specs.Sound.{differ}
use Rattle.fhir_certificate.specs.Numbers.{Numbering, number_text, url_named}
use Rattle.fhir_certificate.specs.Versions.{is_version}
use Rattle.fhir_certificate.specs.Format.{Name, Line, item, kids, Stated, Written, urls_of, numbering, is_field}
use Rattle.fhir_certificate.specs.Judging.{certificate_or_fault}

-- ---- lines

-- what stands before the first such byte and what stands behind it, where there is one
abbrev pub cut_at : ℕ → Text → Option (Text × Text)
cut_at c [] = None
cut_at c (b ∷ bs) = if b == c then Some ([], bs) else option_map (λ p. (b ∷ p.0, p.1)) (cut_at c bs)

-- a byte in front of the first line, where there is one
abbrev pub longer : ℕ → List Text → List Text
longer b [] = []
longer b (line ∷ lines) = (b ∷ line) ∷ lines

-- the lines that are ended by a line feed
abbrev pub lines_of : Text → List Text
lines_of [] = []
lines_of (b ∷ bs) = if b == line_feed then [] ∷ lines_of bs else longer b (lines_of bs)

-- nothing stands behind the last line
abbrev pub is_ended : Text → Bool
is_ended [] = true
is_ended (b ∷ bs) = if is_empty bs then b == line_feed else is_ended bs

-- ---- pairs

-- the pair line of a word and four fields
abbrev pub line_with : Text → Name → Name → Option Line
line_with word derived base =
    if bytes_eq word (codes "item") then Some (item derived base)
    else (if bytes_eq word (codes "kids") then Some (kids derived base) else None)

-- a field and what stands behind its tab
abbrev pub field_at : Text → Option (Text × Text)
field_at text = option_and_then (λ p. if is_field p.0 then Some p else None) (cut_at tab text)

-- the url that a text names, beside what stands behind it
abbrev pub with_url : Numbering → Text × Text → Option (Text × Text)
with_url ns p = option_map (λ url. (url, p.1)) (url_named ns p.0)

-- the url that is named in a field, and what stands behind its tab
abbrev pub url_at : Numbering → Text → Option (Text × Text)
url_at ns text = option_and_then (with_url ns) (field_at text)

-- a name and what stands behind its tab
abbrev pub name_at : Numbering → Text → Option (Name × Text)
name_at ns text =
    option_and_then (λ url. option_map (λ id. (record { url = url.0; id = id.0 }, id.1)) (field_at url.1)) (url_at ns text)

-- the name that is all of a text
abbrev pub name_of : Numbering → Text → Option Name
name_of ns text = option_and_then (λ url. if is_field url.1 then Some (record { url = url.0; id = url.1 }) else None) (url_at ns text)

abbrev pub line_of : Numbering → Text → Option Line
line_of ns line =
    option_and_then
    (λ word. option_and_then (λ derived. option_and_then (line_with word.0 derived.0) (name_of ns derived.1)) (name_at ns word.1))
    (cut_at tab line)

-- the pair lines in front
abbrev pub pair_lines : Numbering → List Text → List Line
pair_lines ns [] = []
pair_lines ns (line ∷ lines) = option_map_or (λ pair. pair ∷ pair_lines ns lines) (line_of ns line) []

abbrev pub is_end : Text → List Text → Bool
is_end line lines = bytes_eq line (codes "end") && is_empty lines

-- the pair lines, where they are followed by the line `end` and by no other
abbrev pub pairs_in : Numbering → List Text → Option (List Line)
pairs_in ns [] = None
pairs_in ns (line ∷ lines) =
    option_map_or (λ pair. option_map (λ pairs. pair ∷ pairs) (pairs_in ns lines)) (line_of ns line)
    (if is_end line lines then Some [] else None)

abbrev pub pairs_at : Numbering → Text → Option (List Line)
pairs_at ns text = if is_ended text then pairs_in ns (lines_of text) else None

-- ---- definitions

-- what stands behind a first field that is this
abbrev pub behind_field : Text → Text → Option Text
behind_field word text = option_and_then (λ p. if bytes_eq p.0 word then Some p.1 else None) (cut_at tab text)

-- the url and the version in a line behind the word `def` and that number
abbrev pub definition_fields : ℕ → Text → Option (Text × Text)
definition_fields n line = option_and_then field_at (option_and_then (behind_field (number_text n)) (behind_field (codes "def") line))

abbrev pub definition_with : Text × Text → Option Stated
definition_with p = if is_field p.1 && is_version p.1 then Some (record { url = p.0; version = p.1 }) else None

-- the definition of that number
abbrev pub definition_of : ℕ → Text → Option Stated
definition_of n line = option_and_then definition_with (definition_fields n line)

-- the definitions in front, of which the first has that number
abbrev pub definition_lines : ℕ → List Text → List Stated
definition_lines n [] = []
definition_lines n (line ∷ lines) = option_map_or (λ d. d ∷ definition_lines (n + 1) lines) (definition_of n line) []

-- what stands behind so many lines
abbrev pub behind_lines : ℕ → Text → Text
behind_lines zero text = text
behind_lines (suc n) text = option_map_or (λ p. behind_lines n p.1) (cut_at line_feed text) []

-- ---- the whole text

-- what stands behind a first line that is this word
abbrev pub behind_line : Text → Text → Option Text
behind_line word text = option_and_then (λ p. if bytes_eq p.0 word then Some p.1 else None) (cut_at line_feed text)

-- the field of a line behind this word
abbrev pub field_of : Text → Text → Option Text
field_of word line =
    option_and_then (λ p. if bytes_eq p.0 word && is_field p.1 then Some p.1 else None) (cut_at tab line)

-- the field of the first line behind this word, and what stands behind the line
abbrev pub field_line : Text → Text → Option (Text × Text)
field_line word text = option_and_then (λ p. option_map (λ field. (field, p.1)) (field_of word p.0)) (cut_at line_feed text)

-- the url that is named in the first line behind this word, and what stands behind the line
abbrev pub url_line : Numbering → Text → Text → Option (Text × Text)
url_line ns word text = option_and_then (with_url ns) (field_line word text)

-- what is written behind the lines of these definitions
abbrev pub written_behind : Option (List Stated) → Text → Option Written
written_behind ds text =
    option_and_then
    (λ derived. option_and_then
    (λ base. option_map (λ pairs. record { definitions = ds; derived = derived.0; base = base.0; lines = pairs }) (pairs_at (numbering ds) base.1))
    (url_line (numbering ds) (codes "base") derived.1))
    (url_line (numbering ds) (codes "derived") text)

-- the definitions in front of a text, where they have different urls, and what stands behind their lines
abbrev pub definitions_at : Text → Option (Option (List Stated) × Text)
definitions_at text =
    let ds = definition_lines 0 (lines_of text) in
    if differ (urls_of ds) then Some (Some ds, behind_lines (length ds) text) else None

-- what is written behind the first line of format 2
abbrev pub written_numbered : Text → Option Written
written_numbered text = option_and_then (λ front. written_behind front.0 front.1) (definitions_at text)

-- the definitions that a text numbers, and what stands behind their lines, of either format
abbrev pub front_of : Text → Option (Option (List Stated) × Text)
front_of text =
    option_map_or (λ rest. Some (None, rest)) (behind_line (codes "fhirprof-certificate 1") text)
    (option_and_then definitions_at (behind_line (codes "fhirprof-certificate 2") text))

abbrev pub written_of : Text → Option Written
written_of text = option_and_then (λ front. written_behind front.0 front.1) (front_of text)

-- the certificate that the bytes are in a schema, or the first fault
abbrev pub reading : SchemaValue → Text → Result CertificateValue CertFault
reading s bytes = if is_utf8 bytes then option_map_or (certificate_or_fault s) (written_of bytes) (Err WrongFormat) else Err WrongFormat
