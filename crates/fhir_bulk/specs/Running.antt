-- The run over all lines of inputs.
use Rattle.std.specs.Prelude.{◌≡◌, ℕ, suc, List, [], ◌∷◌, ◌++◌, Option, None, Some, slice_get, flat_map, codes}
use Rattle.std.specs.Fmt.{decimal}
use Rattle.std.specs.Option.{option_map_or}
use Rattle.std.specs.Prelude.{string_bytes}
use Rattle.fhir_json.specs.Tree.{Text}
use Rattle.fhir_inputs.specs.Going.{GoesThrough}
use Rattle.fhir_inputs.specs.Inputs.{InputValue, kind_at}
use Rattle.fhir_inputs.specs.declared.input.Kind.{Kind}
use Rattle.fhir_inputs.specs.declared.input.Kind.TheVariants.{Lines}
use Rattle.fhir_inputs.specs.declared.teller.Stop.{Stop}
use Rattle.fhir_inputs.specs.declared.teller.Stop.TheVariants as stops
use Rattle.fhir_words.specs.declared.request.Format.{Format}
use Rattle.fhir_words.specs.declared.request.Format.TheVariants.{Text as AsText, Json as AsJson}
use Rattle.fhir_bulk.specs.declared.heading.Heading.{Heading}
use Rattle.fhir_bulk.specs.declared.tally.Tally.{Tally}
use Rattle.fhir_telling.specs.declared.verdict.LineVerdict.{LineVerdict}
use Rattle.fhir_telling.specs.declared.verdict.LineVerdict.TheVariants.{Fault, NoMemory}
use Rattle.fhir_bulk.specs.Counting.{more, no_tally, tallied}
use Rattle.fhir_telling.specs.Questions.{QuestionValue}
use Rattle.fhir_telling.specs.Judgements.{ToldValue, told_memory}
use Rattle.fhir_telling.specs.Telling.{IsTold}
use Rattle.fhir_bulk.specs.Rows.{heading, tail, shown, unread_tail}

-- how the rows on an input begin, and what it holds
pub record HeadingValue : Type 0 where
  pub text : Text
  pub kind : Kind

abbrev pub heading_seen : Heading → HeadingValue
heading_seen h = record { text = string_bytes h.text; kind = h.kind }

abbrev pub heading_at : List HeadingValue → ℕ → HeadingValue
heading_at headings place = option_map_or (λ h. h) (slice_get headings place) (record { text = []; kind = Lines })

-- of files of these names, the first of which has that place among the inputs
unfoldable pub headings_from : ℕ → Format → List Text → List InputValue → List HeadingValue
headings_from place format [] inputs = []
headings_from place format (name ∷ names) inputs =
    record { text = heading format name; kind = kind_at inputs place } ∷ headings_from (suc place) format names inputs

-- what is asked, where the run is, the number of the last line there, and how often each verdict was told
pub record RunValue : Type 0 where
  pub question : QuestionValue
  pub headings : List HeadingValue
  pub place : ℕ
  pub number : ℕ
  pub tally : Tally

abbrev pub current : RunValue → HeadingValue
current v = heading_at v.headings v.place

-- The next line is told, and counted.
abbrev pub TellsLine : RunValue → List ℕ → RunValue → List ℕ → Type 0
TellsLine v line w written =
    (told : ToldValue) × IsTold v.question (current v).kind line told
    × (w ≡ record v { number = more v.number; tally = tallied told.verdict v.tally })
    × (written ≡ shown v.question.only_bad v.question.format (current v).text (more v.number) told)

-- The run goes over to the input at a place.
abbrev pub Begins : RunValue → ℕ → RunValue → Type 0
Begins v place w = w ≡ record v { place = place; number = 0 }

abbrev pub stop_verdict : Stop → LineVerdict
stop_verdict stops.Unread = Fault
stop_verdict stops.NoMemory = NoMemory

abbrev pub stop_tail : Format → Stop → Text
stop_tail format stops.Unread = unread_tail format
stop_tail format stops.NoMemory = tail format [] 0 told_memory

-- That the input stops is told in place of its next line, and counted.
abbrev pub Stops : RunValue → Stop → RunValue → List ℕ → Type 0
Stops v stop w written =
    (w ≡ record v { tally = tallied (stop_verdict stop) v.tally })
    × (written ≡ (current v).text ++ decimal (more v.number) ++ stop_tail v.question.format stop)

-- nothing is told yet
abbrev pub start_with : QuestionValue → List HeadingValue → RunValue
start_with q headings = record { question = q; headings = headings; place = 0; number = 0; tally = no_tally }

-- of inputs of these names
abbrev pub start : QuestionValue → List Text → List InputValue → RunValue
start q names inputs = start_with q (headings_from 0 q.format names inputs)

-- a count behind its name
abbrev pub count_text : Text × ℕ → Text
count_text (name, count) = name ++ decimal count

-- how often each verdict was told, and how many files were passed over
abbrev pub counts : Tally → ℕ → List (Text × ℕ)
counts tally passed_over =
    (codes "conforms: ", tally.conforms) ∷ (codes ", violates: ", tally.violates) ∷ (codes ", open: ", tally.opens)
    ∷ (codes ", faults: ", tally.faults) ∷ (codes ", no memory: ", tally.no_memory) ∷ (codes ", empty lines: ", tally.empties)
    ∷ (codes ", files passed over: ", passed_over) ∷ []

-- the last line
abbrev pub summary : Format → Tally → ℕ → Text
summary AsJson tally passed_over = []
summary AsText tally passed_over = flat_map count_text (counts tally passed_over) ++ codes "\n"

-- Rows on given rules are told only where a user vouches for some.
abbrev pub AreRelied : Option (List Text) → List ℕ → Type 0
AreRelied None rows = rows ≡ []
AreRelied (Some texts) rows = Unit {0}

-- The lines of all inputs were told in turn, with these counts, and this is all that was written.
pub record IsRun (q : QuestionValue) (names : List Text) (inputs : List InputValue) (tally : Tally) (written : Text) : Type 0 where
  pub last : RunValue
  pub goes : GoesThrough TellsLine Begins Stops 0 inputs (start q names inputs) last written
  pub counts : tally ≡ last.tally
