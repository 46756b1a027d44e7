-- The lines on what isn't judged.
use Rattle.std.specs.Prelude.{ℕ, List, [], ◌∷◌, map, Option, None, Some}
use Rattle.fhir_json.specs.Tree.{Text}
use Rattle.fhir_package.specs.Definitions.{Definitions}
use Rattle.fhir_findings.specs.Carrying.{Carrier, text_of}
use Rattle.fhir_findings.specs.Once.{Told, told_once}
use Rattle.fhir_findings.specs.Sentences.{sentence_for}
use Rattle.fhir_lines.specs.Lines.{LineValue, file_line}
use Rattle.fhir_words.specs.declared.request.Detail.{Detail}
use Rattle.fhir_words.specs.declared.request.Detail.TheVariants.{Once, Each}

-- the id of an element; of a definition none
abbrev pub id_shown : Text → Option Text
id_shown [] = None
id_shown (b ∷ bs) = Some (b ∷ bs)

-- what is carried, by a carrier, with the sentence of a constraint and a count, as far as they are told
abbrev pub carrier_line : Carrier → Option Text → Option ℕ → LineValue
carrier_line c sentence count =
    record (file_line c.file None (text_of c)) {
      url = Some c.url;
      id = id_shown c.id;
      details = record { key = c.key; sentence = sentence; lacks = c.lacks; count = count };
    }

-- told once, by the first carrier, where a carrier's constraint says this
abbrev pub said_line : (Carrier → Option Text) → Told Carrier → LineValue
said_line says t = carrier_line t.first (says t.first) (Some t.count)

-- the same by the sentences of a package
abbrev pub told_line : Definitions → Told Carrier → LineValue
told_line p t = said_line (sentence_for p) t

-- told at each carrier
abbrev pub each_line : Carrier → LineValue
each_line c = carrier_line c None None

abbrev pub carried_lines : Detail → Definitions → List Carrier → List LineValue
carried_lines Once p cs = map (told_line p) (told_once text_of cs)
carried_lines Each p cs = map each_line cs
