-- Words behind the program's name.
use Rattle.std.specs.Prelude.{List, ◌∷◌, Option, codes}
use Rattle.fhir_words.specs.declared.request.Format.TheVariants.{Text as AsText}
use Rattle.fhir_words.specs.declared.request.Detail.TheVariants.{Once}
use Rattle.fhir_words.specs.declared.request.Manner.{Manner}
use Rattle.fhir_json.specs.Tree.{Text}
use Rattle.fhir_words.specs.Requests.{TaskValue}
use Rattle.fhir_words.specs.Words.{plain_task}

abbrev pub asked : List Text → Option TaskValue
asked ws = plain_task (codes "fhirprof" ∷ ws)

-- a report in texts, in which what several elements carry is told once
abbrev pub told_once : Manner
told_once = record { format = AsText; detail = Once }
