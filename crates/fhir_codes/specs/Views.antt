-- What contracts see of code sets.
use Rattle.std.specs.Prelude.{Option, None, Some}
use Rattle.fhir_codes.specs.declared.code_set.CodeSet.{CodeSet}
use Rattle.fhir_codes.specs.declared.code_set.CodeSet.TheVariants.{Enumerated, Unread}
use Rattle.fhir_codes.specs.Concepts.{Concepts}

-- the concepts of a code set, if they could be read
abbrev pub code_set_seen : CodeSet → Option Concepts
code_set_seen (Enumerated s) = Some s
code_set_seen Unread = None
