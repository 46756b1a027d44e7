-- Which of some causes are cases of a reason (used by private contracts alone).
use Rattle.std.specs.Prelude.{List, map, Bool, false, Option}
use Rattle.std.specs.Option.{option_map}
use Rattle.fhir_elements.specs.declared.reason.Reason.{Reason}
use Rattle.fhir_elements.specs.declared.reason.Reason.TheVariants.{WrongField, MinOverMax, RepeatedType, WrongId}
use Rattle.fhir_elements.specs.declared.cause.Cause.{Cause}
use Rattle.fhir_elements.specs.Causes.{reason_of}
use Rattle.fhir_definition.specs.Definition.{is_wrong_field, is_min_over_max, is_repeated_type, is_wrong_id}

abbrev pub reasons_of : List (Option Cause) → List (Option Reason)
reasons_of causes = map (option_map reason_of) causes

-- a reason is one that elements have, and what was found is that one
abbrev pub is_case_of : Reason → Option Reason → Bool
is_case_of WrongField found = is_wrong_field found
is_case_of MinOverMax found = is_min_over_max found
is_case_of RepeatedType found = is_repeated_type found
is_case_of WrongId found = is_wrong_id found
is_case_of _ found = false
