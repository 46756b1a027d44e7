-- What contracts see of an include's concepts before they are joined with others (used by private contracts alone).
use Rattle.std.specs.Prelude.{List, Bool, false}
use Rattle.std.specs.Str.{bytes_eq}
use Rattle.fhir_codes.specs.declared.included.Included.{Included}
use Rattle.fhir_codes.specs.declared.included.Included.TheVariants.{Shared, Own}
use Rattle.fhir_codes.specs.Concepts.{Concepts}
use Rattle.fhir_codes.specs.Tables.{in_tables}

abbrev pub included : List Concepts → Included → Concepts
included tables (Shared numbers) = in_tables tables numbers.items
included tables (Own concepts) = concepts

-- both are of the same tables
abbrev pub are_of_one : Included → Included → Bool
are_of_one (Shared a) (Shared b) = bytes_eq a.items b.items
are_of_one _ _ = false
