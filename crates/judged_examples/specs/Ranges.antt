-- Whole numbers of two types.
use Rattle.std.specs.Prelude.{codes}
use Rattle.fhir_json.specs.Tree.{Text, number}
use Rattle.fhir_facets.specs.Seen.{Seen}
use Rattle.fhir_facets.specs.Example.{plain}

abbrev pub positive : Text → Seen
positive digits = plain (codes "positiveInt") (number digits)

abbrev pub unsigned : Text → Seen
unsigned digits = plain (codes "unsignedInt") (number digits)
