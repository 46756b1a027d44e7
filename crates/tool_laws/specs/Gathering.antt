-- A definition of a kind and a url, taken from some file.
use Rattle.std.specs.Prelude.{codes}
use Rattle.fhir_json.specs.Tree.{Text, null}
use Rattle.fhir_package.specs.declared.kind.Kind.{Kind}
use Rattle.fhir_gather.specs.Gathering.{Taken}

abbrev pub taken : Kind → Text → Taken
taken kind url = record { folder = codes "guide"; file = codes "a.json"; definition = record { kind = kind; url = url; tree = null } }
