-- Words that the contracts of private functions alone cite: what they see of profiles that are asked about.
use Rattle.std.specs.Prelude.{List, map}
use Rattle.fhir_json.specs.Views.{tree_of}
use Rattle.fhir_audit.specs.declared.auditing.Profile.{Profile}
use Rattle.fhir_audit.specs.Asked.{Placed}

abbrev pub placed : Profile → Placed
placed p = (p.place, (p.url.now, tree_of p.definition.now))

abbrev pub all_placed : List Profile → List Placed
all_placed ps = map placed ps
