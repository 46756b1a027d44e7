use Rattle.std.proofs.Common.{◌≡◌, map, drop}
use Rattle.std.specs.Prelude.{string_bytes}
use Rattle.fhir_forms.specs.Criteria.{end_of_path}
use Rattle.fhir_forms.proofs.discriminating.end_of_path.Given as goal

abbrev pub invariant-loop-name : goal.invariant-loop-name
invariant-loop-name l =
    end_of_path l.slots l.at (map string_bytes (drop l.name-index l.names)) ≡ end_of_path l.slots l.place (map string_bytes l.names)
