use Rattle.std.proofs.Common.{◌≡◌, map, drop}
use Rattle.std.specs.Prelude.{string_bytes}
use Rattle.fhir_contradictions.specs.Along.{end_along}
use Rattle.fhir_contradictions.proofs.along.end_along.Given as goal

abbrev pub invariant-loop-name : goal.invariant-loop-name
invariant-loop-name l =
    end_along l.schema l.typing l.at (map string_bytes (drop l.name-index l.names)) ≡ end_along l.schema l.fn.by l.fn.node (map string_bytes l.names)
