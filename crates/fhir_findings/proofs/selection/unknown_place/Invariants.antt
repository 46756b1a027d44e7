use Rattle.std.proofs.Common.{◌≡◌, drop, map, string_bytes}
use Rattle.std.specs.List.{position_from}
use Rattle.fhir_findings.specs.Selecting.{is_unknown, unknown_place}
use Rattle.fhir_findings.proofs.selection.unknown_place.Given as goal

abbrev pub invariant-loop-place : goal.invariant-loop-place
invariant-loop-place l =
    position_from (is_unknown l.«package») l.place (map string_bytes (drop l.place l.prefixes)) ≡ unknown_place l.«package» (map string_bytes l.prefixes)
