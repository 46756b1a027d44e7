use Rattle.std.proofs.Common.{◌≡◌, ◌++◌, map, drop}
use Rattle.std.specs.Prelude.{string_bytes}
use Rattle.fhir_conformance.specs.Asks.{profile, roots_named}
use Rattle.fhir_conformance.specs.Views.{asks_seen}
use Rattle.fhir_conformance.proofs.profiles.put_roots.Given as goal

abbrev pub invariant-loop-canonical : goal.invariant-loop-canonical
invariant-loop-canonical l =
    asks_seen l.asked.items ++ map profile (roots_named l.schema (map string_bytes (drop l.canonical-index l.profiles)))
    ≡ asks_seen l.initial.asked.items ++ map profile (roots_named l.schema (map string_bytes l.profiles))
