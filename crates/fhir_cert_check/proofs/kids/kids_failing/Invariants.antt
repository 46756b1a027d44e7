use Rattle.std.proofs.Common.{◌≡◌, drop}
use Rattle.std.specs.List.{flat_map}
use Rattle.fhir_cert_check.specs.PairSet.{has_pair}
use Rattle.fhir_elements.specs.Tests.{first_of}
use Rattle.fhir_cert_check.specs.Rules.{slot_rules, kids_rules}
use Rattle.fhir_cert_check.proofs.kids.kids_failing.Given as goal

abbrev pub invariant-loop-slot : goal.invariant-loop-slot
invariant-loop-slot l =
    first_of (flat_map (slot_rules (has_pair l.pairs) l.schema l.n l.m) (drop l.slot-index l.slot-items))
    ≡ first_of (kids_rules (has_pair l.pairs) l.schema l.n l.m)
