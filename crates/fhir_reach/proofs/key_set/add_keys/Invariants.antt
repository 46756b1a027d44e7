use Rattle.std.proofs.Common.{◌≡◌, drop}
use Rattle.fhir_reach.specs.Keys.{keys_seen, with_keys}
use Rattle.fhir_reach.proofs.key_set.add_keys.Given as goal

abbrev pub invariant-loop-key : goal.invariant-loop-key
invariant-loop-key l = with_keys l.found (keys_seen (drop l.key-index l.keys)) ≡ with_keys l.fn.found (keys_seen l.keys)
