use Rattle.std.proofs.Common.{◌≡◌, ◌++◌, drop}
use Rattle.fhir_reach.specs.Keys.{keys_seen}
use Rattle.fhir_reach.specs.Reach.{all_put_keys}
use Rattle.fhir_reach.proofs.changing.keys_put.Given as goal

abbrev pub invariant-loop-definition : goal.invariant-loop-definition
invariant-loop-definition l =
    keys_seen l.keys.items ++ all_put_keys (drop l.definition-index l.definitions) l.«package» ≡ all_put_keys l.definitions l.«package»
