use Rattle.std.proofs.Common.{◌≡◌, ◌++◌, take}
use Rattle.fhir_package.specs.Definitions.{of_kind}
use Rattle.fhir_reach.specs.Keys.{keys_seen}
use Rattle.fhir_reach.proofs.Changed.{at_all}
use Rattle.fhir_reach.proofs.changing.push_kind.Given as goal

abbrev pub invariant-loop-place : goal.invariant-loop-place
invariant-loop-place l = keys_seen l.keys.items ≡ keys_seen l.fn.keys.items ++ at_all l.kind l.url (take l.place (of_kind l.kind l.«package»))
