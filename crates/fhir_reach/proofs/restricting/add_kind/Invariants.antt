use Rattle.std.proofs.Common.{◌≡◌, ◌++◌, take}
use Rattle.fhir_package.specs.Definitions.{of_kind, with_kind}
use Rattle.fhir_reach.specs.Reach.{held_of}
use Rattle.fhir_reach.proofs.restricting.add_kind.Given as goal

abbrev pub invariant-loop-place : goal.invariant-loop-place
invariant-loop-place l = l.into ≡ with_kind l.kind (of_kind l.kind l.fn.into ++ held_of l.found l.kind (take l.place (of_kind l.kind l.«package»))) l.fn.into
