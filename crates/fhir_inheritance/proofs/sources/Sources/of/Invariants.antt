use Rattle.std.proofs.Common.{take}
use Rattle.fhir_inheritance.proofs.sources.Sources.of.Given as goal
use Rattle.fhir_inheritance.specs.Sources.{AreRead}

abbrev pub invariant-loop-place : goal.invariant-loop-place
invariant-loop-place l = AreRead l.«package» (take l.place l.«package».structure_definitions) l.sources l.types
