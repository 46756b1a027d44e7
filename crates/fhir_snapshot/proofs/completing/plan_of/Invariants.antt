use Rattle.fhir_asking.specs.Asking.{Holds}
use Rattle.fhir_inheritance.specs.Inheriting.{asking}
use Rattle.fhir_snapshot.specs.Chains.{ending}
use Rattle.fhir_snapshot.specs.Knowing.{AreKnown}
use Rattle.fhir_snapshot.specs.Planning.{Plans}
use Rattle.fhir_snapshot.proofs.completing.plan_of.Given as goal

abbrev pub invariant-loop-place : goal.invariant-loop-place
invariant-loop-place l = record {
  holds : Holds (asking l.«package») l.nodes;
  ends : Holds (ending l.«package») l.ends;
  known : AreKnown l.«package» l.known;
  plans : Plans l.«package» l.place l.plan;
}
