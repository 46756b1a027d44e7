use Rattle.std.proofs.Common.{string_bytes}
use Rattle.std.specs.Prelude.{IfSome}
use Rattle.fhir_asking.specs.Asking.{NeedsItself}
use Rattle.fhir_snapshot.specs.Chains.{ending}
use Rattle.fhir_snapshot.specs.Knowing.{AreKnown, Knows}
use Rattle.fhir_snapshot.proofs.knowing.learn_cycle.Given as goal

abbrev pub invariant-loop-turn : goal.invariant-loop-turn
invariant-loop-turn l = record {
  known : AreKnown l.sources l.known;
  knows : Knows l.known l.url;
  next : IfSome l.next (λ b. NeedsItself (ending l.sources) (string_bytes b));
}
