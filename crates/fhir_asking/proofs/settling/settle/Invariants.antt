use Rattle.fhir_asking.specs.Asking.{Holds, Extends}
use Rattle.fhir_asking.specs.Settling.{IsBottom, Waits, left}
use Rattle.fhir_asking.proofs.settling.settle.Given as goal

abbrev pub invariant-turns : goal.invariant-turns
invariant-turns g l = record {
  holds : Holds (g.S.Asks.asking l.asks) l.table;
  extends : Extends l.initial.table l.table;
  waits : Waits (g.S.Asks.asking l.asks) l.table l.waiting;
  bottom : IsBottom l.name l.table l.waiting;
}

abbrev pub decreases-turns : goal.decreases-turns
decreases-turns g l = left l.table l.waiting
