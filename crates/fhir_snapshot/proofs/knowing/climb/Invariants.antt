use Rattle.std.proofs.Common.{◌∷◌, ◌++◌, [], map, string_bytes, vec_len}
use Rattle.fhir_asking.specs.Asking.{Holds}
use Rattle.fhir_inheritance.specs.Inheriting.{asking}
use Rattle.fhir_snapshot.specs.Chains.{IsChain, Starts}
use Rattle.fhir_snapshot.specs.Knowing.{AreKnown, Knows}
use Rattle.fhir_snapshot.proofs.knowing.climb.Given as goal

abbrev pub invariant-loop-next : goal.invariant-loop-next
invariant-loop-next l = record {
  holds : Holds (asking l.sources) l.nodes;
  known : AreKnown l.sources l.known;
  chain : IsChain l.sources (map string_bytes l.urls.items ++ string_bytes l.last ∷ []);
  starts : Starts l.url (map string_bytes l.urls.items ++ string_bytes l.last ∷ []);
  knows : Knows l.known (string_bytes l.last);
}

abbrev pub decreases-loop-next : goal.decreases-loop-next
decreases-loop-next l = vec_len l.urls
