use Rattle.std.proofs.Common.{◌∷◌, ◌++◌, ◌-◌, ◌^◌, [], length, map, string_bytes}
use Rattle.fhir_snapshot.specs.Chains.{IsChain, Starts}
use Rattle.fhir_snapshot.specs.Knowing.{AreKnown}
use Rattle.fhir_snapshot.proofs.knowing.chain.Given as goal

abbrev pub invariant-loop-last : goal.invariant-loop-last
invariant-loop-last l = record {
  known : AreKnown l.sources l.known;
  chain : IsChain l.sources (map string_bytes l.urls.items ++ string_bytes l.last ∷ []);
  starts : Starts l.url (map string_bytes l.urls.items ++ string_bytes l.last ∷ []);
}

abbrev pub decreases-loop-last : goal.decreases-loop-last
decreases-loop-last l = 2 ^ 64 - length l.urls.items
