use Rattle.std.proofs.Common.{◌≡◌, map, take}
use Rattle.fhir_names.specs.Places.{Finds}
use Rattle.fhir_findings.specs.Firsts.{firsts}
use Rattle.fhir_unread.specs.Seen.{sayings_seen}
use Rattle.fhir_unread.proofs.saying.firsts.Given as goal

abbrev pub invariant-loop-place : goal.invariant-loop-place
invariant-loop-place l = record {
  found : Finds l.seen (map (λ y. y.human) (sayings_seen (take l.place l.sayings)));
  pushed : sayings_seen l.into.items ≡ firsts (λ y. y.human) (sayings_seen (take l.place l.sayings));
}
