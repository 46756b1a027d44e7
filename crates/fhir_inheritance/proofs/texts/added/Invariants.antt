use Rattle.std.proofs.Common.{◌≡◌, map, drop, string_bytes}
use Rattle.fhir_names.specs.Places.{Finds}
use Rattle.fhir_inheritance.specs.Lists.{with_others}
use Rattle.fhir_inheritance.proofs.texts.added.Given as goal

abbrev pub invariant-loop-text : goal.invariant-loop-text
invariant-loop-text l = record {
  finds : Finds l.places (map string_bytes l.all.items);
  same : with_others (map string_bytes l.all.items) (map string_bytes (drop l.text-index l.others)) ≡ with_others (map string_bytes l.fn.old.items) (map string_bytes l.others);
}
