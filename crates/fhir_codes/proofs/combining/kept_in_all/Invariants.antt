use Rattle.std.proofs.Common.{◌≡◌, filter, take}
use Rattle.std.specs.List.{list_all}
use Rattle.std.specs.FinSet as set
use Rattle.fhir_codes.proofs.combining.kept_in_all.Given as goal

abbrev pub invariant-loop-concept : goal.invariant-loop-concept
invariant-loop-concept l = l.kept.items ≡ filter (λ c. list_all (λ s. set.contains s c) l.sets) (take l.concept-index l.concepts)
