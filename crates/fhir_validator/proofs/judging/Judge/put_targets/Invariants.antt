use Rattle.std.proofs.Common.{take}
use Rattle.std.specs.List.{AllByRecursion}
use Rattle.fhir_validator.specs.Listing.{Grown}
use Rattle.fhir_validator.proofs.Resting.{TargetIsTold}
use Rattle.fhir_validator.proofs.judging.Judge.put_targets.Given as goal

abbrev pub invariant-loop-target : goal.invariant-loop-target
invariant-loop-target l = record {
  told : AllByRecursion (TargetIsTold l.self l.listing) (take l.target-index l.target-items);
  grown : Grown l.self l.pair l.fn.listing l.listing;
}
