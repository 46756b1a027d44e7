use Rattle.std.proofs.Common.{◌≡◌, take}
use Rattle.std.specs.List.{list_any}
use Rattle.std.specs.FinSet as set
use Rattle.fhir_codes.specs.Concepts.{Concept}
use Rattle.fhir_codes.proofs.Members.{set_of}
use Rattle.fhir_codes.proofs.combining.united_anew.Given as goal

abbrev pub invariant-loop-one : goal.invariant-loop-one
invariant-loop-one l = (c : Concept) → set.contains (set_of l.all.items) c ≡ list_any (λ s. set.contains s c) (take l.one-index l.sets)
