use Rattle.std.proofs.Common.{◌≡◌, ◌++◌, map, drop}
use Rattle.std.specs.List.{flat_map}
use Rattle.fhir_package.specs.Definitions.{of_kind}
use Rattle.fhir_alike.specs.Mark.{definition_tails}
use Rattle.fhir_alike.proofs.mark.push_kind.Given as goal

abbrev pub invariant-loop-place : goal.invariant-loop-place
invariant-loop-place l =
    map (λ t. t.now) l.tails.items ++ flat_map (definition_tails l.stem) (drop l.place (of_kind l.kind l.package))
    ≡ map (λ t. t.now) l.initial.tails.items ++ flat_map (definition_tails l.stem) (of_kind l.kind l.package)
