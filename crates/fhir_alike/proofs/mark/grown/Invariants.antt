use Rattle.std.proofs.Common.{◌≡◌, map, length, string_bytes}
use Rattle.fhir_alike.specs.Mark.{grown}
use Rattle.fhir_alike.proofs.mark.grown.Given as goal

abbrev pub invariant-loop-alloc : goal.invariant-loop-alloc
invariant-loop-alloc l =
    grown (map (λ t. t.now) l.tails.items) (string_bytes l.mark) ≡ grown (map (λ t. t.now) l.initial.tails.items) (string_bytes l.initial.mark)

abbrev pub decreases-loop-alloc : goal.decreases-loop-alloc
decreases-loop-alloc l = length (map (λ t. t.now) l.tails.items)
