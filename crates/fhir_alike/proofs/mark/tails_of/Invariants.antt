use Rattle.std.proofs.Common.{◌≡◌, ◌++◌, map, drop}
use Rattle.fhir_alike.specs.Mark.{tails_of}
use Rattle.fhir_alike.proofs.mark.tails_of.Given as goal

abbrev pub invariant-loop-text : goal.invariant-loop-text
invariant-loop-text l =
    map (λ t. t.now) l.tails.items ++ tails_of l.stem (map (λ t. t.now) (drop l.text-index l.texts)) ≡ tails_of l.stem (map (λ t. t.now) l.texts)
