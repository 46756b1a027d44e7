use Rattle.std.proofs.Common.{◌≡◌, map, drop}
use Rattle.std.specs.List.{fold}
use Rattle.fhir_telling.specs.Verdicts.{worse, worst}
use Rattle.fhir_telling.specs.Views.{judgement_seen}
use Rattle.fhir_telling.proofs.own.worst_of.Given as goal

abbrev pub invariant-loop-judgement : goal.invariant-loop-judgement
invariant-loop-judgement l =
    fold worse l.standing (map (λ j. j.standing) (map judgement_seen (drop l.judgement-index l.judgements)))
    ≡ worst (map (λ j. j.standing) (map judgement_seen l.judgements))
