use Rattle.std.proofs.Common.{◌++◌, map, ap, ◌∙◌}
use Rattle.fhir_telling.specs.Verdicts.{verdict_of, worst}
use Rattle.fhir_telling.specs.Views.{judgement_seen}
use Rattle.fhir_telling.proofs.Parts.{told_by}
use Rattle.fhir_telling.proofs.own.told_of_profiles.Goals as goal

pub returns : goal.returns
returns c =
    let pushed = c.in_ok-push_judgements.ensures in
    let all = pushed.2 ∙ ap (λ js. map judgement_seen js ++ pushed.0) c.in_ok-judgements.ensures.items in
    record {
      first = judgement_seen c.in_ok-first.first;
      of_type = c.in_ok-first.ensures;
      others = pushed.0;
      of_claims = pushed.1;
      is = told_by _ _ _ _
          (c.of-verdict.ensures
          ∙ ap verdict_of (c.worst_of.ensures ∙ ap (λ js. worst (map (λ j. j.standing) (map judgement_seen js))) c.deref.ensures.value
          ∙ ap (λ js. worst (map (λ j. j.standing) js)) all))
          all;
    }
