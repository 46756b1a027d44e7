use Rattle.std.proofs.Common.{◌≡◌, ◌++◌, codes, ap, ◌∙◌}
use Rattle.std.proofs.lemmas.List.{append_assoc}
use Rattle.fhir_json.specs.Compact.{compact}
use Rattle.fhir_json.specs.Views.{tree_of}
use Rattle.fhir_commands.specs.Replies.{judgement_front}
use Rattle.fhir_commands.proofs.Judged.{judged}
use Rattle.fhir_commands.proofs.reply.judgement_line.Goals as goal

pub returns : goal.returns
returns c =
    let told = compact (tree_of c.args.outcome.now) in
    let front : c.extend_from_slice.new.self.items ≡ judgement_front c.args.standing =
    c.in_ok-extend_from_slice.ensures.items ∙ ap (λ t. t ++ c.as_bytes.result.now) c.new-line.ensures.items ∙ c.as_bytes.ensures.value ∙ c.judgement_front.ensures in
    let both : c.extend_from_slice-2.new.self.items ≡ judgement_front c.args.standing ++ told =
    c.in_ok-extend_from_slice-2.ensures.items
    ∙ ap (λ t. c.extend_from_slice.new.self.items ++ t) (c.deref.ensures.value ∙ c.in_ok-written.ensures.text)
    ∙ ap (λ t. t ++ told) front in
    c.in_ok-extend_from_slice-3.ensures.items ∙ ap (λ t. t ++ codes "}\n") both ∙ append_assoc (judgement_front c.args.standing) told (codes "}\n")
    ∙ judged c.args.standing (tree_of c.args.outcome.now)
