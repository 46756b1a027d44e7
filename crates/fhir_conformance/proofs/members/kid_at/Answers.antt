use Rattle.std.proofs.Common.{ap, sym, ◌∙◌, Some}
use Rattle.fhir_instance.specs.Items.{Item, Kids}
use Rattle.fhir_conformance.specs.Positions.{kid_at}
use Rattle.fhir_conformance.proofs.KidAt.{is_there, is_not_there}
use Rattle.fhir_conformance.proofs.members.kid_at.Goals as goal

pub returns-then-position-kids : goal.returns-then-position-kids
returns-then-position-kids c =
    let kid = c.index-kids-position in
    ap (λ (x : Item). Some x) c.item.ensures
    ∙ sym (is_there c.kids-kids.result.now c.args.position kid.result c.if-position-kids.true kid.is)
    ∙ ap (λ (ks : Kids). kid_at ks c.args.position) c.kids-kids.ensures

pub returns-else-position-kids : goal.returns-else-position-kids
returns-else-position-kids c =
    sym (is_not_there c.kids-kids.result.now c.args.position c.if-position-kids.false) ∙ ap (λ (ks : Kids). kid_at ks c.args.position) c.kids-kids.ensures
