use Rattle.std.proofs.Common.{length, false, None, ap, sym, ◌∙◌, subst, get_or}
use Rattle.fhir_elements.specs.Causes.{is_blame_among, reason_unless}
use Rattle.fhir_elements.specs.declared.reason.Reason.TheVariants.{NoTree, UnsupportedSlicing}
use Rattle.fhir_forms.specs.Forms.{spells_apart}
use Rattle.fhir_forms.specs.Criteria.{are_told_apart}
use Rattle.fhir_schema.specs.Settling.{reason_at, chain_ends}
use Rattle.fhir_schema.proofs.Blamed.{mapped_at}
use Rattle.fhir_schema.proofs.settling.lasting_at.Goals as goal

pub returns : goal.returns
returns c =
    λ d at. (
    let ds = c.args.table.now in
    let place = c.args.place in
    record {
      ending = ap (λ l. get_or l place false) c.requires.ends ∙ mapped_at (chain_ends ds) ds place d false at;
      repeated = c.blame_at.ensures.reason ∙ ap (λ l. reason_at l place) c.requires.repeated
          ∙ mapped_at (λ x. reason_unless (spells_apart ds x) NoTree) ds place d None at;
      untold = c.blame_at-2.ensures.reason ∙ ap (λ l. reason_at l place) c.requires.untold
          ∙ mapped_at (λ x. reason_unless (are_told_apart ds x) UnsupportedSlicing) ds place d None at;
      repeated_within = subst (is_blame_among (length d.elements)) (sym c.blame_at.ensures.blame) (c.requires.repeated_within place d at);
      untold_within = subst (is_blame_among (length d.elements)) (sym c.blame_at-2.ensures.blame) (c.requires.untold_within place d at);
    })
