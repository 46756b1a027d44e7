use Rattle.std.proofs.Common.{◌∙◌, ap}
use Rattle.fhir_audit.specs.Views.{all_audited}
use Rattle.fhir_markup.specs.Views.{element_node}
use Rattle.fhir_page.proofs.Pages.{is_written}
use Rattle.fhir_page.proofs.making.page.Goals as goal

pub returns : goal.returns
returns c =
    is_written (all_audited c.args.audited.now) c.as_str.result.now (element_node c.in_ok-main.main) (element_node c.in_ok-page.page)
    c.into_bytes.result.items (ap (λ (v : _). v.items) c.into_bytes.ensures.value ∙ c.in_ok-text.ensures) c.in_ok-page.ensures c.in_ok-main.ensures
