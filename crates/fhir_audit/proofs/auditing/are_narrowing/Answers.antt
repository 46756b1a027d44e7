use Rattle.std.proofs.Common.{◌∙◌}
use Rattle.fhir_audit.specs.Verdicts.{is_narrowing}
use Rattle.fhir_audit.specs.Views.{audited_seen}
use Rattle.fhir_audit.proofs.Listing.{all_map}
use Rattle.fhir_audit.proofs.auditing.are_narrowing.Goals as goal

pub returns : goal.returns
returns c = c.all_narrow.ensures ∙ all_map (λ a. is_narrowing a.verdict) audited_seen c.args.audited.now
