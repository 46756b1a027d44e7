use Rattle.std.proofs.Common.{refl, ap, ◌∙◌}
use Rattle.fhir_vouching.proofs.Marks.{behind_mark}
use Rattle.fhir_vouching.proofs.given.without_mark.Goals as goal

pub returns : goal.returns
returns c = ap (λ r. r.now) c.unwrap_or.ensures ∙ behind_mark c.args.text.now c.strip_prefix.result c.args.text refl c.strip_prefix.ensures.cases
