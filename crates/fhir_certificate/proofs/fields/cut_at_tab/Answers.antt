use Rattle.std.proofs.Common.{lit<}
use Rattle.fhir_certificate.proofs.Cuts.{first_cut}
use Rattle.fhir_certificate.proofs.fields.cut_at_tab.Goals as goal

pub returns : goal.returns
returns c = first_cut 9 c.args.text.now c.split_once.result c.split_once.ensures.cases (lit< tt)
