use Rattle.std.proofs.Common.{lit<}
use Rattle.fhir_names.proofs.Cuts.{last_cut}
use Rattle.fhir_inheritance.proofs.keys.cut_at_last_colon.Goals as goal

pub returns : goal.returns
returns c = last_cut 58 c.args.text.now c.rsplit_once.result c.rsplit_once.ensures.cases (lit< tt)
