use Rattle.std.proofs.Common.{lit<}
use Rattle.fhir_names.proofs.Cuts.{first_cut}
use Rattle.fhir_alike.proofs.naming.cut_at_hash.Goals as goal

pub returns : goal.returns
returns c = first_cut 35 c.args.text.now c.split_once.result c.split_once.ensures.cases (lit< tt)
