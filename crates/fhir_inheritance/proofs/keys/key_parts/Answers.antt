use Rattle.std.proofs.Common.{lit<}
use Rattle.fhir_names.proofs.Cuts.{first_cut}
use Rattle.fhir_inheritance.proofs.keys.key_parts.Goals as goal

pub returns : goal.returns
returns c = first_cut 10 c.args.name.now c.split_once.result c.split_once.ensures.cases (lit< tt)
