use Rattle.std.proofs.Common.{lit<}
use Rattle.fhir_certificate.proofs.Cuts.{first_cut, first_line, first_ended}
use Rattle.fhir_certificate.proofs.fields.cut_at_feed.Goals as goal

pub returns-clause-parts : goal.returns-clause-parts
returns-clause-parts c = first_cut 10 c.args.text.now c.split_once.result c.split_once.ensures.cases (lit< tt)

pub returns-clause-lines : goal.returns-clause-lines
returns-clause-lines c = first_line c.args.text.now c.split_once.result c.split_once.ensures.cases

pub returns-clause-ended : goal.returns-clause-ended
returns-clause-ended c = first_ended c.args.text.now c.split_once.result c.split_once.ensures.cases
