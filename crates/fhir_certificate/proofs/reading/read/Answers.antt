use Rattle.fhir_certificate.proofs.Judging.{is_found, is_only, is_refused, is_fit}
use Rattle.fhir_certificate.proofs.reading.read.Goals as goal

pub returns-clause-found : goal.returns-clause-found
returns-clause-found c = is_found c.args.schema.now c.args.bytes.now c.read_exactly.result c.read_exactly.ensures

pub returns-clause-only : goal.returns-clause-only
returns-clause-only c = λ w. is_only c.args.schema.now c.args.bytes.now c.read_exactly.result w c.read_exactly.ensures

pub returns-clause-refused : goal.returns-clause-refused
returns-clause-refused c = is_refused c.args.schema.now c.args.bytes.now c.read_exactly.result c.read_exactly.ensures

pub returns-clause-fits : goal.returns-clause-fits
returns-clause-fits c = is_fit c.named_nodes.ensures c.args.schema.now c.args.bytes.now c.read_exactly.result c.read_exactly.ensures
