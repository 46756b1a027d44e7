use Rattle.fhir_page_frame.proofs.Names.{end_behind}
use Rattle.fhir_page_frame.proofs.pieces.cut_at_last_slash.Goals as goal

pub returns : goal.returns
returns c = end_behind c.args.url.now c.rsplit_once.result c.rsplit_once.ensures.cases
