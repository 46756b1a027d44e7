use Rattle.answer_laws.proofs.Certificates.{clean_at}
use Rattle.answer_laws.proofs.profiles.reports_by_status.Goals as goal

pub returns : goal.returns
returns c s folder manner files reply is = clean_at manner s reply is
