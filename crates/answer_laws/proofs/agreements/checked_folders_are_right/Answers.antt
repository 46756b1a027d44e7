use Rattle.answer_laws.proofs.Certificates.{clean_at}
use Rattle.answer_laws.proofs.Checked.{checked_right}
use Rattle.answer_laws.proofs.agreements.checked_folders_are_right.Goals as goal

pub returns : goal.returns
returns c folder s named manner files reply is replied status =
    checked_right c.least_closed.ensures.closed s is.completed ((clean_at manner s reply replied).0 status).1
