use Rattle.fhir_beside.proofs.Marked.{mark_new, at_new, names_new}
use Rattle.fhir_beside.proofs.laws.names_mean_new.Goals as goal

pub returns : goal.returns
returns c = record { mark = mark_new; urls = at_new; canonicals = names_new }
