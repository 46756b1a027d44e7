use Rattle.fhir_gather.proofs.Readings.{given_gathered, unread_refused, all_were_given}
use Rattle.fhir_gather.proofs.laws.gathers.Goals as goal

pub returns-clause-given : goal.returns-clause-given
returns-clause-given c = given_gathered

pub returns-clause-unread : goal.returns-clause-unread
returns-clause-unread c = unread_refused

pub returns-clause-whole : goal.returns-clause-whole
returns-clause-whole c = all_were_given
