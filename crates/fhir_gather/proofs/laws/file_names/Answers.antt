use Rattle.fhir_gather.proofs.Names.{rising_names, plain_names, short_names}
use Rattle.fhir_gather.proofs.laws.file_names.Goals as goal

pub returns-clause-rising : goal.returns-clause-rising
returns-clause-rising c = rising_names

pub returns-clause-plain : goal.returns-clause-plain
returns-clause-plain c = plain_names

pub returns-clause-short : goal.returns-clause-short
returns-clause-short c = short_names
