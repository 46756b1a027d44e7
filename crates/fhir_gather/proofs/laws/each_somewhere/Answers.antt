use Rattle.fhir_gather.proofs.Keeping.{counts, only_taken, somewhere, told_of}
use Rattle.fhir_gather.proofs.laws.each_somewhere.Goals as goal

pub returns-clause-count : goal.returns-clause-count
returns-clause-count c = counts

pub returns-clause-only : goal.returns-clause-only
returns-clause-only c = only_taken

pub returns-clause-somewhere : goal.returns-clause-somewhere
returns-clause-somewhere c = somewhere

pub returns-clause-told : goal.returns-clause-told
returns-clause-told c = told_of
