use Rattle.fhir_package.proofs.Given.{all_given-given, given-all_given, not_given, folder_given}
use Rattle.fhir_package.proofs.laws.given_files.Goals as goal

pub returns-clause-given : goal.returns-clause-given
returns-clause-given c = all_given-given

pub returns-clause-only : goal.returns-clause-only
returns-clause-only c = given-all_given

pub returns-clause-missing : goal.returns-clause-missing
returns-clause-missing c = not_given

pub returns-clause-of_folder : goal.returns-clause-of_folder
returns-clause-of_folder c = folder_given
