use Rattle.std.proofs.Common.{refl}
use Rattle.fhir_slicing.proofs.laws.belonging_examples.Goals as goal

pub returns-clause-by_value : goal.returns-clause-by_value
returns-clause-by_value c = refl

pub returns-clause-other_value : goal.returns-clause-other_value
returns-clause-other_value c = refl

pub returns-clause-no_slice : goal.returns-clause-no_slice
returns-clause-no_slice c = refl

pub returns-clause-by_pattern : goal.returns-clause-by_pattern
returns-clause-by_pattern c = refl

pub returns-clause-other_pattern : goal.returns-clause-other_pattern
returns-clause-other_pattern c = refl

pub returns-clause-by_presence : goal.returns-clause-by_presence
returns-clause-by_presence c = refl

pub returns-clause-not_there : goal.returns-clause-not_there
returns-clause-not_there c = refl

pub returns-clause-by_absence : goal.returns-clause-by_absence
returns-clause-by_absence c = refl

pub returns-clause-is_there : goal.returns-clause-is_there
returns-clause-is_there c = refl

pub returns-clause-by_type : goal.returns-clause-by_type
returns-clause-by_type c = refl

pub returns-clause-other_type : goal.returns-clause-other_type
returns-clause-other_type c = refl

pub returns-clause-by_url : goal.returns-clause-by_url
returns-clause-by_url c = refl

pub returns-clause-other_url : goal.returns-clause-other_url
returns-clause-other_url c = refl

pub returns-clause-by_base_type : goal.returns-clause-by_base_type
returns-clause-by_base_type c = refl

pub returns-clause-by_both : goal.returns-clause-by_both
returns-clause-by_both c = refl

pub returns-clause-by_one : goal.returns-clause-by_one
returns-clause-by_one c = refl

pub returns-clause-of_two_kinds : goal.returns-clause-of_two_kinds
returns-clause-of_two_kinds c = refl

pub returns-clause-itself : goal.returns-clause-itself
returns-clause-itself c = refl
