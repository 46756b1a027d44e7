use Rattle.fhir_matching.specs.Equality.{equal}
use Rattle.fhir_matching.specs.Fitting.{fits}
use Rattle.conformance_laws.proofs.Found.{any, none, one_valued, one_typed}
use Rattle.conformance_laws.proofs.belonging.sought_items.Goals as goal

pub returns-clause-fixed_value : goal.returns-clause-fixed_value
returns-clause-fixed_value c s value xs = one_valued (equal value) xs

pub returns-clause-fitting : goal.returns-clause-fitting
returns-clause-fitting c s p xs = one_valued (λ json. fits json p) xs

pub returns-clause-present_one : goal.returns-clause-present_one
returns-clause-present_one c s xs = any xs

pub returns-clause-none : goal.returns-clause-none
returns-clause-none c s xs = none xs

pub returns-clause-of_type : goal.returns-clause-of_type
returns-clause-of_type c s types xs = one_typed s types xs
