use Rattle.std.proofs.Common.{◌∷◌, [], Some, codes, refl, ap}
use Rattle.fhir_codes.specs.Example.{set_of}
use Rattle.fhir_codes.specs.Concepts.{of_system}
use Rattle.fhir_codes.proofs.Letters.{all_of, without_b, without_other_c, united_a_c, common_a}
use Rattle.fhir_codes.proofs.worked.examples.Goals as goal

pub returns-clause-all : goal.returns-clause-all
returns-clause-all c = ap Some (all_of (set_of (codes "a" ∷ codes "b" ∷ codes "c" ∷ [])))

pub returns-clause-without : goal.returns-clause-without
returns-clause-without c = ap Some without_b

pub returns-clause-without_other : goal.returns-clause-without_other
returns-clause-without_other c = ap Some without_other_c

pub returns-clause-union_of : goal.returns-clause-union_of
returns-clause-union_of c = ap Some united_a_c

pub returns-clause-both : goal.returns-clause-both
returns-clause-both c = ap Some common_a

pub returns-clause-same_version : goal.returns-clause-same_version
returns-clause-same_version c = ap Some (all_of (of_system (codes "urn:second") (codes "a" ∷ [])))

pub returns-clause-filtered : goal.returns-clause-filtered
returns-clause-filtered c = refl

pub returns-clause-itself : goal.returns-clause-itself
returns-clause-itself c = refl

pub returns-clause-missing : goal.returns-clause-missing
returns-clause-missing c = refl
