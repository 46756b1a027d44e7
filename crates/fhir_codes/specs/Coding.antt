-- A code of concepts, by which a proof tells two apart.
use Rattle.std.specs.Prelude.{refl}
use Rattle.std.specs.Coded.{Coded, code_by, coded×, coded_list, coded_ℕ}
use Rattle.std.specs.FinSet as set
use Rattle.fhir_json.specs.Tree.{Text}
use Rattle.fhir_codes.specs.Concepts.{Concept, Concepts}

-- a concept is kept as the pair of its texts
abbrev pub concept_code : Coded Concept
concept_code =
    code_by (Text × Text) (coded× (coded_list coded_ℕ) (coded_list coded_ℕ)) (λ c. (c.system, c.code)) (λ p. record { system = p.0; code = p.1 }) (λ _. refl)

-- the same of sets of them
abbrev pub concepts_code : Coded Concepts
concepts_code = set.code concept_code
