-- Items that are told by a text each: each text once.
use Rattle.std.specs.Prelude.{ℕ, List, map, count_by}
use Rattle.fhir_json.specs.Tree.{Text}
use Rattle.fhir_findings.specs.Firsts.{have_one_text, firsts}

-- the first item of a text, and how many have that text
pub record Told (A : Type 0) : Type 0 where
  pub first : A
  pub count : ℕ

-- each text once, by its first item
abbrev pub told_once : {A : Type 0} → (A → Text) → List A → List (Told A)
told_once text xs = map (λ x. record { first = x; count = count_by (have_one_text text x) xs }) (firsts text xs)
