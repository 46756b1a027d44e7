-- What is no integer.
use Rattle.std.proofs.Common.{◌≡◌, ℕ, List, [], ◌∷◌, None, refl, sym, ap, ◌∙◌, ne_eqb}
use Rattle.std.proofs.lemmas.Bool.{cond-false}
use Rattle.std.specs.Option.{option_map}
use Rattle.std.specs.Prelude.{pos}
use Rattle.fhir_json.specs.Fields.{count_of}
use Rattle.fhir_elements.specs.Integers.{integer_of}

pub no_integer : (text : List ℕ) → ((rest : List ℕ) → text ≡ 45 ∷ rest → ⊥) → None ≡ count_of text → None ≡ integer_of text
no_integer [] other none = refl
no_integer (b ∷ bs) other none =
    ap (option_map pos) none ∙ sym (cond-false _ _ _ (ne_eqb b 45 (λ e. other bs (ap (λ x. x ∷ bs) e))))
