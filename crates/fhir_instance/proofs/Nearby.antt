-- What the name of a property means that a form near at hand has.
use Rattle.std.proofs.Common.{◌≡◌, ℕ, ◌+◌, true, false, List, refl, ap, ◌∙◌, Option, None, Some, IsTrue, arith}
use Rattle.std.specs.List.{slice_get}
use Rattle.std.specs.Str.{bytes_eq}
use Rattle.fhir_json.specs.Tree.{Text}
use Rattle.fhir_forms.specs.Forms.{Form, spells, property_of, are_apart}
use Rattle.fhir_instance.specs.Near.{HasProperty}
use Rattle.fhir_instance.proofs.Meanings.{means_form, meant}

-- it is that form's, since they are apart
pub near_means : (fs : List Form) (x : Text) (k : ℕ) → IsTrue (are_apart fs) → HasProperty fs x k
    → property_of fs x ≡ Some (record { form = k; is_companion = false })
near_means fs x k apart has = go (slice_get fs k) refl
  where
    go : (o : Option Form) → slice_get fs k ≡ o → property_of fs x ≡ Some (record { form = k; is_companion = false })
    go None at = absurd (let e = rw at at has in cc)
    go (Some f) at =
        let some : Some (bytes_eq x f.property) ≡ Some true = rw at at has in
        let same : bytes_eq x f.property ≡ true = cc in
        let spelt : spells f x ≡ true = rw same refl in
        let sum : 0 + k ≡ k = omega arith in
        means_form 0 fs x k f apart at spelt ∙ ap (λ (j : ℕ). Some (meant j f x)) sum ∙ rw same refl
