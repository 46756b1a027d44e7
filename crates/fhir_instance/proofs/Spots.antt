-- Where the properties of each form are.
use Rattle.std.proofs.Common.{◌≡◌, ℕ, suc, Bool, true, false, List, [], ◌∷◌, length, nat_eq, refl, sym, ap, ◌∙◌, Option, None, Some, IsTrue, arith}
use Rattle.std.proofs.lemmas.Bool.Decides.{nat_tests}
use Rattle.std.specs.List.{slice_get}
use Rattle.std.specs.Str.{bytes_eq}
use Rattle.fhir_json.specs.Tree.{Text}
use Rattle.fhir_forms.specs.declared.form.Property.{Property}
use Rattle.fhir_forms.specs.Forms.{Form, is_primitive, companion_name, spells, are_apart}
use Rattle.fhir_schema.specs.Schemas.{SchemaValue, forms}
use Rattle.fhir_instance.specs.Typing.{Frame, is_of_role}
use Rattle.fhir_instance.specs.declared.spelled.Spelled.{Spelled}
use Rattle.fhir_instance.specs.declared.spelled.Places.{Places}
use Rattle.fhir_instance.specs.Spelled.{property_meant, spelled_from, of_form, places_among, places_from}
use Rattle.fhir_instance.proofs.Meanings.{same_text, turned, role_means, meant_of_role}

itself : (k : ℕ) → nat_eq k k ≡ true
itself k = grind (arith, nat_tests)

same_number : (k m : ℕ) → nat_eq k m ≡ true → k ≡ m
same_number k m e = grind (arith, nat_tests)

-- a companion's name isn't the property's
longer : (f : Form) → bytes_eq (companion_name f) f.property ≡ false
longer f = go (bytes_eq (companion_name f) f.property) refl
  where
    go : (b : Bool) → bytes_eq (companion_name f) f.property ≡ b → b ≡ false
    go true e =
        let same : suc (length f.property) ≡ length f.property = ap length (same_text (companion_name f) f.property e) in absurd (omega arith)
    go false e = refl

module _ (s : SchemaValue) (fr : Frame) where
  -- what is a form's is one of the frame's
  pub one_of_role : (n : ℕ) (names : List Text) (k : ℕ) (e : Spelled) (es : List Spelled) → of_form k (spelled_from s fr n names) ≡ e ∷ es
      → (f : Form) × (slice_get (forms s fr.node) k ≡ Some f) × (is_of_role fr.role f ≡ true)
  one_of_role n [] k e es h = absurd cc
  one_of_role n (x ∷ names) k e es h = go (property_meant s fr x) refl (λ t. one_of_role (suc n) names k e es t)
    where
      go : (o : Option Property) → property_meant s fr x ≡ o → (of_form k (spelled_from s fr (suc n) names) ≡ e ∷ es
          → (f : Form) × (slice_get (forms s fr.node) k ≡ Some f) × (is_of_role fr.role f ≡ true))
          → (f : Form) × (slice_get (forms s fr.node) k ≡ Some f) × (is_of_role fr.role f ≡ true)
      go None is later = later (rw is at h)
      go (Some p) is later = here (nat_eq k p.form) refl
        where
          here : (b : Bool) → nat_eq k p.form ≡ b → (f : Form) × (slice_get (forms s fr.node) k ≡ Some f) × (is_of_role fr.role f ≡ true)
          here true k_is =
              let r = meant_of_role fr.role (forms s fr.node) x p is in
              (r.0, ap (λ (j : ℕ). slice_get (forms s fr.node) j) (same_number k p.form k_is) ∙ r.1, r.2)
          here false k_is = later (rw (is, k_is) at h)

  module _ (k : ℕ) (f : Form) (apart : IsTrue (are_apart (forms s fr.node))) (at : slice_get (forms s fr.node) k ≡ Some f)
      (q : is_of_role fr.role f ≡ true) where
    -- one property more, before the others: one that the form spells
    spelled_value : (n : ℕ) (x : Text) (names : List Text) → bytes_eq x f.property ≡ true
        → places_among (of_form k (spelled_from s fr (suc n) names)) ≡ places_from (suc n) names f
        → places_among (of_form k (spelled_from s fr n (x ∷ names))) ≡ places_from n (x ∷ names) f
    spelled_value n x names e ih =
        let spelt : spells f x ≡ true = rw e refl in
        let means : property_meant s fr x ≡ Some (record { form = k; is_companion = false }) =
        role_means fr.role (forms s fr.node) x k f apart at q spelt ∙ rw e refl in
        let value : bytes_eq f.property x ≡ true = turned x f.property true e in
        let companion : bytes_eq (companion_name f) x ≡ false = ap (λ (y : Text). bytes_eq (companion_name f) y) (same_text x f.property e) ∙ longer f in
        rw (means, itself k, value, companion) (ap (λ (p : Places). record { value = Some n; companion = p.companion }) ih)

    spelled_companion : (n : ℕ) (x : Text) (names : List Text) → is_primitive f.content ≡ true → bytes_eq x f.property ≡ false
        → bytes_eq x (companion_name f) ≡ true
        → places_among (of_form k (spelled_from s fr (suc n) names)) ≡ places_from (suc n) names f
        → places_among (of_form k (spelled_from s fr n (x ∷ names))) ≡ places_from n (x ∷ names) f
    spelled_companion n x names prim d e ih =
        let spelt : spells f x ≡ true = rw (d, prim, e) refl in
        let means : property_meant s fr x ≡ Some (record { form = k; is_companion = true }) =
        role_means fr.role (forms s fr.node) x k f apart at q spelt ∙ rw d refl in
        let value : bytes_eq f.property x ≡ false = turned x f.property false d in
        let companion : bytes_eq (companion_name f) x ≡ true = turned x (companion_name f) true e in
        rw (means, itself k, value, companion, prim) (ap (λ (p : Places). record { value = p.value; companion = Some n }) ih)

    -- one that it doesn't spell
    elsewhere : (n : ℕ) (x : Text) (names : List Text) → spells f x ≡ false
        → of_form k (spelled_from s fr n (x ∷ names)) ≡ of_form k (spelled_from s fr (suc n) names)
    elsewhere n x names d = go (property_meant s fr x) refl
      where
        go : (o : Option Property) → property_meant s fr x ≡ o → of_form k (spelled_from s fr n (x ∷ names)) ≡ of_form k (spelled_from s fr (suc n) names)
        go None is = rw is refl
        go (Some p) is = here (nat_eq k p.form) refl
          where
            here : (b : Bool) → nat_eq k p.form ≡ b → of_form k (spelled_from s fr n (x ∷ names)) ≡ of_form k (spelled_from s fr (suc n) names)
            here true k_is =
                let r = meant_of_role fr.role (forms s fr.node) x p is in
                let same : slice_get (forms s fr.node) k ≡ Some r.0 = ap (λ (j : ℕ). slice_get (forms s fr.node) j) (same_number k p.form k_is) ∙ r.1 in
                let one : f ≡ r.0 = cc in
                let clash : true ≡ false = sym r.3 ∙ ap (λ (g : Form). spells g x) (sym one) ∙ d in absurd cc
            here false k_is = rw (is, k_is) refl

    unspelled : (n : ℕ) (x : Text) (names : List Text) → spells f x ≡ false → places_from n (x ∷ names) f ≡ places_from (suc n) names f
    unspelled n x names d = go (is_primitive f.content) refl (bytes_eq x f.property) refl (bytes_eq x (companion_name f)) refl
      where
        go : (p : Bool) → is_primitive f.content ≡ p → (a : Bool) → bytes_eq x f.property ≡ a → (b : Bool) → bytes_eq x (companion_name f) ≡ b
            → places_from n (x ∷ names) f ≡ places_from (suc n) names f
        go p p_is true a_is b b_is = absurd (let e = rw a_is at d in cc)
        go true p_is false a_is true b_is = absurd (let e = rw (a_is, p_is, b_is) at d in cc)
        go true p_is false a_is false b_is = rw (p_is, turned x f.property false a_is, turned x (companion_name f) false b_is) refl
        go false p_is false a_is b b_is = rw (p_is, turned x f.property false a_is) refl

    -- the first properties that are the form's are those that its names find
    pub places_found : (n : ℕ) (names : List Text) → places_among (of_form k (spelled_from s fr n names)) ≡ places_from n names f
    places_found n [] = go (is_primitive f.content) refl
      where
        go : (p : Bool) → is_primitive f.content ≡ p → places_among [] ≡ places_from n [] f
        go true is = rw is refl
        go false is = rw is refl
    places_found n (x ∷ names) = go (bytes_eq x f.property) refl (is_primitive f.content) refl (bytes_eq x (companion_name f)) refl (places_found (suc n) names)
      where
        other : spells f x ≡ false → places_among (of_form k (spelled_from s fr (suc n) names)) ≡ places_from (suc n) names f
            → places_among (of_form k (spelled_from s fr n (x ∷ names))) ≡ places_from n (x ∷ names) f
        other d ih = ap places_among (elsewhere n x names d) ∙ ih ∙ sym (unspelled n x names d)

        go : (a : Bool) → bytes_eq x f.property ≡ a → (p : Bool) → is_primitive f.content ≡ p → (b : Bool) → bytes_eq x (companion_name f) ≡ b
            → places_among (of_form k (spelled_from s fr (suc n) names)) ≡ places_from (suc n) names f
            → places_among (of_form k (spelled_from s fr n (x ∷ names))) ≡ places_from n (x ∷ names) f
        go true a_is p p_is b b_is ih = spelled_value n x names a_is ih
        go false a_is true p_is true b_is ih = spelled_companion n x names p_is a_is b_is ih
        go false a_is true p_is false b_is ih = other (rw (a_is, p_is, b_is) refl) ih
        go false a_is false p_is b b_is ih = other (rw (a_is, p_is) refl) ih
