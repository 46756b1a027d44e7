-- What the name of a property means is one thing, and what a form spells.
use Rattle.std.proofs.Common.{◌≡◌, ℕ, zero, suc, ◌+◌, ◌<◌, Bool, true, false, not, cond, List, [], ◌∷◌, length, map, get_or, Some, is_some, IsTrue, refl, ap, sym, ◌∙◌, subst, arith}
use Rattle.std.specs.Cmp.{IsEquivalence}
use Rattle.std.specs.Str.{bytes_eq}
use Rattle.std.specs.List.{Contains, IsDistinct, AllByRecursion, list_any, slice_get}
use Rattle.std.specs.Map.{lookup, keys_of}
use Rattle.std.proofs.lemmas.Bool.{and_parts, or_parts, not-true}
use Rattle.std.proofs.lemmas.Option.{same_Some, none-some}
use Rattle.std.proofs.lemmas.Slice.Eq.{bytes_eq-Decides}
use Rattle.std.proofs.lemmas.Map.Views.{lookup-from_Contains, Contains-from_lookup}
use Rattle.fhir_json.specs.Tree.{Text}
use Rattle.fhir_json.specs.Sound.{is_among, differ}
use Rattle.fhir_definition.specs.Definition.{Definition}
use Rattle.fhir_forms.specs.declared.form.Property.{Property}
use Rattle.fhir_nodes.specs.Slots.{Slot, slots_of}
use Rattle.fhir_forms.specs.Forms.{Form, forms_under, if_apart, forms_of, are_apart, is_primitive, companion_name, spells, spellings_from, spellings, property_of}

-- ---- the forms of a schema are apart

alone : (fs : List Form) → IsTrue (are_apart (if_apart fs))
alone fs = go (are_apart fs) refl
  where
    go : (b : Bool) → are_apart fs ≡ b → IsTrue (are_apart (cond b fs []))
    go true e = e
    go false e = refl

alone_among : (ds : List Definition) (d : Definition) (all : List (List Slot)) (k : ℕ)
    → IsTrue (are_apart (get_or (map (λ slots. if_apart (forms_under ds d slots)) all) k []))
alone_among ds d [] k = refl
alone_among ds d (slots ∷ all) zero = alone (forms_under ds d slots)
alone_among ds d (slots ∷ all) (suc k) = alone_among ds d all k

alone_in : (ds : List Definition) (d : Definition) (k : ℕ) → IsTrue (are_apart (get_or (forms_of ds d) k []))
alone_in ds d k =
    elim d.is_type as (λ b. IsTrue (are_apart (get_or (cond b (map (λ slots. if_apart (forms_under ds d slots)) (slots_of ds d)) []) k [])))
    [ true ↦ alone_among ds d (slots_of ds d) k | false ↦ refl ]

pub alone_at : (ds some : List Definition) (n k : ℕ) → IsTrue (are_apart (get_or (get_or (map (forms_of ds) some) n []) k []))
alone_at ds [] n k = refl
alone_at ds (d ∷ some) zero k = alone_in ds d k
alone_at ds (d ∷ some) (suc n) k = alone_at ds some n k

-- ---- a name has one meaning, which is found

same_text : (x y : Text) → bytes_eq x y ≡ true → x ≡ y
same_text x y e = (bytes_eq-Decides x y).0 e

turned : (x y : Text) → bytes_eq x y ≡ bytes_eq y x
turned x y = go (bytes_eq x y) refl (bytes_eq y x) refl
  where
    go : (b : Bool) → bytes_eq x y ≡ b → (c : Bool) → bytes_eq y x ≡ c → b ≡ c
    go true e true f = refl
    go true e false f = sym (sym f ∙ (bytes_eq-Decides y x).1 (sym (same_text x y e)))
    go false e true f = sym e ∙ (bytes_eq-Decides x y).1 (sym (same_text y x f))
    go false e false f = refl

text_equivalence : IsEquivalence bytes_eq
text_equivalence = record {
  refl = λ x. (bytes_eq-Decides x x).1 refl;
  symm = turned;
  congr = λ x y z e. ap (λ w. bytes_eq w z) (same_text x y e);
}

other_than : (x : Text) (xs : List Text) → is_among x xs ≡ false → AllByRecursion (λ y. bytes_eq x y ≡ false) xs
other_than x [] h = tt
other_than x (y ∷ xs) h =
    let both = or_parts (bytes_eq x y) (is_among x xs) h in
    (both.0, other_than x xs both.1)

distinct : (xs : List Text) → IsTrue (differ xs) → IsDistinct bytes_eq xs
unfolding IsDistinct
distinct [] h = tt
distinct (x ∷ xs) h =
    let both = and_parts (not (is_among x xs)) (differ xs) h in
    (other_than x xs (not-true _ both.0), distinct xs both.1)

pub found : (fs : List Form) (name : Text) (p : Property) → IsTrue (are_apart fs) → Contains (spellings fs) (name, p) → property_of fs name ≡ Some p
found fs name p h spelled = lookup-from_Contains text_equivalence name p (spellings fs) (distinct (keys_of (spellings fs)) h) spelled

pub is_spelled : (fs : List Form) (name : Text) (p : Property) → property_of fs name ≡ Some p → Contains (spellings fs) (name, p)
is_spelled fs name p e = Contains-from_lookup same_text name p (spellings fs) e

pub one : (fs : List Form) (name : Text) (p q : Property) → IsTrue (are_apart fs) → Contains (spellings fs) (name, p)
    → Contains (spellings fs) (name, q) → p ≡ q
one fs name p q h first second = same_Some p q (sym (found fs name p h first) ∙ found fs name q h second)

-- ---- what is found is what a form spells

module _ (name : Text) where
  pub any_spells : (n : ℕ) (fs : List Form) → is_some (lookup (bytes_eq name) (spellings_from n fs)) ≡ list_any (λ f. spells f name) fs
  any_spells n [] = refl
  any_spells n (f ∷ fs) = go (bytes_eq name f.property) refl (is_primitive f.content) refl (bytes_eq name (companion_name f)) refl (any_spells (suc n) fs)
    where
      go : (a : Bool) → bytes_eq name f.property ≡ a → (p : Bool) → is_primitive f.content ≡ p → (b : Bool) → bytes_eq name (companion_name f) ≡ b
          → is_some (lookup (bytes_eq name) (spellings_from (suc n) fs)) ≡ list_any (λ f. spells f name) fs
          → is_some (lookup (bytes_eq name) (spellings_from n (f ∷ fs))) ≡ list_any (λ f. spells f name) (f ∷ fs)
      go true ea p ep b eb rest = rw ea refl
      go false ea true ep true eb rest = rw (ea, ep, eb) refl
      go false ea true ep false eb rest = rw (ea, ep, eb) rest
      go false ea false ep b eb rest = rw (ea, ep) rest

  -- the form of a meaning is among them, and spells the name
  abbrev IsSpeller : List Form → ℕ → Type 0
  IsSpeller fs k = (k < length fs) × ((f : Form) → slice_get fs k ≡ Some f → IsTrue (spells f name))

  abbrev Spelled : ℕ → List Form → Property → Type 0
  Spelled n fs p = (k : ℕ) × (p.form ≡ n + k) × IsSpeller fs k

  first_spells : (n : ℕ) (f : Form) (fs : List Form) (p q : Property) → q.form ≡ n → Some q ≡ Some p → IsTrue (spells f name) → Spelled n (f ∷ fs) p
  first_spells n f fs p q at e h =
      let form : p.form ≡ q.form = ap (λ r. r.form) (sym (same_Some q p e)) in
      (0, omega arith, (omega arith, λ g is. subst (λ x. IsTrue (spells x name)) (same_Some f g is) h))

  behind_spells : (n : ℕ) (f : Form) (fs : List Form) (p : Property) → Spelled (suc n) fs p → Spelled n (f ∷ fs) p
  behind_spells n f fs p h =
      (suc h.0, omega (arith, h.1), (omega (arith, h.2.0), h.2.1))

  pub speller : (n : ℕ) (fs : List Form) (p : Property) → lookup (bytes_eq name) (spellings_from n fs) ≡ Some p → Spelled n fs p
  speller n [] p e = absurd (none-some p e)
  speller n (f ∷ fs) p e =
      go (bytes_eq name f.property) refl (is_primitive f.content) refl (bytes_eq name (companion_name f)) refl
      (λ behind. behind_spells n f fs p (speller (suc n) fs p behind))
    where
      go : (a : Bool) → bytes_eq name f.property ≡ a → (b : Bool) → is_primitive f.content ≡ b → (c : Bool) → bytes_eq name (companion_name f) ≡ c
          → (lookup (bytes_eq name) (spellings_from (suc n) fs) ≡ Some p → Spelled n (f ∷ fs) p) → Spelled n (f ∷ fs) p
      go true ea b eb c ec rest = first_spells n f fs p (record { form = n; is_companion = false }) refl (rw ea at e) (rw ea refl)
      go false ea true eb true ec rest =
          first_spells n f fs p (record { form = n; is_companion = true }) refl (rw (ea, eb, ec) at e) (rw (ea, eb, ec) refl)
      go false ea true eb false ec rest = rest (rw (ea, eb, ec) at e)
      go false ea false eb c ec rest = rest (rw (ea, eb) at e)

  pub spells_it : (fs : List Form) (p : Property) → property_of fs name ≡ Some p → IsSpeller fs p.form
  spells_it fs p e =
      let at = speller 0 fs p e in
      let place : at.0 ≡ p.form = omega (arith, at.1) in
      subst (λ k. IsSpeller fs k) place at.2
