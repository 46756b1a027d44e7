-- The places under which keys are marked.
use Rattle.std.proofs.Common.{◌≡◌, ℕ, zero, suc, Bool, true, false, cond, List, [], ◌∷◌, ◌++◌, length, Option, Some, None, inl, inr, ◌⊎◌, refl, ap, sym, ◌∙◌, subst, IsTrue}
use Rattle.std.specs.List.{slice_get}
use Rattle.std.specs.Option.{option_map_or}
use Rattle.std.proofs.lemmas.Bool.{false≢true}
use Rattle.std.proofs.lemmas.List.{map-append}
use Rattle.std.proofs.lemmas.Option.{none-some, same_Some}
use Rattle.fhir_json.specs.Tree.{Text}
use Rattle.fhir_names.specs.Places.{Places, Puts}
use Rattle.fhir_reach.specs.declared.key.Key.{Key}
use Rattle.fhir_reach.specs.Keys.{KeyValue, of_url, of_code, key_seen, keys_seen, key_eq, has_key, with_key}
use Rattle.fhir_reach.specs.Places.{place_of_key, MarksKeys}
use Rattle.fhir_reach.proofs.Keys.{key_eq-true, key_eq-refl, same_tests, key_there, place_there}

-- a key has that place, and each other key the place that it had
abbrev pub PutsKey : Places → Places → Places → Places → KeyValue → ℕ → Type 0
PutsKey urls codes new_urls new_codes k place =
    (other : KeyValue) → place_of_key new_urls new_codes other ≡ cond (key_eq other k) (Some place) (place_of_key urls codes other)

pub puts_url : (urls codes new : Places) (url : Text) (place : ℕ) → Puts urls new url place → PutsKey urls codes new codes (of_url url) place
puts_url urls codes new url place puts (of_url other) = puts other
puts_url urls codes new url place puts (of_code other) = refl

pub puts_code : (urls codes new : Places) (code : Text) (place : ℕ) → Puts codes new code place → PutsKey urls codes urls new (of_code code) place
puts_code urls codes new code place puts (of_url other) = refl
puts_code urls codes new code place puts (of_code other) = puts other

snoc_cases : (keys : List KeyValue) (k : KeyValue) (n : ℕ) (x : KeyValue) → slice_get (keys ++ k ∷ []) n ≡ Some x
    → (slice_get keys n ≡ Some x) ⊎ ((n ≡ length keys) × (k ≡ x))
snoc_cases [] k zero x e = inr (refl, same_Some k x e)
snoc_cases [] k (suc n) x e = absurd (none-some x e)
snoc_cases (y ∷ keys) k zero x e = inl e
snoc_cases (y ∷ keys) k (suc n) x e =
    elim (snoc_cases keys k n x e) [
      | inl before ↦ inl before
      | inr last ↦ inr (ap suc last.0, last.1)
    ]

-- a key behind others, as contracts see them
pub seen_snoc : (old : List Key) (key : Key) (new : List Key) (k : KeyValue) → key_seen key ≡ k → new ≡ old ++ key ∷ [] → keys_seen new ≡ keys_seen old ++ k ∷ []
seen_snoc old key new k is e = ap keys_seen e ∙ map-append key_seen old (key ∷ []) ∙ ap (λ (x : KeyValue). keys_seen old ++ x ∷ []) is

module _ (urls codes new_urls new_codes : Places) (keys : List KeyValue) (k : KeyValue) (place : ℕ) (marks : MarksKeys urls codes keys)
    (none : has_key keys k ≡ false) (puts : PutsKey urls codes new_urls new_codes k place) where
  -- the marks stay as another key is marked
  pub marks_kept : MarksKeys new_urls new_codes keys
  marks_kept n x at = puts x ∙ by (key_eq x k) refl
    where
      by : (b : Bool) → key_eq x k ≡ b → cond b (Some place) (place_of_key urls codes x) ≡ Some n
      by true is = absurd (false≢true (sym none ∙ subst (λ y. has_key keys y ≡ true) (key_eq-true x k is) (key_there keys n x at)))
      by false is = marks n x at

  -- a key with its mark comes at the end
  pub marks_more : place ≡ length keys → MarksKeys new_urls new_codes (keys ++ k ∷ [])
  marks_more here n x at =
      elim (snoc_cases keys k n x at) [
        | inl before ↦ marks_kept n x before
        | inr last ↦
            puts x ∙ ap (λ (b : Bool). cond b (Some place) (place_of_key urls codes x)) (subst (λ y. key_eq y k ≡ true) last.1 (key_eq-refl k))
            ∙ ap Some (here ∙ sym last.0)
      ]

  pub pushed : keys ++ k ∷ [] ≡ with_key keys k
  pushed = sym (ap (λ (b : Bool). cond b keys (keys ++ k ∷ [])) none)

module _ (urls codes : Places) (keys : List KeyValue) (marks : MarksKeys urls codes keys) (k : KeyValue) where
  -- a key that has a place is there if it stands there
  pub has_marked : (place : ℕ) → place_of_key urls codes k ≡ Some place → option_map_or (key_eq k) (slice_get keys place) false ≡ has_key keys k
  has_marked place is = same_tests (option_map_or (key_eq k) (slice_get keys place) false) (has_key keys k) (by (slice_get keys place) refl) back
    where
      by : (o : Option KeyValue) → slice_get keys place ≡ o → IsTrue (option_map_or (key_eq k) o false) → IsTrue (has_key keys k)
      by None at h = absurd (false≢true h)
      by (Some x) at h = subst (λ y. has_key keys y ≡ true) (sym (key_eq-true k x h)) (key_there keys place x at)

      back : IsTrue (has_key keys k) → IsTrue (option_map_or (key_eq k) (slice_get keys place) false)
      back h =
          let there = place_there keys k h in
          let same : Some there.0 ≡ Some place = sym (marks there.0 k there.1) ∙ is in
          let one : there.0 ≡ place = cc in
          ap (λ (o : Option KeyValue). option_map_or (key_eq k) o false) (sym (ap (slice_get keys) one) ∙ there.1) ∙ key_eq-refl k

  -- a key that has none isn't there
  pub has_unmarked : place_of_key urls codes k ≡ None → false ≡ has_key keys k
  has_unmarked is = same_tests false (has_key keys k) (λ h. absurd (false≢true h)) back
    where
      back : IsTrue (has_key keys k) → IsTrue false
      back h =
          let there = place_there keys k h in
          absurd (none-some there.0 (sym is ∙ marks there.0 k there.1))
