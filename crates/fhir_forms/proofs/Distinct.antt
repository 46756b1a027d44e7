-- The discriminators of a slicing, each once.
use Rattle.std.proofs.Common.{◌≡◌, ℕ, zero, suc, ◌<◌, Bool, true, false, cond, if◌then◌else◌, Option, None, Some, is_some, true≢false, List, [], ◌∷◌, ◌++◌, length, map, get_or, refl, subst, ap, sym, ◌∙◌, arith}
use Rattle.std.specs.Option.{option_map}
use Rattle.std.specs.List.{list_all}
use Rattle.std.proofs.lemmas.List.{map-append, length-map}
use Rattle.std.proofs.lemmas.Bool.{and_left, and_right, false≢true}
use Rattle.fhir_json.specs.Tree.{Text}
use Rattle.fhir_json.specs.Sound.{is_among}
use Rattle.fhir_names.specs.Places.{Places, place_of, Finds}
use Rattle.fhir_elements.specs.declared.reason.Reason.{Reason}
use Rattle.fhir_elements.specs.declared.cause.Cause.{Cause}
use Rattle.fhir_elements.specs.Causes.{reason_of, reason_unless}
use Rattle.fhir_elements.specs.Slicing.{Discriminator}
use Rattle.fhir_elements.specs.Element.{Element}
use Rattle.fhir_nodes.specs.Slots.{Slot}
use Rattle.fhir_forms.specs.declared.slicings.Test.{Test}
use Rattle.fhir_forms.specs.Slicings.{key_of, put_new}
use Rattle.fhir_forms.specs.Criteria.{Criterion, criterion_of, is_told}
use Rattle.fhir_forms.specs.CriteriaSeen.{test_seen, tests_seen}
use Rattle.fhir_forms.proofs.Spelled.{is_found}

module _ (places : Places) (ds : List Discriminator) (d : Discriminator) (h : Finds places (map key_of ds)) where
  among : is_some (place_of places (key_of d)) ≡ is_among (key_of d) (map key_of ds)
  among = is_found places (map key_of ds) (key_of d) h

  pub one_again : is_some (place_of places (key_of d)) ≡ true → ds ≡ put_new ds d
  one_again there = sym (ap (λ b. cond b ds (ds ++ d ∷ [])) (sym among ∙ there))

  pub one_new : is_some (place_of places (key_of d)) ≡ false → ds ++ d ∷ [] ≡ put_new ds d
  one_new isnt = sym (ap (λ b. cond b ds (ds ++ d ∷ [])) (sym among ∙ isnt))

pub found_new : (places new : Places) (old more : List Test) (test : Test) (name : Text) (n : ℕ) → more ≡ old ++ test ∷ [] → name ≡ key_of (test_seen test)
    → n ≡ length old → ((names : List Text) → Finds places names → length names ≡ n → Finds new (names ++ name ∷ []))
    → Finds places (map key_of (tests_seen old)) → Finds new (map key_of (tests_seen more))
found_new places new old more test name n pushed named count added h =
    subst (Finds new) (sym keys) (added (map key_of (tests_seen old)) h (length-map (tests_seen old) key_of ∙ length-map old test_seen ∙ sym count))
  where
    keys : map key_of (tests_seen more) ≡ map key_of (tests_seen old) ++ name ∷ []
    keys =
        ap (λ l. map key_of (tests_seen l)) pushed ∙ ap (map key_of) (map-append test_seen old (test ∷ []))
        ∙ map-append key_of (tests_seen old) (test_seen test ∷ []) ∙ ap (λ k. map key_of (tests_seen old) ++ k ∷ []) (sym named)

-- where one of them isn't told, not all are
one_fails : (p : Discriminator → Bool) (tests : List Test) (i : ℕ) (d : Test) → i < length tests → p (test_seen (get_or tests i d)) ≡ false
    → list_all p (tests_seen tests) ≡ false
one_fails p [] i d within isnt = absurd (omega arith)
one_fails p (x ∷ tests) zero d within isnt = and_left (p (test_seen x)) (list_all p (tests_seen tests)) isnt
one_fails p (x ∷ tests) (suc i) d within isnt =
    let below : i < length tests = omega arith in
    and_right (p (test_seen x)) (list_all p (tests_seen tests)) (one_fails p tests i d below isnt)

pub not_all_told : (slots : List (List Slot)) (es : List Element) (place : ℕ) (tests : List Test) (i : ℕ) (d : Test) (found : Option Criterion)
    → i < length tests → found ≡ criterion_of slots es place (test_seen (get_or tests i d)) → is_some found ≡ false
    → false ≡ list_all (is_told slots es place) (tests_seen tests)
not_all_told slots es place tests i d found within is none =
    sym (one_fails (is_told slots es place) tests i d within (ap is_some (sym is) ∙ none))

-- where there is a cause there are no criteria
pub none_told : (b : Bool) (cause : Option Cause) (r : Reason) (xs : List Criterion) → is_some cause ≡ true → option_map reason_of cause ≡ reason_unless b r
    → [] ≡ (if b then xs else [])
none_told true None r xs there is = absurd (false≢true there)
none_told true (Some cause) r xs there is = absurd (true≢false (ap is_some is))
none_told false cause r xs there is = refl
