-- Definitions whose lines are read, one behind the other.
use Rattle.std.proofs.Common.{◌≡◌, ℕ, zero, suc, ◌+◌, Bool, true, false, not, ◌&&◌, ◌||◌, List, [], ◌∷◌, ◌++◌, length, map, Option, Some, None, is_some, is_none, inl, inr, refl, sym, ap, subst, ◌∙◌, arith, length-append}
use Rattle.std.specs.Option.{option_map_or}
use Rattle.std.specs.Str.{bytes_eq}
use Rattle.std.proofs.lemmas.Bool.{cases_Bool, false≢true, false_from_ne_true}
use Rattle.std.proofs.lemmas.List.{map-append, length-map, append_assoc}
use Rattle.std.proofs.lemmas.Slice.Eq.{bytes_eq-Decides}
use Rattle.fhir_json.specs.Tree.{Text}
use Rattle.fhir_json.specs.Sound.{is_among, differ}
use Rattle.fhir_json.proofs.Names.{among_append}
use Rattle.fhir_names.specs.Places.{place_of, Finds}
use Rattle.fhir_certificate.specs.declared.stated.StatedText.{StatedText}
use Rattle.fhir_certificate.specs.declared.stating.DefinitionLines.{DefinitionLines}
use Rattle.fhir_certificate.specs.Numbers.{number_text, number_texts}
use Rattle.fhir_certificate.specs.Format.{Stated, urls_of}
use Rattle.fhir_certificate.specs.Reading.{cut_at, lines_of, definition_lines, behind_lines}
use Rattle.fhir_certificate.specs.Views.{stated_seen}
use Rattle.fhir_certificate.specs.Stating.{AreLines}
use Rattle.fhir_certificate.proofs.Found.{is_found}

pub numbers_push : {A : Type 0} (n : ℕ) (xs : List A) (x : A) → number_texts n (xs ++ x ∷ []) ≡ number_texts n xs ++ number_text (n + length xs) ∷ []
numbers_push n [] x = let e : n ≡ n + 0 = omega arith in ap (λ (k : ℕ). number_text k ∷ []) e
numbers_push n (y ∷ xs) x =
    let e : n + 1 + length xs ≡ n + suc (length xs) = omega arith in
    ap (λ (l : List Text). number_text n ∷ l) (numbers_push (n + 1) xs x ∙ ap (λ (k : ℕ). number_texts (n + 1) xs ++ number_text k ∷ []) e)

pub numbers_count : {A : Type 0} (n : ℕ) (xs : List A) → length (number_texts n xs) ≡ length xs
numbers_count n [] = refl
numbers_count n (x ∷ xs) = ap suc (numbers_count (n + 1) xs)

same_text : (x y : Text) → bytes_eq x y ≡ bytes_eq y x
same_text x y =
    elim (cases_Bool (bytes_eq x y)) [
      | inl is ↦ is ∙ sym ((bytes_eq-Decides y x).1 (sym ((bytes_eq-Decides x y).0 is)))
      | inr isnt ↦ isnt ∙ sym (false_from_ne_true _ (λ is. false≢true (sym isnt ∙ (bytes_eq-Decides x y).1 (sym ((bytes_eq-Decides y x).0 is)))))
    ]

regroup : (a b c d : Bool) → (not (a || b) && (c && not d)) ≡ ((not a && c) && not (b || d))
regroup true b c d = refl
regroup false true true d = refl
regroup false true false d = refl
regroup false false c d = refl

-- one more url
pub differ_push : (xs : List Text) (y : Text) → differ (xs ++ y ∷ []) ≡ (differ xs && not (is_among y xs))
differ_push [] y = refl
differ_push (x ∷ xs) y =
    let among : is_among x (xs ++ y ∷ []) ≡ (is_among x xs || bytes_eq y x) =
    among_append x xs (y ∷ []) ∙ ap (λ b. is_among x xs || b) (or_false (bytes_eq x y) ∙ same_text x y) in
    rw (among, differ_push xs y) (regroup (is_among x xs) (bytes_eq y x) (differ xs) (is_among y xs))
  where
    or_false : (b : Bool) → (b || false) ≡ b
    or_false true = refl
    or_false false = refl

none_some : {A : Type 0} (o : Option A) → is_none o ≡ not (is_some o)
none_some None = refl
none_some (Some x) = refl

pub lines_push : (old new : DefinitionLines) (d : StatedText) (place : ℕ) → place ≡ length old.stated.items
    → new.stated.items ≡ old.stated.items ++ d ∷ []
    → is_none new.repeated ≡ (is_none old.repeated && is_none (place_of old.urls d.url.now))
    → ((names : List Text) → Finds old.urls names → length names ≡ place → Finds new.urls (names ++ d.url.now ∷ []))
    → ((names : List Text) → Finds old.numbers names → length names ≡ place → Finds new.numbers (names ++ number_text place ∷ []))
    → (ds : List Stated) → AreLines old ds → AreLines new (ds ++ stated_seen d ∷ [])
lines_push old new d place last items none urls numbers ds h =
    let few : length ds ≡ place = ap length (sym h.stated) ∙ length-map old.stated.items stated_seen ∙ sym last in
    let urls_are : urls_of (ds ++ stated_seen d ∷ []) ≡ urls_of ds ++ d.url.now ∷ [] = map-append (λ d. d.url) ds (stated_seen d ∷ []) in
    let numbers_are : number_texts 0 (ds ++ stated_seen d ∷ []) ≡ number_texts 0 ds ++ number_text place ∷ [] =
    numbers_push 0 ds (stated_seen d) ∙ ap (λ (k : ℕ). number_texts 0 ds ++ number_text k ∷ []) (let e : 0 + length ds ≡ place = omega (arith, few) in e) in
    record {
      stated = ap (map stated_seen) items ∙ map-append stated_seen old.stated.items (d ∷ []) ∙ ap (λ (l : List Stated). l ++ stated_seen d ∷ []) h.stated;
      numbers = subst (Finds new.numbers) (sym numbers_are) (numbers (number_texts 0 ds) h.numbers (numbers_count 0 ds ∙ few));
      urls = subst (Finds new.urls) (sym urls_are) (urls (urls_of ds) h.urls (length-map ds (λ d. d.url) ∙ few));
      apart =
          none ∙ rw (h.apart, none_some (place_of old.urls d.url.now), is_found old.urls (urls_of ds) d.url.now h.urls) refl
          ∙ sym (ap differ urls_are ∙ differ_push (urls_of ds) d.url.now);
    }

-- ---- one line after the other

behind_empty : behind_lines 1 [] ≡ []
behind_empty = refl

behind_step : (n : ℕ) (o : Option (Text × Text)) → ((text : Text) → behind_lines (suc n) text ≡ behind_lines 1 (behind_lines n text))
    → option_map_or (λ p. behind_lines (suc n) p.1) o [] ≡ behind_lines 1 (option_map_or (λ p. behind_lines n p.1) o [])
behind_step n None h = sym behind_empty
behind_step n (Some p) h = h p.1

behind_more : (n : ℕ) (text : Text) → behind_lines (suc n) text ≡ behind_lines 1 (behind_lines n text)
behind_more zero text = refl
behind_more (suc n) text = behind_step n (cut_at 10 text) (behind_more n)

pub lines_next : (old new : DefinitionLines) (d : StatedText) (place : ℕ) (text rest behind : Text) → place ≡ length old.stated.items
    → AreLines new (map stated_seen old.stated.items ++ stated_seen d ∷ [])
    → definition_lines 0 (lines_of text) ≡ map stated_seen old.stated.items ++ definition_lines (length old.stated.items) (lines_of rest)
    → behind_lines (length old.stated.items) text ≡ rest
    → definition_lines place (lines_of rest) ≡ stated_seen d ∷ definition_lines (place + 1) (lines_of behind)
    → behind_lines 1 rest ≡ behind
    → AreLines new (map stated_seen new.stated.items)
    × (definition_lines 0 (lines_of text) ≡ map stated_seen new.stated.items ++ definition_lines (length new.stated.items) (lines_of behind))
    × (behind_lines (length new.stated.items) text ≡ behind)
lines_next old new d place text rest behind last h front left more next =
    let xs = map stated_seen old.stated.items in
    let many : length new.stated.items ≡ suc (length old.stated.items) =
    sym (length-map new.stated.items stated_seen) ∙ ap length h.stated ∙ length-append xs (stated_seen d ∷ [])
    ∙ (let e : length xs + 1 ≡ suc (length old.stated.items) = omega (arith, length-map old.stated.items stated_seen) in e) in
    let later : place + 1 ≡ length new.stated.items = omega (arith, many, last) in (
      subst (AreLines new) (sym h.stated) h,
      front ∙ ap (λ k. xs ++ definition_lines k (lines_of rest)) (sym last) ∙ ap (λ (l : List Stated). xs ++ l) more
          ∙ sym (append_assoc xs (stated_seen d ∷ []) (definition_lines (place + 1) (lines_of behind)))
          ∙ ap (λ (l : List Stated). l ++ definition_lines (place + 1) (lines_of behind)) (sym h.stated)
          ∙ ap (λ k. map stated_seen new.stated.items ++ definition_lines k (lines_of behind)) later,
      ap (λ k. behind_lines k text) many ∙ behind_more (length old.stated.items) text ∙ ap (behind_lines 1) left ∙ next,
    )
