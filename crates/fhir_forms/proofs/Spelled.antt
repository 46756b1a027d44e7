-- Names with what each means, added one at a time, and the names that forms spell.
use Rattle.std.proofs.Common.{◌≡◌, ℕ, suc, ◌+◌, ◌<◌, ◌≤◌, Bool, true, false, not, ◌||◌, cond, List, [], ◌∷◌, ◌++◌, length, map, take, drop, get_or, Some, is_some, IsTrue, refl, ap, sym, ◌∙◌, subst, arith}
use Rattle.std.specs.Str.{bytes_eq}
use Rattle.std.specs.List.{list_any, position_from}
use Rattle.std.proofs.lemmas.Bool.{and_parts, and_from, or_parts, not-true, not_from_false, false≢true, false_from_ne_true}
use Rattle.std.proofs.lemmas.List.{append_assoc, map-append, length-map, length-take, append-nil, take-append-drop, take_more, take_all}
use Rattle.fhir_json.specs.Tree.{Text}
use Rattle.fhir_json.specs.Sound.{is_among, differ}
use Rattle.fhir_json.proofs.Names.{among_append, differ-among, differ-push}
use Rattle.fhir_names.specs.Places.{Places, place_of, Finds}
use Rattle.fhir_forms.specs.declared.form.Property.{Property}
use Rattle.fhir_forms.specs.Forms.{Form, spellings_of, spellings_from, spellings, are_apart}
use Rattle.fhir_forms.specs.FormTables.{Meant, Keeps, KeepsIf, IsTable}

any_position : (test : Text → Bool) (i : ℕ) (xs : List Text) → is_some (position_from test i xs) ≡ list_any test xs
any_position test i [] = refl
any_position test i (x ∷ xs) =
    elim (test x) as (λ b. is_some (cond b (Some i) (position_from test (i + 1) xs)) ≡ (b || list_any test xs))
    [ true ↦ refl | false ↦ any_position test (i + 1) xs ]

abbrev names_in : List Meant → List Text
names_in xs = map (λ x. x.0) xs

-- whether a name has a place is whether it is among the names
pub is_found : (places : Places) (ns : List Text) (name : Text) → Finds places ns → is_some (place_of places name) ≡ is_among name ns
is_found places ns name h = ap is_some (h name) ∙ any_position (bytes_eq name) 0 ns

names_push : (xs : List Meant) (name : Text) (meaning : Property) → names_in (xs ++ (name, meaning) ∷ []) ≡ names_in xs ++ name ∷ []
names_push xs name meaning = map-append (λ x. x.0) xs ((name, meaning) ∷ [])

module _ (ms : List Property) (places : Places) (xs : List Meant) (name : Text) (meaning : Property) (h : Keeps ms places xs) where
  -- a name that is found is there twice
  pub twice : is_some (place_of places name) ≡ true → differ (names_in (xs ++ (name, meaning) ∷ [])) ≡ false
  twice there =
      ap differ (names_push xs name meaning)
      ∙ false_from_ne_true _
      (λ apart. false≢true (sym (differ-among (names_in xs) [] name apart) ∙ (sym (is_found places (names_in xs) name h.finds) ∙ there)))

  -- one that isn't is new
  pub kept : (more : List Property) (new : Places) (n : ℕ) → is_some (place_of places name) ≡ false → more ≡ ms ++ meaning ∷ [] → n ≡ length ms
      → ((ns : List Text) → Finds places ns → length ns ≡ n → Finds new (ns ++ name ∷ [])) → Keeps more new (xs ++ (name, meaning) ∷ [])
  kept more new n isnt more_is n_is added = record {
    means = more_is ∙ ap (λ l. l ++ meaning ∷ []) h.means ∙ sym (map-append (λ x. x.1) xs ((name, meaning) ∷ []));
    finds = subst (Finds new) (sym (names_push xs name meaning)) (added (names_in xs) h.finds places_are);
    apart = subst (λ ns. IsTrue (differ ns)) (sym (names_push xs name meaning)) (differ-push (names_in xs) name h.apart alone);
  }
    where
      places_are : length (names_in xs) ≡ n
      places_are = length-map xs (λ x. x.0) ∙ sym (length-map xs (λ x. x.1)) ∙ ap length (sym h.means) ∙ sym n_is

      alone : is_among name (names_in xs) ≡ false
      alone = sym (is_found places (names_in xs) name h.finds) ∙ isnt

-- ---- what is added

pub refused : (b : Bool) (ms : List Property) (places : Places) (xs : List Meant) → b ≡ false → KeepsIf b ms places xs → differ (names_in xs) ≡ false
refused true ms places xs e h = absurd (false≢true (sym e))
refused false ms places xs e h = h

pub taken : (b : Bool) (ms : List Property) (places : Places) (xs : List Meant) → b ≡ true → KeepsIf b ms places xs → Keeps ms places xs
taken true ms places xs e h = h
taken false ms places xs e h = absurd (false≢true e)

-- names of which the first are apart
shorter : (ns more : List Text) → differ (ns ++ more) ≡ true → differ ns ≡ true
shorter [] more h = refl
shorter (x ∷ ns) more h =
    let both = and_parts (not (is_among x (ns ++ more))) (differ (ns ++ more)) h in
    let apart = or_parts (is_among x ns) (is_among x more) (sym (among_append x ns more) ∙ not-true _ both.0) in
    and_from (not (is_among x ns)) (differ ns) (not_from_false _ apart.0) (shorter ns more both.1)

pub not_longer : (xs more : List Meant) → differ (names_in xs) ≡ false → differ (names_in (xs ++ more)) ≡ false
not_longer xs more h =
    ap differ (map-append (λ x. x.0) xs more) ∙ false_from_ne_true _ (λ apart. false≢true (sym h ∙ shorter (names_in xs) (names_in more) apart))

pub not_behind : (xs : List Meant) (x : Meant) (more : List Meant) → differ (names_in (xs ++ x ∷ [])) ≡ false → differ (names_in (xs ++ x ∷ more)) ≡ false
not_behind xs x more h = ap (λ l. differ (names_in l)) (sym (append_assoc xs (x ∷ []) more)) ∙ not_longer (xs ++ x ∷ []) more h

-- ---- what forms spell

spelled_behind : (n : ℕ) (fs gs : List Form) → spellings_from n (fs ++ gs) ≡ spellings_from n fs ++ spellings_from (n + length fs) gs
spelled_behind n [] gs =
    let e : n ≡ n + 0 = omega arith in
    ap (λ k. spellings_from k gs) e
spelled_behind n (f ∷ fs) gs =
    let e : suc n + length fs ≡ n + suc (length fs) = omega arith in
    ap (λ l. spellings_of n f ++ l) (spelled_behind (suc n) fs gs ∙ ap (λ k. spellings_from (suc n) fs ++ spellings_from k gs) e)
    ∙ sym (append_assoc (spellings_of n f) (spellings_from (suc n) fs) (spellings_from (n + suc (length fs)) gs))

module _ (fs : List Form) (i : ℕ) (f : Form) (within : i < length fs) (is : f ≡ get_or fs i f) where
  spelled_more : spellings (take (i + 1) fs) ≡ spellings (take i fs) ++ spellings_of i f
  spelled_more =
      let n : 0 + length (take i fs) ≡ i = omega (arith, length-take i fs) in
      ap spellings (take_more fs i f within ∙ ap (λ g. take i fs ++ g ∷ []) (sym is)) ∙ spelled_behind 0 (take i fs) (f ∷ [])
      ∙ ap (λ k. spellings (take i fs) ++ (spellings_of k f ++ [])) n ∙ ap (λ l. spellings (take i fs) ++ l) (append-nil (spellings_of i f))

  pub step : (ms : List Property) (places : Places) → Keeps ms places (spellings (take i fs) ++ spellings_of i f)
      → Keeps ms places (spellings (take (i + 1) fs))
  step ms places h = subst (Keeps ms places) (sym spelled_more) h

  pub not_apart : differ (names_in (spellings (take i fs) ++ spellings_of i f)) ≡ false → are_apart fs ≡ false
  not_apart h =
      ap (λ l. are_apart l) (sym (take-append-drop (i + 1) fs)) ∙ ap (λ l. differ (names_in l)) (spelled_behind 0 (take (i + 1) fs) (drop (i + 1) fs))
      ∙ not_longer (spellings (take (i + 1) fs)) _ (ap (λ l. differ (names_in l)) spelled_more ∙ h)

pub whole : (ms : List Property) (places : Places) (fs : List Form) (i : ℕ) → length fs ≤ i → Keeps ms places (spellings (take i fs)) → IsTable ms places fs
whole ms places fs i past h =
    let all : Keeps ms places (spellings fs) = subst (λ gs. Keeps ms places (spellings gs)) (take_all i fs past) h in
    record { means = all.means; finds = all.finds; apart = all.apart }
