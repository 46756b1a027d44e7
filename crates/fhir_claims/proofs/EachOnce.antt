-- Lemmas on texts, each once.
use Rattle.std.proofs.Common.{◌≡◌, ℕ, Bool, true, false, cond, not, ◌||◌, List, [], ◌∷◌, ◌++◌, filter, map, Some, is_some, refl, sym, ap, ◌∙◌, if◌then◌else◌}
use Rattle.std.specs.Str.{bytes_eq}
use Rattle.std.proofs.lemmas.List.{append-nil}
use Rattle.std.proofs.lemmas.Bool.{and_parts, or_parts, not-true, false≢true, false_from_ne_true}
use Rattle.std.proofs.lemmas.Slice.Eq.{bytes_eq-Decides}
use Rattle.fhir_json.specs.Tree.{Text}
use Rattle.fhir_json.specs.Sound.{is_among, differ}
use Rattle.fhir_json.proofs.Names.{among_append}
use Rattle.fhir_names.specs.Places.{place_of, Knows, Puts}
use Rattle.fhir_claims.specs.Once.{each_once, OnceValue, HasOnce}

same_of : (x y : Text) → bytes_eq x y ≡ true → x ≡ y
same_of x y e = (bytes_eq-Decides x y).0 e

same_self : (x : Text) → bytes_eq x x ≡ true
same_self x = (bytes_eq-Decides x x).1 refl

turned : (x y : Text) → bytes_eq x y ≡ true → bytes_eq y x ≡ true
turned x y e = (bytes_eq-Decides y x).1 (sym (same_of x y e))

-- ---- texts among others

pub or_true : (a b : Bool) → b ≡ true → (a || b) ≡ true
or_true true b e = refl
or_true false b e = e

or_none : (a : Bool) → (a || false) ≡ a
or_none true = refl
or_none false = refl

-- a text that passes is among those that pass
pub among_filter : (test : Text → Bool) (x : Text) (xs : List Text) → test x ≡ true → is_among x xs ≡ true → is_among x (filter test xs) ≡ true
among_filter test x [] passes h = h
among_filter test x (y ∷ ys) passes h = step (bytes_eq x y) (test y) (λ e. sym (ap test (same_of x y e)) ∙ passes) refl (among_filter test x ys passes) h
  where
    step : (a b : Bool) → (a ≡ true → b ≡ true) → bytes_eq x y ≡ a → (is_among x ys ≡ true → is_among x (filter test ys) ≡ true)
        → (a || is_among x ys) ≡ true → is_among x (cond b (y ∷ filter test ys) (filter test ys)) ≡ true
    step true true both e rest h = ap (λ c. c || is_among x (filter test ys)) e
    step true false both e rest h = absurd (false≢true (both refl))
    step false true both e rest h = or_true (bytes_eq x y) (is_among x (filter test ys)) (rest h)
    step false false both e rest h = rest h

-- none that doesn't pass is
pub none_filtered : (test : Text → Bool) (x : Text) (xs : List Text) → test x ≡ false → is_among x (filter test xs) ≡ false
none_filtered test x [] fails = refl
none_filtered test x (y ∷ ys) fails = step (test y) refl (bytes_eq x y) refl (none_filtered test x ys fails)
  where
    step : (b : Bool) → test y ≡ b → (a : Bool) → bytes_eq x y ≡ a → is_among x (filter test ys) ≡ false
        → is_among x (cond b (y ∷ filter test ys) (filter test ys)) ≡ false
    step true there true e rest = absurd (false≢true (sym fails ∙ ap test (same_of x y e) ∙ there))
    step true there false e rest = ap (λ c. c || is_among x (filter test ys)) e ∙ rest
    step false there a e rest = rest

-- nor one that isn't among all
pub none_before : (test : Text → Bool) (x : Text) (xs : List Text) → is_among x xs ≡ false → is_among x (filter test xs) ≡ false
none_before test x [] h = refl
none_before test x (y ∷ ys) h =
    let parts = or_parts (bytes_eq x y) (is_among x ys) h in
    elim (test y) as (λ b. is_among x (cond b (y ∷ filter test ys) (filter test ys)) ≡ false)
    [ true ↦ ap (λ c. c || is_among x (filter test ys)) parts.0 ∙ none_before test x ys parts.1 | false ↦ none_before test x ys parts.1 ]

pub among_map : (f : Text → Text) (x : Text) (xs : List Text) → is_among x xs ≡ true → is_among (f x) (map f xs) ≡ true
among_map f x [] h = h
among_map f x (y ∷ ys) h = step (bytes_eq x y) (λ e. (bytes_eq-Decides (f x) (f y)).1 (ap f (same_of x y e))) (among_map f x ys) h
  where
    step : (a : Bool) → (a ≡ true → bytes_eq (f x) (f y) ≡ true) → (is_among x ys ≡ true → is_among (f x) (map f ys) ≡ true)
        → (a || is_among x ys) ≡ true → (bytes_eq (f x) (f y) || is_among (f x) (map f ys)) ≡ true
    step true same rest h = ap (λ c. c || is_among (f x) (map f ys)) (same refl)
    step false same rest h = or_true _ _ (rest h)

-- ---- texts, each once

-- each text is there
pub among_once : (x : Text) (xs : List Text) → is_among x xs ≡ true → is_among x (each_once xs) ≡ true
among_once x [] h = h
among_once x (y ∷ ys) h = step (bytes_eq x y) refl (among_once x ys) h
  where
    step : (a : Bool) → bytes_eq x y ≡ a → (is_among x ys ≡ true → is_among x (each_once ys) ≡ true) → (a || is_among x ys) ≡ true
        → is_among x (each_once (y ∷ ys)) ≡ true
    step true e rest h = ap (λ c. c || is_among x (filter (λ z. not (bytes_eq y z)) (each_once ys))) e
    step false e rest h =
        let other : bytes_eq y x ≡ false = false_from_ne_true _ (λ t. false≢true (sym e ∙ turned y x t)) in
        or_true _ _ (among_filter (λ z. not (bytes_eq y z)) x (each_once ys) (ap not other) (rest h))

-- and no other
pub once_among : (x : Text) (xs : List Text) → is_among x (each_once xs) ≡ true → is_among x xs ≡ true
once_among x [] h = h
once_among x (y ∷ ys) h = step (bytes_eq x y) (is_among x ys) refl (once_among x ys) h
  where
    test : Text → Bool
    test z = not (bytes_eq y z)

    step : (a b : Bool) → is_among x ys ≡ b → (is_among x (each_once ys) ≡ true → is_among x ys ≡ true)
        → (a || is_among x (filter test (each_once ys))) ≡ true → (a || b) ≡ true
    step true b e rest h = refl
    step false true e rest h = refl
    step false false e rest h =
        let none : is_among x (each_once ys) ≡ false = false_from_ne_true _ (λ t. false≢true (sym e ∙ rest t)) in
        absurd (false≢true (sym (none_before test x (each_once ys) none) ∙ h))

differ_filter : (test : Text → Bool) (xs : List Text) → differ xs ≡ true → differ (filter test xs) ≡ true
differ_filter test [] h = refl
differ_filter test (x ∷ xs) h =
    let both = and_parts (not (is_among x xs)) (differ xs) h in
    let rest = differ_filter test xs both.1 in
    elim (test x) as (λ b. differ (cond b (x ∷ filter test xs) (filter test xs)) ≡ true)
    [ true ↦ rw (none_before test x xs (not-true _ both.0), rest) refl | false ↦ rest ]

-- none is there twice
pub differ_once : (xs : List Text) → differ (each_once xs) ≡ true
differ_once [] = refl
differ_once (x ∷ xs) =
    rw (none_filtered (λ y. not (bytes_eq x y)) x (each_once xs) (ap not (same_self x)), differ_filter (λ y. not (bytes_eq x y)) (each_once xs) (differ_once xs)) refl

-- ---- one text more

filter_behind : (test : Text → Bool) (xs : List Text) (y : Text) → filter test (xs ++ y ∷ []) ≡ filter test xs ++ (if test y then y ∷ [] else [])
filter_behind test [] y = refl
filter_behind test (x ∷ xs) y =
    let rest = filter_behind test xs y in
    elim (test x) as (λ b. cond b (x ∷ filter test (xs ++ y ∷ [])) (filter test (xs ++ y ∷ [])) ≡ cond b (x ∷ filter test xs) (filter test xs) ++ (if test y then y ∷ [] else []))
    [ true ↦ ap (λ (zs : List Text). x ∷ zs) rest | false ↦ rest ]

-- one that isn't
once_new : (xs : List Text) (y : Text) → is_among y xs ≡ false → each_once (xs ++ y ∷ []) ≡ each_once xs ++ y ∷ []
once_new [] y h = refl
once_new (x ∷ xs) y h =
    let parts = or_parts (bytes_eq y x) (is_among y xs) h in
    let other : bytes_eq x y ≡ false = false_from_ne_true _ (λ t. false≢true (sym parts.0 ∙ turned x y t)) in
    let test : Text → Bool = λ z. not (bytes_eq x z) in
    ap (λ (zs : List Text). x ∷ zs) (ap (filter test) (once_new xs y parts.1) ∙ filter_behind test (each_once xs) y ∙ ap (λ b. filter test (each_once xs) ++ (if not b then y ∷ [] else [])) other)

-- one that is there
once_there : (xs : List Text) (y : Text) → is_among y xs ≡ true → each_once (xs ++ y ∷ []) ≡ each_once xs
once_there [] y h = absurd (false≢true h)
once_there (x ∷ xs) y h = ap (λ (zs : List Text). x ∷ zs) (step (is_among y xs) refl (once_there xs y) h)
  where
    test : Text → Bool
    test z = not (bytes_eq x z)

    step : (b : Bool) → is_among y xs ≡ b → (is_among y xs ≡ true → each_once (xs ++ y ∷ []) ≡ each_once xs) → (bytes_eq y x || b) ≡ true
        → filter test (each_once (xs ++ y ∷ [])) ≡ filter test (each_once xs)
    step true e rest h = ap (filter test) (rest e)
    step false e rest h =
        let same : bytes_eq x y ≡ true = turned y x (sym (or_none (bytes_eq y x)) ∙ h) in
        ap (filter test) (once_new xs y e) ∙ filter_behind test (each_once xs) y ∙ ap (λ b. filter test (each_once xs) ++ (if not b then y ∷ [] else [])) same
        ∙ append-nil (filter test (each_once xs))

-- ---- what is kept on the way

-- a text that is there changes nothing
pub there : (once : OnceValue) (texts : List Text) (text : Text) → HasOnce once texts → is_some (place_of once.places text) ≡ true → HasOnce once (texts ++ text ∷ [])
there once texts text has found = record { listed = has.listed ∙ sym (once_there texts text among); known = known }
  where
    among : is_among text texts ≡ true
    among = sym (has.known text) ∙ found

    known : Knows once.places (texts ++ text ∷ [])
    known name = has.known name ∙ sym (among_append name texts (text ∷ []) ∙ step (bytes_eq name text) refl)
      where
        step : (b : Bool) → bytes_eq name text ≡ b → (is_among name texts || (b || false)) ≡ is_among name texts
        step true e = or_true _ _ refl ∙ sym (ap (λ n. is_among n texts) (same_of name text e) ∙ among)
        step false e = or_none (is_among name texts)

-- one that isn't is put behind the others
pub added : (old new : OnceValue) (texts : List Text) (text : Text) (place : ℕ) → HasOnce old texts → is_some (place_of old.places text) ≡ false
    → Puts old.places new.places text place → new.texts ≡ old.texts ++ text ∷ [] → HasOnce new (texts ++ text ∷ [])
added old new texts text place has none puts listed = record {
  listed = listed ∙ ap (λ ts. ts ++ text ∷ []) has.listed ∙ sym (once_new texts text (sym (has.known text) ∙ none));
  known = known;
}
  where
    known : Knows new.places (texts ++ text ∷ [])
    known name = ap is_some (puts name) ∙ step (bytes_eq name text) ∙ sym (among_append name texts (text ∷ []))
      where
        step : (b : Bool) → is_some (if b then Some place else place_of old.places name) ≡ (is_among name texts || (b || false))
        step true = sym (or_true _ _ refl)
        step false = has.known name ∙ sym (or_none (is_among name texts))
