-- Carriers that are put in one after the other.
use Rattle.std.proofs.Common.{◌≡◌, ℕ, ◌+◌, ◌<◌, Bool, true, false, not, cond, List, [], ◌∷◌, ◌++◌, map, take, get_or, length, Option, None, Some, is_some, is_none, refl, sym, ap, ◌∙◌, append_assoc, subst, arith}
use Rattle.std.proofs.lemmas.List.{append-nil, map-append, map_more, length-map}
use Rattle.fhir_json.specs.Tree.{Text}
use Rattle.fhir_names.specs.Places.{Places, place_of, Finds}
use Rattle.fhir_findings.specs.Firsts.{has_text_of, firsts}
use Rattle.fhir_findings.proofs.Firsts.{has_place, firsts-snoc}

none_some : {A : Type 0} (o : Option A) → is_none o ≡ not (is_some o)
none_some o = grind arith

pub fresh_is : (o : Option ℕ) (r : Bool) → is_some o ≡ not r → r ≡ is_none o
fresh_is None true e = refl
fresh_is None false e = cc
fresh_is (Some k) true e = cc
fresh_is (Some k) false e = refl

module _ {A : Type 0} (text : A → Text) where
  -- an index has no place for a text that is new
  pub is_first : (places : Places) (before : List A) (x : A) → Finds places (map text before) → is_none (place_of places (text x)) ≡ not (has_text_of text before x)
  is_first places before x h =
      none_some (place_of places (text x)) ∙ ap (λ (o : Option ℕ). not (is_some o)) (h (text x)) ∙ ap not (has_place text 0 before x)

  -- what is put in, if it is new
  pub if_first : (b c : Bool) (x : A) → c ≡ not b → cond c (x ∷ []) [] ≡ cond b [] (x ∷ [])
  if_first true c x e = ap (λ (d : Bool). cond d (x ∷ []) []) e
  if_first false c x e = ap (λ (d : Bool). cond d (x ∷ []) []) e

  -- the first ones, with one item more
  pub next_first : (xs old now new : List A) (x : A) → now ≡ old ++ firsts text xs → new ≡ now ++ cond (has_text_of text xs x) [] (x ∷ [])
      → new ≡ old ++ firsts text (xs ++ x ∷ [])
  next_first xs old now new x before pushed =
      pushed
      ∙ ap (λ (l : List A). l ++ cond (has_text_of text xs x) [] (x ∷ [])) before
      ∙ append_assoc old (firsts text xs) (cond (has_text_of text xs x) [] (x ∷ []))
      ∙ ap (λ (l : List A). old ++ l) (by (has_text_of text xs x) ∙ sym (firsts-snoc text xs x))
    where
      by : (b : Bool) → firsts text xs ++ cond b [] (x ∷ []) ≡ cond b (firsts text xs) (firsts text xs ++ x ∷ [])
      by true = append-nil (firsts text xs)
      by false = refl

  -- the index has one text more
  pub next_found : (places new : Places) (before : List A) (x : A) (t : Text) (place : ℕ) → t ≡ text x
      → ((names : List Text) → Finds places names → length names ≡ place → Finds new (names ++ t ∷ []))
      → Finds places (map text before) → length before ≡ place → Finds new (map text (before ++ x ∷ []))
  next_found places new before x t place is add h long =
      subst (Finds new) (ap (λ (u : Text). map text before ++ u ∷ []) is ∙ sym (map-append text before (x ∷ [])))
      (add (map text before) h (length-map before text ∙ long))

  -- an item is put in, if its text is new
  pub first_pushed : (places : Places) (before : List A) (x : A) (t : Text) (is_new : Bool) (old new : List A) → t ≡ text x
      → is_new ≡ is_none (place_of places t) → new ≡ old ++ cond is_new (x ∷ []) [] → Finds places (map text before)
      → new ≡ old ++ cond (has_text_of text before x) [] (x ∷ [])
  first_pushed places before x t is_new old new is fresh pushed h =
      pushed
      ∙ ap (λ (l : List A). old ++ l)
      (if_first (has_text_of text before x) is_new x (fresh ∙ ap (λ (u : Text). is_none (place_of places u)) is ∙ is_first places before x h))

-- what is seen of one item more
pub seen_more : {A B : Type 0} (f : A → B) (xs : List A) (i : ℕ) (x : A) → i < length xs → x ≡ get_or xs i x
    → map f (take (i + 1) xs) ≡ map f (take i xs) ++ f x ∷ []
seen_more f xs i x h is = map_more f xs i x h ∙ ap (λ (y : _). map f (take i xs) ++ f y ∷ []) (sym is)
