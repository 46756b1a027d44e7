-- What is first to blame, and that each blame names an element of its definition.
use Rattle.std.proofs.Common.{◌≡◌, ℕ, zero, suc, ◌+◌, ◌<◌, ◌⊎◌, inl, inr, Bool, true, false, ◌&&◌, List, [], ◌∷◌, ◌++◌, length, map, take, get_or, Option, None, Some, refl, ap, sym, subst, ◌∙◌, arith}
use Rattle.std.specs.Option.{option_or}
use Rattle.std.specs.List.{slice_get, list_all}
use Rattle.std.proofs.lemmas.List.{map-append, length-map, length-take, take_more, get_or_push}
use Rattle.std.proofs.lemmas.List.Folds.{list_all-append}
use Rattle.std.proofs.lemmas.Option.{same_Some}
use Rattle.fhir_elements.specs.declared.reason.Reason.{Reason}
use Rattle.fhir_elements.specs.declared.cause.Blame.{Blame}
use Rattle.fhir_elements.specs.Causes.{reason_unless, is_blame_among}
use Rattle.fhir_definition.specs.Snapshot.{child_place}
use Rattle.fhir_definition.specs.Children.{under_each_from, children_of}
use Rattle.fhir_definition.specs.Definition.{Definition}
use Rattle.fhir_definition.specs.Blames.{AreBlamesAmong}
use Rattle.fhir_nodes.specs.Slots.{slots_under, slots_of}

-- ---- the first of two reasons

both : (a b : Bool) (r : Reason) → option_or (reason_unless a r) (reason_unless b r) ≡ reason_unless (a && b) r
both true b r = refl
both false b r = refl

pub first_of : (a b c : Bool) (r : Reason) (first before cause : Option Reason) → first ≡ option_or before cause
    → before ≡ reason_unless a r → cause ≡ reason_unless b r → (a && b) ≡ c → first ≡ reason_unless c r
first_of a b c r first before cause is was now more =
    is ∙ ap (λ x. option_or x cause) was ∙ ap (λ x. option_or (reason_unless a r) x) now ∙ both a b r ∙ ap (λ x. reason_unless x r) more

pub all_more : {A : Type 0} (p : A → Bool) (xs : List A) (i : ℕ) (x : A) → i < length xs → x ≡ get_or xs i x
    → (list_all p (take i xs) && p x) ≡ list_all p (take (i + 1) xs)
all_more p xs i x within is =
    ap (λ b. list_all p (take i xs) && b) (last (p x)) ∙ sym (list_all-append p (take i xs) (x ∷ []))
    ∙ ap (list_all p) (ap (λ y. take i xs ++ y ∷ []) is ∙ sym (take_more xs i x within))
  where
    last : (b : Bool) → b ≡ (b && true)
    last true = refl
    last false = refl

-- ---- one item more

pub list_more : {A B : Type 0} (f : A → B) (xs : List A) (i : ℕ) (x : A) (old new : List B) (y : B)
    → i < length xs → x ≡ get_or xs i x → old ≡ map f (take i xs) → new ≡ old ++ y ∷ [] → y ≡ f x → new ≡ map f (take (i + 1) xs)
list_more f xs i x old new y within is before pushed same =
    pushed ∙ ap (λ l. l ++ y ∷ []) before ∙ ap (λ z. map f (take i xs) ++ z ∷ []) same ∙ sym (map-append f (take i xs) (x ∷ []))
    ∙ ap (map f) (ap (λ z. take i xs ++ z ∷ []) is ∙ sym (take_more xs i x within))

pub item_more : {A B C : Type 0} (view : B → C) (f : A → C) (xs : List A) (i : ℕ) (x : A) (old new : List B) (y : B)
    → i < length xs → x ≡ get_or xs i x → map view old ≡ map f (take i xs) → new ≡ old ++ y ∷ [] → view y ≡ f x
    → map view new ≡ map f (take (i + 1) xs)
item_more view f xs i x old new y within is before pushed same =
    list_more f xs i x (map view old) (map view new) (view y) within is before (ap (map view) pushed ∙ map-append view old (y ∷ [])) same

pub so_many : {A B C : Type 0} (view : B → C) (f : A → C) (xs : List A) (i : ℕ) (ys : List B) → i < length xs
    → map view ys ≡ map f (take i xs) → length ys ≡ i
so_many view f xs i ys within same =
    let count : length (take i xs) ≡ i = omega (arith, length-take i xs) in
    sym (length-map ys view) ∙ ap length same ∙ length-map (take i xs) f ∙ count

-- ---- one blame more

at_push : (blames : List (Option Blame)) (blame : Option Blame) (place : ℕ)
    → (get_or (blames ++ blame ∷ []) place None ≡ get_or blames place None) ⊎ (place ≡ length blames)
at_push [] blame zero = inr refl
at_push [] blame (suc place) = inl refl
at_push (x ∷ blames) blame zero = inl refl
at_push (x ∷ blames) blame (suc place) =
    elim (at_push blames blame place) [
      | inl e ↦ inl e
      | inr e ↦ inr (ap suc e)
    ]

pub one_blame_more : (ds : List Definition) (blames more : List (Option Blame)) (i : ℕ) (d : Definition) (blame : Option Blame)
    → AreBlamesAmong ds blames → length blames ≡ i → slice_get ds i ≡ Some d → is_blame_among (length d.elements) blame
    → more ≡ blames ++ blame ∷ [] → AreBlamesAmong ds more
one_blame_more ds blames more i d blame before count there among pushed place e at =
    subst (λ l. is_blame_among (length e.elements) (get_or l place None)) (sym pushed) (elim (at_push blames blame place) [
      | inl same ↦ subst (is_blame_among (length e.elements)) (sym same) (before place e at)
      | inr last ↦
          let is : d ≡ e = same_Some d e (sym there ∙ ap (slice_get ds) (sym count ∙ sym last) ∙ at) in
          subst (is_blame_among (length e.elements)) (sym (get_or_push blames blame None place (sym last)))
          (subst (λ x. is_blame_among (length x.elements) blame) is among)
    ])

-- ---- there is a list of slots for each element

lists_each : (p n : ℕ) (ups : List (Option ℕ)) → length (under_each_from p n ups) ≡ n
lists_each p zero ups = refl
lists_each p (suc n) ups = ap suc (lists_each (suc p) n ups)

pub slots_each : (ds : List Definition) (d : Definition) → length (slots_of ds d) ≡ length d.elements
slots_each ds d =
    length-map (children_of d.elements) (slots_under ds d)
    ∙ lists_each 0 (length (map (child_place d.elements) d.elements)) (map (child_place d.elements) d.elements)
    ∙ length-map d.elements (child_place d.elements)
