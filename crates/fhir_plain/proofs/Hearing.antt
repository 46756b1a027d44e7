-- Constraints whose words are kept one after the other.
use Rattle.std.proofs.Common.{◌≡◌, ℕ, suc, zero, ◌+◌, ◌<◌, List, [], ◌∷◌, ◌++◌, map, take, get_or, length, Option, None, Some, refl, sym, ap, subst, ◌∙◌, append_assoc, add-one}
use Rattle.std.specs.List.{flat_map, slice_get}
use Rattle.std.specs.Option.{option_map_or, option_or}
use Rattle.std.proofs.lemmas.List.{append-nil, map_more}
use Rattle.fhir_json.specs.Tree.{Text, Tree}
use Rattle.fhir_json.specs.Views.{tree_of, trees_of}
use Rattle.fhir_json.specs.declared.json.Json.{Json}
use Rattle.fhir_plain.specs.Kept.{found_in, Says}
use Rattle.fhir_plain.specs.Sayings.{said_by, first_said}
use Rattle.fhir_plain.specs.declared.sayings.Maps.{Maps}

or_none : {A : Type 0} (o : Option A) → o ≡ option_or o None
or_none None = refl
or_none (Some x) = refl

or_assoc : {A : Type 0} (a b c : Option A) → option_or a (option_or b c) ≡ option_or (option_or a b) c
or_assoc None b c = refl
or_assoc (Some x) b c = refl

first_more : (key : Text) (expression : Option Text) (ts : List Tree) (t : Tree)
    → first_said key expression (ts ++ t ∷ []) ≡ option_or (first_said key expression ts) (said_by key expression t)
first_more key expression [] t = sym (or_none (said_by key expression t))
first_more key expression (x ∷ ts) t =
    ap (option_or (said_by key expression x)) (first_more key expression ts t)
    ∙ or_assoc (said_by key expression x) (first_said key expression ts) (said_by key expression t)

-- one constraint more
pub said_more : (old new : Maps) (ts : List Tree) (t : Tree)
    → ((key : Text) (expression : Option Text) → found_in new key expression ≡ option_or (found_in old key expression) (said_by key expression t))
    → Says old ts → Says new (ts ++ t ∷ [])
said_more old new ts t puts says key expression =
    puts key expression
    ∙ ap (λ (o : Option Text). option_or o (said_by key expression t)) (says key expression)
    ∙ sym (first_more key expression ts t)

-- what is seen of one item more
seen_more : {A B : Type 0} (f : A → B) (xs : List A) (i : ℕ) (x : A) → i < length xs → x ≡ get_or xs i x
    → map f (take (i + 1) xs) ≡ map f (take i xs) ++ f x ∷ []
seen_more f xs i x h is = map_more f xs i x h ∙ ap (λ (y : _). map f (take i xs) ++ f y ∷ []) (sym is)

pub more_constraints : (maps : Maps) (before : List Tree) (xs : List Json) (i : ℕ) (x : Json) → i < length xs → x ≡ get_or xs i x
    → Says maps ((before ++ trees_of (take i xs)) ++ tree_of x ∷ [])
    → Says maps (before ++ trees_of (take (i + 1) xs))
more_constraints maps before xs i x h is says =
    subst (Says maps)
    (append_assoc before (trees_of (take i xs)) (tree_of x ∷ []) ∙ ap (λ (l : List Tree). before ++ l) (sym (seen_more tree_of xs i x h is)))
    says

module _ (f : Tree → List Tree) where
  flat_last : (ts : List Tree) (t : Tree) → flat_map f (ts ++ t ∷ []) ≡ flat_map f ts ++ f t
  flat_last [] t = append-nil (f t)
  flat_last (x ∷ ts) t = ap (λ (l : List Tree). f x ++ l) (flat_last ts t) ∙ sym (append_assoc (f x) (flat_map f ts) (f t))

  -- the constraints of one element more
  pub more_elements : (maps : Maps) (before : List Tree) (xs : List Json) (i : ℕ) (x : Json) (more : List Tree) → i < length xs → x ≡ get_or xs i x
      → more ≡ f (tree_of x) → Says maps ((before ++ flat_map f (trees_of (take i xs))) ++ more)
      → Says maps (before ++ flat_map f (trees_of (take (i + 1) xs)))
  more_elements maps before xs i x more h is own says =
      subst (Says maps)
      (append_assoc before (flat_map f (trees_of (take i xs))) more
      ∙ ap (λ (l : List Tree). before ++ (flat_map f (trees_of (take i xs)) ++ l)) own
      ∙ ap (λ (l : List Tree). before ++ l)
      (sym (ap (flat_map f) (seen_more tree_of xs i x h is) ∙ flat_last (trees_of (take i xs)) (tree_of x))))
      says

  -- those of the elements of two lists
  pub both_said : (maps : Maps) (before more others ts us : List Tree) → more ≡ ts → others ≡ us
      → Says maps ((before ++ flat_map f more) ++ flat_map f others) → Says maps (before ++ (flat_map f ts ++ flat_map f us))
  both_said maps before more others ts us own other says =
      subst (Says maps)
      (append_assoc before (flat_map f more) (flat_map f others)
      ∙ ap (λ (l : List Tree). before ++ (flat_map f l ++ flat_map f others)) own
      ∙ ap (λ (l : List Tree). before ++ (flat_map f ts ++ flat_map f l)) other)
      says

module _ {X : Type 0} (f : X → List Tree) where
  at_item : (xs : List X) (k : ℕ) → flat_map f (take (suc k) xs) ≡ flat_map f (take k xs) ++ option_map_or f (slice_get xs k) []
  at_item [] zero = refl
  at_item [] (suc k) = refl
  at_item (x ∷ xs) zero = append-nil (f x)
  at_item (x ∷ xs) (suc k) =
      ap (λ (l : List Tree). f x ++ l) (at_item xs k) ∙ sym (append_assoc (f x) (flat_map f (take k xs)) (option_map_or f (slice_get xs k) []))

  -- those of one definition more
  pub more_definitions : (maps : Maps) (xs : List X) (k : ℕ) → Says maps (flat_map f (take k xs) ++ option_map_or f (slice_get xs k) [])
      → Says maps (flat_map f (take (k + 1) xs))
  more_definitions maps xs k says =
      subst (Says maps) (sym (at_item xs k) ∙ ap (λ (m : ℕ). flat_map f (take m xs)) (sym (add-one k))) says
