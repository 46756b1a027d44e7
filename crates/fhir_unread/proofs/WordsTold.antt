-- The sentence that a package has for a rule is told with the rule.
use Rattle.std.proofs.Common.{◌≡◌, Bool, true, false, cond, ◌&&◌, List, [], ◌∷◌, map, filter, Option, Some, None, refl, sym, ap, ◌∙◌, inl, inr, ⊎_elim}
use Rattle.std.specs.Prelude.{codes, ◌⊎◌}
use Rattle.std.specs.Option.{option_or}
use Rattle.std.specs.List.{list_any, flat_map}
use Rattle.std.specs.Str.{bytes_eq}
use Rattle.std.proofs.lemmas.Bool.{or_left, or_right, or_cases, false≢true}
use Rattle.std.proofs.lemmas.List.Folds.{list_any-append}
use Rattle.std.proofs.lemmas.Slice.Eq.{bytes_eq-Decides}
use Rattle.fhir_json.specs.Tree.{Text, Tree}
use Rattle.fhir_json.specs.Fields.{text_in, text_at, items_in}
use Rattle.fhir_package.specs.Definitions.{Definitions}
use Rattle.fhir_facets.specs.Unread.{Unread, range, target, profile, binding, expression, constraint}
use Rattle.fhir_findings.specs.Carrying.{Carried, rule, Carrier}
use Rattle.fhir_findings.specs.Sentences.{elements_in, Wording, wording_of, wordings_in, wordings_of, all_wordings, are_same, said_of, first_said, sentence_of, named_by, sentence_for}
use Rattle.std.specs.Option.{option_and_then}
use Rattle.fhir_unread.specs.Listing.{sayings_for, sentence_shown}
use Rattle.fhir_unread.specs.Sayings.{Saying, said_by, saying_of, sayings_in, sayings_of, all_sayings, said_under}
use Rattle.fhir_unread.proofs.Covered.{says, both_true, any_passing}
use Rattle.fhir_unread.proofs.Once.{any_first}

-- ---- what is among the items of each is among those of all

module _ {X Y Z : Type 0} (g : X → List Y) (k : X → List Z) (q : Y → Bool) (r : Z → Bool) (step : (x : X) → list_any q (g x) ≡ true → list_any r (k x) ≡ true) where
  any_through : (xs : List X) → list_any q (flat_map g xs) ≡ true → list_any r (flat_map k xs) ≡ true
  any_through [] h = absurd (false≢true h)
  any_through (x ∷ xs) h =
      list_any-append r (k x) (flat_map k xs)
      ∙ ⊎_elim (λ here. or_left (list_any r (k x)) (list_any r (flat_map k xs)) (step x here))
      (λ there. or_right (list_any r (k x)) (list_any r (flat_map k xs)) (any_through xs there))
      (or_cases (list_any q (g x)) (list_any q (flat_map g xs)) (sym (list_any-append q (g x) (flat_map g xs)) ∙ h))

module _ {X Y Z : Type 0} (g : X → Y) (k : X → List Z) (q : Y → Bool) (r : Z → Bool) (step : (x : X) → q (g x) ≡ true → list_any r (k x) ≡ true) where
  any_from_map : (xs : List X) → list_any q (map g xs) ≡ true → list_any r (flat_map k xs) ≡ true
  any_from_map [] h = absurd (false≢true h)
  any_from_map (x ∷ xs) h =
      list_any-append r (k x) (flat_map k xs)
      ∙ ⊎_elim (λ here. or_left (list_any r (k x)) (list_any r (flat_map k xs)) (step x here))
      (λ there. or_right (list_any r (k x)) (list_any r (flat_map k xs)) (any_from_map xs there))
      (or_cases (q (g x)) (list_any q (map g xs)) h)

-- ---- a sentence that is found is said under its key

abbrev is_text : Text → Option Text → Bool
is_text human None = false
is_text human (Some t) = bytes_eq human t

text_is : (human : Text) (o : Option Text) → o ≡ Some human → is_text human o ≡ true
text_is human o e = ap (is_text human) e ∙ (bytes_eq-Decides human human).1 refl

first_among : (f : Wording → Option Text) (human : Text) (ws : List Wording) → first_said f ws ≡ Some human → list_any (λ w. is_text human (f w)) ws ≡ true
first_among f human [] e = absurd (false≢true (text_is human None e))
first_among f human (w ∷ ws) e = by (f w) refl e (first_among f human ws)
  where
    by : (o : Option Text) → f w ≡ o → option_or o (first_said f ws) ≡ Some human
        → (first_said f ws ≡ Some human → list_any (λ v. is_text human (f v)) ws ≡ true) → list_any (λ v. is_text human (f v)) (w ∷ ws) ≡ true
    by None is e rest = or_right (is_text human (f w)) (list_any (λ v. is_text human (f v)) ws) (rest e)
    by (Some t) is e rest = or_left (is_text human (f w)) (list_any (λ v. is_text human (f v)) ws) (text_is human (f w) (is ∙ e))

module _ (key human : Text) where
  abbrev finds : Wording → Bool
  finds w = is_text human (said_of key None w)

  said_by_one : (url id own : Text) (b : Bool) (e h : Option Text) → bytes_eq key own ≡ b
      → is_text human (cond (b && are_same None e) h None) ≡ true → list_any (says key human) (said_by url id own e h) ≡ true
  said_by_one url id own true None (Some t) same is = both_true (bytes_eq key own) (bytes_eq human t) same is
  said_by_one url id own true None None same is = absurd (false≢true is)
  said_by_one url id own true (Some w) h same is = absurd (false≢true is)
  said_by_one url id own false e h same is = absurd (false≢true is)

  said_of_tree : (url id : Text) (c : Tree) → finds (wording_of c) ≡ true → list_any (says key human) (saying_of url id c) ≡ true
  said_of_tree url id c is =
      said_by_one url id (text_at (codes "key") c) (bytes_eq key (text_at (codes "key") c)) (text_in (codes "expression") c) (text_in (codes "human") c) refl is

  said_of_element : (url : Text) (element : Tree) → list_any finds (wordings_in element) ≡ true → list_any (says key human) (sayings_in url element) ≡ true
  said_of_element url element is =
      any_from_map wording_of (saying_of url (text_at (codes "id") element)) finds (says key human) (said_of_tree url (text_at (codes "id") element))
      (items_in (codes "constraint") element) is

  said_of_definition : (e : Text × Tree) → list_any finds (wordings_of e) ≡ true → list_any (says key human) (sayings_of e) ≡ true
  said_of_definition e is =
      let front = flat_map (sayings_in e.0) (elements_in (codes "snapshot") e.1) in
      let back = flat_map (sayings_in e.0) (elements_in (codes "differential") e.1) in
      let first = flat_map wordings_in (elements_in (codes "snapshot") e.1) in
      let second = flat_map wordings_in (elements_in (codes "differential") e.1) in
      list_any-append (says key human) front back
      ∙ ⊎_elim
      (λ here. or_left (list_any (says key human) front) (list_any (says key human) back)
      (any_through wordings_in (sayings_in e.0) finds (says key human) (said_of_element e.0) (elements_in (codes "snapshot") e.1) here))
      (λ there. or_right (list_any (says key human) front) (list_any (says key human) back)
      (any_through wordings_in (sayings_in e.0) finds (says key human) (said_of_element e.0) (elements_in (codes "differential") e.1) there))
      (or_cases (list_any finds first) (list_any finds second) (sym (list_any-append finds first second) ∙ is))

  found_said : (p : Definitions) → sentence_of p key None ≡ Some human → list_any (λ y. bytes_eq human y.human) (said_under key (all_sayings p)) ≡ true
  found_said p e =
      any_first (λ (y : Saying). y.human) (λ y. bytes_eq human y.human) (λ x y e. ap (bytes_eq human) e) (filter (λ y. bytes_eq key y.key) (all_sayings p))
      ∙ any_passing (λ (y : Saying). bytes_eq key y.key) (λ y. bytes_eq human y.human) (all_sayings p)
      ∙ any_through wordings_of sayings_of finds (says key human) said_of_definition p.structure_definitions
      (first_among (said_of key None) human (all_wordings p) e)

module _ (p : Definitions) (c : Carrier) (human : Text) where
  abbrev IsTold : Unread → Type 0
  IsTold u = (sentence_shown p c (Some u) ≡ Some human) ⊎ (list_any (λ y. bytes_eq human y.human) (sayings_for p (Some u)) ≡ true)

  pub sentence_told : (u : Unread) → c.carried ≡ rule u → sentence_for p c ≡ Some human → IsTold u
  sentence_told (range property value) is e = inl e
  sentence_told (target canonical) is e = inl e
  sentence_told (profile canonical) is e = inl e
  sentence_told (binding canonical) is e = inl e
  sentence_told (expression text) is e = inl e
  sentence_told (constraint key) is e =
      inr (found_said key human p (sym (ap (λ (d : Carried). option_and_then (λ n. sentence_of p n.0 n.1) (named_by c.key d)) is) ∙ e))
