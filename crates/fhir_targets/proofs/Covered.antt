-- Which types are covered by those of a base's targets.
use Rattle.std.proofs.Common.{◌≡◌, ℕ, List, [], ◌∷◌, length, Bool, true, false, ◌&&◌, ◌||◌, Option, None, Some, IsTrue, inl, inr, refl, sym, ap, ap₂, ◌∙◌}
use Rattle.std.proofs.lemmas.Bool.{and_from, or_left, or_right, or_cases, false≢true, false_from_ne_true}
use Rattle.std.proofs.lemmas.Slice.Eq.{bytes_eq-Decides}
use Rattle.std.specs.List.{list_any}
use Rattle.std.specs.Option.{option_map_or}
use Rattle.std.specs.Str.{bytes_eq}
use Rattle.fhir_json.specs.Tree.{Text}
use Rattle.fhir_nodes.specs.Types.{type_place, names_resource}
use Rattle.fhir_schema.specs.Settling.{ends_within}
use Rattle.fhir_schema.specs.Covers.{meets_within, reaches, reaches_type, covers}
use Rattle.fhir_schema.specs.Schemas.{SchemaValue}
use Rattle.fhir_facets.specs.Targets.{target_type, covers_known, target_narrower}
use Rattle.fhir_targets.specs.Chains.{IsReaching, IsAnswer}
use Rattle.fhir_targets.specs.Base.{has_code, is_covered}
use Rattle.fhir_targets.proofs.Climbing.{settles}

module _ (s : SchemaValue) where
  any_covers : (targets : List Text) (c code : Text) → IsTrue (has_code s targets c) → IsTrue (covers s c code) → IsTrue (is_covered s targets code)
  any_covers [] c code named covered = absurd (false≢true named)
  any_covers (t ∷ ts) c code named covered = go (target_type s t) (λ h. any_covers ts c code h covered) named
    where
      go : (o : Option Text) → (IsTrue (has_code s ts c) → IsTrue (is_covered s ts code)) → IsTrue (option_map_or (bytes_eq c) o false || has_code s ts c)
          → IsTrue (option_map_or (λ d. covers s d code) o false || is_covered s ts code)
      go None rest h = rest h
      go (Some d) rest h =
          elim (or_cases (bytes_eq c d) (has_code s ts c) h) [
            | inl same ↦ or_left (covers s d code) (is_covered s ts code)
                (sym (ap (λ (x : Text). covers s x code) ((bytes_eq-Decides c d).0 same)) ∙ covered)
            | inr later ↦ or_right (covers s d code) (is_covered s ts code) (rest later)
          ]

  none_covers : (targets : List Text) (code : Text) → ((c : Text) → IsTrue (has_code s targets c) → covers s c code ≡ false)
      → is_covered s targets code ≡ false
  none_covers [] code none = refl
  none_covers (t ∷ ts) code none = go (target_type s t) (λ others. none_covers ts code others) none
    where
      go : (o : Option Text) → (((c : Text) → IsTrue (has_code s ts c) → covers s c code ≡ false) → is_covered s ts code ≡ false)
          → ((c : Text) → IsTrue (option_map_or (bytes_eq c) o false || has_code s ts c) → covers s c code ≡ false)
          → (option_map_or (λ d. covers s d code) o false || is_covered s ts code) ≡ false
      go None rest none_does = rest none_does
      go (Some d) rest none_does =
          ap₂ (λ (a b : Bool). a || b) (none_does d (or_left (bytes_eq d d) (has_code s ts d) ((bytes_eq-Decides d d).1 refl)))
          (rest (λ c h. none_does c (or_right (bytes_eq c d) (has_code s ts c) h)))

  -- a type covers itself
  pub covered_by_itself : (targets : List Text) (code : Text) → IsTrue (has_code s targets code) → IsTrue (is_covered s targets code)
  covered_by_itself targets code named =
      any_covers targets code code named (or_left (bytes_eq code code) (names_resource s.definitions code && reaches_type s.definitions code code) ((bytes_eq-Decides code code).1 refl))

  -- one of the base's covers it
  pub covered : (targets : List Text) (code c : Text) (start : ℕ) → IsReaching s.definitions (has_code s targets) start c → IsTrue (covers s c code)
      → IsTrue (is_covered s targets code)
  covered targets code c start r is = any_covers targets c code r.named is

  other : (targets : List Text) (c code : Text) → has_code s targets code ≡ false → IsTrue (has_code s targets c) → bytes_eq c code ≡ false
  other targets c code none named =
      false_from_ne_true (bytes_eq c code)
      (λ same. false≢true (sym none ∙ ap (has_code s targets) (sym ((bytes_eq-Decides c code).0 same)) ∙ named))

  -- a code that no definition has
  pub not_covered_unplaced : (targets : List Text) (code : Text) → has_code s targets code ≡ false → type_place s.definitions code ≡ None
      → is_covered s targets code ≡ false
  not_covered_unplaced targets code none is =
      none_covers targets code (λ c named. go c (other targets c code none named))
    where
      and_no : (b : Bool) → (b && false) ≡ false
      and_no true = refl
      and_no false = refl

      go : (c : Text) → bytes_eq c code ≡ false → covers s c code ≡ false
      go c apart = rw (apart, is) (and_no (names_resource s.definitions c))

  -- whose chain of bases comes by no type of a base's target
  pub not_covered_by : (targets : List Text) (code : Text) (start : ℕ) → has_code s targets code ≡ false → type_place s.definitions code ≡ Some start
      → ((c : Text) (goal : ℕ) → IsTrue (has_code s targets c) → IsTrue (names_resource s.definitions c) → type_place s.definitions c ≡ Some goal
      → reaches s.definitions start goal ≡ false)
      → is_covered s targets code ≡ false
  not_covered_by targets code start none is none_reached =
      none_covers targets code
      (λ c named. at c (other targets c code none named) (names_resource s.definitions c) refl (type_place s.definitions c) refl named)
    where
      at : (c : Text) → bytes_eq c code ≡ false → (b : Bool) → names_resource s.definitions c ≡ b → (o : Option ℕ) → type_place s.definitions c ≡ o
          → IsTrue (has_code s targets c) → covers s c code ≡ false
      at c apart false res o place named = rw (apart, res) refl
      at c apart true res None place named = rw (apart, res, is, place) refl
      at c apart true res (Some goal) place named = rw (apart, res, is, place) (none_reached c goal named res place)

  pub not_covered_apart : (targets : List Text) (code : Text) (start : ℕ) → has_code s targets code ≡ false → type_place s.definitions code ≡ Some start
      → IsAnswer s.definitions (has_code s targets) start None → is_covered s targets code ≡ false
  not_covered_apart targets code start none is answer =
      not_covered_by targets code start none is
      (λ c goal named res place. and_second (ends_within s.definitions (length s.definitions) (Some start)) _ (answer c goal named res place))
    where
      and_second : (a b : Bool) → b ≡ false → (a && b) ≡ false
      and_second true b e = e
      and_second false b e = refl

  -- a chain that comes by a type without covering it doesn't end, and is of no type
  pub not_covered_unended : (targets : List Text) (code c : Text) (start : ℕ) → has_code s targets code ≡ false → type_place s.definitions code ≡ Some start
      → IsReaching s.definitions (has_code s targets) start c → covers s c code ≡ false → is_covered s targets code ≡ false
  not_covered_unended targets code c start none is r uncovered =
      not_covered_by targets code start none is
      (λ d goal named res place. ap (λ (b : Bool). b && meets_within s.definitions goal (length s.definitions) (Some start)) unended)
    where
      unended : ends_within s.definitions (length s.definitions) (Some start) ≡ false
      unended =
          false_from_ne_true (ends_within s.definitions (length s.definitions) (Some start))
          (λ ends.
          let meets = settles s.definitions (length s.definitions) r.steps r.goal (Some start) ends r.meets in
          let reached = and_from (ends_within s.definitions (length s.definitions) (Some start)) (meets_within s.definitions r.goal (length s.definitions) (Some start)) ends meets in
          let is_reached : IsTrue (reaches_type s.definitions code c) = rw (is, r.at) reached in
          let is_covering : IsTrue (covers s c code) =
          or_right (bytes_eq c code) (names_resource s.definitions c && reaches_type s.definitions code c)
          (and_from (names_resource s.definitions c) (reaches_type s.definitions code c) r.resource is_reached) in
          false≢true (sym uncovered ∙ is_covering))

  -- ---- a target

  no_type : (targets : List Text) → list_any (λ t. option_map_or (λ c. false) (target_type s t) false) targets ≡ false
  no_type [] = refl
  no_type (t ∷ ts) = ap₂ (λ (a b : Bool). a || b) (at (target_type s t)) (no_type ts)
    where
      at : (o : Option Text) → option_map_or (λ c. false) o false ≡ false
      at None = refl
      at (Some c) = refl

  -- by its text, or by its type
  by_text_or_type : (own : Text) (targets : List Text)
      → list_any (target_narrower s own) targets
      ≡ (list_any (bytes_eq own) targets || list_any (λ t. covers_known s (target_type s t) (target_type s own)) targets)
  by_text_or_type own [] = refl
  by_text_or_type own (t ∷ ts) =
      ap (λ (b : Bool). target_narrower s own t || b) (by_text_or_type own ts)
      ∙ swapped (bytes_eq own t) (covers_known s (target_type s t) (target_type s own)) (list_any (bytes_eq own) ts)
      (list_any (λ u. covers_known s (target_type s u) (target_type s own)) ts)
    where
      swapped : (a b c d : Bool) → ((a || b) || (c || d)) ≡ ((a || c) || (b || d))
      swapped true b c d = refl
      swapped false true true d = refl
      swapped false true false d = refl
      swapped false false c d = refl

  pub by_text : (own : Text) (targets : List Text) → list_any (bytes_eq own) targets ≡ true → list_any (target_narrower s own) targets ≡ true
  by_text own targets is =
      by_text_or_type own targets
      ∙ or_left (list_any (bytes_eq own) targets) (list_any (λ t. covers_known s (target_type s t) (target_type s own)) targets) is

  pub by_type : (own : Text) (targets : List Text) (code : Text) → list_any (bytes_eq own) targets ≡ false → target_type s own ≡ Some code
      → is_covered s targets code ≡ list_any (target_narrower s own) targets
  by_type own targets code none is =
      sym (by_text_or_type own targets ∙ (λ i. none i || list_any (λ t. covers_known s (target_type s t) (is i)) targets))

  pub by_neither : (own : Text) (targets : List Text) → list_any (bytes_eq own) targets ≡ false → target_type s own ≡ None
      → false ≡ list_any (target_narrower s own) targets
  by_neither own targets none is =
      sym (by_text_or_type own targets ∙ (λ i. none i || list_any (λ t. covers_known s (target_type s t) (is i)) targets) ∙ no_type targets)
