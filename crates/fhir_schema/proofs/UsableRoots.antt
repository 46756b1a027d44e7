-- A definition that is loaded and has no reason has a root.
use Rattle.std.proofs.Common.{◌≡◌, ℕ, suc, ◌<◌, List, [], ◌∷◌, length, Bool, true, false, not, ◌||◌, ◌==◌, cond, nat_lt, Option, Some, None, is_some}
use Rattle.std.proofs.Common.{refl, ap, sym, ◌∙◌, arith, IsTrue}
use Rattle.std.specs.Option.{option_and_then, option_map, IsSome}
use Rattle.std.specs.List.{slice_get, list_all, count_by, position, position_or_len}
use Rattle.std.specs.Str.{bytes_eq}
use Rattle.std.proofs.lemmas.Bool.{and_parts, lt-ltb, eqb-true}
use Rattle.std.proofs.lemmas.List.Folds.{list_all-append}
use Rattle.std.proofs.lemmas.Option.{none-some, same_Some}
use Rattle.fhir_json.specs.Tree.{Text}
use Rattle.fhir_elements.specs.Element.{Element}
use Rattle.fhir_elements.specs.Tests.{all_hold}
use Rattle.fhir_definition.specs.Snapshot.{is_root, has_parent, is_tree, root_place}
use Rattle.fhir_definition.specs.Definition.{Definition, has_snapshot}
use Rattle.fhir_nodes.specs.Tables.{ArePlaced}
use Rattle.fhir_schema.specs.Usability.{IsClosed}
use Rattle.fhir_schema.specs.Settling.{reason_at, types_are_usable, targets_are_usable, fault_of, is_well_formed, has_tree, lasting_tests, tests, all_reasons}
use Rattle.fhir_nodes.specs.Urls.{url_place}
use Rattle.fhir_forms.specs.Forms.{spells_apart}
use Rattle.fhir_forms.specs.Criteria.{are_told_apart}
use Rattle.fhir_codes.specs.Expanding.{Expansions}
use Rattle.fhir_schema.specs.Schemas.{schema_with, has_definition, unusable, root, root_in}

-- ---- what is found under a url

-- a definition is at the place that is found
pub found : (es : List Definition) (url : Text) (place : ℕ) → url_place es url ≡ Some place
    → (d : Definition) × (k : ℕ) × (slice_get es k ≡ Some d) × (d.place ≡ place)
found [] url place e = absurd (none-some place e)
found (x ∷ es) url place e = go (bytes_eq url x.url) e (found es url place)
  where
    go : (b : Bool) → cond b (Some x.place) (url_place es url) ≡ Some place
        → (url_place es url ≡ Some place → (d : Definition) × (k : ℕ) × (slice_get es k ≡ Some d) × (d.place ≡ place))
        → (d : Definition) × (k : ℕ) × (slice_get (x ∷ es) k ≡ Some d) × (d.place ≡ place)
    go true e behind = (x, 0, refl, same_Some x.place place e)
    go false e behind = let rest = behind e in (rest.0, suc rest.1, rest.2, rest.3)

-- ---- a tree has a root

module _ {X : Type 0} (p : X → Bool) where
  first_of_some : (xs : List X) → 0 < count_by p xs → position_or_len p xs < length xs
  first_of_some [] h = absurd (omega arith)
  first_of_some (x ∷ xs) h = go (p x) refl (first_of_some xs)
    where
      go : (b : Bool) → p x ≡ b → (0 < count_by p xs → position_or_len p xs < length xs) → position_or_len p (x ∷ xs) < length (x ∷ xs)
      go true is behind = grind (arith, is)
      go false is behind =
          let more : 0 < count_by p xs = grind (arith, is, h) in
          let rest = behind more in
          grind (arith, is, rest)

  cond_some : (b : Bool) (n : ℕ) → b ≡ true → is_some (cond b (Some n) None) ≡ true
  cond_some true n e = refl
  cond_some false n e = cc

  place_of_some : (xs : List X) → 0 < count_by p xs → is_some (position p xs) ≡ true
  place_of_some xs h =
      cond_some (nat_lt (position_or_len p xs) (length xs)) (position_or_len p xs)
      (lt-ltb (position_or_len p xs) (length xs) (first_of_some xs h))

tree_root : (es : List Element) → is_tree es ≡ true → is_some (root_place es) ≡ true
tree_root es h =
    let parts = and_parts (list_all (has_parent es) es) (count_by is_root es == 1) h in
    let one : count_by is_root es ≡ 1 = eqb-true (count_by is_root es) 1 parts.1 in
    place_of_some is_root es (omega arith)

-- ---- what has no reason is a tree

both : (snapshot formed : Bool) → (not snapshot || formed) ≡ true → snapshot ≡ true → formed ≡ true
both true formed h is = h
both false formed h is = cc

module _ (ds : List Definition) where
  tree_if_held : (d : Definition) → IsTrue (all_hold (tests ds (all_reasons ds) d)) → is_tree d.elements ≡ true
  tree_if_held d h =
      let rest = and_parts _ _ (sym (list_all-append (λ test. test.0) (fault_of d) _) ∙ h) in
      let others = and_parts (types_are_usable ds (all_reasons ds) d) _ rest.1 in
      let formed = and_parts (has_tree ds d) _ others.1 in
      let lasting = and_parts (targets_are_usable ds (all_reasons ds) d) (all_hold (lasting_tests ds d)) formed.1 in
      let ends = and_parts _ _ lasting.1 in
      let told = and_parts (are_told_apart ds d) _ ends.1 in
      let snapshot = and_parts (has_snapshot d) _ told.1 in
      let whole : is_well_formed ds d ≡ true = both (has_snapshot d) (is_well_formed ds d) formed.0 snapshot.0 in
      (and_parts (is_tree d.elements) (spells_apart ds d) whole).0

  mapped_some : {A B : Type 0} (f : A → B) (o : Option A) → is_some o ≡ true → is_some (option_map f o) ≡ true
  mapped_some f (Some a) e = refl
  mapped_some f None e = cc

  module _ (sets : Expansions) (is_placed : ArePlaced ds) (is_closed : IsClosed ds (all_reasons ds)) where
    root_there : (d : Definition) (place : ℕ) → slice_get ds place ≡ Some d → reason_at (all_reasons ds) place ≡ None
        → IsSome (root_in (schema_with ds sets) place)
    root_there d place at none =
        let is : d.place ≡ place = is_placed place d at in
        let held = is_closed d (ap (slice_get ds) is ∙ at) (ap (reason_at (all_reasons ds)) is ∙ none) in
        let some : is_some (root_place d.elements) ≡ true = tree_root d.elements (tree_if_held d held) in
        rw (none, at) (mapped_some _ (root_place d.elements) some)

    root_found : (url : Text) (o : Option ℕ) → url_place ds url ≡ o → is_some o ≡ true → option_and_then (reason_at (all_reasons ds)) o ≡ None
        → IsSome (option_and_then (root_in (schema_with ds sets)) o)
    root_found url None is some none = cc
    root_found url (Some place) is some none =
        let there = found ds url place is in
        let d = there.0 in
        let same : there.1 ≡ place = sym (is_placed there.1 d there.2) ∙ there.3 in
        root_there d place (ap (slice_get ds) (sym same) ∙ there.2) none

    pub usable_root : (url : Text) → IsTrue (has_definition (schema_with ds sets) url) → unusable (schema_with ds sets) url ≡ None → IsSome (root (schema_with ds sets) url)
    usable_root url some none = root_found url (url_place ds url) refl some none
