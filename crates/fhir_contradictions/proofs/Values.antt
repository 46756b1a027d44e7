-- Where a slice is told by a value, and another one is asked there.
use Rattle.std.proofs.Common.{◌≡◌, Bool, true, false, not, List, [], ◌∷◌, length, Option, Some, None, refl, sym, ap, subst, ◌∙◌, inl, inr, ◌&&◌, ◌||◌, IsTrue, nat_eq}
use Rattle.std.specs.Prelude.{if◌then◌else◌}
use Rattle.std.specs.List.{list_any}
use Rattle.std.specs.Option.{option_map_or, option_and_then}
use Rattle.std.specs.Cmp.Lexicographic.{bytes_decides}
use Rattle.std.proofs.lemmas.Bool.{and_parts, or_cases, false≢true}
use Rattle.fhir_json.specs.Tree.{Text, Tree, null, boolean, number, string, array, object}
use Rattle.fhir_json.specs.Bytes.{is_empty}
use Rattle.fhir_matching.specs.Equality.{equal, same_flag}
use Rattle.fhir_elements.specs.TypeEntry.{TypeEntry}
use Rattle.fhir_elements.specs.Element.{Element}
use Rattle.fhir_nodes.specs.declared.node.NodeRef.{NodeRef}
use Rattle.fhir_forms.specs.Criteria.{Sought, pattern, present, absent, typed, sole}
use Rattle.fhir_forms.specs.Criteria.{fixed as fixed_sought}
use Rattle.fhir_schema.specs.Schemas.{SchemaValue, element_at, is_root_node, types, loaded, criteria}
use Rattle.fhir_instance.specs.Items.{Item, item}
use Rattle.fhir_facets.specs.Unread.{Meaning}
use Rattle.fhir_facets.specs.Unread.{profile as unread_profile}
use Rattle.fhir_facets.specs.Values.{is_alone, fixed_holds}
use Rattle.fhir_slicing.specs.Belonging.{items_at, is_value, is_found, criterion_holds, belongs}
use Rattle.fhir_conformance.specs.Conformance.{Interpretation, Around, meaning_at, resource_at, inside, seen, fixed_at, entry_allows, profile_holds, profiles_hold, entry_holds, root_holds, inner_holds, item_holds, conforms, kid_tests}
use Rattle.fhir_contradictions.specs.Along.{end_along}
use Rattle.fhir_contradictions.specs.Contradictions.{is_scalar, fixes_other, value_of, is_elsewhere, profile_root, has_other_value}
use Rattle.fhir_contradictions.proofs.Passing.{some_at}
use Rattle.fhir_contradictions.proofs.Obeying.{typed_entry, fixed_rule}
use Rattle.fhir_contradictions.proofs.Paths.{End}

-- ---- values without parts

-- of truth values
same_flags : (a b : Bool) → same_flag a b ≡ true → a ≡ b
same_flags true true alike = refl
same_flags true false alike = absurd (false≢true alike)
same_flags false true alike = absurd (false≢true alike)
same_flags false false alike = refl

-- only itself is equal to one
same : (o j : Tree) → IsTrue (is_scalar j) → IsTrue (equal o j) → o ≡ j
same o (array ts) scalar alike = absurd (false≢true scalar)
same o (object ms) scalar alike = absurd (false≢true scalar)
same null null scalar alike = refl
same null (boolean b) scalar alike = absurd (false≢true alike)
same null (number n) scalar alike = absurd (false≢true alike)
same null (string t) scalar alike = absurd (false≢true alike)
same (boolean b') null scalar alike = absurd (false≢true alike)
same (boolean b') (boolean b) scalar alike = ap boolean (same_flags b' b alike)
same (boolean b') (number n) scalar alike = absurd (false≢true alike)
same (boolean b') (string t) scalar alike = absurd (false≢true alike)
same (number n') null scalar alike = absurd (false≢true alike)
same (number n') (boolean b) scalar alike = absurd (false≢true alike)
same (number n') (number n) scalar alike = ap number ((bytes_decides n' n).0 alike)
same (number n') (string t) scalar alike = absurd (false≢true alike)
same (string t') null scalar alike = absurd (false≢true alike)
same (string t') (boolean b) scalar alike = absurd (false≢true alike)
same (string t') (number n) scalar alike = absurd (false≢true alike)
same (string t') (string t) scalar alike = ap string ((bytes_decides t' t).0 alike)
same (array ts') null scalar alike = absurd (false≢true alike)
same (array ts') (boolean b) scalar alike = absurd (false≢true alike)
same (array ts') (number n) scalar alike = absurd (false≢true alike)
same (array ts') (string t) scalar alike = absurd (false≢true alike)
same (object ms') null scalar alike = absurd (false≢true alike)
same (object ms') (boolean b) scalar alike = absurd (false≢true alike)
same (object ms') (number n) scalar alike = absurd (false≢true alike)
same (object ms') (string t) scalar alike = absurd (false≢true alike)

-- what one is equal to has none either
scalar_too : (v j : Tree) → IsTrue (is_scalar v) → IsTrue (equal v j) → IsTrue (is_scalar j)
scalar_too v null scalar alike = refl
scalar_too v (boolean b) scalar alike = refl
scalar_too v (number n) scalar alike = refl
scalar_too v (string t) scalar alike = refl
scalar_too null (array ts) scalar alike = absurd (false≢true alike)
scalar_too null (object ms) scalar alike = absurd (false≢true alike)
scalar_too (boolean b') (array ts) scalar alike = absurd (false≢true alike)
scalar_too (boolean b') (object ms) scalar alike = absurd (false≢true alike)
scalar_too (number n') (array ts) scalar alike = absurd (false≢true alike)
scalar_too (number n') (object ms) scalar alike = absurd (false≢true alike)
scalar_too (string t') (array ts) scalar alike = absurd (false≢true alike)
scalar_too (string t') (object ms) scalar alike = absurd (false≢true alike)
scalar_too (array ts') (array ts) scalar alike = absurd (false≢true scalar)
scalar_too (array ts') (object ms) scalar alike = absurd (false≢true scalar)
scalar_too (object ms') (array ts) scalar alike = absurd (false≢true scalar)
scalar_too (object ms') (object ms) scalar alike = absurd (false≢true scalar)

-- an item that is equal to one is equal to no other fixed value
other_refused : (value other : Tree) (json : Option Tree) (alone : Tree → Bool) → IsTrue (is_scalar value) → IsTrue (option_map_or (equal value) json false)
    → IsTrue (option_map_or (λ j. equal other j && alone j) json false) → IsTrue (not (equal value other)) → ⊥
other_refused value other None alone scalar found holds refused = false≢true found
other_refused value other (Some j) alone scalar found holds refused =
    let is = same other j (scalar_too value j scalar found) (and_parts (equal other j) (alone j) holds).0 in
    let alike = subst (λ (t : Tree). IsTrue (equal value t)) (sym is) found in
    false≢true (sym (ap (λ b. not b) alike) ∙ refused)

-- so none is of an element whose fixed value is another
fixed_refused : (s : SchemaValue) (meaning : Interpretation) (a : Around) (z : Item) (b : NodeRef) (value : Tree) → IsTrue (is_scalar value) → IsTrue (is_value value z)
    → IsTrue (conforms s meaning a z b) → IsTrue (fixes_other s value b) → ⊥
fixed_refused s meaning a (item type json kids) b value scalar found holds refused =
    by_element (element_at s b)
    (fixed_rule s (meaning_at meaning a) (resource_at s a (item type json kids)) (item type json kids) (kid_tests s meaning (inside s a (item type json kids)) 0 kids) b holds) refused
  where
    by_fixed : (o : Option (Text × Tree)) → IsTrue (option_map_or (λ p. fixed_holds p.1 (seen (item type json kids))) o true)
        → IsTrue (option_map_or (λ p. not (equal value p.1)) o false) → ⊥
    by_fixed None rule refused = false≢true refused
    by_fixed (Some p) rule refused = other_refused value p.1 json (is_alone (seen (item type json kids))) scalar found rule refused

    by_element : (o : Option Element) → IsTrue (option_map_or (fixed_at (item type json kids)) o true)
        → IsTrue (option_map_or (λ e. option_map_or (λ p. not (equal value p.1)) e.fixed false) o false) → ⊥
    by_element None rule refused = false≢true refused
    by_element (Some e) rule refused = by_fixed e.fixed rule refused

-- ---- a value that is told, where another one is fixed

-- what is found at the ends of paths conforms to the nodes there
abbrev pub EndsConform : SchemaValue → Interpretation → Option NodeRef → Item → Type 0
EndsConform s meaning by x =
    (found : Item → Bool) (b : NodeRef) (names : List Text) (around : Around) (q : NodeRef) → IsTrue (list_any found (items_at names x))
    → end_along s by q names ≡ Some b → IsTrue (conforms s meaning around x q) → End s meaning found b

module _ (s : SchemaValue) (meaning : Interpretation) (a : Around) (by : Option NodeRef) (x : Item) (ends : EndsConform s meaning by x) (n : NodeRef) where
  -- an item at which a value is found conforms to no node with another value fixed there
  value_refused : (names : List Text) (value : Tree) → IsTrue (is_scalar value) → IsTrue (option_map_or (fixes_other s value) (end_along s by n names) false)
      → IsTrue (list_any (is_value value) (items_at names x)) → IsTrue (conforms s meaning a x n) → ⊥
  value_refused names value scalar elsewhere any holds = by_end (end_along s by n names) refl elsewhere
    where
      by_end : (o : Option NodeRef) → end_along s by n names ≡ o → IsTrue (option_map_or (fixes_other s value) o false) → ⊥
      by_end None leads elsewhere = false≢true elsewhere
      by_end (Some b) leads elsewhere =
          let end = ends (is_value value) b names a n any leads holds in
          fixed_refused s meaning end.around end.end b value scalar end.is_found end.holds elsewhere

  -- whatever is looked for
  sought_refused : (names : List Text) (sought : Sought)
      → IsTrue (option_map_or (λ value. option_map_or (fixes_other s value) (end_along s by n names) false) (value_of sought) false)
      → IsTrue (is_found s sought (items_at names x)) → IsTrue (conforms s meaning a x n) → ⊥
  sought_refused names (fixed_sought value) elsewhere found holds = by_kind (is_scalar value) refl elsewhere
    where
      by_kind : (c : Bool) → is_scalar value ≡ c
          → IsTrue (option_map_or (λ value. option_map_or (fixes_other s value) (end_along s by n names) false) (if c then Some value else None) false) → ⊥
      by_kind true scalar elsewhere = value_refused names value scalar elsewhere found holds
      by_kind false scalar elsewhere = false≢true elsewhere
  sought_refused names (pattern t) elsewhere found holds = false≢true elsewhere
  sought_refused names present elsewhere found holds = false≢true elsewhere
  sought_refused names absent elsewhere found holds = false≢true elsewhere
  sought_refused names (typed ts) elsewhere found holds = false≢true elsewhere

  -- none of the criteria looks for a value other than the one that is fixed there
  none_elsewhere : (slice : NodeRef) → IsTrue (list_any (is_elsewhere s by n) (criteria s slice)) → IsTrue (belongs s (criteria s slice) x)
      → IsTrue (conforms s meaning a x n) → ⊥
  none_elsewhere slice elsewhere found holds =
      let it = some_at (is_elsewhere s by n) (criterion_holds s x) (criteria s slice) elsewhere found in
      let c = it.0 in
      sought_refused c.names c.sought it.1.0 it.1.1 holds

-- ---- the profile of the one type

as_root : (s : SchemaValue) (m : Meaning) (resource x : Item) (kids : List (NodeRef → Bool)) (r : NodeRef) → IsTrue (is_root_node s r)
    → IsTrue (root_holds s m resource x kids r) → IsTrue (item_holds s m resource x kids r)
as_root s m resource x kids r = by_case (is_root_node s r)
  where
    by_case : (b : Bool) → IsTrue b → IsTrue (root_holds s m resource x kids r)
        → IsTrue (if b then root_holds s m resource x kids r else inner_holds s m resource x kids r)
    by_case true is holds = holds
    by_case false is holds = absurd (false≢true is)

-- the only one
only : {A : Type 0} (xs : List A) (x : A) → sole xs ≡ Some x → xs ≡ x ∷ []
only [] x is = absurd cc
only (y ∷ []) x is = cc
only (y ∷ z ∷ zs) x is = absurd cc

module _ (s : SchemaValue) (are_roots : (canonical : Text) (r : NodeRef) → loaded s canonical ≡ Some r → IsTrue (is_root_node s r))
    (m : Meaning) (resource x : Item) (kids : List (NodeRef → Bool)) where
  -- an item of the one type conforms to its one profile
  of_profile : (n r : NodeRef) (e : TypeEntry) (p : Text) → types s n ≡ e ∷ [] → e.profiles ≡ p ∷ [] → loaded s p ≡ Some r
      → IsTrue (item_holds s m resource x kids n) → IsTrue (item_holds s m resource x kids r)
  of_profile n r e p one named is holds =
      let entries = typed_entry s m resource x kids n (ap (λ (es : List TypeEntry). not (nat_eq (length es) 0)) one) holds in
      let entry = or_only (entry_holds s m (root_holds s m resource x kids) x e)
      (sym (ap (λ (es : List TypeEntry). list_any (entry_holds s m (root_holds s m resource x kids) x) es) one) ∙ entries) in
      let profiles = (and_parts (entry_allows s m x e) (profiles_hold s m (root_holds s m resource x kids) x e.profiles) entry).1 in
      let profile = or_only (profile_holds s m (root_holds s m resource x kids) x p)
      (sym (ap (λ (ps : List Text). is_empty ps || list_any (profile_holds s m (root_holds s m resource x kids) x) ps) named) ∙ profiles) in
      as_root s m resource x kids r (are_roots p r is)
      (sym (ap (λ (o : Option NodeRef). option_map_or (root_holds s m resource x kids) o (m (unread_profile p))) is) ∙ profile)
    where
      or_only : (b : Bool) → (b || false) ≡ true → b ≡ true
      or_only true h = refl
      or_only false h = h

  -- so does one of a node that names one type with one profile
  pub conforms_to_profile : (n r : NodeRef) → profile_root s n ≡ Some r → IsTrue (item_holds s m resource x kids n) → IsTrue (item_holds s m resource x kids r)
  conforms_to_profile n r is holds = by_entry (sole (types s n)) refl is
    where
      by_profile : (e : TypeEntry) → sole (types s n) ≡ Some e → (o : Option Text) → sole e.profiles ≡ o → option_and_then (loaded s) o ≡ Some r
          → IsTrue (item_holds s m resource x kids r)
      by_profile e one None named is = absurd cc
      by_profile e one (Some p) named is = of_profile n r e p (only (types s n) e one) (only e.profiles p named) is holds

      by_entry : (o : Option TypeEntry) → sole (types s n) ≡ o → option_and_then (loaded s) (option_and_then (λ entry. sole entry.profiles) o) ≡ Some r
          → IsTrue (item_holds s m resource x kids r)
      by_entry None one is = absurd cc
      by_entry (Some e) one is = by_profile e one (sole e.profiles) refl is

-- no item of the slice conforms to both
pub none_with_value : (s : SchemaValue) → ((canonical : Text) (r : NodeRef) → loaded s canonical ≡ Some r → IsTrue (is_root_node s r))
    → (meaning : Interpretation) (a : Around) (by : Option NodeRef) (x : Item) → EndsConform s meaning by x → (n slice : NodeRef)
    → IsTrue (has_other_value s by n slice) → IsTrue (belongs s (criteria s slice) x)
    → IsTrue (conforms s meaning a x n) → IsTrue (conforms s meaning a x slice) → ⊥
none_with_value s are_roots meaning a by (item type json kids) ends n slice others found at_n at_slice =
    elim (or_cases (list_any (is_elsewhere s by n) (criteria s slice))
    (option_map_or (λ r. list_any (is_elsewhere s by r) (criteria s slice)) (profile_root s slice) false) others) [
      | inl elsewhere ↦ none_elsewhere s meaning a by (item type json kids) ends n slice elsewhere found at_n
      | inr elsewhere ↦ by_root (profile_root s slice) refl elsewhere
    ]
  where
    by_root : (o : Option NodeRef) → profile_root s slice ≡ o → IsTrue (option_map_or (λ r. list_any (is_elsewhere s by r) (criteria s slice)) o false) → ⊥
    by_root None is elsewhere = false≢true elsewhere
    by_root (Some r) is elsewhere =
        none_elsewhere s meaning a by (item type json kids) ends r slice elsewhere found
        (conforms_to_profile s are_roots (meaning_at meaning a) (resource_at s a (item type json kids)) (item type json kids)
        (kid_tests s meaning (inside s a (item type json kids)) 0 kids) slice r is at_slice)
