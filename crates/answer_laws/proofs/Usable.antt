-- A definition that can be used brings what makes a snapshot.
use Rattle.std.proofs.Common.{◌≡◌, ◌+◌, ℕ, zero, suc, List, [], ◌∷◌, ◌++◌, map, length, Bool, cond, true, false, not, Option, None, Some, is_none, IsTrue, arith, refl, ap, sym, ◌∙◌, subst, nat_lt}
use Rattle.std.specs.Prelude.{◌&&◌, ◌||◌, codes}
use Rattle.std.specs.List.{list_all, list_any, slice_get}
use Rattle.std.specs.Map.{lookup}
use Rattle.std.specs.Option.{option_map_or, option_and_then}
use Rattle.std.specs.Str.{bytes_eq}
use Rattle.std.proofs.lemmas.Bool.{and_parts, and_from, or_parts, not-true, false≢true}
use Rattle.std.proofs.lemmas.List.Folds.{list_all-append}
use Rattle.std.proofs.lemmas.Option.{none-some, same_Some}
use Rattle.std.proofs.lemmas.Slice.Eq.{bytes_eq-Decides}
use Rattle.fhir_json.specs.Tree.{Text, Tree, list_of}
use Rattle.fhir_json.specs.Fields.{field, is_object, is_array, as_items, items_in}
use Rattle.fhir_elements.specs.declared.reason.Reason.{Reason}
use Rattle.fhir_elements.specs.declared.reason.Reason.TheVariants.{WrongField, MinOverMax, RepeatedType, WrongId}
use Rattle.fhir_elements.specs.Tests.{first_of, all_hold}
use Rattle.fhir_elements.specs.TypeEntry.{codes_differ}
use Rattle.fhir_elements.specs.Element.{Element, element_fault, fields_of, has_right_fields, has_right_bounds, has_readable_id}
use Rattle.fhir_package.specs.declared.kind.Kind.TheVariants.{StructureDefinition}
use Rattle.fhir_package.specs.Definitions.{ByUrl, Definitions, at_url}
use Rattle.fhir_definition.specs.Bounds.{has_lexical_bounds}
use Rattle.fhir_definition.specs.Definition.{Definition, element_trees, element_faults, is_whole, is_wrong_field, is_min_over_max, is_repeated_type, is_wrong_id, own_fault, definition_of, definitions_from, has_snapshot}
use Rattle.fhir_definition.specs.Head.{has_right_head, has_right_snapshot}
use Rattle.fhir_definition.specs.Snapshot.{ids_differ}
use Rattle.fhir_nodes.specs.Urls.{url_place}
use Rattle.fhir_schema.specs.Schemas.{schema_of, unusable, elements_at, elements_of_url}
use Rattle.fhir_schema.specs.Settling.{Reasons, reason_at, fault_of, tests, chain_ends, types_are_usable, has_tree, targets_are_usable}
use Rattle.fhir_schema.specs.Usability.{IsClosed}
use Rattle.fhir_forms.specs.Criteria.{are_told_apart}
use Rattle.fhir_inheritance.specs.Lists.{has_any}
use Rattle.fhir_inheritance.specs.Sources.{has_elements, brings_snapshot, elements_in}
use Rattle.fhir_snapshot.specs.declared.fault.SnapNumber.{SnapNumber}
use Rattle.fhir_snapshot.specs.Completing.{Numbered, Gets, Becomes, AreCompleted, IsCompletion}
use Rattle.fhir_snapshot.specs.Snapshots.{has_right_part, brings_elements, is_right, IsMade, SnapshotIn, IsSnapshot}
use Rattle.snapshot_laws.specs.Right.{AreRight}

-- ---- tests

-- nothing is answered of four tests where each holds
all_four : {R : Type 0} (a b c d : Bool) (x y z w : R) → first_of ((a, x) ∷ (b, y) ∷ (c, z) ∷ (d, w) ∷ []) ≡ None
    → (a ≡ true) × (b ≡ true) × (c ≡ true) × (d ≡ true)
all_four true true true true x y z w e = (refl, refl, refl, refl)
all_four true true true false x y z w e = absurd (none-some w (sym e))
all_four true true false d x y z w e = absurd (none-some z (sym e))
all_four true false c d x y z w e = absurd (none-some y (sym e))
all_four false b c d x y z w e = absurd (none-some x (sym e))

-- an element has one of four faults, or none
one_of_four : (a b c d : Bool) → let fault = first_of ((a, WrongField) ∷ (b, MinOverMax) ∷ (c, RepeatedType) ∷ (d, WrongId) ∷ []) in
    is_wrong_field fault ≡ false → is_min_over_max fault ≡ false → is_repeated_type fault ≡ false → is_wrong_id fault ≡ false → is_none fault ≡ true
one_of_four true true true true f g h i = refl
one_of_four true true true false f g h i = absurd (false≢true (sym i))
one_of_four true true false d f g h i = absurd (false≢true (sym h))
one_of_four true false c d f g h i = absurd (false≢true (sym g))
one_of_four false b c d f g h i = absurd (false≢true (sym f))

faultless : (t : Tree) → is_wrong_field (element_fault t) ≡ false → is_min_over_max (element_fault t) ≡ false → is_repeated_type (element_fault t) ≡ false
    → is_wrong_id (element_fault t) ≡ false → is_none (element_fault t) ≡ true
faultless t = one_of_four (has_right_fields t) (has_right_bounds t) (codes_differ (items_in (codes "type") t)) (has_readable_id t)

all_faultless : (ts : List Tree) → list_any is_wrong_field (map element_fault ts) ≡ false → list_any is_min_over_max (map element_fault ts) ≡ false
    → list_any is_repeated_type (map element_fault ts) ≡ false → list_any is_wrong_id (map element_fault ts) ≡ false
    → list_all (λ t. is_none (element_fault t)) ts ≡ true
all_faultless [] f g h i = refl
all_faultless (t ∷ ts) f g h i =
    let a = or_parts (is_wrong_field (element_fault t)) (list_any is_wrong_field (map element_fault ts)) f in
    let b = or_parts (is_min_over_max (element_fault t)) (list_any is_min_over_max (map element_fault ts)) g in
    let c = or_parts (is_repeated_type (element_fault t)) (list_any is_repeated_type (map element_fault ts)) h in
    let d = or_parts (is_wrong_id (element_fault t)) (list_any is_wrong_id (map element_fault ts)) i in
    and_from (is_none (element_fault t)) (list_all (λ t. is_none (element_fault t)) ts) (faultless t a.0 b.0 c.0 d.0) (all_faultless ts a.1 b.1 c.1 d.1)

-- ---- a definition by itself

-- with no fault of its own, its snapshot is one of elements
own_right : (url : Text) (t : Tree) → own_fault url t (map fields_of (element_trees t)) ≡ None → brings_elements (codes "snapshot") t ≡ true
own_right url t e =
    let es = map fields_of (element_trees t) in
    let faults = element_faults t in
    let it = all_four (has_right_head url t && list_all is_whole es && list_all has_lexical_bounds es && not (list_any is_wrong_field faults))
    (not (list_any is_min_over_max faults)) (not (list_any is_repeated_type faults)) (not (list_any is_wrong_id faults) && ids_differ es)
    WrongField MinOverMax RepeatedType WrongId e in
    let fields = and_parts _ (not (list_any is_wrong_field faults)) it.0 in
    let head = (and_parts (has_right_head url t) _ (and_parts _ (list_all has_lexical_bounds es) fields.0).0).0 in
    let ids = and_parts (not (list_any is_wrong_id faults)) (ids_differ es) it.3 in
    and_from (has_right_part (codes "snapshot") t) _ (and_parts _ (has_right_snapshot t) head).1
    (all_faultless (element_trees t) (not-true _ fields.1) (not-true _ it.1) (not-true _ it.2) (not-true _ ids.0))

-- it has no elements where it brings no snapshot
no_items : (o : Option Tree) → option_map_or (λ v. not (is_array v) || has_any (list_of (as_items v))) o false ≡ false
    → option_map_or (λ v. list_of (as_items v)) o [] ≡ []
no_items None e = refl
no_items (Some v) e = by (list_of (as_items v)) (or_parts (not (is_array v)) (has_any (list_of (as_items v))) e).1
  where
    by : (ts : List Tree) → has_any ts ≡ false → ts ≡ []
    by [] e = refl
    by (t ∷ ts) e = absurd (false≢true (sym e))

none_brought : (t : Tree) → brings_snapshot t ≡ false → element_trees t ≡ []
none_brought t e = by (field (codes "snapshot") t) e
  where
    by : (o : Option Tree) → option_map_or (λ s. not (is_object s) || has_elements s) o false ≡ false → option_map_or (items_in (codes "element")) o [] ≡ []
    by None e = refl
    by (Some s) e = no_items (field (codes "element") s) (or_parts (not (is_object s)) (has_elements s) e).1

-- ---- a definition that can be used

-- it passes its tests
record Passes (url : Text) (t : Tree) : Type 0 where
  faultless : own_fault url t (map fields_of (element_trees t)) ≡ None
  snapshot : nat_lt 0 (length (map fields_of (element_trees t))) ≡ true

no_fault : (o : Option Reason) (rest : List (Bool × Reason)) → list_all (λ (test : Bool × Reason). test.0) (option_map_or (λ fault. (false, fault) ∷ []) o [] ++ rest) ≡ true → o ≡ None
no_fault None rest e = refl
no_fault (Some fault) rest e = absurd (false≢true e)

passes : (ds : List Definition) (reasons : Reasons) (place : ℕ) (url : Text) (t : Tree) → IsTrue (all_hold (tests ds reasons (definition_of place url t))) → Passes url t
passes ds reasons place url t h =
    let d = definition_of place url t in
    let none = no_fault d.fault _ h in
    let rest = (and_parts _ _ (sym (list_all-append (λ (test : Bool × Reason). test.0) (fault_of d) _) ∙ h)).1 in
    let types = and_parts (types_are_usable ds reasons d) _ rest in
    let tree = and_parts (has_tree ds d) _ types.1 in
    let targets = and_parts (targets_are_usable ds reasons d) _ tree.1 in
    let chain = and_parts (chain_ends ds d) _ targets.1 in
    let apart = and_parts (are_told_apart ds d) _ chain.1 in
    record { faultless = none; snapshot = (and_parts (has_snapshot d) _ apart.1).0 }

-- ---- its place

-- the definition of a url, and its place
record IsPlaced (ds : List Definition) (n : ℕ) (url : Text) (t : Tree) : Type 0 where
  at : ℕ
  is_at : slice_get ds at ≡ Some (definition_of (n + at) url t)
  place : url_place ds url ≡ Some (n + at)

placed : (n : ℕ) (es : ByUrl) (url : Text) (t : Tree) → lookup (bytes_eq url) es ≡ Some t → IsPlaced (definitions_from n es) n url t
placed n [] url t e = absurd (none-some t e)
placed n (x ∷ es) url t e = by (bytes_eq url x.0) refl (placed (suc n) es url t) e
  where
    more : (k : ℕ) → suc n + k ≡ n + suc k
    more k = omega arith

    by : (b : Bool) → bytes_eq url x.0 ≡ b → (lookup (bytes_eq url) es ≡ Some t → IsPlaced (definitions_from (suc n) es) (suc n) url t)
        → cond b (Some x.1) (lookup (bytes_eq url) es) ≡ Some t → IsPlaced (definitions_from n (x ∷ es)) n url t
    by true is rest e =
        let same : x.1 ≡ t = same_Some x.1 t e in
        let named : url ≡ x.0 = (bytes_eq-Decides url x.0).0 is in
        let zero_place : n ≡ n + 0 = omega arith in
        record {
          at = 0;
          is_at = ap (λ (u : Text). Some (definition_of n u x.1)) (sym named) ∙ ap (λ (u : Tree). Some (definition_of n url u)) same
              ∙ ap (λ (k : ℕ). Some (definition_of k url t)) zero_place;
          place = ap (λ (b : Bool). cond b (Some n) (url_place (definitions_from (suc n) es) url)) is ∙ ap Some zero_place;
        }
    by false is rest e =
        let p = rest e in
        record {
          at = suc p.at;
          is_at = p.is_at ∙ ap (λ (k : ℕ). Some (definition_of k url t)) (more p.at);
          place = ap (λ (b : Bool). cond b (Some n) (url_place (definitions_from (suc n) es) url)) is ∙ p.place ∙ ap Some (more p.at);
        }

abbrev pub Closed : Type 0
Closed = (p : Definitions) → IsClosed (schema_of p).definitions (schema_of p).reasons

can_pass : Closed → (p : Definitions) (url : Text) (t : Tree) → at_url StructureDefinition url p ≡ Some t → unusable (schema_of p) url ≡ None → Passes url t
can_pass closed p url t at usable =
    let s = schema_of p in
    let it = placed 0 p.structure_definitions url t at in
    let here : 0 + it.at ≡ it.at = omega arith in
    let d = definition_of (0 + it.at) url t in
    let found : slice_get s.definitions d.place ≡ Some d = ap (slice_get s.definitions) here ∙ it.is_at in
    let none : reason_at s.reasons (0 + it.at) ≡ None = sym (ap (option_and_then (reason_at s.reasons)) it.place) ∙ usable in
    passes s.definitions s.reasons (0 + it.at) url t (closed p d found none)

-- ---- its elements

lacks_none : Closed → (p : Definitions) (url : Text) (t : Tree) → at_url StructureDefinition url p ≡ Some t → unusable (schema_of p) url ≡ None
    → brings_snapshot t ≡ false → ⊥
lacks_none closed p url t at usable is =
    false≢true (sym (ap (λ (ts : List Tree). nat_lt 0 (length (map fields_of ts))) (none_brought t is)) ∙ (can_pass closed p url t at usable).snapshot)

own_elements : (p : Definitions) (url : Text) (t : Tree) → at_url StructureDefinition url p ≡ Some t
    → elements_of_url (schema_of p) url ≡ elements_in (codes "snapshot") t
own_elements p url t at =
    let s = schema_of p in
    let it = placed 0 p.structure_definitions url t at in
    let here : 0 + it.at ≡ it.at = omega arith in
    ap (λ (o : Option ℕ). option_map_or (elements_at s) o []) it.place
    ∙ ap (λ (k : ℕ). elements_at s k) here
    ∙ ap (λ (o : Option Definition). option_map_or (λ d. d.elements) o []) it.is_at

-- those of a definition that can be used are its snapshot
pub snapshot_used : Closed → (p : Definitions) (url : Text) (es : List Element) → unusable (schema_of p) url ≡ None → IsSnapshot p url es
    → elements_of_url (schema_of p) url ≡ es
snapshot_used closed p url es usable h = within h.0 h.1
  where
    by : (snapshots : Text → List Element → Type 0) (t : Tree) (b : Bool) → brings_snapshot t ≡ b → at_url StructureDefinition url p ≡ Some t
        → IsMade snapshots p url t b es → elements_of_url (schema_of p) url ≡ es
    by snapshots t true is at made = own_elements p url t at ∙ sym made
    by snapshots t false is at made = absurd (lacks_none closed p url t at usable is)

    within : (bound : ℕ) → SnapshotIn bound p url es → elements_of_url (schema_of p) url ≡ es
    within zero h = absurd h
    within (suc bound) h = by (SnapshotIn bound p) h.0 (brings_snapshot h.0) refl h.1 h.3

-- ---- where each can be used

completed_at : (p : Definitions) (es news : ByUrl) (faults : Numbered) (url : Text) (t : Tree) → AreCompleted p es news faults → lookup (bytes_eq url) es ≡ Some t
    → (new : Tree) × (fault : Option SnapNumber) × (lookup (bytes_eq url) news ≡ Some new) × Becomes p url t new fault
completed_at p [] news faults url t h e = absurd (none-some t e)
completed_at p (x ∷ es) news faults url t h e = by (bytes_eq url x.0) refl (completed_at p es h.1 h.3 url t h.7) e
  where
    there : (new : Tree) → cond (bytes_eq url x.0) (Some h.0) (lookup (bytes_eq url) h.1) ≡ Some new → lookup (bytes_eq url) news ≡ Some new
    there new is = ap (lookup (bytes_eq url)) h.4 ∙ is

    by : (b : Bool) → bytes_eq url x.0 ≡ b
        → (lookup (bytes_eq url) es ≡ Some t → (new : Tree) × (fault : Option SnapNumber) × (lookup (bytes_eq url) h.1 ≡ Some new) × Becomes p url t new fault)
        → cond b (Some x.1) (lookup (bytes_eq url) es) ≡ Some t
        → (new : Tree) × (fault : Option SnapNumber) × (lookup (bytes_eq url) news ≡ Some new) × Becomes p url t new fault
    by true is rest e =
        let named : x.0 ≡ url = sym ((bytes_eq-Decides url x.0).0 is) in (
          h.0,
          h.2,
          there h.0 (ap (λ (b : Bool). cond b (Some h.0) (lookup (bytes_eq url) h.1)) is),
          subst (λ (u : Tree). Becomes p url u h.0 h.2) (same_Some x.1 t e) (subst (λ (u : Text). Becomes p u x.1 h.0 h.2) named h.6),
        )
    by false is rest e =
        let r = rest e in
        (r.0, r.1, there r.0 (ap (λ (b : Bool). cond b (Some h.0) (lookup (bytes_eq url) h.1)) is ∙ r.2), r.3)

module _ (closed : Closed) (old new : Definitions) (faults : Numbered) (completed : IsCompletion old new faults)
    (usable : (url : Text) (t : Tree) → at_url StructureDefinition url new ≡ Some t → unusable (schema_of new) url ≡ None) where
  made_right : (url : Text) (t : Tree) (bound : ℕ) (es : List Element) → at_url StructureDefinition url old ≡ Some t → SnapshotIn bound old url es → is_right t ≡ true
  made_right url t zero es at h = absurd h
  made_right url t (suc bound) es at h = subst (λ (u : Tree). is_right u ≡ true) (same_Some h.0 t (sym h.1 ∙ at)) h.2

  brought_right : (url : Text) (t : Tree) → brings_snapshot t ≡ true → at_url StructureDefinition url new ≡ Some t → is_right t ≡ true
  brought_right url t is at =
      ap (λ (b : Bool). cond b (brings_elements (codes "snapshot") t) (brings_elements (codes "differential") t && ids_differ (elements_in (codes "differential") t))) is
      ∙ own_right url t (can_pass closed new url t at (usable url t at)).faultless

  right_by : (url : Text) (t made : Tree) (fault : Option SnapNumber) (b : Bool) → brings_snapshot t ≡ b → at_url StructureDefinition url old ≡ Some t
      → at_url StructureDefinition url new ≡ Some made → Becomes old url t made fault → is_right t ≡ true
  right_by url t made None true is at there h =
      let same : made ≡ t = subst (λ (b : Bool). Gets old url t b made) is h in
      brought_right url t is (subst (λ (u : Tree). at_url StructureDefinition url new ≡ Some u) same there)
  right_by url t made None false is at there h =
      let got = subst (λ (b : Bool). Gets old url t b made) is h in
      made_right url t got.1.0 got.0 at got.1.1
  right_by url t made (Some fault) b is at there h =
      let at_new = subst (λ (u : Tree). at_url StructureDefinition url new ≡ Some u) h.2 there in
      absurd (lacks_none closed new url t at_new (usable url t at_new) h.0)

  -- each definition of the package is right, where each of the completed one can be used
  pub all_right : AreRight old
  all_right url t at =
      let c = completed_at old old.structure_definitions new.structure_definitions faults url t completed.completed at in
      right_by url t c.0 c.1 (brings_snapshot t) refl at c.2 c.3
