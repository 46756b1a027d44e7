-- Nodes are found by their names.
use Rattle.std.proofs.Common.{◌≡◌, ℕ, zero, suc, ◌+◌, ◌<◌, List, [], ◌∷◌, length, map, Bool, true, false, not, ◌&&◌, ◌||◌, cond, nat_lt}
use Rattle.std.proofs.Common.{Option, Some, None, is_some, is_none, is_ok, Ok, Err, refl, ap, sym, subst, ◌∙◌, arith}
use Rattle.std.specs.Option.{option_and_then, option_map, option_map_or}
use Rattle.std.specs.List.{slice_get, list_all, list_any, AllByRecursion, IsDistinct}
use Rattle.std.specs.Prelude.{codes}
use Rattle.std.specs.Map.{keys_of}
use Rattle.std.specs.Str.{bytes_eq}
use Rattle.std.proofs.lemmas.Bool.{and_parts, cond-true, cond-false, eqb-true}
use Rattle.std.proofs.lemmas.Bool.Decides.{nat_tests}
use Rattle.std.proofs.lemmas.List.Folds.{list_all-append}
use Rattle.std.proofs.lemmas.Option.{none-some, same_Some}
use Rattle.std.proofs.lemmas.Slice.Eq.{bytes_eq-Decides}
use Rattle.fhir_json.specs.Tree.{Text, Tree}
use Rattle.fhir_json.specs.Fields.{text_in}
use Rattle.fhir_names.specs.Texts.{is_plain}
use Rattle.fhir_names.specs.Segments.{segments_of, first_fault}
use Rattle.fhir_names.specs.Ids.{read_id}
use Rattle.fhir_names.specs.declared.fault.NameFault.TheVariants.{Control}
use Rattle.fhir_prims.specs.Texts.{is_uri}
use Rattle.fhir_codes.specs.Expanding.{Expansions}
use Rattle.fhir_elements.specs.declared.reason.Reason.{Reason}
use Rattle.fhir_elements.specs.declared.reason.Reason.TheVariants.{WrongField, MinOverMax, RepeatedType, WrongId}
use Rattle.fhir_elements.specs.Tests.{first_of, all_hold}
use Rattle.fhir_elements.specs.Element.{Element, fields_of, element_fault, has_right_fields, has_right_bounds, has_readable_id}
use Rattle.fhir_definition.specs.Snapshot.{id_place, is_at, are_first, ids_differ}
use Rattle.fhir_definition.specs.Definition.{Definition, is_wrong_field, is_min_over_max, is_repeated_type, is_wrong_id}
use Rattle.fhir_definition.specs.Definition.{element_trees, element_faults, own_tests, definition_of, definitions_from}
use Rattle.fhir_nodes.specs.declared.node.NodeRef.{NodeRef}
use Rattle.fhir_nodes.specs.Tables.{ArePlaced}
use Rattle.fhir_schema.specs.Usability.{IsClosed}
use Rattle.fhir_schema.specs.Settling.{reason_at, fault_of, all_reasons}
use Rattle.fhir_nodes.specs.Urls.{url_place}
use Rattle.fhir_schema.specs.Schemas.{SchemaValue, schema_with, is_usable, elements_at, has, node, node_with, node_in, root, root_in, url_at, id_of_node}

-- ---- lists and tests

test_at : {X : Type 0} (p : X → Bool) (xs : List X) (k : ℕ) (x : X) → list_all p xs ≡ true → slice_get xs k ≡ Some x → p x ≡ true
test_at p [] k x h e = absurd (none-some x e)
test_at p (y ∷ ys) zero x h e = ap p (sym (same_Some y x e)) ∙ (and_parts (p y) (list_all p ys) h).0
test_at p (y ∷ ys) (suc k) x h e = test_at p ys k x (and_parts (p y) (list_all p ys) h).1 e

all_held : {R : Type 0} (ts : List (Bool × R)) → first_of ts ≡ None → all_hold ts ≡ true
all_held [] e = refl
all_held (t ∷ ts) e = go t.0 e (all_held ts)
  where
    go : (b : Bool) → cond b (first_of ts) (Some t.1) ≡ None → (first_of ts ≡ None → all_hold ts ≡ true) → (b && all_hold ts) ≡ true
    go true e behind = behind e
    go false e behind = cc

none_is : {A : Type 0} (o : Option A) → is_none o ≡ true → o ≡ None
none_is None e = refl
none_is (Some x) e = cc

neither : (a b : Bool) → not (a || b) ≡ true → (a ≡ false) × (not b ≡ true)
neither true b e = cc
neither false b e = (refl, e)

-- ---- the ids of elements without a fault

pub plain_read : (id : Text) → is_ok (read_id id) ≡ true → is_plain id ≡ true
plain_read id e = go (is_plain id) e
  where
    go : (b : Bool) → is_ok (option_map_or Err (cond b (first_fault (segments_of id)) (Some Control)) (Ok (segments_of id))) ≡ true → b ≡ true
    go true e = refl
    go false e = cc

plain_if : (o : Option Text) → option_map_or (λ id. is_ok (read_id id)) o false ≡ true → is_plain (option_map_or (λ s. s) o []) ≡ true
plain_if None e = cc
plain_if (Some id) e = plain_read id e

-- what is answered where these four are the tests
abbrev four : Bool → Bool → Bool → Bool → Option Reason
four a b c d = first_of ((a, WrongField) ∷ (b, MinOverMax) ∷ (c, RepeatedType) ∷ (d, WrongId) ∷ [])

last_of_four : (a b c d : Bool) → is_wrong_field (four a b c d) ≡ false → is_min_over_max (four a b c d) ≡ false
    → is_repeated_type (four a b c d) ≡ false → is_wrong_id (four a b c d) ≡ false → d ≡ true
last_of_four true true true true e f g h = refl
last_of_four true true true false e f g h = cc
last_of_four true true false d e f g h = cc
last_of_four true false c d e f g h = cc
last_of_four false b c d e f g h = cc

ids_plain : (ts : List Tree) → not (list_any is_wrong_field (map element_fault ts)) ≡ true
    → not (list_any is_min_over_max (map element_fault ts)) ≡ true → not (list_any is_repeated_type (map element_fault ts)) ≡ true
    → not (list_any is_wrong_id (map element_fault ts)) ≡ true → list_all (λ e. is_plain e.id) (map fields_of ts) ≡ true
ids_plain [] e f g h = refl
ids_plain (t ∷ ts) e f g h =
    let a = neither (is_wrong_field (element_fault t)) _ e in
    let b = neither (is_min_over_max (element_fault t)) _ f in
    let c = neither (is_repeated_type (element_fault t)) _ g in
    let d = neither (is_wrong_id (element_fault t)) _ h in
    let readable : has_readable_id t ≡ true = last_of_four (has_right_fields t) (has_right_bounds t) _ (has_readable_id t) a.0 b.0 c.0 d.0 in
    let plain : is_plain (fields_of t).id ≡ true = plain_if (text_in (codes "id") t) readable in
    rw (plain, ids_plain ts a.1 b.1 c.1 d.1) refl

-- ---- a definition without a fault

record IsNamedRight (d : Definition) : Type 0 where
  url : is_uri d.url ≡ true
  first : ids_differ d.elements ≡ true
  ids : list_all (λ e. is_plain e.id) d.elements ≡ true

ends : (a b c d : Bool) → (a && b && c && d) ≡ true → (a ≡ true) × (d ≡ true)
ends true true true true e = (refl, refl)
ends true true true false e = cc
ends true true false d e = cc
ends true false c d e = cc
ends false b c d e = cc

first_of_nine : (a b c d e f g h i : Bool) → (a && b && c && d && e && f && g && h && i) ≡ true → a ≡ true
first_of_nine true b c d e f g h i is = refl
first_of_nine false b c d e f g h i is = cc

named_right : (place : ℕ) (url : Text) (t : Tree) → (definition_of place url t).fault ≡ None → IsNamedRight (definition_of place url t)
named_right place url t none =
    let es = map fields_of (element_trees t) in
    let all : all_hold (own_tests url t es) ≡ true = all_held (own_tests url t es) none in
    let fields = and_parts _ _ all in
    let bounds = and_parts _ _ fields.1 in
    let types = and_parts _ _ bounds.1 in
    let last = and_parts _ _ types.1 in
    let ids = and_parts (not (list_any is_wrong_id (element_faults t))) (ids_differ es) last.0 in
    let head = ends _ _ _ _ fields.0 in
    record {
      url = first_of_nine (is_uri url) _ _ _ _ _ _ _ _ head.0;
      first = ids.1;
      ids = ids_plain (element_trees t) head.1 bounds.0 types.0 ids.0;
    }

no_fault : (o : Option Reason) → all_hold (option_map_or (λ fault. let ts : List (Bool × Reason) = (false, fault) ∷ [] in ts) o []) ≡ true → o ≡ None
no_fault None e = refl
no_fault (Some r) e = cc

-- ---- definitions by their places and urls

at_place : (n : ℕ) (es : List (Text × Tree)) (k : ℕ) (d : Definition) → slice_get (definitions_from n es) k ≡ Some d
    → (place : ℕ) × (e : Text × Tree) × (definition_of place e.0 e.1 ≡ d)
at_place n [] k d e = absurd (none-some d e)
at_place n (x ∷ es) zero d e = (n, x, same_Some _ d e)
at_place n (x ∷ es) (suc k) d e = at_place (suc n) es k d e

right_at : (es : List (Text × Tree)) (k : ℕ) (d : Definition) → slice_get (definitions_from 0 es) k ≡ Some d → d.fault ≡ None → IsNamedRight d
right_at es k d e none =
    let there = at_place 0 es k d e in
    subst IsNamedRight there.2 (named_right there.0 there.1.0 there.1.1 (ap (λ d. d.fault) there.2 ∙ none))

unlike : (n : ℕ) (es : List (Text × Tree)) (k : ℕ) (d : Definition) (url : Text) → AllByRecursion (λ key. bytes_eq url key ≡ false) (keys_of es)
    → slice_get (definitions_from n es) k ≡ Some d → bytes_eq url d.url ≡ false
unlike n [] k d url h e = absurd (none-some d e)
unlike n (x ∷ es) zero d url h e = ap (λ d. bytes_eq url d.url) (sym (same_Some _ d e)) ∙ h.0
unlike n (x ∷ es) (suc k) d url h e = unlike (suc n) es k d url h.1 e

turned : (a b : Text) → bytes_eq a b ≡ false → bytes_eq b a ≡ false
turned a b e = go (bytes_eq b a) refl
  where
    go : (v : Bool) → bytes_eq b a ≡ v → v ≡ false
    go false is = refl
    go true is =
        let same : b ≡ a = (bytes_eq-Decides b a).0 is in
        let equal = (bytes_eq-Decides a b).1 (sym same) in
        cc

pub found_by_url : (n : ℕ) (es : List (Text × Tree)) (k : ℕ) (d : Definition) → IsDistinct bytes_eq (keys_of es)
    → slice_get (definitions_from n es) k ≡ Some d → url_place (definitions_from n es) d.url ≡ Some d.place
unfolding IsDistinct
found_by_url n [] k d h e = absurd (none-some d e)
found_by_url n (x ∷ es) zero d h e =
    subst (λ (d : Definition). url_place (definitions_from n (x ∷ es)) d.url ≡ Some d.place) (same_Some _ d e)
    (cond-true _ _ _ ((bytes_eq-Decides x.0 x.0).1 refl))
found_by_url n (x ∷ es) (suc k) d h e =
    cond-false _ _ _ (turned x.0 d.url (unlike (suc n) es k d x.0 h.0 e)) ∙ found_by_url (suc n) es k d h.1 e

-- the definition that is found under a url
under_url : (n : ℕ) (es : List (Text × Tree)) (url : Text) (place : ℕ) → url_place (definitions_from n es) url ≡ Some place
    → (d : Definition) × (k : ℕ) × ((slice_get (definitions_from n es) k ≡ Some d) × (d.place ≡ place) × (url ≡ d.url))
under_url n [] url place e = absurd (none-some place e)
under_url n (x ∷ es) url place e = go (bytes_eq url x.0) refl e (under_url (suc n) es url place)
  where
    go : (b : Bool) → bytes_eq url x.0 ≡ b → cond b (Some n) (url_place (definitions_from (suc n) es) url) ≡ Some place
        → (url_place (definitions_from (suc n) es) url ≡ Some place
        → (d : Definition) × (k : ℕ) × ((slice_get (definitions_from (suc n) es) k ≡ Some d) × (d.place ≡ place) × (url ≡ d.url)))
        → (d : Definition) × (k : ℕ) × ((slice_get (definitions_from n (x ∷ es)) k ≡ Some d) × (d.place ≡ place) × (url ≡ d.url))
    go true is e behind = (definition_of n x.0 x.1, 0, (refl, same_Some n place e, (bytes_eq-Decides url x.0).0 is))
    go false is e behind = let rest = behind e in (rest.0, suc rest.1, rest.2)

-- ---- elements by their ids

at_some : (p : ℕ) (o : Option ℕ) → is_at p o ≡ true → o ≡ Some p
at_some p None e = cc
at_some p (Some q) e = ap Some (sym (eqb-true p q e))

found_by_id : (all : List Element) (n : ℕ) (es : List Element) (k p : ℕ) (e : Element) → are_first all n es ≡ true → slice_get es k ≡ Some e
    → p ≡ n + k → id_place all e.id ≡ Some p
found_by_id all n [] k p e h at is = absurd (none-some e at)
found_by_id all n (x ∷ es) zero p e h at is =
    let first = at_some n (id_place all x.id) (and_parts (is_at n (id_place all x.id)) (are_first all (suc n) es) h).0 in
    let same : p ≡ n = omega arith in
    ap (λ (e : Element). id_place all e.id) (sym (same_Some x e at)) ∙ first ∙ ap Some (sym same)
found_by_id all n (x ∷ es) (suc k) p e h at is =
    found_by_id all (suc n) es k p e (and_parts (is_at n (id_place all x.id)) (are_first all (suc n) es) h).1 at (omega arith)

-- ---- nodes

some_at : {X : Type 0} (xs : List X) (k : ℕ) → k < length xs → (x : X) × (slice_get xs k ≡ Some x)
some_at [] k l = absurd (omega arith)
some_at (x ∷ xs) zero l = (x, refl)
some_at (x ∷ xs) (suc k) l = some_at xs k (omega arith)

below : (m n : ℕ) → nat_lt m n ≡ true → m < n
below m n e = grind (arith, nat_tests)

module _ (es : List (Text × Tree)) (sets : Expansions) (is_placed : ArePlaced (definitions_from 0 es))
    (is_closed : IsClosed (definitions_from 0 es) (all_reasons (definitions_from 0 es))) where
  abbrev ds : List Definition
  ds = definitions_from 0 es

  abbrev s : SchemaValue
  s = schema_with ds sets

  -- a definition that can be used
  record IsThere (place : ℕ) (d : Definition) : Type 0 where
    at : slice_get ds place ≡ Some d
    placed : d.place ≡ place
    usable : is_usable s place ≡ true
    right : IsNamedRight d

  there : (place : ℕ) (d : Definition) → slice_get ds place ≡ Some d → is_usable s place ≡ true → IsThere place d
  there place d at usable =
      let is : d.place ≡ place = is_placed place d at in
      let none : reason_at (all_reasons ds) place ≡ None = none_is (reason_at (all_reasons ds) place) usable in
      let held = is_closed d (ap (slice_get ds) is ∙ at) (ap (reason_at (all_reasons ds)) is ∙ none) in
      let own = and_parts _ _ (sym (list_all-append (λ test. test.0) (fault_of d) _) ∙ held) in
      record { at = at; placed = is; usable = usable; right = right_at es place d at (no_fault d.fault own.0) }

  -- the element that a node is
  record IsHere (n : NodeRef) (d : Definition) (e : Element) : Type 0 where
    there : IsThere n.definition d
    at : slice_get d.elements n.element ≡ Some e

  here : (n : NodeRef) → has s n ≡ true → (d : Definition) × (e : Element) × IsHere n d e
  here n h =
      let parts = and_parts (is_usable s n.definition) (nat_lt n.element (length (elements_at s n.definition))) h in
      go (slice_get ds n.definition) refl parts.0 parts.1
    where
      go : (o : Option Definition) → slice_get ds n.definition ≡ o → is_usable s n.definition ≡ true
          → nat_lt n.element (length (option_map_or (λ d. d.elements) o [])) ≡ true → (d : Definition) × (e : Element) × IsHere n d e
      go None is usable few = let least = below n.element 0 few in absurd (omega arith)
      go (Some d) is usable few =
          let e = some_at d.elements n.element (below n.element (length d.elements) few) in
          (d, e.0, record { there = there n.definition d is usable; at = e.1 })

  url_is : (n : NodeRef) (d : Definition) (e : Element) → IsHere n d e → url_at s n.definition ≡ d.url
  url_is n d e h = ap (λ o. option_map_or (λ d. d.url) o []) h.there.at

  elements_are : (n : NodeRef) (d : Definition) (e : Element) → IsHere n d e → elements_at s n.definition ≡ d.elements
  elements_are n d e h = ap (λ o. option_map_or (λ d. d.elements) o []) h.there.at

  id_is : (n : NodeRef) (d : Definition) (e : Element) → IsHere n d e → id_of_node s n ≡ e.id
  id_is n d e h =
      ap (λ es. option_map_or (λ e. e.id) (slice_get es n.element) []) (elements_are n d e h) ∙ ap (λ o. option_map_or (λ e. e.id) o []) h.at

  node_here : (n : NodeRef) (d : Definition) (e : Element) → IsDistinct bytes_eq (keys_of es) → IsHere n d e
      → node s (url_at s n.definition) (id_of_node s n) ≡ Some n
  node_here n d e distinct h =
      let place : url_place ds d.url ≡ Some n.definition = found_by_url 0 es n.definition d distinct h.there.at ∙ ap Some h.there.placed in
      let element : id_place d.elements e.id ≡ Some n.element = found_by_id d.elements 0 d.elements n.element n.element e h.there.right.first h.at (omega arith) in
      let inside : id_place (elements_at s n.definition) e.id ≡ Some n.element = ap (λ es. id_place es e.id) (elements_are n d e h) ∙ element in
      ap (λ url. node s url (id_of_node s n)) (url_is n d e h) ∙ ap (node s d.url) (id_is n d e h)
      ∙ ap (option_and_then (node_with s e.id)) place ∙ ap (node_in s n.definition) inside
      ∙ cond-true (is_usable s n.definition) (Some n) None h.there.usable

  pub node_found : (n : NodeRef) → IsDistinct bytes_eq (keys_of es) → has s n ≡ true → node s (url_at s n.definition) (id_of_node s n) ≡ Some n
  node_found n distinct h = let it = here n h in node_here n it.0 it.1 distinct it.2

  pub url_right : (n : NodeRef) → has s n ≡ true → is_uri (url_at s n.definition) ≡ true
  url_right n h = let it = here n h in ap is_uri (url_is n it.0 it.1 it.2) ∙ it.2.there.right.url

  pub id_right : (n : NodeRef) → has s n ≡ true → is_plain (id_of_node s n) ≡ true
  id_right n h =
      let it = here n h in
      ap is_plain (id_is n it.0 it.1 it.2) ∙ test_at (λ e. is_plain e.id) it.0.elements n.element it.1 it.2.there.right.ids it.2.at

  -- ---- the urls of roots

  usable_of : (place : ℕ) (element : Option ℕ) → is_some (node_in s place element) ≡ true → is_usable s place ≡ true
  usable_of place element = go (is_usable s place)
    where
      go : (b : Bool) → is_some (cond b (option_map (λ e. let n : NodeRef = record { definition = place; element = e } in n) element) None) ≡ true → b ≡ true
      go true e = refl
      go false e = cc

  root_url : (url : Text) (o : Option ℕ) → url_place ds url ≡ o → is_some (option_and_then (root_in s) o) ≡ true → is_uri url ≡ true
  root_url url None is some = cc
  root_url url (Some place) is some =
      let it = under_url 0 es url place is in
      let d = it.0 in
      let same : it.1 ≡ place = sym (is_placed it.1 d it.2.0) ∙ it.2.1 in
      let at : slice_get ds place ≡ Some d = ap (slice_get ds) (sym same) ∙ it.2.0 in
      ap is_uri it.2.2 ∙ (there place d at (usable_of place _ some)).right.url

  pub root_right : (url : Text) → is_some (root s url) ≡ true → is_uri url ≡ true
  root_right url some = root_url url (url_place ds url) refl some
