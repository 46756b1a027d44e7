-- The pairs that a pair of nodes asks for are pairs of nodes.
use Rattle.std.proofs.Common.{◌≡◌, ◌+◌, ◌<◌, ◌≤◌, ℕ, zero, suc, Bool, true, false, List, [], ◌∷◌, ◌++◌, map, filter, length, get_or, Option, Some, None, refl, sym, ap, ◌∙◌, subst, cond, arith, IsTrue, ◌&&◌, ◌||◌, nat_lt, nat_eq}
use Rattle.std.specs.Prelude.{is_none, is_some}
use Rattle.std.specs.List.{list_all, flat_map, slice_get, find, position, All, AllByRecursion, Contains}
use Rattle.std.specs.Option.{option_map, option_map_or, option_and_then, option_or, option_to_list}
use Rattle.std.specs.Str.{bytes_eq}
use Rattle.std.proofs.lemmas.Bool.{false≢true, and_parts, and_from, lt-ltb, true≢false}
use Rattle.std.proofs.lemmas.Option.{none-some, same_Some}
use Rattle.std.proofs.lemmas.List.{length-map}
use Rattle.std.proofs.lemmas.List.Folds.{list_all-map}
use Rattle.std.proofs.lemmas.List.Elements.{All-nil, All-cons, All-append, All-contains}
use Rattle.std.proofs.lemmas.List.Quantifiers.{position-Some}
use Rattle.fhir_json.specs.Tree.{Text}
use Rattle.fhir_elements.specs.TypeEntry.{TypeEntry}
use Rattle.fhir_elements.specs.Element.{Element}
use Rattle.fhir_elements.specs.declared.reason.Reason.TheVariants.{UnusableType, NoTree, MissingContent}
use Rattle.fhir_names.specs.Texts.{cut_at_first}
use Rattle.fhir_definition.specs.Snapshot.{id_place_from, id_place, is_at, is_root, child_place, slice_place}
use Rattle.fhir_definition.specs.Children.{under_from, under_each_from, children_of, slices_of as slice_places}
use Rattle.fhir_definition.specs.Definition.{Definition}
use Rattle.fhir_nodes.specs.declared.node.NodeRef.{NodeRef}
use Rattle.fhir_nodes.specs.Types.{names_resource, type_place}
use Rattle.fhir_nodes.specs.Urls.{canonical_place}
use Rattle.fhir_nodes.specs.Slots.{Slot, slot_at, slice_at, is_slot, slots_of, slices_of}
use Rattle.fhir_nodes.specs.Contents.{hash, elements_in, content_place, id_node, referred_node, content_target, target}
use Rattle.fhir_nodes.specs.Holders.{with_children}
use Rattle.fhir_schema.specs.Settling.{reason_at, fault_of, types_are_usable, has_tree, targets_are_usable, may_refer, place_referred, target_is_usable, lasting_tests}
use Rattle.fhir_schema.specs.Usability.{IsClosed}
use Rattle.fhir_schema.specs.Covers.{covers}
use Rattle.fhir_schema.specs.Schemas.{SchemaValue, has, is_usable, elements_at, root_element, root_in, loaded, type_root, entry_of, slots, slot_named, slices, slice_named, holder, child_holder, types}
use Rattle.fhir_facets.specs.Targets.{targets_narrower}
use Rattle.fhir_certificate.specs.declared.pair.Pair.{Pair}
use Rattle.fhir_certificate.specs.declared.pair.Pair.TheVariants.{Item, Kids}
use Rattle.fhir_cert_check.specs.Rules.{is_forbidden_at}
use Rattle.fhir_cert_check.specs.Asked.{item_pair, kids_pair, roots_pair, profile_asked, entry_asked, types_asked, kids_asked, profiles_kids_asked, code_root}
use Rattle.fhir_cert_check.specs.Asked.{entry_kids_asked, children_asked, allowed_pair, slice_pair, elements_asked, slot_asked, asked_for, is_of_nodes}
use Rattle.fhir_cert_check.proofs.Answered.{each_at, all_append, found_passes}

-- ---- places among the elements of a snapshot

places_under : (len p i : ℕ) (ups : List (Option ℕ)) → i + length ups ≤ len → IsTrue (list_all (λ k. nat_lt k len) (under_from p i ups))
places_under len p i [] fits = refl
places_under len p i (up ∷ ups) fits = go (is_at p up) (places_under len p (suc i) ups (omega (arith, fits)))
  where
    go : (b : Bool) → IsTrue (list_all (λ k. nat_lt k len) (under_from p (suc i) ups))
        → IsTrue (list_all (λ k. nat_lt k len) (cond b (i ∷ under_from p (suc i) ups) (under_from p (suc i) ups)))
    go true others = and_from (nat_lt i len) _ (lt-ltb i len (omega (arith, fits))) others
    go false others = others

places_under_each : (len p n : ℕ) (ups : List (Option ℕ)) → length ups ≤ len
    → AllByRecursion (λ places. IsTrue (list_all (λ k. nat_lt k len) places)) (under_each_from p n ups)
places_under_each len p zero ups fits = tt
places_under_each len p (suc n) ups fits = (places_under len p 0 ups (omega (arith, fits)), places_under_each len (suc p) n ups fits)

all_kept : (test keep : ℕ → Bool) (ks : List ℕ) → IsTrue (list_all test ks) → IsTrue (list_all test (filter keep ks))
all_kept test keep [] each = refl
all_kept test keep (k ∷ ks) each =
    let parts = and_parts (test k) (list_all test ks) each in
    go (keep k) parts.0 (all_kept test keep ks parts.1)
  where
    go : (b : Bool) → IsTrue (test k) → IsTrue (list_all test (filter keep ks)) → IsTrue (list_all test (cond b (k ∷ filter keep ks) (filter keep ks)))
    go true here others = and_from (test k) (list_all test (filter keep ks)) here others
    go false here others = others

each_mapped : {A B : Type 0} (f : A → B) (P : A → Type 0) (Q : B → Type 0) → ((x : A) → P x → Q (f x)) → (xs : List A) → AllByRecursion P xs
    → AllByRecursion Q (map f xs)
each_mapped f P Q step [] each = tt
each_mapped f P Q step (x ∷ xs) each = (step x each.0, each_mapped f P Q step xs each.1)

-- each slot is of one of so many elements
abbrev AreWithin : ℕ → List Slot → Type 0
AreWithin len slots = IsTrue (list_all (λ b. nat_lt b.entry len) slots)

-- what is said of the lists of each definition is said of those at a place
at_place : {B : Type 0} (f : Definition → List B) (Q : List Element → List B → Type 0) → ((d : Definition) → Q d.elements (f d)) → Q [] []
    → (ds : List Definition) (place : ℕ) → Q (option_map_or (λ d. d.elements) (slice_get ds place) []) (get_or (map f ds) place [])
at_place f Q step last [] place = last
at_place f Q step last (d ∷ ds) zero = step d
at_place f Q step last (d ∷ ds) (suc place) = at_place f Q step last ds place

abbrev AllWithin : List Element → List (List Slot) → Type 0
AllWithin es lists = (j : ℕ) → AreWithin (length es) (get_or lists j [])

slots_within : (ds : List Definition) (d : Definition) → AllWithin d.elements (slots_of ds d)
slots_within ds d j =
    let len = length d.elements in
    each_at (AreWithin len) [] refl (slots_of ds d)
    (each_mapped (λ places. map (slot_at d.elements) (filter (is_slot ds d) places)) (λ places. IsTrue (list_all (λ k. nat_lt k len) places)) (AreWithin len)
    (λ places each. list_all-map (λ b. nat_lt b.entry len) (slot_at d.elements) (filter (is_slot ds d) places) ∙ all_kept (λ k. nat_lt k len) (is_slot ds d) places each)
    (children_of d.elements)
    (places_under_each len 0 (length (map (child_place d.elements) d.elements)) (map (child_place d.elements) d.elements)
    (omega (arith, length-map d.elements (child_place d.elements))))) j

slices_within : (d : Definition) → AllWithin d.elements (slices_of d.elements)
slices_within d j =
    let len = length d.elements in
    each_at (AreWithin len) [] refl (slices_of d.elements)
    (each_mapped (λ places. map (slice_at d.elements) places) (λ places. IsTrue (list_all (λ k. nat_lt k len) places)) (AreWithin len)
    (λ places each. list_all-map (λ b. nat_lt b.entry len) (slice_at d.elements) places ∙ each)
    (slice_places d.elements)
    (places_under_each len 0 (length (map (slice_place d.elements) d.elements)) (map (slice_place d.elements) d.elements)
    (omega (arith, length-map d.elements (slice_place d.elements))))) j

none_within : AllWithin [] []
none_within j = refl

-- a place that is found by an id is among the elements
found_within : (n : ℕ) (es : List Element) (id : Text) (k : ℕ) → id_place_from n es id ≡ Some k → k < n + length es
found_within n [] id k e = absurd (none-some k e)
found_within n (x ∷ es) id k e = go (bytes_eq id x.id) e (λ h. found_within (suc n) es id k h)
  where
    go : (b : Bool) → cond b (Some n) (id_place_from (suc n) es id) ≡ Some k → (id_place_from (suc n) es id ≡ Some k → k < suc n + length es)
        → k < n + length (x ∷ es)
    go true e later = omega (arith, same_Some n k e)
    go false e later = omega (arith, later e)

-- what all pass, the one at a place passes
all_at : {A : Type 0} (p : A → Bool) (xs : List A) (i : ℕ) (x : A) → slice_get xs i ≡ Some x → IsTrue (list_all p xs) → IsTrue (p x)
all_at p [] i x e each = absurd (none-some x e)
all_at p (y ∷ xs) zero x e each = subst (λ z. IsTrue (p z)) (same_Some y x e) (and_parts (p y) (list_all p xs) each).0
all_at p (y ∷ xs) (suc i) x e each = all_at p xs i x e (and_parts (p y) (list_all p xs) each).1

position_within : {A : Type 0} (p : A → Bool) (xs : List A) (i : ℕ) → position p xs ≡ Some i → i < length xs
position_within p [] i e = absurd (none-some i e)
position_within p (x ∷ xs) i e = (position-Some p (x ∷ xs) i x e).0

isnt_some : {A : Type 0} (o : Option A) → IsTrue (is_none o) → o ≡ None
isnt_some None h = refl
isnt_some (Some x) h = absurd (true≢false (sym h))

module _ (s : SchemaValue) where
  abbrev OfNodes : Pair → Type 0
  OfNodes q = IsTrue (is_of_nodes s q)

  -- ---- nodes that are found

  has_entry : (n : NodeRef) (b : Slot) → IsTrue (has s n) → IsTrue (nat_lt b.entry (length (elements_at s n.definition))) → IsTrue (has s (entry_of n b))
  has_entry n b known here =
      and_from (is_usable s n.definition) (nat_lt b.entry (length (elements_at s n.definition)))
      (and_parts (is_usable s n.definition) (nat_lt n.element (length (elements_at s n.definition))) known).0 here

  are_slots : (n : NodeRef) → AreWithin (length (elements_at s n.definition)) (slots s n)
  are_slots n = at_place (slots_of s.definitions) AllWithin (slots_within s.definitions) none_within s.definitions n.definition n.element

  are_slices : (n : NodeRef) → AreWithin (length (elements_at s n.definition)) (slices s n)
  are_slices n = at_place (λ d. slices_of d.elements) AllWithin slices_within none_within s.definitions n.definition n.element

  has_found : (n : NodeRef) (name : Text) (bs : List Slot) → AreWithin (length (elements_at s n.definition)) bs → IsTrue (has s n) → (a : Slot)
      → find (λ b. bytes_eq name b.name) bs ≡ Some a → IsTrue (has s (entry_of n a))
  has_found n name bs each known a e =
      has_entry n a known (found_passes (λ b. bytes_eq name b.name) (λ b. nat_lt b.entry (length (elements_at s n.definition))) bs a e each).1

  root_known : (n : NodeRef) (place : ℕ) → root_in s place ≡ Some n → IsTrue (has s n)
  root_known n place = go (is_usable s place) refl (root_element s place) refl
    where
      go : (b : Bool) → is_usable s place ≡ b → (o : Option ℕ) → root_element s place ≡ o
          → cond b (option_map (λ e. record { definition = place; element = e }) o) None ≡ Some n → IsTrue (has s n)
      go false usable o found e = absurd (none-some n e)
      go true usable None found e = absurd (none-some n e)
      go true usable (Some k) found e =
          let m : NodeRef = record { definition = place; element = k } in
          let within : k < length (elements_at s place) = position_within is_root (elements_at s place) k found in
          subst (λ m. IsTrue (has s m)) (same_Some m n e)
          (and_from (is_usable s place) (nat_lt k (length (elements_at s place))) usable (lt-ltb k (length (elements_at s place)) within))

  known_at : (n : NodeRef) (o : Option ℕ) → option_and_then (root_in s) o ≡ Some n → IsTrue (has s n)
  known_at n None e = absurd (none-some n e)
  known_at n (Some place) e = root_known n place e

  -- ---- pairs of nodes

  none : All OfNodes []
  none = All-nil OfNodes

  one : (q : Pair) → OfNodes q → All OfNodes (q ∷ [])
  one q known = All-cons OfNodes q [] known none

  flat : {A : Type 0} (f : A → List Pair) → ((x : A) → All OfNodes (f x)) → (xs : List A) → All OfNodes (flat_map f xs)
  flat f each [] = none
  flat f each (x ∷ xs) = All-append OfNodes (f x) (flat_map f xs) (each x) (flat f each xs)

  -- the same over those that pass a test
  flat_where : {A : Type 0} (test : A → Bool) (f : A → List Pair) → ((x : A) → IsTrue (test x) → All OfNodes (f x)) → (xs : List A)
      → IsTrue (list_all test xs) → All OfNodes (flat_map f xs)
  flat_where test f each [] all = none
  flat_where test f each (x ∷ xs) all =
      let parts = and_parts (test x) (list_all test xs) all in
      All-append OfNodes (f x) (flat_map f xs) (each x parts.0) (flat_where test f each xs parts.1)

  roots_known : (own base : Text) → All OfNodes (option_to_list (roots_pair s own base))
  roots_known own base = go (bytes_eq own base) (loaded s own) refl (loaded s base) refl
    where
      go : (b : Bool) (o : Option NodeRef) → loaded s own ≡ o → (p : Option NodeRef) → loaded s base ≡ p
          → All OfNodes (option_to_list (cond b None (option_and_then (λ n. option_map (item_pair n) p) o)))
      go true o e p f = none
      go false None e p f = none
      go false (Some n) e None f = none
      go false (Some n) e (Some m) f =
          one (item_pair n m) (and_from (has s n) (has s m) (known_at n (canonical_place s.definitions own) e) (known_at m (canonical_place s.definitions base) f))

  types_known : (n m : NodeRef) → All OfNodes (types_asked s n m)
  types_known n m = flat (entry_asked s (types s m)) (λ e. flat (λ own. flat_map (profile_asked s e own) (types s m)) (λ own. flat (profile_asked s e own) (allowed e own) (types s m)) e.profiles) (types s n)
    where
      allowed : (e : TypeEntry) (own : Text) (f : TypeEntry) → All OfNodes (profile_asked s e own f)
      allowed e own f = go (covers s f.code e.code && targets_narrower s e f)
        where
          go : (b : Bool) → All OfNodes (cond b (flat_map (λ base. option_to_list (roots_pair s own base)) f.profiles) [])
          go true = flat (λ base. option_to_list (roots_pair s own base)) (roots_known own) f.profiles
          go false = none

  kids_known : (base : NodeRef) → IsTrue (has s base) → (o : Option NodeRef) → ((n : NodeRef) → o ≡ Some n → IsTrue (has s n)) → All OfNodes (kids_asked base o)
  kids_known base known None each = none
  kids_known base known (Some n) each = one (kids_pair base n) (and_from (has s n) (has s base) (each n refl) known)

  entry_kids_known : (base : NodeRef) → IsTrue (has s base) → (e : TypeEntry) → All OfNodes (entry_kids_asked s base e)
  entry_kids_known base known e =
      All-append OfNodes (profiles_kids_asked s base e.profiles) (kids_asked base (code_root s e))
      (profiles (list_all (λ p. is_some (loaded s p)) e.profiles))
      (kids_known base known (code_root s e) (coded (names_resource s.definitions e.code)))
    where
      profiles : (b : Bool) → All OfNodes (cond b (flat_map (λ p. kids_asked base (loaded s p)) e.profiles) [])
      profiles true = flat (λ p. kids_asked base (loaded s p)) (λ p. kids_known base known (loaded s p) (λ n f. known_at n (canonical_place s.definitions p) f)) e.profiles
      profiles false = none

      coded : (b : Bool) (n : NodeRef) → cond b None (type_root s e.code) ≡ Some n → IsTrue (has s n)
      coded true n f = absurd (none-some n f)
      coded false n f = known_at n (type_place s.definitions e.code) f

  allowed_known : (n m : NodeRef) → IsTrue (has s n) → IsTrue (has s m) → All OfNodes (option_to_list (allowed_pair s n m))
  allowed_known n m known_n known_m = go (is_forbidden_at s n)
    where
      go : (b : Bool) → All OfNodes (option_to_list (cond b None (Some (item_pair n m))))
      go true = none
      go false = one (item_pair n m) (and_from (has s n) (has s m) known_n known_m)

  module _ (n m : NodeRef) (known_n : IsTrue (has s n)) (known_m : IsTrue (has s m)) where
    slice_known : (b : Slot) → IsTrue (nat_lt b.entry (length (elements_at s m.definition))) → All OfNodes (option_to_list (slice_pair s n m b))
    slice_known b here = go (slice_named s n b.name) refl
      where
        go : (o : Option Slot) → slice_named s n b.name ≡ o
            → All OfNodes (option_to_list (option_and_then (λ a. allowed_pair s (entry_of n a) (entry_of m b)) o))
        go None e = none
        go (Some a) e = allowed_known (entry_of n a) (entry_of m b) (has_found n b.name (slices s n) (are_slices n) known_n a e) (has_entry m b known_m here)

    elements_known : All OfNodes (elements_asked s n m)
    elements_known = go (is_forbidden_at s n)
      where
        go : (b : Bool) → All OfNodes (cond b [] (item_pair n m ∷ flat_map (λ b. option_to_list (slice_pair s n m b)) (slices s m)))
        go true = none
        go false =
            All-cons OfNodes (item_pair n m) (flat_map (λ b. option_to_list (slice_pair s n m b)) (slices s m)) (and_from (has s n) (has s m) known_n known_m)
            (flat_where (λ b. nat_lt b.entry (length (elements_at s m.definition))) (λ b. option_to_list (slice_pair s n m b)) slice_known (slices s m) (are_slices m))

  module _ (n m : NodeRef) (known_n : IsTrue (has s n)) (known_m : IsTrue (has s m)) where
    slot_known : (b : Slot) → IsTrue (nat_lt b.entry (length (elements_at s m.definition))) → All OfNodes (slot_asked s n m b)
    slot_known b here = go (slot_named s n b.name) refl
      where
        go : (o : Option Slot) → slot_named s n b.name ≡ o → All OfNodes (option_map_or (λ a. elements_asked s (entry_of n a) (entry_of m b)) o [])
        go None e = none
        go (Some a) e =
            elements_known (entry_of n a) (entry_of m b) (has_found n b.name (slots s n) (are_slots n) known_n a e) (has_entry m b known_m here)

  -- ---- the node that has a node's children

  module _ (closed : IsClosed s.definitions s.reasons)
      (placed : (place : ℕ) (d : Definition) → slice_get s.definitions place ≡ Some d → d.place ≡ place) where
    -- the element that one of a usable definition refers to is of one that can be used
    usable_target : (n t : NodeRef) (d : Definition) (e : Element) → IsTrue (is_usable s n.definition) → slice_get s.definitions n.definition ≡ Some d
        → slice_get d.elements n.element ≡ Some e → content_target s.definitions n.definition e ≡ Some t → IsTrue (is_usable s t.definition)
    usable_target n t d e usable here at refers =
        let there = placed n.definition d here in
        let hold = closed d (ap (slice_get s.definitions) there ∙ here) (ap (reason_at s.reasons) there ∙ isnt_some (reason_at s.reasons n.definition) usable) in
        let behind = (all_append (λ test. test.0) (fault_of d)
        ((types_are_usable s.definitions s.reasons d, UnusableType) ∷ (has_tree s.definitions d, NoTree)
        ∷ (targets_are_usable s.definitions s.reasons d, MissingContent) ∷ lasting_tests s.definitions d) hold).1 in
        let tree = and_parts (types_are_usable s.definitions s.reasons d) _ behind in
        let contents = and_parts (has_tree s.definitions d) _ tree.1 in
        let targets = (and_parts (targets_are_usable s.definitions s.reasons d) _ contents.1).0 in
        go d.place e.content_reference (ap (λ place. content_target s.definitions place e) there ∙ refers)
        (all_at (target_is_usable s.definitions s.reasons d) d.elements n.element e at targets)
      where
        referred : (b : Bool) → IsTrue (option_map_or (λ p. is_none (reason_at s.reasons p)) (cond b (Some t.definition) None) false)
            → IsTrue (is_usable s t.definition)
        referred true h = h
        referred false h = absurd (false≢true h)

        go : (place : ℕ) (o : Option Text) → option_and_then (referred_node s.definitions place) o ≡ Some t
            → IsTrue (is_none o || option_map_or (λ p. is_none (reason_at s.reasons p))
            (option_and_then (place_referred s.definitions d) (option_map (λ m. m.definition) (option_and_then (referred_node s.definitions place) o))) false)
            → IsTrue (is_usable s t.definition)
        go place None e h = absurd (none-some t e)
        go place (Some text) e h =
            referred (may_refer s.definitions d t.definition)
            (subst (λ o. IsTrue (option_map_or (λ p. is_none (reason_at s.reasons p))
            (option_and_then (place_referred s.definitions d) (option_map (λ m. m.definition) o)) false)) e h)

    target_within : (place : ℕ) (e : Element) (t : NodeRef) → content_target s.definitions place e ≡ Some t
        → IsTrue (nat_lt t.element (length (elements_at s t.definition)))
    target_within place e t = by_reference e.content_reference
      where
        by_id : (at : ℕ) (id : Text) (o : Option ℕ) → id_place (elements_in s.definitions at) id ≡ o
            → option_map (λ k. record { definition = at; element = k }) o ≡ Some t → IsTrue (nat_lt t.element (length (elements_at s t.definition)))
        by_id at id None f e = absurd (none-some t e)
        by_id at id (Some k) f e =
            let m : NodeRef = record { definition = at; element = k } in
            let es = elements_in s.definitions at in
            subst (λ m. IsTrue (nat_lt m.element (length (elements_at s m.definition)))) (same_Some m t e)
            (lt-ltb k (length es) (omega (arith, found_within 0 es id k f)))

        by_place : (id : Text) (o : Option ℕ) → option_and_then (id_node s.definitions id) o ≡ Some t
            → IsTrue (nat_lt t.element (length (elements_at s t.definition)))
        by_place id None e = absurd (none-some t e)
        by_place id (Some at) e = by_id at id (id_place (elements_in s.definitions at) id) refl e

        by_cut : (o : Option (Text × Text)) → option_and_then (λ cut. option_and_then (id_node s.definitions cut.1) (content_place s.definitions place cut.0)) o ≡ Some t
            → IsTrue (nat_lt t.element (length (elements_at s t.definition)))
        by_cut None e = absurd (none-some t e)
        by_cut (Some cut) e = by_place cut.1 (content_place s.definitions place cut.0) e

        by_reference : (o : Option Text) → option_and_then (referred_node s.definitions place) o ≡ Some t
            → IsTrue (nat_lt t.element (length (elements_at s t.definition)))
        by_reference None e = absurd (none-some t e)
        by_reference (Some text) e = by_cut (cut_at_first hash text) e

    target_known : (n t : NodeRef) → IsTrue (has s n) → target s.definitions n ≡ Some t → IsTrue (has s t)
    target_known n t known e = go (slice_get s.definitions n.definition) refl (slice_get (elements_in s.definitions n.definition) n.element) refl e
      where
        usable : IsTrue (is_usable s n.definition)
        usable = (and_parts (is_usable s n.definition) (nat_lt n.element (length (elements_at s n.definition))) known).0

        go : (o : Option Definition) → slice_get s.definitions n.definition ≡ o
            → (p : Option Element) → slice_get (option_map_or (λ d. d.elements) o []) n.element ≡ p
            → option_and_then (content_target s.definitions n.definition) p ≡ Some t → IsTrue (has s t)
        go o f None g h = absurd (none-some t h)
        go None f (Some e) g h = absurd (none-some e g)
        go (Some d) f (Some e) g h =
            and_from (is_usable s t.definition) (nat_lt t.element (length (elements_at s t.definition))) (usable_target n t d e usable f g h)
            (target_within n.definition e t h)

    holder_known : (n h : NodeRef) → IsTrue (has s n) → holder s n ≡ Some h → IsTrue (has s h)
    holder_known n h known = go (nat_eq (length (slots s n)) 0) (target s.definitions n) refl
      where
        go : (b : Bool) (o : Option NodeRef) → target s.definitions n ≡ o → option_or (cond b None (Some n)) o ≡ Some h → IsTrue (has s h)
        go false o f e = subst (λ m. IsTrue (has s m)) (same_Some n h e) known
        go true None f e = absurd (none-some h e)
        go true (Some t) f e = subst (λ m. IsTrue (has s m)) (same_Some t h e) (target_known n t known f)

    child_holder_known : (n h : NodeRef) → IsTrue (has s n) → child_holder s n ≡ Some h → IsTrue (has s h)
    child_holder_known n h known = go (holder s n) refl
      where
        itself : (t : NodeRef) → IsTrue (has s t) → (b : Bool) → cond b None (Some t) ≡ Some h → IsTrue (has s h)
        itself t there true e = absurd (none-some h e)
        itself t there false e = subst (λ m. IsTrue (has s m)) (same_Some t h e) there

        go : (o : Option NodeRef) → holder s n ≡ o → option_and_then (with_children s.definitions) o ≡ Some h → IsTrue (has s h)
        go None f e = absurd (none-some h e)
        go (Some t) f e = itself t (holder_known n t known f) (nat_eq (length (slots s t)) 0) e

    children_known : (n m : NodeRef) → IsTrue (has s n) → IsTrue (has s m) → All OfNodes (children_asked s n m)
    children_known n m known_n known_m = go (child_holder s m) refl
      where
        go : (o : Option NodeRef) → child_holder s m ≡ o
            → All OfNodes (option_map_or (λ base. kids_asked base (holder s n) ++ flat_map (entry_kids_asked s base) (types s n)) o [])
        go None e = none
        go (Some base) e =
            let known = child_holder_known m base known_m e in
            All-append OfNodes (kids_asked base (holder s n)) (flat_map (entry_kids_asked s base) (types s n))
            (kids_known base known (holder s n) (λ h f. holder_known n h known_n f))
            (flat (entry_kids_asked s base) (entry_kids_known base known) (types s n))

    all_known : (p : Pair) → OfNodes p → All OfNodes (asked_for s p)
    all_known (Item p) known =
        let parts = and_parts (has s p.derived) (has s p.base) known in
        All-append OfNodes (types_asked s p.derived p.base) (children_asked s p.derived p.base) (types_known p.derived p.base)
        (children_known p.derived p.base parts.0 parts.1)
    all_known (Kids p) known =
        let parts = and_parts (has s p.derived) (has s p.base) known in
        flat_where (λ b. nat_lt b.entry (length (elements_at s p.base.definition))) (slot_asked s p.derived p.base)
        (slot_known p.derived p.base parts.0 parts.1) (slots s p.base) (are_slots p.base)

    pub asked_known : (p q : Pair) → OfNodes p → Contains (asked_for s p) q → OfNodes q
    asked_known p q known asked = All-contains OfNodes (asked_for s p) q (all_known p known) asked
