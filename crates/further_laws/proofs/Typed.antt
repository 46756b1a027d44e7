-- Typing goes on at nodes of type definitions alone.
use Rattle.std.proofs.Common.{◌≡◌, ℕ, zero, suc, Bool, true, false, cond, not, List, [], ◌∷◌, map, length, get_or, Option, None, Some, is_none, refl, sym, ap, ◌∙◌, subst, ◌&&◌, ◌||◌, IsTrue}
use Rattle.std.specs.Prelude.{nat_eq, nat_lt}
use Rattle.std.specs.List.{list_all, slice_get, AllByRecursion, Contains}
use Rattle.std.specs.Option.{option_map, option_map_or, option_and_then, option_or}
use Rattle.std.specs.Str.{bytes_eq}
use Rattle.std.proofs.lemmas.Bool.{and_parts, false≢true}
use Rattle.std.proofs.lemmas.Option.{none-some, same_Some}
use Rattle.std.proofs.lemmas.List.Folds.{list_all-append}
use Rattle.std.proofs.lemmas.List.Elements.{All-from_recursion, All-contains}
use Rattle.fhir_json.specs.Tree.{Text}
use Rattle.fhir_prims.specs.declared.prim.PrimType.{PrimType}
use Rattle.fhir_elements.specs.Element.{Element}
use Rattle.fhir_elements.specs.TypeEntry.{TypeEntry}
use Rattle.fhir_elements.specs.Tests.{all_hold}
use Rattle.fhir_definition.specs.Definition.{Definition}
use Rattle.fhir_definition.specs.Snapshot.{root_place}
use Rattle.fhir_nodes.specs.declared.node.NodeRef.{NodeRef}
use Rattle.fhir_nodes.specs.Types.{type_place, type_of_code, root_of_code, names_resource, primitive_of, is_system}
use Rattle.fhir_nodes.specs.Slots.{Slot, slots_of}
use Rattle.fhir_nodes.specs.Contents.{elements_in, element_of, content_target, target, referred_node}
use Rattle.fhir_nodes.specs.Holders.{slots_at, with_children, holder, child_holder, typing_entries}
use Rattle.fhir_forms.specs.declared.form.Content.TheVariants.{Primitive, System, Resource, Complex}
use Rattle.fhir_forms.specs.Forms.{Form, typing_node, slot_node, form_of, forms_with, slot_forms, forms_under, are_apart, if_apart, forms_of}
use Rattle.fhir_schema.specs.Settling.{reason_at, fault_of, types_are_usable, has_tree, targets_are_usable, target_is_usable, lasting_tests, is_type_at, place_referred}
use Rattle.fhir_schema.specs.Usability.{IsClosed}
use Rattle.fhir_schema.specs.Schemas.{SchemaValue, is_usable, elements_at, has, root_element, root_in, forms, type_root, is_concrete, resource_root}
use Rattle.fhir_conformance.proofs.Lists.{all_of_each, all_gathered, all_mapped}
use Rattle.further_laws.specs.Types.{below}
use Rattle.further_laws.proofs.Chains.{bound}
use Rattle.further_laws.proofs.Sliced.{none_there}

-- ---- lists of lists

all_at : {A : Type 0} (p : A → Bool) (xs : List A) (i : ℕ) (x : A) → slice_get xs i ≡ Some x → IsTrue (list_all p xs) → IsTrue (p x)
all_at p [] i x e each = absurd (none-some x e)
all_at p (y ∷ xs) zero x e each = subst (λ z. IsTrue (p z)) (same_Some y x e) (and_parts (p y) (list_all p xs) each).0
all_at p (y ∷ xs) (suc i) x e each = all_at p xs i x e (and_parts (p y) (list_all p xs) each).1

mapped_or : {A B : Type 0} (f : A → List B) (xs : List A) (i : ℕ) → get_or (map f xs) i [] ≡ option_map_or f (slice_get xs i) []
mapped_or f [] i = refl
mapped_or f (x ∷ xs) zero = refl
mapped_or f (x ∷ xs) (suc i) = mapped_or f xs i

module _ (s : SchemaValue) (placed : (place : ℕ) (d : Definition) → slice_get s.definitions place ≡ Some d → d.place ≡ place)
    (closed : IsClosed s.definitions s.reasons) where
  abbrev ds : List Definition
  ds = s.definitions

  -- ---- the definition of a type

  found_type : (es : List Definition) (code : Text) (place : ℕ) → type_place es code ≡ Some place
      → (i : ℕ) × ((d : Definition) × ((slice_get es i ≡ Some d) × ((d.is_type ≡ true) × (d.place ≡ place))))
  found_type [] code place e = absurd (none-some place e)
  found_type (d ∷ es) code place e = by (found_type es code place) (d.is_type && bytes_eq code d.type) refl e
    where
      by : (type_place es code ≡ Some place
          → (i : ℕ) × ((d' : Definition) × ((slice_get es i ≡ Some d') × ((d'.is_type ≡ true) × (d'.place ≡ place)))))
          → (b : Bool) → (d.is_type && bytes_eq code d.type) ≡ b → cond b (Some d.place) (type_place es code) ≡ Some place
          → (i : ℕ) × ((d' : Definition) × ((slice_get (d ∷ es) i ≡ Some d') × ((d'.is_type ≡ true) × (d'.place ≡ place))))
      by more true is f = (0, (d, (refl, ((and_parts d.is_type (bytes_eq code d.type) is).0, same_Some d.place place f))))
      by more false is f = let it = more f in (suc it.0, it.1)

  type_there : (code : Text) (place : ℕ) → type_place ds code ≡ Some place → is_type_at ds place ≡ true
  type_there code place e =
      let it = found_type ds code place e in
      let at : it.0 ≡ place = sym (placed it.0 it.1.0 it.1.1.0) ∙ it.1.1.1.1 in
      ap (is_type_at ds) (sym at) ∙ ap (λ o. option_map_or (λ (d : Definition). d.is_type) o false) it.1.1.0 ∙ it.1.1.1.0

  pub root_of_type : (code : Text) (n : NodeRef) → root_of_code ds code ≡ Some n → is_type_at ds n.definition ≡ true
  root_of_type code n =
      bound (is_type_at ds n.definition ≡ true) (λ (d : Definition). option_map (λ e. record { definition = d.place; element = e }) (root_place d.elements))
      (type_of_code ds code) n
      (λ d of_code is_root. bound (is_type_at ds n.definition ≡ true) (slice_get ds) (type_place ds code) d
      (λ place named at. ap (is_type_at ds) (rooted d (root_place d.elements) is_root ∙ placed place d at) ∙ type_there code place named) of_code)
    where
      rooted : (d : Definition) (o : Option ℕ) → option_map (λ e. record { definition = d.place; element = e }) o ≡ Some n → n.definition ≡ d.place
      rooted d None e = absurd (none-some n e)
      rooted d (Some r) e = sym (ap (λ (m : NodeRef). m.definition) (same_Some (record { definition = d.place; element = r }) n e))

  -- ---- what a type definition refers to

  module _ (d : Definition) (i : ℕ) (at : slice_get ds i ≡ Some d) (usable : IsTrue (is_usable s i)) (is_type : d.is_type ≡ true) where
    there : d.place ≡ i
    there = placed i d at

    targets : targets_are_usable ds s.reasons d ≡ true
    targets =
        let held = closed d (ap (slice_get ds) there ∙ at) (ap (reason_at s.reasons) there ∙ none_there (reason_at s.reasons i) usable) in
        let rest = and_parts _ _ (sym (list_all-append (λ test. test.0) (fault_of d) _) ∙ held) in
        let others = and_parts (types_are_usable ds s.reasons d) _ rest.1 in
        let formed = and_parts (has_tree ds d) _ others.1 in
        (and_parts (targets_are_usable ds s.reasons d) (all_hold (lasting_tests ds d)) formed.1).0

    allowed : (b c : Bool) (place : ℕ) → b ≡ true → IsTrue (option_map_or (λ p. is_none (reason_at s.reasons p)) (cond (not b || c) (Some place) None) false) → c ≡ true
    allowed true true place is h = refl
    allowed true false place is h = absurd (false≢true h)
    allowed false c place is h = absurd (false≢true is)

    to_a_type : (e : Element) (t : NodeRef) → content_target ds d.place e ≡ Some t → target_is_usable ds s.reasons d e ≡ true
        → is_type_at ds t.definition ≡ true
    to_a_type e t = by e.content_reference
      where
        by : (o : Option Text) → option_and_then (referred_node ds d.place) o ≡ Some t
            → (is_none o || option_map_or (λ p. is_none (reason_at s.reasons p))
            (option_and_then (place_referred ds d) (option_map (λ n. n.definition) (option_and_then (referred_node ds d.place) o))) false) ≡ true
            → is_type_at ds t.definition ≡ true
        by None f h = absurd (none-some t f)
        by (Some text) f h =
            allowed d.is_type (is_type_at ds t.definition) t.definition is_type
            (subst (λ o. IsTrue (option_map_or (λ p. is_none (reason_at s.reasons p))
            (option_and_then (place_referred ds d) (option_map (λ (n : NodeRef). n.definition) o)) false)) f h)

    target_is_type : (m t : NodeRef) → m.definition ≡ d.place → target ds m ≡ Some t → is_type_at ds t.definition ≡ true
    target_is_type m t same =
        bound (is_type_at ds t.definition ≡ true) (content_target ds m.definition) (element_of ds m) t
        (λ e of_m refers. to_a_type e t (ap (λ place. content_target ds place e) (sym same) ∙ refers)
        (all_at (target_is_usable ds s.reasons d) d.elements m.element e (here e of_m) targets))
      where
        here : (e : Element) → element_of ds m ≡ Some e → slice_get d.elements m.element ≡ Some e
        here e f = sym (ap (λ place. slice_get (elements_in ds place) m.element) (same ∙ there)
            ∙ ap (λ o. slice_get (option_map_or (λ (d : Definition). d.elements) o []) m.element) at) ∙ f

    held_by_type : (m k : NodeRef) → m.definition ≡ d.place → child_holder ds m ≡ Some k → is_type_at ds k.definition ≡ true
    held_by_type m k same =
        bound (is_type_at ds k.definition ≡ true) (with_children ds) (holder ds m) k
        (λ h of_m has_some. itself h (nat_eq (length (slots_at ds h)) 0) has_some (by (nat_eq (length (slots_at ds m)) 0) (target ds m) refl h of_m))
      where
        itself : (h : NodeRef) (b : Bool) → cond b None (Some h) ≡ Some k → is_type_at ds h.definition ≡ true → is_type_at ds k.definition ≡ true
        itself h true e is = absurd (none-some k e)
        itself h false e is = ap (λ (n : NodeRef). is_type_at ds n.definition) (sym (same_Some h k e)) ∙ is

        by : (b : Bool) (o : Option NodeRef) → target ds m ≡ o → (h : NodeRef) → option_or (cond b None (Some m)) o ≡ Some h → is_type_at ds h.definition ≡ true
        by false o f h e =
            ap (λ (n : NodeRef). is_type_at ds n.definition) (sym (same_Some m h e)) ∙ ap (is_type_at ds) (same ∙ there)
            ∙ ap (λ o. option_map_or (λ (d : Definition). d.is_type) o false) at ∙ is_type
        by true None f h e = absurd (none-some h e)
        by true (Some t) f h e = ap (λ (n : NodeRef). is_type_at ds n.definition) (sym (same_Some t h e)) ∙ target_is_type m t same f

    -- ---- forms

    abbrev GoesOn : Form → Type 0
    GoesOn f = (k : NodeRef) → below f.content ≡ Some k → is_type_at ds k.definition ≡ true

    typed_at : (m k : NodeRef) (code : Text) → m.definition ≡ d.place → typing_node ds m code ≡ Some k → is_type_at ds k.definition ≡ true
    typed_at m k code same = by (child_holder ds m) refl
      where
        by : (o : Option NodeRef) → child_holder ds m ≡ o → option_or o (root_of_code ds code) ≡ Some k → is_type_at ds k.definition ≡ true
        by None f e = root_of_type code k e
        by (Some h) f e = held_by_type m k same (f ∙ e)

    goes_on : (slot : Slot) (e : Element) (code : Text) → GoesOn (form_of ds d slot e code)
    goes_on slot e code k = by_system (is_system code) (names_resource ds code) (primitive_of ds code)
      where
        by_system : (is_of_system is_resource : Bool) (o : Option PrimType)
            → below (cond is_of_system System (cond is_resource Resource
            (option_map_or (λ prim. Primitive prim (typing_node ds (slot_node ds d slot) code)) o (Complex (typing_node ds (slot_node ds d slot) code))))) ≡ Some k
            → is_type_at ds k.definition ≡ true
        by_system true r o e = absurd (none-some k e)
        by_system false true o e = absurd (none-some k e)
        by_system false false None e = typed_at (slot_node ds d slot) k code refl e
        by_system false false (Some prim) e = typed_at (slot_node ds d slot) k code refl e

    each_of_slot : (slot : Slot) → AllByRecursion GoesOn (slot_forms ds d slot)
    each_of_slot slot = by (slice_get d.elements slot.entry)
      where
        by : (o : Option Element) → AllByRecursion GoesOn (option_map_or (forms_with ds d slot) o [])
        by None = tt
        by (Some e) =
            let entries = typing_entries ds (slot_node ds d slot) e in
            all_mapped GoesOn (λ (entry : TypeEntry). form_of ds d slot e entry.code) entries
            (all_of_each (λ (entry : TypeEntry). GoesOn (form_of ds d slot e entry.code)) (λ entry. goes_on slot e entry.code) entries)

    each_under : (slots : List Slot) → AllByRecursion GoesOn (if_apart (forms_under ds d slots))
    each_under slots = by (are_apart (forms_under ds d slots))
      where
        by : (b : Bool) → AllByRecursion GoesOn (cond b (forms_under ds d slots) [])
        by true = all_gathered GoesOn (slot_forms ds d) slots (all_of_each (λ slot. AllByRecursion GoesOn (slot_forms ds d slot)) each_of_slot slots)
        by false = tt

    each_at : (lists : List (List Slot)) (k : ℕ) → AllByRecursion GoesOn (get_or (map (λ slots. if_apart (forms_under ds d slots)) lists) k [])
    each_at [] k = tt
    each_at (slots ∷ lists) zero = each_under slots
    each_at (slots ∷ lists) (suc k) = each_at lists k

  -- ---- the forms of a node

  forms_are : (n : NodeRef) → forms s n ≡ get_or (option_map_or (forms_of ds) (slice_get ds n.definition) []) n.element []
  forms_are n = ap (λ lists. get_or lists n.element []) (mapped_or (forms_of ds) ds n.definition)

  pub no_forms : (n : NodeRef) → is_type_at ds n.definition ≡ false → forms s n ≡ []
  no_forms n other = forms_are n ∙ by (slice_get ds n.definition) other
    where
      of_profile : (d : Definition) (b : Bool) → b ≡ false
          → get_or (cond b (map (λ slots. if_apart (forms_under ds d slots)) (slots_of ds d)) []) n.element [] ≡ []
      of_profile d true e = absurd (false≢true (sym e))
      of_profile d false e = refl

      by : (o : Option Definition) → option_map_or (λ d. d.is_type) o false ≡ false → get_or (option_map_or (forms_of ds) o []) n.element [] ≡ []
      by None e = refl
      by (Some d) e = of_profile d d.is_type e

  abbrev OnTypes : Form → Type 0
  OnTypes f = (k : NodeRef) → below f.content ≡ Some k → is_type_at ds k.definition ≡ true

  all_on_types : (n : NodeRef) → IsTrue (has s n) → AllByRecursion OnTypes (forms s n)
  all_on_types n known = subst (AllByRecursion OnTypes) (sym (forms_are n)) (by (slice_get ds n.definition) refl)
    where
      usable : IsTrue (is_usable s n.definition)
      usable = (and_parts (is_usable s n.definition) (nat_lt n.element (length (elements_at s n.definition))) known).0

      of_type : (d : Definition) → slice_get ds n.definition ≡ Some d → (b : Bool) → d.is_type ≡ b
          → AllByRecursion OnTypes (get_or (cond b (map (λ slots. if_apart (forms_under ds d slots)) (slots_of ds d)) []) n.element [])
      of_type d at true is = each_at d n.definition at usable is (slots_of ds d) n.element
      of_type d at false is = tt

      by : (o : Option Definition) → slice_get ds n.definition ≡ o → AllByRecursion OnTypes (get_or (option_map_or (forms_of ds) o []) n.element [])
      by None f = tt
      by (Some d) f = of_type d f d.is_type refl

  pub onward : (n m : NodeRef) (f : Form) → IsTrue (has s n) → Contains (forms s n) f → below f.content ≡ Some m → is_type_at ds m.definition ≡ true
  onward n m f known among is =
      All-contains OnTypes (forms s n) f (All-from_recursion OnTypes (forms s n) (all_on_types n known)) among m is

  pub resource_of_type : (code : Text) (n : NodeRef) → resource_root s code ≡ Some n → is_type_at ds n.definition ≡ true
  resource_of_type code n = by (option_map_or is_concrete (type_of_code ds code) false)
    where
      rooted : (place : ℕ) (o : Option ℕ) → option_map (λ e. record { definition = place; element = e }) o ≡ Some n → place ≡ n.definition
      rooted place None e = absurd (none-some n e)
      rooted place (Some r) e = ap (λ (m : NodeRef). m.definition) (same_Some (record { definition = place; element = r }) n e)

      usable_root : (place : ℕ) (b : Bool) → cond b (option_map (λ e. record { definition = place; element = e }) (root_element s place)) None ≡ Some n
          → place ≡ n.definition
      usable_root place true e = rooted place (root_element s place) e
      usable_root place false e = absurd (none-some n e)

      by : (b : Bool) → cond b (type_root s code) None ≡ Some n → is_type_at ds n.definition ≡ true
      by true e =
          bound (is_type_at ds n.definition ≡ true) (root_in s) (type_place ds code) n
          (λ place named rooted. ap (is_type_at ds) (sym (usable_root place (is_usable s place) rooted)) ∙ type_there code place named) e
      by false e = absurd (none-some n e)
