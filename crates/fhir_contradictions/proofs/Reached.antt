-- From the nodes of type definitions that can be used such nodes are reached: what they refer to for their content, and the roots of types.
use Rattle.std.proofs.Common.{◌≡◌, ◌+◌, ◌<◌, ℕ, suc, Bool, true, false, cond, not, ◌&&◌, ◌||◌, nat_lt, List, [], ◌∷◌, length, Option, None, Some, is_none, refl, sym, ap, ◌∙◌, subst, IsTrue, arith}
use Rattle.std.specs.Option.{option_map, option_map_or, option_and_then}
use Rattle.std.specs.List.{slice_get, position_or_len}
use Rattle.std.specs.Str.{bytes_eq}
use Rattle.std.proofs.lemmas.Bool.{and_parts, and_from, false≢true, ltb-true, lt-ltb}
use Rattle.std.proofs.lemmas.Option.{none-some, same_Some, cond_some, option_and_then_some}
use Rattle.fhir_json.specs.Tree.{Text}
use Rattle.fhir_names.specs.Texts.{cut_at_first}
use Rattle.fhir_elements.specs.Element.{Element}
use Rattle.fhir_definition.specs.Snapshot.{id_place, id_place_from, is_root, root_place}
use Rattle.fhir_definition.specs.Definition.{Definition}
use Rattle.fhir_nodes.specs.declared.node.NodeRef.{NodeRef}
use Rattle.fhir_nodes.specs.Types.{type_place, root_of_code}
use Rattle.fhir_nodes.specs.Contents.{hash, elements_in, element_of, content_place, id_node, referred_node, content_target, target}
use Rattle.fhir_schema.specs.Settling.{reason_at, is_usable_type, is_type_at, place_referred, target_is_usable}
use Rattle.fhir_schema.specs.Usability.{IsClosed}
use Rattle.fhir_schema.specs.Schemas.{SchemaValue, is_usable, elements_at, root_element, root_in, type_root}
use Rattle.fhir_contradictions.proofs.Listed.{all_at}
use Rattle.fhir_contradictions.proofs.Slotted.{ArePlaced}
use Rattle.fhir_contradictions.proofs.Homes.{IsUsed, Home, home, among_elements}

-- ---- places among elements

-- a place that is found by an id is among the elements
id_within : (n : ℕ) (es : List Element) (id : Text) (k : ℕ) → id_place_from n es id ≡ Some k → k < n + length es
id_within n [] id k is = absurd (none-some k is)
id_within n (e ∷ es) id k is = go (bytes_eq id e.id) is (id_within (suc n) es id k)
  where
    go : (b : Bool) → cond b (Some n) (id_place_from (suc n) es id) ≡ Some k
        → (id_place_from (suc n) es id ≡ Some k → k < suc n + length es) → k < n + length (e ∷ es)
    go true is more = omega (arith, same_Some n k is)
    go false is more = omega (arith, more is)

-- so is a root's
root_within : (es : List Element) (k : ℕ) → root_place es ≡ Some k → k < length es
root_within es k is =
    let found = cond_some (nat_lt (position_or_len is_root es) (length es)) (position_or_len is_root es) k is in
    let within = ltb-true (position_or_len is_root es) (length es) found.0 in
    omega (arith, within, found.1)

module _ (s : SchemaValue) (placed : ArePlaced s) (closed : IsClosed s.definitions s.reasons) where
  -- ---- what it refers to

  -- the element to which one refers is there
  target_within : (place : ℕ) (text : Text) (t : NodeRef) → referred_node s.definitions place text ≡ Some t
      → t.element < length (elements_at s t.definition)
  target_within place text t is =
      option_and_then_some
      (λ (cut : Text × Text). option_and_then (id_node s.definitions cut.1) (content_place s.definitions place cut.0)) (cut_at_first hash text) t is
      (λ cut of_text found. option_and_then_some (id_node s.definitions cut.1) (content_place s.definitions place cut.0) t found
      (λ p of_front at. by cut.1 p (id_place (elements_in s.definitions p) cut.1) refl at))
    where
      by : (id : Text) (p : ℕ) (o : Option ℕ) → id_place (elements_in s.definitions p) id ≡ o
          → option_map (λ (e : ℕ). record { definition = p; element = e }) o ≡ Some t → t.element < length (elements_at s t.definition)
      by id p None of_id at = absurd (none-some t at)
      by id p (Some k) of_id at =
          subst (λ (n : NodeRef). n.element < length (elements_at s n.definition)) (same_Some (record { definition = p; element = k }) t at)
          (omega (arith, id_within 0 (elements_in s.definitions p) id k of_id))

  -- one that a type definition may refer to is of a type definition that can be used
  referable : (b c : Bool) (place : ℕ) → b ≡ true
      → IsTrue (option_map_or (λ (p : ℕ). is_none (reason_at s.reasons p)) (cond (not b || c) (Some place) None) false)
      → (c ≡ true) × IsTrue (is_usable s place)
  referable true true place is h = (refl, h)
  referable true false place is h = absurd (false≢true h)
  referable false c place is h = absurd (false≢true is)

  -- the node to which it refers is one, too
  pub target_used : (n t : NodeRef) → IsUsed s n → target s.definitions n ≡ Some t → IsUsed s t
  target_used n t used is =
      option_and_then_some (content_target s.definitions n.definition) (element_of s.definitions n) t is
      (λ e at refers. in_home (home s placed closed n used) e at refers)
    where
      by : (d : Definition) → d.is_type ≡ true → (o : Option Text) → option_and_then (referred_node s.definitions d.place) o ≡ Some t
          → IsTrue (is_none o || option_map_or (λ (p : ℕ). is_none (reason_at s.reasons p))
          (option_and_then (place_referred s.definitions d)
          (option_map (λ (n : NodeRef). n.definition) (option_and_then (referred_node s.definitions d.place) o))) false)
          → IsUsed s t
      by d is_type None f h = absurd (none-some t f)
      by d is_type (Some text) f h =
          let there = referable d.is_type (is_type_at s.definitions t.definition) t.definition is_type
          (subst (λ (o : Option NodeRef). IsTrue (option_map_or (λ (p : ℕ). is_none (reason_at s.reasons p))
          (option_and_then (place_referred s.definitions d) (option_map (λ (n : NodeRef). n.definition) o)) false)) f h) in
          record {
            known = and_from (is_usable s t.definition) (nat_lt t.element (length (elements_at s t.definition))) there.1
                (lt-ltb t.element (length (elements_at s t.definition)) (target_within d.place text t f));
            of_type = there.0;
          }

      in_home : Home s n → (e : Element) → element_of s.definitions n ≡ Some e → content_target s.definitions n.definition e ≡ Some t
          → IsUsed s t
      in_home h e at refers =
          by h.itself h.is_type e.content_reference (ap (λ (place : ℕ). content_target s.definitions place e) h.place ∙ refers)
          (all_at (target_is_usable s.definitions s.reasons h.itself) h.itself.elements e h.targets (among_elements s n h e at))

  -- ---- roots of types

  -- at the place of a type stands a type definition
  type_there : (code : Text) (place : ℕ) → type_place s.definitions code ≡ Some place → is_type_at s.definitions place ≡ true
  type_there code place is = go s.definitions placed_here is
    where
      placed_here : (i : ℕ) (d : Definition) → slice_get s.definitions i ≡ Some d → slice_get s.definitions d.place ≡ Some d
      placed_here i d at = ap (slice_get s.definitions) (placed i d at) ∙ at

      go : (es : List Definition) → ((i : ℕ) (d : Definition) → slice_get es i ≡ Some d → slice_get s.definitions d.place ≡ Some d)
          → type_place es code ≡ Some place → is_type_at s.definitions place ≡ true
      go [] each is = absurd (none-some place is)
      go (d ∷ es) each is = by (d.is_type && bytes_eq code d.type) refl is (go es (λ i. each (suc i)))
        where
          by : (b : Bool) → (d.is_type && bytes_eq code d.type) ≡ b → cond b (Some d.place) (type_place es code) ≡ Some place
              → (type_place es code ≡ Some place → is_type_at s.definitions place ≡ true) → is_type_at s.definitions place ≡ true
          by true e is more =
              ap (is_type_at s.definitions) (sym (same_Some d.place place is))
              ∙ ap (λ (o : Option Definition). option_map_or (λ (d : Definition). d.is_type) o false) (each 0 d refl)
              ∙ (and_parts d.is_type (bytes_eq code d.type) e).0
          by false e is more = more is

  -- the root of a type, if that can be used, is such a node
  pub root_used : (code : Text) (r : NodeRef) → type_root s code ≡ Some r → IsUsed s r
  root_used code r is =
      option_and_then_some (root_in s) (type_place s.definitions code) r is
      (λ place named rooted. at place named (is_usable s place) refl (root_element s place) refl rooted)
    where
      at : (place : ℕ) → type_place s.definitions code ≡ Some place → (b : Bool) → is_usable s place ≡ b
          → (o : Option ℕ) → root_element s place ≡ o
          → cond b (option_map (λ (e : ℕ). record { definition = place; element = e }) o) None ≡ Some r → IsUsed s r
      at place named false usable o found is = absurd (none-some r is)
      at place named true usable None found is = absurd (none-some r is)
      at place named true usable (Some k) found is =
          subst (IsUsed s) (same_Some (record { definition = place; element = k }) r is)
          (record {
            known = and_from (is_usable s place) (nat_lt k (length (elements_at s place))) usable
                (lt-ltb k (length (elements_at s place)) (root_within (elements_at s place) k found));
            of_type = type_there code place named;
          })

  -- the root of a type that can be used is that root
  pub usable_type_root : (code : Text) (r : NodeRef) → IsTrue (is_usable_type s.definitions s.reasons code)
      → root_of_code s.definitions code ≡ Some r → type_root s code ≡ Some r
  usable_type_root code r = by_place (type_place s.definitions code)
    where
      node_at : ℕ → ℕ → NodeRef
      node_at place e = record { definition = place; element = e }

      at : (place : ℕ) (o : Option Definition) → slice_get s.definitions place ≡ o → (b : Bool) → b ≡ true
          → option_and_then (λ (d : Definition). option_map (node_at d.place) (root_place d.elements)) o ≡ Some r
          → cond b (option_map (node_at place) (root_place (option_map_or (λ (d : Definition). d.elements) o []))) None ≡ Some r
      at place None is b usable h = absurd (none-some r h)
      at place (Some d) is true usable h =
          ap (λ (k : ℕ). option_map (node_at k) (root_place d.elements)) (sym (placed place d is)) ∙ h
      at place (Some d) is false usable h = absurd (false≢true usable)

      by_place : (o : Option ℕ) → IsTrue (option_map_or (λ (place : ℕ). is_none (reason_at s.reasons place)) o false)
          → option_and_then (λ (d : Definition). option_map (node_at d.place) (root_place d.elements))
          (option_and_then (slice_get s.definitions) o) ≡ Some r
          → option_and_then (root_in s) o ≡ Some r
      by_place None usable h = absurd (none-some r h)
      by_place (Some place) usable h = at place (slice_get s.definitions place) refl (is_usable s place) usable h
