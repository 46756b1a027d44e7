-- Where types are regular, no chain of bases leads from another type to one that may have items.
use Rattle.std.proofs.Common.{◌≡◌, ℕ, zero, suc, length, Bool, true, false, not, cond, List, [], ◌∷◌, ◌&&◌, ◌||◌, Option, None, Some, is_some, IsTrue, refl, sym, ap, ◌∙◌, subst, inl, inr, option_map, option_and_then}
use Rattle.std.specs.List.{slice_get, list_any, range_with_len}
use Rattle.std.specs.Option.{option_map_or}
use Rattle.std.specs.Str.{bytes_eq}
use Rattle.std.proofs.lemmas.Bool.{and_parts, and_from, or_parts, true≢false, not-true}
use Rattle.std.proofs.lemmas.Option.{none-some, same_Some}
use Rattle.std.proofs.lemmas.Slice.Eq.{bytes_eq-Decides}
use Rattle.fhir_json.specs.Tree.{Text}
use Rattle.fhir_definition.specs.Definition.{Definition}
use Rattle.fhir_nodes.specs.declared.node.NodeRef.{NodeRef}
use Rattle.fhir_nodes.specs.Urls.{canonical_place}
use Rattle.fhir_nodes.specs.Types.{type_place, is_resource, type_of_code, names_resource}
use Rattle.fhir_schema.specs.Settling.{base_place}
use Rattle.fhir_schema.specs.Chains.{base_after}
use Rattle.fhir_schema.specs.Schemas.{SchemaValue, is_usable, root_in, root_element, loaded}
use Rattle.fhir_schema.specs.Covers.{covers}
use Rattle.fhir_schema.proofs.Stepping.{after-none}
use Rattle.fhir_contradictions.specs.Regular.{may_type_otherwise, rests_on_such, may_have_items, element_types_inline, is_irregular, are_regular}
use Rattle.further_laws.specs.Bases.{Leads}
use Rattle.further_laws.proofs.Chains.{covers_where}

-- what no element of a list passes, the one at a place doesn't
none_at : {A : Type 0} (p : A → Bool) (xs : List A) (k : ℕ) (x : A) → slice_get xs k ≡ Some x → list_any p xs ≡ false → p x ≡ false
none_at p [] k x is none = absurd (none-some x is)
none_at p (y ∷ ys) zero x is none = sym (ap p (same_Some y x is)) ∙ (or_parts (p y) (list_any p ys) none).0
none_at p (y ∷ ys) (suc k) x is none = none_at p ys k x is (or_parts (p y) (list_any p ys) none).1

module _ (s : SchemaValue) (placed : (place : ℕ) (d : Definition) → slice_get s.definitions place ≡ Some d → d.place ≡ place) where
  abbrev ds : List Definition
  ds = s.definitions

  -- the definition at the place of a type
  record IsTypeAt (code : Text) (k : ℕ) : Type 0 where
    definition : Definition
    at : slice_get ds k ≡ Some definition
    is_type : definition.is_type ≡ true
    type : code ≡ definition.type

  -- in a list of which each stands at its place
  type_at_from : (es : List Definition) → ((i : ℕ) (d : Definition) → slice_get es i ≡ Some d → slice_get ds d.place ≡ Some d)
      → (code : Text) (k : ℕ) → type_place es code ≡ Some k → IsTypeAt code k
  type_at_from [] each code k is = absurd (none-some k is)
  type_at_from (d ∷ es) each code k is = by (d.is_type && bytes_eq code d.type) refl is (type_at_from es (λ i e. each (suc i) e) code k)
    where
      by : (b : Bool) → (d.is_type && bytes_eq code d.type) ≡ b → cond b (Some d.place) (type_place es code) ≡ Some k
          → (type_place es code ≡ Some k → IsTypeAt code k) → IsTypeAt code k
      by true both f more =
          let parts = and_parts d.is_type (bytes_eq code d.type) both in
          record {
            definition = d;
            at = subst (λ (j : ℕ). slice_get ds j ≡ Some d) (same_Some d.place k f) (each 0 d refl);
            is_type = parts.0;
            type = (bytes_eq-Decides code d.type).0 parts.1;
          }
      by false both f more = more f

  type_there : (code : Text) (k : ℕ) → type_place ds code ≡ Some k → IsTypeAt code k
  type_there = type_at_from ds (λ i d is. subst (λ (j : ℕ). slice_get ds j ≡ Some d) (sym (placed i d is)) is)

  -- one definition is of one type
  one_type : (one other : Text) (k : ℕ) → type_place ds one ≡ Some k → type_place ds other ≡ Some k → one ≡ other
  one_type one other k a b =
      let t = type_there one k a in
      let u = type_there other k b in
      let same : t.definition ≡ u.definition = same_Some t.definition u.definition (sym t.at ∙ u.at) in
      t.type ∙ ap (λ (d : Definition). d.type) same ∙ sym u.type

  -- ---- steps to bases

  -- where a base can be used, it is the definition at its place
  loaded_place : (canonical : Text) (n : NodeRef) → loaded s canonical ≡ Some n → canonical_place ds canonical ≡ Some n.definition
  loaded_place canonical n = by (canonical_place ds canonical)
    where
      at : (place : ℕ) (b : Bool) (o : Option ℕ) → cond b (option_map (λ (e : ℕ). record { definition = place; element = e }) o) None ≡ Some n
          → place ≡ n.definition
      at place false o is = absurd (none-some n is)
      at place true None is = absurd (none-some n is)
      at place true (Some e) is = ap (λ (k : NodeRef). k.definition) (same_Some (record { definition = place; element = e }) n is)

      by : (o : Option ℕ) → option_and_then (root_in s) o ≡ Some n → o ≡ Some n.definition
      by None is = absurd (none-some n is)
      by (Some place) is = ap Some (at place (is_usable s place) (root_element s place) is)

  -- the definition to which a step leads, and that it is no type by which items may be typed otherwise
  record LeadsTo (k : ℕ) : Type 0 where
    definition : Definition
    at : slice_get ds k ≡ Some definition
    is_type : definition.is_type ≡ true
    otherwise : (is_resource definition && not definition.abstract) ≡ false

  kept : (k : ℕ) (b : Definition) → slice_get ds k ≡ Some b → may_type_otherwise b ≡ false → LeadsTo k
  kept k b at may =
      let parts = or_parts (not b.is_type) (is_resource b && not b.abstract) may in
      record { definition = b; at = at; is_type = typed b.is_type parts.0; otherwise = parts.1 }
    where
      typed : (t : Bool) → not t ≡ false → t ≡ true
      typed true h = refl
      typed false h = absurd (true≢false h)

  module _ (regular : IsTrue (are_regular s)) where
    -- a type rests on no such
    rests : (k : ℕ) (d : Definition) → slice_get ds k ≡ Some d → d.is_type ≡ true → rests_on_such s d ≡ false
    rests k d at typed =
        let none : is_irregular s d ≡ false = none_at (is_irregular s) ds k d at (not-true (list_any (is_irregular s) ds) regular) in
        (or_parts (rests_on_such s d) (list_any (element_types_inline s d) (range_with_len 0 (length d.elements)))
        (sym (ap (λ (b : Bool). b && (rests_on_such s d || list_any (element_types_inline s d) (range_with_len 0 (length d.elements)))) typed) ∙ none)).0

    -- one step
    step : (k : ℕ) (d : Definition) → slice_get ds k ≡ Some d → d.is_type ≡ true → (next : ℕ) → base_place ds d ≡ Some next → LeadsTo next
    step k d at typed next = by d.base (rests k d at typed)
      where
        at_node : (n : NodeRef) → next ≡ n.definition → (o : Option Definition) → slice_get ds n.definition ≡ o
            → option_map_or may_type_otherwise o true ≡ false → LeadsTo next
        at_node n here None there may = absurd (true≢false may)
        at_node n here (Some b) there may = kept next b (ap (slice_get ds) here ∙ there) may

        of_root : (canonical : Text) → canonical_place ds canonical ≡ Some next → (o : Option NodeRef) → loaded s canonical ≡ o
            → option_map_or may_type_otherwise (option_and_then (λ n. slice_get ds n.definition) o) true ≡ false → LeadsTo next
        of_root canonical is None root may = absurd (true≢false may)
        of_root canonical is (Some n) root may =
            at_node n (same_Some next n.definition (sym is ∙ loaded_place canonical n root)) (slice_get ds n.definition) refl may

        by : (o : Option Text)
            → option_map_or may_type_otherwise (option_and_then (λ n. slice_get ds n.definition) (option_and_then (loaded s) o)) (is_some o) ≡ false
            → option_and_then (canonical_place ds) o ≡ Some next → LeadsTo next
        by None may is = absurd (none-some next is)
        by (Some canonical) may is = of_root canonical is (loaded s canonical) refl may

    -- any number of steps, but none
    chain : (n : ℕ) (k : ℕ) (d : Definition) → slice_get ds k ≡ Some d → d.is_type ≡ true → (goal : ℕ) → base_after ds (suc n) (Some k) ≡ Some goal → LeadsTo goal
    chain zero k d at typed goal is = step k d at typed goal (sym (ap (option_and_then (base_place ds)) at) ∙ is)
    chain (suc n) k d at typed goal is =
        by (base_place ds d) refl (sym (ap (λ (o : Option Definition). base_after ds (suc n) (option_and_then (base_place ds) o)) at) ∙ is)
        (λ next base f. let there = step k d at typed next base in chain n next there.definition there.at there.is_type goal f)
      where
        by : (o : Option ℕ) → base_place ds d ≡ o → base_after ds (suc n) o ≡ Some goal
            → ((next : ℕ) → base_place ds d ≡ Some next → base_after ds (suc n) (Some next) ≡ Some goal → LeadsTo goal) → LeadsTo goal
        by None base f more = absurd (none-some goal (sym (after-none ds (suc n)) ∙ f))
        by (Some next) base f more = more next base f

    -- a type that may have items is reached from itself alone
    reached : (code type : Text) → IsTrue (names_resource ds type) → IsTrue (may_have_items s type) → Leads ds code type → code ≡ type
    reached code type resource items leads = by leads.reaches.0 leads.reaches.1
      where
        refuted : (g : Definition) → slice_get ds leads.goal ≡ Some g → (is_resource g && not g.abstract) ≡ false → ⊥
        refuted g at otherwise =
            let is : type_of_code ds type ≡ Some g = ap (option_and_then (slice_get ds)) leads.of_code ∙ at in
            let of_resources : is_resource g ≡ true =
            sym (ap (λ (o : Option Definition). option_map_or is_resource o false) is) ∙ resource in
            let concrete : not g.abstract ≡ true =
            sym (ap (λ (o : Option Definition). not (option_map_or (λ (d : Definition). d.abstract) o false)) is) ∙ items in
            true≢false (sym (and_from (is_resource g) (not g.abstract) of_resources concrete) ∙ otherwise)

        by : (n : ℕ) → base_after ds n (Some leads.start) ≡ Some leads.goal → code ≡ type
        by zero is = one_type code type leads.goal (leads.of_from ∙ is) leads.of_code
        by (suc n) is =
            let t = type_there code leads.start leads.of_from in
            let g = chain n leads.start t.definition t.at t.is_type leads.goal is in
            absurd (refuted g.definition g.at g.otherwise)

    -- so such a type covers itself alone
    pub covers_itself : (type code : Text) → IsTrue (may_have_items s type) → IsTrue (covers s type code) → code ≡ type
    covers_itself type code items h =
        elim ((covers_where ds placed type code).0 h) [
          | inl same ↦ sym same
          | inr by_bases ↦ reached code type by_bases.0 items by_bases.1
        ]
