-- A fixed value that another rule of its element refuses is no item's value.
use Rattle.std.proofs.Common.{◌≡◌, Bool, true, false, not, ◌&&◌, List, [], ◌∷◌, ◌++◌, Option, Some, None, inl, inr, refl, sym, ap, subst, ◌∙◌, IsTrue, arith}
use Rattle.std.specs.Prelude.{if◌then◌else◌}
use Rattle.std.specs.List.{Contains, list_all, list_any}
use Rattle.std.specs.Option.{option_map_or, option_and_then}
use Rattle.std.proofs.lemmas.Bool.{and_parts, or_cases, not-true, false≢true}
use Rattle.fhir_json.specs.Tree.{Text, Tree, Property}
use Rattle.fhir_json.specs.Fields.{as_text}
use Rattle.fhir_json.specs.Sound.{IsSound}
use Rattle.fhir_matching.specs.Equality.{equal}
use Rattle.fhir_matching.specs.Fitting.{fits}
use Rattle.fhir_elements.specs.TypeEntry.{TypeEntry}
use Rattle.fhir_elements.specs.Element.{Element, required_value_set}
use Rattle.fhir_nodes.specs.declared.node.NodeRef.{NodeRef}
use Rattle.fhir_nodes.specs.Types.{names_resource}
use Rattle.fhir_schema.specs.Schemas.{SchemaValue, element_at, is_root_node, types}
use Rattle.fhir_schema.specs.Covers.{covers, type_at}
use Rattle.fhir_instance.specs.Items.{Item, type_of, json_of, has_kids}
use Rattle.fhir_facets.specs.Seen.{Seen}
use Rattle.fhir_facets.specs.Unread.{Unread, Meaning}
use Rattle.fhir_facets.specs.Values.{is_alone, fixed_holds, is_short}
use Rattle.fhir_facets.specs.Ranges.{range_holds}
use Rattle.fhir_facets.specs.Bindings.{Binding, binding_to, binding_holds}
use Rattle.fhir_conformance.specs.Conformance.{Interpretation, Around, meaning_at, seen, is_untyped, range_of, fixed_at, pattern_at, range_at, length_at, binding_at}
use Rattle.fhir_contradictions.specs.declared.contradiction.Contradiction.{Contradiction}
use Rattle.fhir_contradictions.specs.declared.contradiction.Contradiction.TheVariants as found
use Rattle.fhir_contradictions.specs.Contradictions.{IsSoundValue, seen_as, lenient, misses_pattern, misses_length, fails_as, fails_as_each, misses_range, misses_binding, fixed_misses, if_so, fixed_contradictions}
use Rattle.fhir_contradictions.proofs.EqualValues.{same_text}
use Rattle.fhir_contradictions.proofs.SeenAlike.{seen_with, range_alike, binding_alike}
use Rattle.fhir_contradictions.proofs.Asked.{IsCovered, Meets, ValueRulesHold, value_rules}

-- ---- laws of other libraries

-- a code that isn't one of resources covers itself alone
abbrev pub CoversItself : SchemaValue → Type 0
CoversItself s = (a b : Text) → names_resource s.definitions a ≡ false → IsTrue (covers s a b) → a ≡ b

-- equal values fit the same patterns
abbrev pub EqualValuesFit : Type 0
EqualValuesFit = (t u pattern : Tree) → IsSound u → IsTrue (equal t u) → fits t pattern ≡ fits u pattern

-- what a rule of this kind holds of, it holds of where more of the unread rules hold
abbrev pub IsPositive : {A : Type 0} → (Meaning → A → Seen → Bool) → Type 0
IsPositive {A} rule =
    (m larger : Meaning) (r : A) (x : Seen) → ((u : Unread) → IsTrue (m u) → IsTrue (larger u)) → IsTrue (rule m r x) → IsTrue (rule larger r x)

-- ---- what is there

-- a test of what may be missing holds of what is there
of_some : {A : Type 0} (p : A → Bool) (o : Option A) (x : A) → IsTrue (option_map_or p o true) → o ≡ Some x → IsTrue (p x)
of_some p o x h is = subst (λ o. IsTrue (option_map_or p o true)) is h

-- what passes a test that nothing passes where it is missing is there
pub record IsThere {A : Type 0} (p : A → Bool) (o : Option A) : Type 0 where
  pub value : A
  pub is : o ≡ Some value
  pub passes : IsTrue (p value)

there : {A : Type 0} (p : A → Bool) (o : Option A) → IsTrue (option_map_or p o false) → IsThere p o
there p None h = absurd (false≢true h)
there p (Some x) h = record { value = x; is = refl; passes = h }

-- what fails doesn't hold
refuted : (b : Bool) → IsTrue (not b) → IsTrue b → ⊥
refuted true fails h = false≢true fails
refuted false fails h = false≢true h

-- ---- the value of an item that a fixed value holds of

pub record HasValue (x : Item) (value : Tree) : Type 0 where
  pub json : Tree
  pub is : json_of x ≡ Some json
  pub same : IsTrue (equal value json)

-- where a fixed value holds of an item, that has a value which is equal
has_value : (x : Item) (value : Tree) → IsTrue (fixed_holds value (seen x)) → HasValue x value
has_value x value h =
    let its = there (λ json. equal value json && is_alone (seen x) json) (json_of x) h in
    record { json = its.value; is = its.is; same = (and_parts (equal value its.value) (is_alone (seen x) its.value) its.passes).0 }

-- what facets see of it
seen_is : (x : Item) (json : Tree) → json_of x ≡ Some json → seen x ≡ seen_with (type_of x) (has_kids x) json
seen_is x json is = ap (λ (o : Option Tree). let s : Seen = record { type = type_of x; json = o; has_kids = has_kids x } in s) is

-- ---- a test that it fails as an item of each type

-- what a node asks of an item's type: that one of those that it names covers it, or that the root's does
abbrev IsAskedType : SchemaValue → Item → NodeRef → Type 0
IsAskedType s x n = IsCovered s x n × (is_root_node s n ≡ true → IsTrue (covers s (type_at s n) (type_of x)))

module _ (s : SchemaValue) (alone : CoversItself s) (test : Seen → Bool) (value : Tree) (x : Item)
    (holds : IsTrue (test (seen_as value (type_of x)))) where
  -- not as one of a type that covers the item's
  fails_not : (code : Text) → IsTrue (fails_as s test value code) → IsTrue (covers s code (type_of x)) → ⊥
  fails_not code fails covered =
      let both = and_parts (not (names_resource s.definitions code)) (not (test (seen_as value code))) fails in
      let same : code ≡ type_of x = alone code (type_of x) (not-true (names_resource s.definitions code) both.0) covered in
      refuted (test (seen_as value code)) both.1 (subst (λ t. IsTrue (test (seen_as value t))) (sym same) holds)

  -- not as one of each type in a list, where one of them covers the item's
  none_fails : (es : List TypeEntry) → IsTrue (list_all (λ e. fails_as s test value e.code) es) → IsTrue (list_any (λ e. covers s e.code (type_of x)) es) → ⊥
  none_fails [] all some = false≢true some
  none_fails (e ∷ es) all some =
      let both = and_parts (fails_as s test value e.code) (list_all (λ e. fails_as s test value e.code) es) all in
      elim (or_cases (covers s e.code (type_of x)) (list_any (λ e. covers s e.code (type_of x)) es) some) [
        | inl here ↦ fails_not e.code both.0 here
        | inr later ↦ none_fails es both.1 later
      ]

  -- not as one of each of the node's types, nor as one of a root's
  fails_not_each : (n : NodeRef) → IsAskedType s x n → IsTrue (fails_as_each s n test value) → ⊥
  fails_not_each n of_type = by_root (is_root_node s n) refl
    where
      by_root : (b : Bool) → is_root_node s n ≡ b
          → IsTrue (if b then fails_as s test value (type_at s n) else not (is_untyped s n) && list_all (λ e. fails_as s test value e.code) (types s n)) → ⊥
      by_root true root fails = fails_not (type_at s n) fails (of_type.1 root)
      by_root false inner fails =
          let both = and_parts (not (is_untyped s n)) (list_all (λ e. fails_as s test value e.code) (types s n)) fails in
          elim (or_cases (is_untyped s n) (list_any (λ e. covers s e.code (type_of x)) (types s n)) of_type.0) [
            | inl untyped ↦ refuted (is_untyped s n) both.0 untyped
            | inr some ↦ none_fails (types s n) both.1 some
          ]

-- ---- the four contradictions

module _ (s : SchemaValue) (m : Meaning) (x : Item) (n : NodeRef) (e : Element) (value : Tree) (its : HasValue x value) where
  -- the fixed value fits the pattern, since the item's does
  pattern_refuses : EqualValuesFit → IsSound its.json → IsTrue (pattern_at x e) → IsTrue (misses_pattern e value) → ⊥
  pattern_refuses equal_values sounds holds misses =
      let p = there (λ p. not (fits value p.1)) e.pattern misses in
      refuted (fits value p.value.1) p.passes
      (equal_values value its.json p.value.1 sounds its.same
      ∙ subst (λ o. IsTrue (option_map_or (λ json. fits json p.value.1) o false)) its.is
      (of_some (λ p. option_map_or (λ json. fits json p.1) (json_of x) false) e.pattern p.value holds p.is))

  -- it is short enough, since the item's is the same text
  length_refuses : IsTrue (length_at x e) → IsTrue (misses_length e value) → ⊥
  length_refuses holds misses =
      let most = there (λ most. option_map_or (λ text. not (is_short most text)) (as_text value) false) e.max_length misses in
      let text = there (λ text. not (is_short most.value text)) (as_text value) most.passes in
      refuted (is_short most.value text.value) text.passes
      (of_some (is_short most.value) (option_and_then as_text (json_of x)) text.value
      (of_some (λ most. option_map_or (is_short most) (option_and_then as_text (json_of x)) true) e.max_length most.value holds most.is)
      (ap (λ (o : Option Tree). option_and_then as_text o) its.is ∙ sym (same_text value its.json its.same) ∙ text.is))

  module _ (alone : CoversItself s) (of_type : IsAskedType s x n) where
    -- it is within the bounds, as an item of the item's type
    range_refuses : IsPositive range_holds → IsTrue (range_at m x e) → IsTrue (misses_range s n e value) → ⊥
    range_refuses positive holds misses =
        fails_not_each s alone (range_holds lenient (range_of e)) value x
        (range_alike value its.json its.same (type_of x) false (has_kids x) lenient (range_of e)
        ∙ subst (λ v. IsTrue (range_holds lenient (range_of e) v)) (seen_is x its.json its.is)
        (positive m lenient (range_of e) (seen x) (λ u h. refl) holds))
        n of_type misses

    -- it is in the value set, as an item of the item's type
    binding_refuses : IsPositive binding_holds → IsSound its.json → IsTrue (binding_at s m x e) → IsTrue (misses_binding s n e value) → ⊥
    binding_refuses positive sounds holds misses =
        let set = there (λ canonical. fails_as_each s n (binding_holds lenient (binding_to s canonical)) value) (required_value_set e) misses in
        let b : Binding = binding_to s set.value in
        fails_not_each s alone (binding_holds lenient b) value x
        (binding_alike value its.json its.same sounds (type_of x) false (has_kids x) lenient b
        ∙ subst (λ v. IsTrue (binding_holds lenient b v)) (seen_is x its.json its.is)
        (positive m lenient b (seen x) (λ u h. refl)
        (of_some (λ canonical. binding_holds m (binding_to s canonical) (seen x)) (required_value_set e) set.value holds set.is)))
        n of_type set.passes

-- ---- all of them

-- an element with a fixed value that fails a test
pub record FixedFails (test : Element → Tree → Bool) (s : SchemaValue) (n : NodeRef) : Type 0 where
  pub element : Element
  pub at : element_at s n ≡ Some element
  pub fixed : Property
  pub is : element.fixed ≡ Some fixed
  pub fails : IsTrue (test element fixed.1)

-- there is one, where a fixed value misses
fixed_fails : (test : Element → Tree → Bool) (s : SchemaValue) (n : NodeRef) → IsTrue (fixed_misses test s n) → FixedFails test s n
fixed_fails test s n h =
    let e = there (λ e. option_map_or (λ p. test e p.1) e.fixed false) (element_at s n) h in
    let p = there (λ p. test e.value p.1) e.value.fixed e.passes in
    record { element = e.value; at = e.is; fixed = p.value; is = p.is; fails = p.passes }

-- no fixed value of a node misses, whose items' values never fail the test
not_missed : (test : Element → Tree → Bool) (s : SchemaValue) (m : Meaning) (x : Item) (n : NodeRef) → ValueRulesHold s m x n
    → ((e : Element) → element_at s n ≡ Some e → (value : Tree) → HasValue x value → IsTrue (test e value) → ⊥)
    → IsTrue (fixed_misses test s n) → ⊥
not_missed test s m x n rules refuses misses =
    let f = fixed_fails test s n misses in
    refuses f.element f.at f.fixed.1
    (has_value x f.fixed.1
    (of_some (λ p. fixed_holds p.1 (seen x)) f.element.fixed f.fixed (of_some (fixed_at x) (element_at s n) f.element rules.fixed f.at) f.is))
    f.fails

-- nothing is found, where each of the four tests fails
none_found : (a b c d : Bool) → (IsTrue a → ⊥) → (IsTrue b → ⊥) → (IsTrue c → ⊥) → (IsTrue d → ⊥) → (f : Contradiction)
    → Contains (if_so a found.FixedPattern ++ (if_so b found.FixedLength ++ (if_so c found.FixedRange ++ if_so d found.FixedBinding))) f → ⊥
none_found true b c d no_a no_b no_c no_d f has = no_a refl
none_found false true c d no_a no_b no_c no_d f has = no_b refl
none_found false false true d no_a no_b no_c no_d f has = no_c refl
none_found false false false true no_a no_b no_c no_d f has = no_d refl
none_found false false false false no_a no_b no_c no_d f (k, lt, at) = absurd (omega arith)

module _ (alone : (s : SchemaValue) → CoversItself s) (equal_values : EqualValuesFit) (range_positive : IsPositive range_holds)
    (binding_positive : IsPositive binding_holds) where
  -- what holds of an item's facets refuses no fixed value of the node
  pub none_refused : (s : SchemaValue) (meaning : Interpretation) (around : Around) (x : Item) (n : NodeRef) (c : Contradiction) → IsSoundValue x
      → Meets s meaning around x n → Contains (fixed_contradictions s n) c → ⊥
  none_refused s meaning around x n c sounds met =
      let m = meaning_at meaning around in
      let rules = value_rules s meaning around x n met in
      let of_type : IsAskedType s x n = (met.type, met.root) in
      none_found (fixed_misses misses_pattern s n) (fixed_misses misses_length s n) (fixed_misses (misses_range s n) s n)
      (fixed_misses (misses_binding s n) s n)
      (not_missed misses_pattern s m x n rules (λ e at value its.
      pattern_refuses s m x n e value its equal_values (sounds its.json its.is) (of_some (pattern_at x) (element_at s n) e rules.pattern at)))
      (not_missed misses_length s m x n rules (λ e at value its.
      length_refuses s m x n e value its (of_some (length_at x) (element_at s n) e rules.length_limit at)))
      (not_missed (misses_range s n) s m x n rules (λ e at value its.
      range_refuses s m x n e value its (alone s) of_type range_positive (of_some (range_at m x) (element_at s n) e rules.range at)))
      (not_missed (misses_binding s n) s m x n rules (λ e at value its.
      binding_refuses s m x n e value its (alone s) of_type binding_positive (sounds its.json its.is)
      (of_some (binding_at s m x) (element_at s n) e rules.binding at)))
      c
