-- What is known of a node's constraints where those of another node hold.
use Rattle.std.proofs.Common.{◌≡◌, ℕ, zero, suc, ◌+◌, ◌<◌, Bool, true, false, not, List, [], ◌∷◌, map, length, refl, sym, ap, ◌∙◌, ◌&&◌, ◌||◌, IsTrue, Option, Some, None, arith}
use Rattle.std.specs.List.{list_all, range_with_len, slice_get}
use Rattle.std.specs.Option.{option_map_or, option_and_then}
use Rattle.std.proofs.lemmas.Bool.{and_parts}
use Rattle.fhir_json.specs.Tree.{Text}
use Rattle.fhir_elements.specs.Constraint.{Constraint, must_hold}
use Rattle.fhir_elements.specs.Element.{Element}
use Rattle.fhir_nodes.specs.declared.node.NodeRef.{NodeRef}
use Rattle.fhir_schema.specs.Covers.{covers, type_at}
use Rattle.fhir_schema.specs.Expressions.{constraint_at}
use Rattle.fhir_schema.specs.Schemas.{SchemaValue, element_at, is_root_node, target}
use Rattle.fhir_instance.specs.Items.{Item, type_of}
use Rattle.fhir_conformance.specs.Asks.{Ask, constraint_ask, own_constraint_asks, constraint_asks, kids_asks, own_root}
use Rattle.fhir_conformance.specs.Conformance.{Around, constant, conforms, constraint_passes, constraint_holds, resource_at}
use Rattle.fhir_conformance.proofs.ByAsks.{IsOfType, IsOfCanonical}
use Rattle.fhir_walk.specs.Walks.{none, passes, pass_all, facets_hold, settled_pass}
use Rattle.fhir_walk.proofs.Parts.{joined, root_parts, root_told}

counted : (test : Ask → Bool) (ask : ℕ → Ask) (n k i : ℕ) → IsTrue (list_all test (map ask (range_with_len k n))) → i < n → IsTrue (test (ask (k + i)))
counted test ask zero k i each less = absurd (omega arith)
counted test ask (suc n) k zero each less =
    let first : k + 0 ≡ k = omega arith in
    ap (λ (j : ℕ). test (ask j)) first ∙ (and_parts (test (ask k)) (list_all test (map ask (range_with_len (k + 1) n))) each).0
counted test ask (suc n) k (suc i) each less =
    let next : k + suc i ≡ (k + 1) + i = omega arith in
    ap (λ (j : ℕ). test (ask j)) next
    ∙ counted test ask n (k + 1) i (and_parts (test (ask k)) (list_all test (map ask (range_with_len (k + 1) n))) each).1 (omega arith)

within : (cs : List Constraint) (i : ℕ) (c : Constraint) → slice_get cs i ≡ Some c → i < length cs
within [] i c is = cc
within (x ∷ cs) zero c is = omega arith
within (x ∷ cs) (suc i) c is = let less : i < length cs = within cs i c is in omega arith

needed : (must holds : Bool) → must ≡ true → (not must || holds) ≡ true → holds ≡ true
needed true holds is told = told
needed false holds is told = cc

any_way : (a holds : Bool) → holds ≡ true → (a || holds) ≡ true
any_way true holds is = refl
any_way false holds is = is

module _ (s : SchemaValue) (here : Around) (x : Item) where
  abbrev test : Option Text → Bool
  test expression = constraint_holds s none (resource_at s here x) x (record { key = []; severity = None; expression = expression })

  passes_too : (one other : Constraint) → IsTrue (must_hold one) → one.expression ≡ other.expression
      → IsTrue (constraint_passes s none (resource_at s here x) x one) → IsTrue (constraint_passes s none (resource_at s here x) x other)
  passes_too one other must same holds =
      any_way (not (must_hold other)) (test other.expression) (ap test (sym same) ∙ needed (must_hold one) (test one.expression) must holds)

  -- the constraint at a position among a node's own
  of_all : (n : NodeRef) (i : ℕ) (c : Constraint) (o : Option Element) → element_at s n ≡ o → option_and_then (λ e. slice_get e.constraints i) o ≡ Some c
      → IsTrue (pass_all s here x (map (constraint_ask n) (range_with_len 0 (option_map_or (λ e. length e.constraints) o 0)))) → IsTrue (passes s here x (constraint_ask n i))
  of_all n i c None is at each = cc
  of_all n i c (Some e) is at each =
      let same : i ≡ 0 + i = omega arith in
      ap (λ (j : ℕ). passes s here x (constraint_ask n j)) same
      ∙ counted (passes s here x) (constraint_ask n) (length e.constraints) 0 i each (within e.constraints i c at)

  pub told_by : (known n : NodeRef) (i : ℕ) (one other : Constraint) → Some one ≡ constraint_at s known i → Some other ≡ constraint_at s n i → IsTrue (must_hold one)
      → one.expression ≡ other.expression → IsTrue (settled_pass s here x (Some known)) → IsTrue (passes s here x (constraint_ask n i))
  told_by known n i one other at there must same each =
      let tested : Option Constraint → Bool = λ o. option_map_or (constraint_passes s none (resource_at s here x) x) o true in
      ap tested (sym there)
      ∙ passes_too one other must same (ap tested at ∙ of_all known i one (element_at s known) refl (sym at) each)

module _ (s : SchemaValue) (roots : IsOfType s) (others : IsOfCanonical s) (here : Around) (x : Item) where
  -- an item that conforms to a root passes its constraints
  pub settled_by : (o : Option NodeRef) → ((r : NodeRef) → o ≡ Some r → IsTrue (is_root_node s r)) → pass_all s here x (own_root o) ≡ true → settled_pass s here x o ≡ true
  settled_by None are holds = refl
  settled_by (Some r) are holds =
      let C = covers s (type_at s r) (type_of x) in
      let F = option_map_or (facets_hold s x) (element_at s r) true in
      let K = pass_all s here x (constraint_asks s r) in
      let kids = pass_all s here x (kids_asks s x r) in
      let own = own_constraint_asks s r in
      let others_of = option_map_or (own_constraint_asks s) (target s r) [] in
      let all : (C && (F && (K && kids))) ≡ true =
      sym (root_parts s here x r) ∙ sym (root_told s roots others here x r (are r refl)) ∙ (and_parts (conforms s (constant false) here x r) true holds).0 in
      let inner = and_parts C (F && (K && kids)) all in
      let last = and_parts F (K && kids) inner.1 in
      let each = and_parts K kids last.1 in
      (and_parts (pass_all s here x own) (pass_all s here x others_of) (sym (joined s here x own others_of) ∙ each.0)).0
