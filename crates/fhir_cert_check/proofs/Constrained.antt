-- Where each constraint of the base is answered, and those of the derived node hold, so do the base's.
use Rattle.std.proofs.Common.{◌≡◌, ℕ, zero, suc, ◌+◌, zero-add, add-zero, arith, Bool, true, false, List, [], ◌∷◌, map, Option, Some, None, refl, sym, ap, subst, ◌∙◌, ◌&&◌, ◌||◌, IsTrue, not, length, is_none}
use Rattle.std.specs.Prelude.{if◌then◌else◌, ◌++◌, All, cond}
use Rattle.std.specs.List.{list_all, list_any, range_with_len, slice_get}
use Rattle.std.specs.Option.{option_map_or, option_and_then, option_to_list}
use Rattle.std.specs.Str.{bytes_eq}
use Rattle.std.specs.Cmp.Lexicographic.{bytes_decides}
use Rattle.std.proofs.lemmas.Bool.{and_parts, false≢true}
use Rattle.std.proofs.lemmas.List.Folds.{list_all-append}
use Rattle.std.proofs.lemmas.List.Elements.{All-nil, All-cons}
use Rattle.fhir_json.specs.Tree.{Text}
use Rattle.fhir_elements.specs.Constraint.{Constraint, must_hold}
use Rattle.fhir_elements.specs.Element.{Element}
use Rattle.fhir_elements.specs.Tests.{all_hold}
use Rattle.fhir_nodes.specs.declared.node.NodeRef.{NodeRef}
use Rattle.fhir_schema.specs.Schemas.{SchemaValue, element_at, target}
use Rattle.fhir_schema.specs.Expressions.{constraint_at}
use Rattle.fhir_nodes.specs.Expressions.{expression_of}
use Rattle.fhir_fp_syntax.specs.Expression.{Expression}
use Rattle.fhir_fp_eval.specs.Worlds.{World}
use Rattle.fhir_fp_eval.specs.Meaning.{is_true}
use Rattle.fhir_entail.specs.Entailment.{entails}
use Rattle.fhir_instance.specs.Items.{Item}
use Rattle.fhir_facets.specs.Unread.{Meaning, unread_constraint}
use Rattle.fhir_conformance.specs.Asks.{Ask, constraint_ask, own_constraint_asks, constraint_asks}
use Rattle.fhir_conformance.specs.Conformance.{constraint_holds, constraint_passes}
use Rattle.fhir_cert_check.specs.Rule.{constraint}
use Rattle.fhir_cert_check.specs.Rules.{held_expression, held_expressions, says_same, repeats, constraint_answered, constraint_rule, own_constraints, constraints_at, constraint_rules}
use Rattle.fhir_cert_check.proofs.Answered.{any_with_all, all_map, all_given}

-- of each position in turn what the element there gives
counted : {A B : Type 0} (p : A → Bool) (h : B → Bool) (g : ℕ → B) (xs : List A) (start : ℕ)
    → ((k : ℕ) → h (g (start + k)) ≡ option_map_or p (slice_get xs k) true) → list_all h (map g (range_with_len start (length xs))) ≡ list_all p xs
counted p h g [] start e = refl
counted p h g (x ∷ xs) start e =
    let head : h (g start) ≡ p x = ap (λ k. h (g k)) (sym (add-zero start)) ∙ e zero in
    let tail = counted p h g xs (start + 1) (λ k. ap (λ j. h (g j)) (moved start k) ∙ e (suc k)) in
    λ i. head i && tail i
  where
    moved : (start k : ℕ) → start + 1 + k ≡ start + suc k
    moved start k = omega arith

unless : (b h : Bool) → IsTrue b → IsTrue (not b || h) → IsTrue h
unless true h is passes = passes
unless false h is passes = absurd (false≢true is)

-- where all of some expressions are true of an item, so is what they entail
abbrev pub EntailedHold : Type 0
EntailedHold = (w : World) (x : Item) (known : List Expression) (e : Expression)
    → All (λ k. IsTrue (is_true w k x)) known → IsTrue (entails known e) → IsTrue (is_true w e x)

module _ (s : SchemaValue) (m : Meaning) (resource x : Item) (entailed_is : EntailedHold) where
  abbrev holds : Constraint → Bool
  holds c = constraint_holds s m resource x c

  abbrev passes : Constraint → Bool
  passes c = constraint_passes s m resource x c

  abbrev world : World
  world = record { schema = s; resource = resource; context = x }

  -- ---- what is said alone decides

  -- whether a constraint of that expression holds, or else one of that key: of what severity says nothing
  abbrev said : Option Text → Text → Bool
  said expression key = holds (record { key = key; severity = None; expression = expression })

  same_said : (a b : Option Text) (k l : Text) → IsTrue (option_map_or (λ asked. option_map_or (bytes_eq asked) a false) b (is_none a && bytes_eq l k))
      → said a k ≡ said b l
  same_said (Some t) (Some u) k l same = ap (λ v. said (Some v) k) (sym ((bytes_decides u t).0 same))
  same_said None (Some u) k l same = absurd (false≢true same)
  same_said (Some t) None k l same = absurd (false≢true same)
  same_said None None k l same = ap (λ v. said None v) (sym ((bytes_decides l k).0 same))

  -- constraints that say the same hold of the same items
  pub same_truth : (own base : Constraint) → IsTrue (says_same own base) → holds own ≡ holds base
  same_truth own base same = same_said own.expression base.expression own.key base.key same

  repeated_holds : (own : List Constraint) (base : Constraint) → IsTrue (list_any (λ c. repeats c base) own) → IsTrue (list_all passes own)
      → IsTrue (holds base)
  repeated_holds own base some each =
      any_with_all (λ c. repeats c base) passes (IsTrue (holds base))
      (λ c answers passing.
      let parts = and_parts (must_hold c) (says_same c base) answers in
      subst (λ b. IsTrue b) (same_truth c base parts.1) (unless (must_hold c) (holds c) parts.0 passing))
      own some each

  -- ---- what is entailed

  -- each expression that is held is true
  held_true : (c : Constraint) → IsTrue (passes c) → (others : List Expression) → All (λ e. IsTrue (is_true world e x)) others
      → All (λ e. IsTrue (is_true world e x)) (held_expression c ++ others)
  held_true c passing others each = go (must_hold c) (expression_of c) passing
    where
      go : (b : Bool) (o : Option Expression) → IsTrue (not b || option_map_or (λ e. is_true world e x) o (m (unread_constraint c)))
          → All (λ e. IsTrue (is_true world e x)) (cond b (option_to_list o) [] ++ others)
      go false o h = each
      go true None h = each
      go true (Some e) h = All-cons (λ e. IsTrue (is_true world e x)) e others h each

  all_true : (own : List Constraint) → IsTrue (list_all passes own) → All (λ e. IsTrue (is_true world e x)) (held_expressions own)
  all_true [] each = All-nil (λ e. IsTrue (is_true world e x))
  all_true (c ∷ own) each =
      let parts = and_parts (passes c) (list_all passes own) each in
      held_true c parts.0 (held_expressions own) (all_true own parts.1)

  -- ---- one constraint of the base

  answered_holds : (own : List Constraint) (base : Constraint) → IsTrue (constraint_answered own base) → IsTrue (list_all passes own)
      → IsTrue (holds base)
  answered_holds own base answer each = go (expression_of base) refl answer
    where
      go : (o : Option Expression) → expression_of base ≡ o
          → IsTrue (option_map_or (entails (held_expressions own)) o (list_any (λ c. repeats c base) own))
          → IsTrue (holds base)
      go None is some = repeated_holds own base some each
      go (Some e) is entailed =
          (λ i. option_map_or (λ e. is_true world e x) (is i) (m (unread_constraint base)))
          ∙ entailed_is world x (held_expressions own) e (all_true own each) entailed

  answered_passes : (own : List Constraint) (base : Constraint) → IsTrue (all_hold (constraint_rule own base)) → IsTrue (list_all passes own) → IsTrue (passes base)
  answered_passes own base rule each = go (must_hold base) rule
    where
      go : (b : Bool) → IsTrue (all_hold (if b then (constraint_answered own base, constraint base.key) ∷ [] else []))
          → IsTrue (not b || holds base)
      go false rule = refl
      go true rule = answered_holds own base (and_parts (constraint_answered own base) true rule).0 each

  -- ---- all constraints of a node

  -- the asks of constraints are those of the element's constraints
  asked : {B : Type 0} (o : Option Element) (h : B → Bool) (g : ℕ → B)
      → ((k : ℕ) → h (g k) ≡ option_map_or passes (option_and_then (λ e. slice_get e.constraints k) o) true)
      → list_all h (map g (range_with_len 0 (option_map_or (λ e. length e.constraints) o 0)))
      ≡ list_all passes (option_map_or (λ e. e.constraints) o [])
  asked None h g e = refl
  asked (Some element) h g e = counted passes h g element.constraints 0 (λ k. ap (λ j. h (g j)) (zero-add k) ∙ e k)

  module _ (test : Ask → Bool) (tests : (n : NodeRef) (k : ℕ) → test (constraint_ask n k) ≡ option_map_or passes (constraint_at s n k) true) where
    own_asked : (n : NodeRef) → list_all test (own_constraint_asks s n) ≡ list_all passes (own_constraints s n)
    own_asked n = asked (element_at s n) test (constraint_ask n) (tests n)

    -- a node's own, and those of the node that it refers to
    asked_of : (n : NodeRef) → list_all test (constraint_asks s n) ≡ list_all passes (constraints_at s n)
    asked_of n =
        list_all-append test (own_constraint_asks s n) (option_map_or (own_constraint_asks s) (target s n) [])
        ∙ (λ i. own_asked n i && taken_over (target s n) i)
        ∙ sym (list_all-append passes (own_constraints s n) (option_map_or (own_constraints s) (target s n) []))
      where
        taken_over : (o : Option NodeRef) → list_all test (option_map_or (own_constraint_asks s) o []) ≡ list_all passes (option_map_or (own_constraints s) o [])
        taken_over None = refl
        taken_over (Some t) = own_asked t

    pub constraints_step : (n k : NodeRef) → IsTrue (all_hold (constraint_rules s n k)) → IsTrue (list_all test (constraint_asks s n))
        → IsTrue (list_all test (constraint_asks s k))
    constraints_step n k rules each =
        let own : IsTrue (list_all passes (constraints_at s n)) = sym (asked_of n) ∙ each in
        asked_of k
        ∙ all_map (λ c. all_hold (constraint_rule (constraints_at s n) c)) passes (λ c rule. answered_passes (constraints_at s n) c rule own) (constraints_at s k)
        (all_given (λ rule. rule.0) (constraint_rule (constraints_at s n)) (constraints_at s k) rules)
