-- Constraints that repeat those of the base answer them, and what is kept of constraints answers as they do.
use Rattle.std.proofs.Common.{◌≡◌, ℕ, Bool, true, false, List, [], ◌∷◌, ◌++◌, Option, Some, None, refl, sym, ap, ◌∙◌, inl, inr, ◌&&◌, ◌||◌, IsTrue, not, cond, append-nil, append_assoc, subst, option_map, take, length, get_or, ◌+◌, ◌<◌, ◌≤◌}
use Rattle.std.specs.Prelude.{is_none, is_some, if◌then◌else◌, Result, Ok, Err, IfOk, OnOk}
use Rattle.std.specs.Borrow.{Bor}
use Rattle.fhir_json.specs.declared.memory.NoMemory.{NoMemory}
use Rattle.std.specs.List.{list_any, flat_map, slice_get}
use Rattle.std.specs.Option.{option_map_or, option_and_then, option_to_list}
use Rattle.std.specs.Str.{bytes_eq}
use Rattle.std.specs.Cmp.Lexicographic.{bytes_decides}
use Rattle.std.proofs.lemmas.Bool.{and_parts, or_cases, or_left, or_right, false≢true}
use Rattle.std.proofs.lemmas.Grind.{flat_map-append}
use Rattle.std.proofs.lemmas.List.{take_all, take_more}
use Rattle.std.proofs.lemmas.List.Folds.{list_any-append}
use Rattle.fhir_json.specs.Tree.{Text}
use Rattle.fhir_elements.specs.Constraint.{Constraint, must_hold}
use Rattle.fhir_elements.specs.Tests.{first_of}
use Rattle.fhir_names.specs.Places.{place_of}
use Rattle.fhir_nodes.specs.Expressions.{expression_of}
use Rattle.fhir_fp_syntax.specs.Expression.{Expression, binary}
use Rattle.fhir_fp_syntax.specs.Expression.{expression_of as tree_of}
use Rattle.fhir_fp_syntax.specs.declared.expr.Expr.{Expr}
use Rattle.fhir_fp_syntax.specs.Reading.{expression_in}
use Rattle.fhir_fp_syntax.specs.declared.expr.Operator.TheVariants.{And}
use Rattle.fhir_entail.specs.Same.{same_expression}
use Rattle.fhir_entail.specs.Entailment.{is_part, is_listed, entails}
use Rattle.fhir_entail.specs.Known.{Knows}
use Rattle.fhir_cert_check.specs.declared.held.Held.{Held}
use Rattle.fhir_cert_check.specs.Rule.{constraint}
use Rattle.fhir_cert_check.specs.Rules.{held_expression, held_expressions, says_same, repeats, constraint_answered, constraint_rule}
use Rattle.fhir_cert_check.specs.Held.{has_text, has_key, is_text_of, is_key_of, Holds, answered_by, rule_by}
use Rattle.fhir_cert_check.proofs.Answered.{any_placed}
use Rattle.fhir_cert_check.proofs.First.{first_behind}

-- what says the same has the same expression
pub says_expression : (own base : Constraint) → IsTrue (says_same own base) → expression_of own ≡ expression_of base
says_expression own base same = go own.expression base.expression same
  where
    go : (o p : Option Text) → IsTrue (option_map_or (λ asked. option_map_or (bytes_eq asked) o false) p (is_none o && bytes_eq base.key own.key))
        → option_and_then expression_in o ≡ option_and_then expression_in p
    go (Some t) (Some u) h = ap (λ (v : Text). expression_in v) (sym ((bytes_decides u t).0 h))
    go None (Some u) h = absurd (false≢true h)
    go (Some t) None h = absurd (false≢true h)
    go None None h = refl

or_false : (b : Bool) → b ≡ (b || false)
or_false true = refl
or_false false = refl

-- one that needn't hold changes nothing
pub unheld_more : (h : Held) (own : List Constraint) (c : Constraint) → must_hold c ≡ false → Holds h own → Holds h (own ++ c ∷ [])
unheld_more h own c free holds = record {
  known =
      subst (Knows h.known)
      (sym (append-nil (held_expressions own))
      ∙ (λ i. held_expressions own ++ (cond (sym free i) (option_to_list (expression_of c)) [] ++ []))
      ∙ sym (flat_map-append held_expression own (c ∷ [])))
      holds.known;
  texts = λ t.
      holds.texts t ∙ or_false (list_any (is_text_of t) own)
      ∙ (λ i. list_any (is_text_of t) own || ((sym free i && option_map_or (bytes_eq t) c.expression false) || false))
      ∙ sym (list_any-append (is_text_of t) own (c ∷ []));
  keys = λ k.
      holds.keys k ∙ or_false (list_any (is_key_of k) own)
      ∙ (λ i. list_any (is_key_of k) own || ((sym free i && (is_none c.expression && bytes_eq k c.key)) || false))
      ∙ sym (list_any-append (is_key_of k) own (c ∷ []));
}

-- and one that must hold is one more
one_expression : (o : Option (Bor Expr)) → option_map_or (λ e. tree_of e.now ∷ []) o [] ≡ option_to_list (option_map (λ e. tree_of e.now) o)
one_expression None = refl
one_expression (Some e) = refl

more_expressions : (own : List Constraint) (c : Constraint) (o : Option (Bor Expr)) → must_hold c ≡ true → option_map (λ e. tree_of e.now) o ≡ expression_of c
    → held_expressions own ++ option_map_or (λ e. tree_of e.now ∷ []) o [] ≡ held_expressions (own ++ c ∷ [])
more_expressions own c o held read =
    ap (λ es. held_expressions own ++ es) (one_expression o ∙ ap option_to_list read ∙ sym (append-nil (option_to_list (expression_of c))))
    ∙ (λ i. held_expressions own ++ (cond (sym held i) (option_to_list (expression_of c)) [] ++ []))
    ∙ sym (flat_map-append held_expression own (c ∷ []))

pub held_more : {T E : Type 0} (r : Result T E) (old mid new : Held) (c : Constraint) (o : Option (Bor Expr)) → must_hold c ≡ true
    → option_map (λ e. tree_of e.now) o ≡ expression_of c → mid.known ≡ old.known
    → ((own : List Constraint) (text : Text) → has_text old text ≡ list_any (is_text_of text) own → has_text mid text ≡ list_any (is_text_of text) (own ++ c ∷ []))
    → ((own : List Constraint) (key : Text) → has_key old key ≡ list_any (is_key_of key) own → has_key mid key ≡ list_any (is_key_of key) (own ++ c ∷ []))
    → OnOk r (new.texts ≡ mid.texts) → OnOk r (new.keys ≡ mid.keys)
    → OnOk r ((known : List Expression) → Knows mid.known known → Knows new.known (known ++ option_map_or (λ e. tree_of e.now ∷ []) o []))
    → OnOk r ((own : List Constraint) → Holds old own → Holds new (own ++ c ∷ []))
held_more (Ok u) old mid new c o held read known texts keys same_texts same_keys more = λ own holds. record {
  known =
      subst (Knows new.known) (more_expressions own c o held read)
      (more (held_expressions own) (subst (λ k. Knows k (held_expressions own)) (sym known) holds.known));
  texts = λ t. ap (λ x. is_some (place_of x t)) same_texts ∙ texts own t (holds.texts t);
  keys = λ k. ap (λ x. is_some (place_of x k)) same_keys ∙ keys own k (holds.keys k);
}
held_more (Err f) old mid new c o held read known texts keys same_texts same_keys more = tt

-- a loop's step: one more of those of a node, and its end: all of them
pub held_next : (h : Held) (own cs ds : List Constraint) (i : ℕ) (c : Constraint) → ds ≡ cs → i < length ds → c ≡ get_or ds i c
    → Holds h (own ++ take i cs ++ c ∷ []) → Holds h (own ++ take (i + 1) cs)
held_next h own cs ds i c same within is holds =
    subst (Holds h)
    (append_assoc own (take i cs) (c ∷ [])
    ∙ ap (λ es. own ++ es)
    (subst (λ es. take i es ++ c ∷ [] ≡ take (i + 1) es) same (ap (λ d. take i ds ++ d ∷ []) is ∙ sym (take_more ds i c within))))
    holds

pub held_all : (h : Held) (own cs ds : List Constraint) (i : ℕ) → ds ≡ cs → length ds ≤ i → Holds h (own ++ take i cs) → Holds h (own ++ cs)
held_all h own cs ds i same past holds = subst (λ es. Holds h (own ++ es)) (take_all i cs (subst (λ es. length es ≤ i) same past)) holds

-- where no text answers, what is entailed does
pub entailed_by_own : (h : Held) (own : List Constraint) (base : Constraint) (text : Text) (o : Option (Bor Expr)) (result : Bool)
    → base.expression ≡ Some text → has_text h text ≡ false → option_map (λ e. tree_of e.now) o ≡ expression_of base
    → result ≡ option_map_or (λ e. entails (held_expressions own) (tree_of e.now)) o false → result ≡ answered_by h own base
entailed_by_own h own base text o result is none read by =
    by ∙ seen o ∙ ap (λ q. option_map_or (entails (held_expressions own)) q false) read
    ∙ (λ i. sym none i || option_map_or (entails (held_expressions own)) (expression_of base) false)
    ∙ (λ i. option_map_or (λ t. has_text h t || option_map_or (entails (held_expressions own)) (expression_of base) false) (sym is i) (has_key h base.key))
  where
    seen : (o : Option (Bor Expr)) → option_map_or (λ e. entails (held_expressions own) (tree_of e.now)) o false
        ≡ option_map_or (entails (held_expressions own)) (option_map (λ e. tree_of e.now) o) false
    seen None = refl
    seen (Some e) = refl

-- where what is put behind some is held, so are all
pub all_held : (r : Result Held NoMemory) (h : Held) (first over all : List Constraint)
    → IfOk r (λ more. (own : List Constraint) → Holds h own → Holds more (own ++ over)) → Holds h first → first ++ over ≡ all → IfOk r (λ more. Holds more all)
all_held (Ok more) h first over all behind holds e = subst (Holds more) e (behind first holds)
all_held (Err f) h first over all behind holds e = tt

-- where those of both parts of the base are repeated, none fails
pub both_repeated : (own over bases others : List Constraint)
    → ((before after : List Constraint) → first_of (flat_map (constraint_rule (before ++ own ++ after)) bases) ≡ None)
    → ((before after : List Constraint) → first_of (flat_map (constraint_rule (before ++ over ++ after)) others) ≡ None)
    → first_of (flat_map (constraint_rule (own ++ over)) (bases ++ others)) ≡ None
both_repeated own over bases others first behind =
    ap first_of (flat_map-append (constraint_rule (own ++ over)) bases others)
    ∙ first_behind (flat_map (constraint_rule (own ++ over)) bases) (flat_map (constraint_rule (own ++ over)) others) (first [] over)
    ∙ (λ i. first_of (flat_map (constraint_rule (sym (append-nil (own ++ over)) i)) others)) ∙ behind own []

module _ (itself : (e : Expression) → IsTrue (same_expression e e)) (listed : (known : List Expression) (e : Expression) → IsTrue (is_listed known e) → IsTrue (entails known e)) where
  part_itself : (e : Expression) → IsTrue (is_part e e)
  part_itself (binary And a b) = or_left (same_expression (binary And a b) (binary And a b)) _ (itself (binary And a b))
  part_itself e = itself e

  held_here : (c : Constraint) (e : Expression) → must_hold c ≡ true → expression_of c ≡ Some e → IsTrue (list_any (is_part e) (held_expression c))
  held_here c e held is =
      (λ i. list_any (is_part e) (cond (held i) (option_to_list (is i)) [])) ∙ or_left (is_part e e) false (part_itself e)

  held_listed : (own : List Constraint) (base : Constraint) (e : Expression) → expression_of base ≡ Some e → IsTrue (list_any (λ c. repeats c base) own)
      → IsTrue (is_listed (held_expressions own) e)
  held_listed [] base e is h = absurd (false≢true h)
  held_listed (c ∷ own) base e is h =
      list_any-append (is_part e) (held_expression c) (held_expressions own)
      ∙ elim (or_cases (repeats c base) (list_any (λ c. repeats c base) own) h) [
        | inl here ↦
            let parts = and_parts (must_hold c) (says_same c base) here in
            or_left (list_any (is_part e) (held_expression c)) _ (held_here c e parts.0 (says_expression c base parts.1 ∙ is))
        | inr there ↦ or_right (list_any (is_part e) (held_expression c)) _ (held_listed own base e is there)
      ]

  -- a constraint that stands among those of the derived node is answered
  pub repeated_answered : (own : List Constraint) (base : Constraint) → IsTrue (list_any (λ c. repeats c base) own) → IsTrue (constraint_answered own base)
  repeated_answered own base h = go (expression_of base) refl
    where
      go : (o : Option Expression) → expression_of base ≡ o → IsTrue (option_map_or (entails (held_expressions own)) o (list_any (λ c. repeats c base) own))
      go None is = h
      go (Some e) is = listed (held_expressions own) e (held_listed own base e is h)

  pub repeated_rule : (own : List Constraint) (base : Constraint) → IsTrue (not (must_hold base) || list_any (λ c. repeats c base) own)
      → first_of (constraint_rule own base) ≡ None
  repeated_rule own base h = go (must_hold base) h
    where
      go : (b : Bool) → IsTrue (not b || list_any (λ c. repeats c base) own)
          → first_of (if b then (constraint_answered own base, constraint base.key) ∷ [] else []) ≡ None
      go false h = refl
      go true h = ap (λ b. cond b None (Some (constraint base.key))) (repeated_answered own base h)

  -- ---- what is kept

  same_any : (own : List Constraint) (p q : Constraint → Bool) → ((c : Constraint) → p c ≡ q c) → list_any p own ≡ list_any q own
  same_any own p q same = ap (λ f. list_any f own) (λ i c. same c i)

  -- where an equal text answers, so does what is entailed
  either : (b : Bool) (o : Option Bool) → (IsTrue b → IsTrue (option_map_or (λ e. e) o b)) → (b || option_map_or (λ e. e) o false) ≡ option_map_or (λ e. e) o b
  either true None h = refl
  either true (Some e) h = sym (h refl)
  either false None h = refl
  either false (Some e) h = refl

  pub answered_as : (h : Held) (own : List Constraint) → Holds h own → (base : Constraint) → answered_by h own base ≡ constraint_answered own base
  answered_as h own holds base = go base.expression refl
    where
      text_any : (text : Text) → base.expression ≡ Some text → has_text h text ≡ list_any (λ c. repeats c base) own
      text_any text is =
          holds.texts text ∙ same_any own _ (λ c. repeats c base)
          (λ c i. must_hold c && option_map_or (λ asked. option_map_or (bytes_eq asked) c.expression false) (sym is i) (is_none c.expression && bytes_eq base.key c.key))

      key_any : base.expression ≡ None → has_key h base.key ≡ list_any (λ c. repeats c base) own
      key_any is =
          holds.keys base.key ∙ same_any own _ (λ c. repeats c base)
          (λ c i. must_hold c && option_map_or (λ asked. option_map_or (bytes_eq asked) c.expression false) (sym is i) (is_none c.expression && bytes_eq base.key c.key))

      entailed : (o : Option Expression) → (IsTrue (list_any (λ c. repeats c base) own) → IsTrue (option_map_or (entails (held_expressions own)) o (list_any (λ c. repeats c base) own)))
          → (list_any (λ c. repeats c base) own || option_map_or (entails (held_expressions own)) o false)
          ≡ option_map_or (entails (held_expressions own)) o (list_any (λ c. repeats c base) own)
      entailed None f = either (list_any (λ c. repeats c base) own) None (λ h. h)
      entailed (Some e) f = either (list_any (λ c. repeats c base) own) (Some (entails (held_expressions own) e)) f

      go : (o : Option Text) → base.expression ≡ o
          → option_map_or (λ text. has_text h text || option_map_or (entails (held_expressions own)) (expression_of base) false) o (has_key h base.key)
          ≡ constraint_answered own base
      go (Some text) is =
          (λ i. text_any text is i || option_map_or (entails (held_expressions own)) (expression_of base) false)
          ∙ entailed (expression_of base) (repeated_answered own base)
      go None is =
          key_any is
          ∙ ap (λ o. option_map_or (entails (held_expressions own)) (option_and_then expression_in o) (list_any (λ c. repeats c base) own)) (sym is)

  pub rule_as : (h : Held) (own : List Constraint) → Holds h own → rule_by h own ≡ constraint_rule own
  rule_as h own holds = λ i base. if must_hold base then (answered_as h own holds base i, constraint base.key) ∷ [] else []

  -- ---- those that stand at their own position

  -- what stands in a part stands in the whole
  any_inside : (p : Constraint → Bool) (before own after : List Constraint) → IsTrue (list_any p own) → IsTrue (list_any p (before ++ own ++ after))
  any_inside p before own after h =
      list_any-append p (before ++ own) after
      ∙ or_left (list_any p (before ++ own)) _ (list_any-append p before own ∙ or_right (list_any p before) (list_any p own) h)

  pub repeated_there : (own : List Constraint) (position : ℕ) (base : Constraint)
      → IsTrue (not (must_hold base) || option_map_or (λ c. repeats c base) (slice_get own position) false)
      → (before after : List Constraint) → first_of (constraint_rule (before ++ own ++ after) base) ≡ None
  repeated_there own position base h before after =
      repeated_rule (before ++ own ++ after) base
      (elim (or_cases (not (must_hold base)) _ h) [
        | inl free ↦ or_left (not (must_hold base)) _ free
        | inr there ↦
            or_right (not (must_hold base)) _
            (any_inside (λ c. repeats c base) before own after (any_placed (λ c. repeats c base) own position there))
      ])
