-- Rules that rest on given ones, or hang on others.
use Rattle.std.proofs.Common.{◌≡◌, ◌<◌, ◌≤◌, ◌+◌, ℕ, Bool, true, false, List, [], ◌∷◌, ◌++◌, map, length, take, get_or, Option, None, Some, is_none, is_some, cond, ◌&&◌, refl, sym, ap, ◌∙◌, subst, arith, IsTrue, string_bytes, String, Global, inl, inr}
use Rattle.std.specs.Option.{option_map_or}
use Rattle.std.specs.List.{flat_map, AllByRecursion, Contains}
use Rattle.std.proofs.lemmas.Bool.{false≢true}
use Rattle.std.proofs.lemmas.List.{take_all, take_more}
use Rattle.std.proofs.lemmas.List.Elements.{All-from_recursion, All-contains, Contains-append_left, Contains-append_right, Contains-append_cases}
use Rattle.fhir_json.specs.Tree.{Text, Property}
use Rattle.fhir_elements.specs.Element.{Element, required_value_set}
use Rattle.fhir_elements.specs.Constraint.{must_hold}
use Rattle.fhir_nodes.specs.declared.node.NodeRef.{NodeRef}
use Rattle.fhir_nodes.specs.Expressions.{expression_of}
use Rattle.fhir_schema.specs.Expressions.{constraint_at}
use Rattle.fhir_schema.specs.Schemas.{SchemaValue, element_at}
use Rattle.fhir_instance.specs.Items.{Item}
use Rattle.fhir_facets.specs.declared.holding.Holding.TheVariants as holdings
use Rattle.fhir_facets.specs.declared.unread.Unread.{Unread as UnreadRule}
use Rattle.fhir_facets.specs.Bindings.{binding_to, decision}
use Rattle.fhir_facets.specs.Carried.{bound_unread, range_unread, target_unread, binding_unread, constraint_unread}
use Rattle.fhir_facets.specs.Unread.{Unread, Reading, strict, as_given, lenient, is_given, meaning_of, unread_constraint, binding as unread_binding}
use Rattle.fhir_facets.specs.Views.{holding_at}
use Rattle.fhir_conformance.proofs.Lists.{all_weaker, all_mapped, all_gathered}
use Rattle.fhir_conformance.specs.Asks as asked
use Rattle.fhir_conformance.specs.Asks.{ElementRuleName, Ask, own}
use Rattle.fhir_conformance.specs.Conformance.{Interpretation, Around, meaning_at, resource_at, seen, as_read, ask_conforms}
use Rattle.fhir_conformance.specs.Meeting.{set_unread, rule_unread}
use Rattle.fhir_conformance.specs.Views.{rule_name}
use Rattle.fhir_conformance.specs.declared.ask.ElementRule.{ElementRule}
use Rattle.fhir_conformance.specs.declared.ask.ElementRule.TheVariants as rules
use Rattle.fhir_validator.specs.declared.judgement.Judgement.{Judgement}
use Rattle.fhir_validator.specs.declared.judgement.Judgement.TheVariants.{Holds, Given, Open, Fails}
use Rattle.fhir_validator.specs.declared.pair.ItemPair.{ItemPair}
use Rattle.fhir_validator.specs.Issues.{says, told_at}
use Rattle.fhir_validator.specs.Judgements.{under, same_judgement}
use Rattle.fhir_validator.specs.Judging.{IsRightOf}
use Rattle.fhir_validator.specs.Layouts.{LayoutValue, item_at}
use Rattle.fhir_validator.specs.Listing.{lower, is_hanging, ListingValue, IsOver, IsLeftBy, IsBetween, IsAskedBy, RuleIsTold, IsHanging, Grown, Lists}
use Rattle.fhir_validator.proofs.Asking.{contains_first}
use Rattle.fhir_validator.proofs.Raising.{RulesHang}
use Rattle.fhir_validator.proofs.Rows.{all_pushed}
use Rattle.fhir_validator.proofs.Told.{grown_none, rule_kept}

-- ---- elements of lists

pub each_in : {A : Type 0} (P : A → Type 0) (xs : List A) → ((x : A) → Contains xs x → P x) → AllByRecursion P xs
each_in P [] f = tt
each_in P (x ∷ xs) f = (f x (contains_first xs x), each_in P xs (λ y h. f y (Contains-append_right (x ∷ []) xs y h)))

pub in_each : {A : Type 0} (P : A → Type 0) (xs : List A) → AllByRecursion P xs → (x : A) → Contains xs x → P x
in_each P xs each x h = All-contains P xs x (All-from_recursion P xs each) h

pub contains_none : {A : Type 0} (x : A) → Contains [] x → ⊥
contains_none x h = omega (arith, h.1)

pub contains_if : {A : Type 0} (b : Bool) (xs : List A) (x : A) → Contains (cond b xs []) x → Contains xs x
contains_if true xs x h = h
contains_if false xs x h = absurd (contains_none x h)

pub only_one : (u v : Unread) → Contains (u ∷ []) v → v ≡ u
only_one u v h = in_each (λ w. w ≡ u) (u ∷ []) (refl, tt) v h

-- ---- a rule other than a range carries one unread rule at most

abbrev pub IsOneAtMost : List Unread → Type 0
IsOneAtMost rules = (u v : Unread) → Contains rules u → Contains rules v → v ≡ u

one_none : IsOneAtMost []
one_none u v h k = absurd (contains_none u h)

one_some : (w : Unread) → IsOneAtMost (w ∷ [])
one_some w u v h k = only_one w v k ∙ sym (only_one w u h)

one_if : (b : Bool) (w : Unread) → IsOneAtMost (cond b (w ∷ []) [])
one_if true w = one_some w
one_if false w = one_none

one_unless : (b : Bool) (w : Unread) → IsOneAtMost (cond b [] (w ∷ []))
one_unless true w = one_none
one_unless false w = one_some w

one_of : {A : Type 0} (f : A → List Unread) → ((x : A) → IsOneAtMost (f x)) → (o : Option A) → IsOneAtMost (option_map_or f o [])
one_of f each None = one_none
one_of f each (Some x) = each x

abbrev pub is_range : ElementRuleName → Bool
is_range asked.range = true
is_range _ = false

pub one_carried : (s : SchemaValue) (x : Item) (rule : ElementRuleName) (n : NodeRef) → is_range rule ≡ false → IsOneAtMost (rule_unread s x rule n)
one_carried s x asked.root_type n other = one_none
one_carried s x asked.fixed n other = one_none
one_carried s x asked.pattern n other = one_none
one_carried s x asked.range n other = absurd (false≢true (sym other))
one_carried s x asked.length_limit n other = one_none
one_carried s x asked.binding n other =
    one_of (set_unread s x)
    (λ e. one_of (λ canonical. binding_unread (binding_to s canonical) (seen x)) (λ canonical. one_unless (is_some (decision (binding_to s canonical) (seen x))) (unread_binding canonical))
    (required_value_set e)) (element_at s n)
one_carried s x (asked.too_few name) n other = one_none
one_carried s x (asked.too_many name) n other = one_none
one_carried s x (asked.too_few_in name) n other = one_none
one_carried s x (asked.too_many_in name) n other = one_none
one_carried s x (asked.apart position) n other = one_none
one_carried s x (asked.in_a_slice position) n other = one_none
one_carried s x (asked.in_order earlier position) n other = one_none
one_carried s x (asked.in_the_rest position) n other = one_none
one_carried s x (asked.constraint position) n other =
    one_of constraint_unread (λ c. one_if (must_hold c && is_none (expression_of c)) (unread_constraint c)) (constraint_at s n position)

pub not_range : (rule : ElementRule) → (rule ≡ rules.Range → ⊥) → is_range (rule_name rule) ≡ false
not_range rules.Range h = absurd (h refl)
not_range rule h = refl

-- ---- given rules that are told

abbrev pub AreHung : LayoutValue → Judgement → ItemPair → NodeRef → List Unread → Type 0
AreHung layout wanted p node rules = (rule : Unread) → Contains rules rule → IsTrue (is_given layout.given rule) → IsHanging layout wanted p node rule

abbrev pub AreTold : LayoutValue → ListingValue → List Unread → Type 0
AreTold layout listing rules = (rule : Unread) → Contains rules rule → IsTrue (is_given layout.given rule) → RuleIsTold layout listing rule

pub told_none : (layout : LayoutValue) (listing : ListingValue) → AreTold layout listing []
told_none layout listing rule has given = absurd (contains_none rule has)

pub told_one : (layout : LayoutValue) (listing : ListingValue) (u : Unread) → RuleIsTold layout listing u → AreTold layout listing (u ∷ [])
told_one layout listing u told rule has given = subst (RuleIsTold layout listing) (sym (only_one u rule has)) told

pub told_since : (layout : LayoutValue) (p : ItemPair) (old new : ListingValue) (rules : List Unread) → Grown layout p old new → AreTold layout old rules → AreTold layout new rules
told_since layout p old new rules grown told rule has given = rule_kept layout p old new rule grown (told rule has given)

pub told_both : (layout : LayoutValue) (listing : ListingValue) (front back : List Unread) → AreTold layout listing front → AreTold layout listing back → AreTold layout listing (front ++ back)
told_both layout listing front back one other rule has given =
    elim (Contains-append_cases front back rule has) [
      | inl here ↦ one rule here given
      | inr there ↦ other rule there given
    ]

-- where what is wanted stays so, what hangs does
pub hung_since : (layout : LayoutValue) (p : ItemPair) (node : NodeRef) (w v : Judgement) (rules : List Unread) → v ≡ w → AreHung layout w p node rules → AreHung layout v p node rules
hung_since layout p node w v rules same hung = subst (λ v. AreHung layout v p node rules) (sym same) hung

-- ---- bounds

module _ (s : SchemaValue) (x : Item) (n : NodeRef) (e : Element) (is : element_at s n ≡ Some e) (least most : Option Property) (low : least ≡ e.min_value) (high : most ≡ e.max_value) where
  bounds_are : rule_unread s x asked.range n ≡ option_map_or bound_unread least [] ++ option_map_or bound_unread most []
  bounds_are = ap (λ o. option_map_or range_unread o []) is ∙ (λ j. option_map_or bound_unread (sym low j) [] ++ option_map_or bound_unread (sym high j) [])

  pub least_hung : (layout : LayoutValue) (w : Judgement) (p : ItemPair) (node : NodeRef) → AreHung layout w p node (rule_unread s x asked.range n)
      → AreHung layout w p node (option_map_or bound_unread least [])
  least_hung layout w p node hung u has =
      hung u (subst (λ us. Contains us u) (sym bounds_are) (Contains-append_left (option_map_or bound_unread least []) (option_map_or bound_unread most []) u has))

  pub most_hung : (layout : LayoutValue) (w : Judgement) (p : ItemPair) (node : NodeRef) → AreHung layout w p node (rule_unread s x asked.range n)
      → AreHung layout w p node (option_map_or bound_unread most [])
  most_hung layout w p node hung u has =
      hung u (subst (λ us. Contains us u) (sym bounds_are) (Contains-append_right (option_map_or bound_unread least []) (option_map_or bound_unread most []) u has))

  pub bounds_told : (layout : LayoutValue) (listing : ListingValue) → AreTold layout listing (option_map_or bound_unread least [])
      → AreTold layout listing (option_map_or bound_unread most []) → AreTold layout listing (rule_unread s x asked.range n)
  bounds_told layout listing one other =
      subst (AreTold layout listing) (sym bounds_are) (told_both layout listing (option_map_or bound_unread least []) (option_map_or bound_unread most []) one other)

-- ---- targets

-- each of the targets, where they are taken one by one
abbrev pub TargetIsTold : LayoutValue → ListingValue → String Global → Type 0
TargetIsTold layout listing t = AreTold layout listing (target_unread layout.schema (string_bytes t))

pub targets_more : (layout : LayoutValue) (p : ItemPair) (old new : ListingValue) (xs : List (String Global)) (i : ℕ) (x : String Global) → i < length xs → x ≡ get_or xs i x
    → Grown layout p old new → AllByRecursion (TargetIsTold layout old) (take i xs) → TargetIsTold layout new x → AllByRecursion (TargetIsTold layout new) (take (i + 1) xs)
targets_more layout p old new xs i x h is grown told here =
    let more : take (i + 1) xs ≡ take i xs ++ x ∷ [] = take_more xs i x h ∙ ap (λ y. take i xs ++ y ∷ []) (sym is) in
    subst (AllByRecursion (TargetIsTold layout new)) (sym more)
    (all_pushed (TargetIsTold layout new) (take i xs) x
    (all_weaker (TargetIsTold layout old) (TargetIsTold layout new) (λ t. told_since layout p old new (target_unread layout.schema (string_bytes t)) grown) (take i xs) told) here)

pub targets_told : (layout : LayoutValue) (listing : ListingValue) (xs : List (String Global)) (ts : List Text) (i : ℕ) → length xs ≤ i → map string_bytes xs ≡ ts
    → AllByRecursion (TargetIsTold layout listing) (take i xs) → AreTold layout listing (flat_map (target_unread layout.schema) ts)
targets_told layout listing xs ts i h e told =
    let P : Unread → Type 0 = λ rule. IsTrue (is_given layout.given rule) → RuleIsTold layout listing rule in
    let f = target_unread layout.schema in
    let all : AllByRecursion (TargetIsTold layout listing) xs = subst (AllByRecursion (TargetIsTold layout listing)) (take_all i xs h) told in
    let each : AllByRecursion (λ t. AllByRecursion P (f (string_bytes t))) xs =
    all_weaker (TargetIsTold layout listing) (λ t. AllByRecursion P (f (string_bytes t))) (λ t. each_in P (f (string_bytes t))) xs all in
    in_each P (flat_map f ts) (all_gathered P f ts (subst (AllByRecursion (λ t. AllByRecursion P (f t))) e (all_mapped (λ t. AllByRecursion P (f t)) string_bytes xs each)))

-- ---- what a rule of a pair hangs on

pub own_hangs : (layout : LayoutValue) (p : ItemPair) (w a : Judgement) (rule : ElementRuleName) (n m : NodeRef) (u : Unread) → w ≡ a → is_hanging a ≡ true → m ≡ told_at p.node rule n
    → IsAskedBy layout p (own rule n) → IsRightOf layout p (own rule n) a → Contains (rule_unread layout.schema (item_at layout p.item) rule n) u → IsBetween layout.given a u
    → IsHanging layout w p m u
own_hangs layout p w a rule n m u is hanging at asked right carried between = record {
  ask = own rule n;
  said = says layout.schema (item_at layout p.item) rule n;
  asked = asked;
  hangs = subst (IsRightOf layout p (own rule n)) (sym is) right;
  told = ap (λ k. Some (k, says layout.schema (item_at layout p.item) rule n)) (sym at);
  carried = carried;
  between = subst (λ w. IsBetween layout.given w u) (sym is) between;
  of_hanging = ap is_hanging is ∙ hanging;
}

-- ---- what is listed of a rule

-- what a rule comes to
pub under_holds : (r : Reading) → under r Holds ≡ holding_at r holdings.Holds
under_holds strict = refl
under_holds as_given = refl
under_holds lenient = refl

pub under_given : (r : Reading) (u : UnreadRule) → under r Given ≡ holding_at r (holdings.Given u)
under_given strict u = refl
under_given as_given u = refl
under_given lenient u = refl

pub under_open : (r : Reading) (u : UnreadRule) → under r Open ≡ holding_at r (holdings.Unread u)
under_open strict u = refl
under_open as_given u = refl
under_open lenient u = refl

pub under_fails : (r : Reading) → under r Fails ≡ holding_at r holdings.Fails
under_fails strict = refl
under_fails as_given = refl
under_fails lenient = refl

pub other_open : (w : Judgement) → same_judgement w Open ≡ false → same_judgement Open w ≡ false
other_open Holds other = refl
other_open Given other = refl
other_open Open other = other
other_open Fails other = refl

pub other_given : (w : Judgement) → same_judgement w Given ≡ false → same_judgement Given w ≡ false
other_given Holds other = refl
other_given Given other = other
other_given Open other = refl
other_given Fails other = refl

module _ (layout : LayoutValue) (p : ItemPair) (old new : ListingValue) where
  -- one that is open, where the unread rule is told on which it hangs
  pub open_lists : (ask : Ask) (rule : Unread) → old.wanted ≡ Open → RuleIsTold layout new rule → Grown layout p old new → Lists layout p ask old new
  open_lists ask rule is told grown = record {
    grown = grown;
    told = λ marked meaning leaves around there. absurd (subst (λ w. IsLeftBy w meaning rule) (grown.wanted ∙ is) (told meaning leaves));
  }

  -- one that holds as given, where the given rules are told that it carries
  pub given_lists : RulesHang layout.schema → (rule : ElementRuleName) (node : NodeRef) → old.wanted ≡ Given → IsRightOf layout p (own rule node) Given
      → AreTold layout new (rule_unread layout.schema (item_at layout p.item) rule node) → Grown layout p old new → Lists layout p (own rule node) old new
  given_lists rules rule node is right told grown = record {
    grown = grown;
    told = λ marked meaning leaves around there.
        rules (meaning_of layout.given as_given) (meaning_at meaning around) (resource_at layout.schema around (item_at layout p.item)) (item_at layout p.item) rule node
        (λ u has given. subst (λ w. IsLeftBy w meaning u) (grown.wanted ∙ is) (told u has given meaning leaves) around.outermost around.place)
        (sym (right as_given around there));
  }

-- one that holds whatever unread rules mean
pub held_lists : (layout : LayoutValue) (p : ItemPair) (ask : Ask) (old : ListingValue)
    → ((less more : Interpretation) → IsOver less more → (around : Around) → IsTrue (ask_conforms layout.schema less around (item_at layout p.item) ask)
    → IsTrue (ask_conforms layout.schema more around (item_at layout p.item) ask))
    → IsRightOf layout p ask Holds → Lists layout p ask old old
held_lists layout p ask old raised right = record {
  grown = grown_none layout p old;
  told = λ marked meaning leaves around there.
      raised (as_read layout.given (lower old.wanted)) meaning leaves.over around (sym (right (lower old.wanted) around there) ∙ under_holds (lower old.wanted));
}
