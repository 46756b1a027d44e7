-- What the pairs of a right certificate say holds at each item.
use Rattle.std.proofs.Common.{◌≡◌, ℕ, suc, ℤ, Bool, true, false, List, [], ◌∷◌, ◌++◌, Option, Some, None, refl, sym}
use Rattle.std.proofs.Common.{subst, ◌∙◌, inl, inr, ◌&&◌, ◌||◌, IsTrue, not, nat_eq, length, cond}
use Rattle.std.specs.Prelude.{if◌then◌else◌}
use Rattle.std.specs.List.{list_all, list_any, flat_map, AllByRecursion}
use Rattle.std.specs.Option.{option_map_or, option_or, option_and_then}
use Rattle.std.specs.Str.{bytes_eq}
use Rattle.std.proofs.lemmas.Bool.{and_parts, and_from, or_cases, not-true, false≢true, true≢false}
use Rattle.fhir_json.specs.Tree.{Text, Tree}
use Rattle.fhir_json.specs.Bytes.{is_empty}
use Rattle.fhir_elements.specs.TypeEntry.{TypeEntry}
use Rattle.fhir_elements.specs.Element.{Element, required_value_set}
use Rattle.fhir_elements.specs.Tests.{all_hold}
use Rattle.fhir_nodes.specs.declared.node.NodeRef.{NodeRef}
use Rattle.fhir_nodes.specs.Slots.{Slot}
use Rattle.fhir_schema.specs.Schemas.{SchemaValue, element_at, is_root_node, target, holder, slots, slot_named, entry_of, types, type_root, loaded}
use Rattle.fhir_nodes.specs.Holders.{with_children}
use Rattle.fhir_nodes.specs.Types.{names_resource}
use Rattle.fhir_schema.specs.Covers.{covers, type_at}
use Rattle.fhir_instance.specs.Items.{Item, item, Kids, no_kids, kid, type_of}
use Rattle.fhir_facets.specs.Unread.{Meaning}
use Rattle.fhir_facets.specs.Unread.{profile as unread_profile}
use Rattle.fhir_facets.specs.Seen.{Seen}
use Rattle.fhir_facets.specs.Values.{fixed_holds, fixed_narrower, pattern_holds, pattern_narrower, fixed_fits, length_holds, length_narrower}
use Rattle.fhir_facets.specs.Ranges.{Range, range_holds, range_narrower}
use Rattle.fhir_facets.specs.Targets.{targets_hold}
use Rattle.fhir_facets.specs.Bindings.{binding_to, binding_holds, binding_narrower, IsFair}
use Rattle.fhir_conformance.specs.Asks.{root_type, fixed, pattern, range, length_limit, binding}
use Rattle.fhir_conformance.specs.Asks.{Ask, profile as as_profile, places_of, facet_asks, constraint_asks, named_asks, slot_asks, entry_roots, profile_asks, own_root, slots_ask, kids_asks, root_asks}
use Rattle.fhir_conformance.specs.Conformance.{Interpretation, Around, seen, fixed_at, pattern_at, range_at, length_at, binding_at, is_untyped, entry_allows, entry_holds}
use Rattle.fhir_conformance.specs.Conformance.{profile_holds, profiles_hold, types_hold, rule_holds, ask_holds, root_holds, inner_holds, item_holds, meaning_at, resource_at}
use Rattle.fhir_conformance.specs.Conformance.{inside, below, conforms, kid_tests, IsFairEverywhere}
use Rattle.fhir_certificate.specs.declared.pair.Pair.{Pair}
use Rattle.fhir_certificate.specs.declared.pair.Pair.TheVariants.{Item as ItemPair, Kids as KidsPair}
use Rattle.fhir_cert_check.specs.Rule.{children}
use Rattle.fhir_cert_check.specs.Rules.{types_answer, roots_answer, type_answers, is_answered, fixed_answers, pattern_answers}
use Rattle.fhir_cert_check.specs.Rules.{range_answers, length_answers, binding_answers, elements_answer, has_item_pair, has_kids_pair}
use Rattle.fhir_cert_check.specs.Rules.{own_children_answer, code_children_answer, profiles_children_answer, entry_children_answer, type_children_answer, children_answer}
use Rattle.fhir_cert_check.specs.Rules.{constraint_rules, own_slot_rules, slot_rules}
use Rattle.fhir_cert_check.specs.Facets.{facet_rules}
use Rattle.fhir_cert_check.specs.Checking.{IsRight}
use Rattle.fhir_cert_check.specs.Inclusion.{IncludesItems}
use Rattle.fhir_cert_check.proofs.Answered.{any_with_all, all_map, all_append, all_joined, all_both, all_given, all_taken, found_passes, none_of_length, each_at, answered, answered_by_both}
use Rattle.fhir_cert_check.proofs.Within.{given_all}
use Rattle.fhir_cert_check.proofs.Sliced.{same_text, CountsHold, BelongAlike, ChildrenKeep, named_step}
use Rattle.fhir_cert_check.proofs.Typed.{CoversOn, TargetsHold, ProfilesKeep, types_step}
use Rattle.fhir_cert_check.proofs.Constrained.{EntailedHold, constraints_step}

-- ---- the one of two that is asked

as_true : (b r i : Bool) → b ≡ true → IsTrue r → IsTrue (cond b r i)
as_true true r i e h = h
as_true false r i e h = absurd (false≢true e)

of_true : (b r i : Bool) → b ≡ true → IsTrue (cond b r i) → IsTrue r
of_true true r i e h = h
of_true false r i e h = absurd (false≢true e)

as_false : (b r i : Bool) → b ≡ false → IsTrue i → IsTrue (cond b r i)
as_false true r i e h = absurd (true≢false e)
as_false false r i e h = h

of_false : (b r i : Bool) → b ≡ false → IsTrue (cond b r i) → IsTrue i
of_false true r i e h = absurd (true≢false e)
of_false false r i e h = h

-- ---- what is narrower holds of less

-- of each facet: where the derived element's is as narrow as the base's and holds, the base's holds
pub record AreNarrow (s : SchemaValue) : Type 0 where
  pub fixed_is : (p q : Tree) (x : Seen) → IsTrue (fixed_narrower p q) → IsTrue (fixed_holds p x) → IsTrue (fixed_holds q x)
  pub pattern_is : (p q : Tree) (x : Seen) → IsTrue (pattern_narrower p q) → IsTrue (pattern_holds p x) → IsTrue (pattern_holds q x)
  pub fits_is : (p q : Tree) (x : Seen) → IsTrue (fixed_fits p q) → IsTrue (fixed_holds p x) → IsTrue (pattern_holds q x)
  pub range_is : (m : Meaning) (p q : Range) (x : Seen) → IsTrue (range_narrower p q) → IsTrue (range_holds m p x) → IsTrue (range_holds m q x)
  pub length_is : (p q : ℤ) (x : Seen) → IsTrue (length_narrower p q) → IsTrue (length_holds p x) → IsTrue (length_holds q x)
  pub binding_is : (m : Meaning) (own base : Text) (x : Seen) → IsFair s m → IsTrue (binding_narrower (binding_to s own) (binding_to s base))
      → IsTrue (binding_holds m (binding_to s own) x) → IsTrue (binding_holds m (binding_to s base) x)
  pub count_is : CountsHold
  pub targets_are : TargetsHold s
  pub covers_on : CoversOn s
  pub entailed_is : EntailedHold

-- a code that isn't of resources covers itself alone
abbrev pub CoversAlone : SchemaValue → Type 0
CoversAlone s = (a b : Text) → names_resource s.definitions a ≡ false → IsTrue (covers s a b) → a ≡ b

-- what a root asks doesn't hang on other roots
abbrev pub AsksNoRoot : SchemaValue → Type 0
AsksNoRoot s = (m : Meaning) (resource x : Item) (kids : List (NodeRef → Bool)) (some others : NodeRef → Bool) (r : NodeRef)
    → list_all (ask_holds s m resource x kids some) (root_asks s x r) ≡ list_all (ask_holds s m resource x kids others) (root_asks s x r)

-- what a canonical names is a root
abbrev pub NamesRoots : SchemaValue → Type 0
NamesRoots s = (canonical : Text) (n : NodeRef) → loaded s canonical ≡ Some n → IsTrue (is_root_node s n)

module _ (s : SchemaValue) (narrow : AreNarrow s) (alone : CoversAlone s) (asks_no_root : AsksNoRoot s) (names_roots : NamesRoots s) (alike : BelongAlike s) where
  -- ---- what is asked of an item itself

  module _ (m : Meaning) (resource x : Item) where
    fixed_of_elements : (e f : Element) → IsTrue (fixed_answers e f) → IsTrue (fixed_at x e) → IsTrue (fixed_at x f)
    fixed_of_elements e f =
        answered (λ p q. fixed_narrower p.1 q.1) (λ p. fixed_holds p.1 (seen x)) (λ q. fixed_holds q.1 (seen x))
        (λ p q. narrow.fixed_is p.1 q.1 (seen x)) e.fixed f.fixed

    fixed_step : (n k : NodeRef) → IsTrue (elements_answer fixed_answers s n k) → IsTrue (rule_holds s m resource x fixed n) → IsTrue (rule_holds s m resource x fixed k)
    fixed_step n k = answered fixed_answers (fixed_at x) (fixed_at x) fixed_of_elements (element_at s n) (element_at s k)

    pattern_of_elements : (e f : Element) → IsTrue (pattern_answers e f) → IsTrue (fixed_at x e) → IsTrue (pattern_at x e) → IsTrue (pattern_at x f)
    pattern_of_elements e f answers of_fixed of_pattern =
        elim (or_cases (is_answered (λ p q. fixed_fits p.1 q.1) e.fixed f.pattern) (is_answered (λ p q. pattern_narrower p.1 q.1) e.pattern f.pattern) answers) [
          | inl by_fixed ↦
              answered (λ p q. fixed_fits p.1 q.1) (λ p. fixed_holds p.1 (seen x)) (λ q. pattern_holds q.1 (seen x))
              (λ p q. narrow.fits_is p.1 q.1 (seen x)) e.fixed f.pattern by_fixed of_fixed
          | inr by_pattern ↦
              answered (λ p q. pattern_narrower p.1 q.1) (λ p. pattern_holds p.1 (seen x)) (λ q. pattern_holds q.1 (seen x))
              (λ p q. narrow.pattern_is p.1 q.1 (seen x)) e.pattern f.pattern by_pattern of_pattern
        ]

    pattern_step : (n k : NodeRef) → IsTrue (elements_answer pattern_answers s n k) → IsTrue (rule_holds s m resource x fixed n) → IsTrue (rule_holds s m resource x pattern n)
        → IsTrue (rule_holds s m resource x pattern k)
    pattern_step n k =
        answered_by_both pattern_answers (fixed_at x) (pattern_at x) (pattern_at x) pattern_of_elements (element_at s n) (element_at s k)

    range_step : (n k : NodeRef) → IsTrue (elements_answer range_answers s n k) → IsTrue (rule_holds s m resource x range n) → IsTrue (rule_holds s m resource x range k)
    range_step n k =
        answered range_answers (range_at m x) (range_at m x)
        (λ e f. narrow.range_is m (record { least = e.min_value; most = e.max_value }) (record { least = f.min_value; most = f.max_value }) (seen x))
        (element_at s n) (element_at s k)

    length_of_elements : (e f : Element) → IsTrue (length_answers e f) → IsTrue (length_at x e) → IsTrue (length_at x f)
    length_of_elements e f =
        answered length_narrower (λ p. length_holds p (seen x)) (λ q. length_holds q (seen x)) (λ p q. narrow.length_is p q (seen x)) e.max_length f.max_length

    length_step : (n k : NodeRef) → IsTrue (elements_answer length_answers s n k) → IsTrue (rule_holds s m resource x length_limit n)
        → IsTrue (rule_holds s m resource x length_limit k)
    length_step n k = answered length_answers (length_at x) (length_at x) length_of_elements (element_at s n) (element_at s k)

    binding_of_elements : IsFair s m → (e f : Element) → IsTrue (binding_answers s e f) → IsTrue (binding_at s m x e) → IsTrue (binding_at s m x f)
    binding_of_elements fair e f =
        answered (λ own base. binding_narrower (binding_to s own) (binding_to s base)) (λ own. binding_holds m (binding_to s own) (seen x))
        (λ base. binding_holds m (binding_to s base) (seen x)) (λ own base. narrow.binding_is m own base (seen x) fair) (required_value_set e) (required_value_set f)

    binding_step : IsFair s m → (n k : NodeRef) → IsTrue (elements_answer (binding_answers s) s n k) → IsTrue (rule_holds s m resource x binding n)
        → IsTrue (rule_holds s m resource x binding k)
    binding_step fair n k =
        answered (binding_answers s) (binding_at s m x) (binding_at s m x) (binding_of_elements fair) (element_at s n) (element_at s k)

    root_type_step : (n k : NodeRef) → IsTrue (covers s (type_at s k) (type_at s n)) → IsTrue (rule_holds s m resource x root_type n) → IsTrue (rule_holds s m resource x root_type k)
    root_type_step n k covered holds = narrow.covers_on (type_at s k) (type_at s n) (type_of x) covered holds

  -- ---- a right certificate's pairs

  module _ (pairs : Pair → Bool) (right : IsRight s pairs) where
    -- a test of nodes that keeps to the pairs
    abbrev Keeps : (NodeRef → Bool) → Type 0
    Keeps test = (n k : NodeRef) → IsTrue (has_item_pair pairs n k) → IsTrue (test n) → IsTrue (test k)

    abbrev EachKeeps : List (NodeRef → Bool) → Type 0
    EachKeeps tests = AllByRecursion Keeps tests

    module _ (m : Meaning) (fair : IsFair s m) (resource x : Item) (kids : List (NodeRef → Bool)) (keeps : EachKeeps kids) where
      module _ (roots : NodeRef → Bool) where
        abbrev holds : Ask → Bool
        holds ask = ask_holds s m resource x kids roots ask

        -- each child keeps to the pairs
        children_keep : ChildrenKeep s narrow.count_is alike pairs m resource x kids roots
        children_keep n k pair i = each_at Keeps (λ n. true) (λ n k pair h. refl) kids keeps i n k pair

        slot_step : (n k : NodeRef) (b : Slot) → IsTrue (list_all holds (slots_ask s x n)) → IsTrue (all_hold (slot_rules pairs s n k b))
            → IsTrue (list_all holds (slot_asks s x k b))
        slot_step n k b each = go (slot_named s n b.name) refl
          where
            go : (o : Option Slot) → slot_named s n b.name ≡ o → IsTrue (all_hold (own_slot_rules pairs s n k b o)) → IsTrue (list_all holds (slot_asks s x k b))
            go None e rules = absurd (false≢true rules)
            go (Some a) e rules =
                let found = found_passes (λ slot. bytes_eq b.name slot.name) (λ slot. list_all holds (slot_asks s x n slot)) (slots s n) a e
                (all_given holds (slot_asks s x n) (slots s n) each) in
                named_step s narrow.count_is alike pairs m resource x kids roots b.name (entry_of n a) (entry_of k b) children_keep rules
                (subst (λ name. IsTrue (list_all holds (named_asks s x name (places_of name x) (entry_of n a)))) (sym (same_text b.name a.name found.0)) found.1)

        kids_step : (n k : NodeRef) → IsTrue (has_kids_pair pairs n k) → IsTrue (list_all holds (slots_ask s x n)) → IsTrue (list_all holds (slots_ask s x k))
        kids_step n k pair each =
            all_taken holds (slot_asks s x k) (slots s k)
            (all_map (λ b. all_hold (slot_rules pairs s n k b)) (λ b. list_all holds (slot_asks s x k b))
            (λ b rules. slot_step n k b each rules) (slots s k)
            (all_given (λ rule. rule.0) (slot_rules pairs s n k) (slots s k) (right (KidsPair (record { derived = n; base = k })) pair)))

        children_step : (n k : NodeRef) → IsTrue (children_answer pairs s n k)
            → ((base : NodeRef) → IsTrue (type_children_answer pairs s n base) → IsTrue (list_all holds (slots_ask s x base)))
            → IsTrue (list_all holds (kids_asks s x n)) → IsTrue (list_all holds (kids_asks s x k))
        children_step n k answers from_types each = go (holder s k) answers
          where
            own : (base : NodeRef) (o : Option NodeRef) → IsTrue (option_map_or (λ derived. has_kids_pair pairs derived base) o false)
                → IsTrue (list_all holds (option_map_or (slots_ask s x) o [])) → IsTrue (list_all holds (slots_ask s x base))
            own base None h each = absurd (false≢true h)
            own base (Some derived) h each = kids_step derived base h each

            has_children : (base : NodeRef) → IsTrue (own_children_answer pairs s n base || type_children_answer pairs s n base)
                → IsTrue (list_all holds (slots_ask s x base))
            has_children base h =
                elim (or_cases (own_children_answer pairs s n base) (type_children_answer pairs s n base) h) [
                  | inl by_own ↦ own base (holder s n) by_own each
                  | inr by_types ↦ from_types base by_types
                ]

            by_children : (base : NodeRef) (b : Bool) → nat_eq (length (slots s base)) 0 ≡ b
                → IsTrue (option_map_or (λ base. own_children_answer pairs s n base || type_children_answer pairs s n base) (cond b None (Some base)) true)
                → IsTrue (list_all holds (slots_ask s x base))
            by_children base true leaf h = rw (none_of_length (slots s base) leaf) refl
            by_children base false is h = has_children base h

            go : (o : Option NodeRef)
                → IsTrue (option_map_or (λ base. own_children_answer pairs s n base || type_children_answer pairs s n base)
                (option_and_then (with_children s.definitions) o) true)
                → IsTrue (list_all holds (option_map_or (slots_ask s x) o []))
            go None h = refl
            go (Some base) h = by_children base (nat_eq (length (slots s base)) 0) refl h

        -- where all is held that the node's children are asked, so is what its own slots ask
        own_slots : (n : NodeRef) → IsTrue (list_all holds (kids_asks s x n)) → IsTrue (list_all holds (slots_ask s x n))
        own_slots n = go (nat_eq (length (slots s n)) 0) refl
          where
            go : (b : Bool) → nat_eq (length (slots s n)) 0 ≡ b
                → IsTrue (list_all holds (option_map_or (slots_ask s x) (option_or (cond b None (Some n)) (target s n)) []))
                → IsTrue (list_all holds (slots_ask s x n))
            go true leaf each = rw (none_of_length (slots s n) leaf) refl
            go false is each = each

        -- the children of an item that conforms to the definition of its type
        root_children : (r : NodeRef) → IsTrue (root_holds s m resource x kids r) → IsTrue (list_all holds (slots_ask s x r))
        root_children r each =
            let asked : IsTrue (list_all holds (root_asks s x r)) = sym (asks_no_root m resource x kids (λ r. true) roots r) ∙ each in
            let after = (all_append holds (facet_asks r) (constraint_asks s r ++ kids_asks s x r) (and_parts (rule_holds s m resource x root_type r) _ asked).1).1 in
            own_slots r (all_append holds (constraint_asks s r) (kids_asks s x r) after).1

        constrained_step : (n k : NodeRef) → IsTrue (all_hold (constraint_rules s n k)) → IsTrue (list_all holds (constraint_asks s n))
            → IsTrue (list_all holds (constraint_asks s k))
        constrained_step n k = constraints_step s m resource x narrow.entailed_is holds (λ n k. refl) n k

        -- the facets, and what follows them
        facets_step : (n k : NodeRef) (after more : List Ask) → IsTrue (all_hold (facet_rules s n k)) → (IsTrue (list_all holds after) → IsTrue (list_all holds more))
            → IsTrue (list_all holds (facet_asks n ++ after)) → IsTrue (list_all holds (facet_asks k ++ more))
        facets_step n k after more answers rest each =
            let fixed_answer = and_parts (elements_answer fixed_answers s n k) _ answers in
            let pattern_answer = and_parts (elements_answer pattern_answers s n k) _ fixed_answer.1 in
            let range_answer = and_parts (elements_answer range_answers s n k) _ pattern_answer.1 in
            let length_answer = and_parts (elements_answer length_answers s n k) _ range_answer.1 in
            let binding_answer = and_parts (elements_answer (binding_answers s) s n k) true length_answer.1 in
            let by_fixed = and_parts (rule_holds s m resource x fixed n) _ each in
            let by_pattern = and_parts (rule_holds s m resource x pattern n) _ by_fixed.1 in
            let by_range = and_parts (rule_holds s m resource x range n) _ by_pattern.1 in
            let by_length = and_parts (rule_holds s m resource x length_limit n) _ by_range.1 in
            let by_binding = and_parts (rule_holds s m resource x binding n) (list_all holds after) by_length.1 in
            and_from (rule_holds s m resource x fixed k) _ (fixed_step m resource x n k fixed_answer.0 by_fixed.0)
            (and_from (rule_holds s m resource x pattern k) _ (pattern_step m resource x n k pattern_answer.0 by_fixed.0 by_pattern.0)
            (and_from (rule_holds s m resource x range k) _ (range_step m resource x n k range_answer.0 by_range.0)
            (and_from (rule_holds s m resource x length_limit k) _ (length_step m resource x n k length_answer.0 by_length.0)
            (and_from (rule_holds s m resource x binding k) (list_all holds more) (binding_step m resource x fair n k binding_answer.0 by_binding.0) (rest by_binding.1)))))

      -- ---- children by the definitions of the types

      abbrev conforming : NodeRef → Bool
      conforming r = root_holds s m resource x kids r

      abbrev asked_holds : Ask → Bool
      asked_holds ask = ask_holds s m resource x kids conforming ask

      abbrev ChildrenHold : NodeRef → Type 0
      ChildrenHold k = IsTrue (list_all asked_holds (slots_ask s x k))

      code_children : (k : NodeRef) (e : TypeEntry) → IsTrue (list_all asked_holds (own_root (type_root s (type_of x)))) → IsTrue (covers s e.code (type_of x))
          → IsTrue (code_children_answer pairs s k e) → ChildrenHold k
      code_children k e own_type covered answers =
          let parts = and_parts (not (names_resource s.definitions e.code)) _ answers in
          let same : e.code ≡ type_of x = alone e.code (type_of x) (not-true (names_resource s.definitions e.code) parts.0) covered in
          go (type_root s (type_of x))
          (subst (λ code. IsTrue (option_map_or (λ r. has_kids_pair pairs r k) (type_root s code) false)) same parts.1) own_type
        where
          go : (o : Option NodeRef) → IsTrue (option_map_or (λ r. has_kids_pair pairs r k) o false) → IsTrue (list_all asked_holds (own_root o)) → ChildrenHold k
          go None pair own_type = absurd (false≢true pair)
          go (Some r) pair own_type = kids_step conforming r k pair (root_children conforming r (and_parts (conforming r) true own_type).0)

      profile_children : (k : NodeRef) (p : Text) → IsTrue (profile_holds s m conforming x p)
          → IsTrue (option_map_or (λ r. has_kids_pair pairs r k) (loaded s p) false) → ChildrenHold k
      profile_children k p = go (loaded s p)
        where
          go : (o : Option NodeRef) → IsTrue (option_map_or conforming o (m (unread_profile p))) → IsTrue (option_map_or (λ r. has_kids_pair pairs r k) o false)
              → ChildrenHold k
          go None holds pair = absurd (false≢true pair)
          go (Some r) holds pair = kids_step conforming r k pair (root_children conforming r holds)

      profiles_children : (k : NodeRef) (e : TypeEntry) → IsTrue (profiles_hold s m conforming x e.profiles) → IsTrue (profiles_children_answer pairs s k e)
          → ChildrenHold k
      profiles_children k e holds answers =
          let parts = and_parts (not (is_empty e.profiles)) (list_all (λ p. option_map_or (λ r. has_kids_pair pairs r k) (loaded s p) false) e.profiles) answers in
          elim (or_cases (is_empty e.profiles) (list_any (profile_holds s m conforming x) e.profiles) holds) [
            | inl none ↦ absurd (true≢false (sym none ∙ not-true (is_empty e.profiles) parts.0))
            | inr some ↦
                any_with_all (profile_holds s m conforming x) (λ p. option_map_or (λ r. has_kids_pair pairs r k) (loaded s p) false) (ChildrenHold k)
                (profile_children k) e.profiles some parts.1
          ]

      -- of an entry whose definitions' children are answered: those of its profiles, or its own
      entry_children : (k : NodeRef) → IsTrue (list_all asked_holds (own_root (type_root s (type_of x)))) → (e : TypeEntry)
          → IsTrue (entry_holds s m conforming x e) → IsTrue (entry_children_answer pairs s k e) → ChildrenHold k
      entry_children k own_type e holds answers =
          let parts = and_parts (entry_allows s m x e) (profiles_hold s m conforming x e.profiles) holds in
          elim (or_cases (profiles_children_answer pairs s k e) (code_children_answer pairs s k e) answers) [
            | inl by_profiles ↦ profiles_children k e parts.1 by_profiles
            | inr by_code ↦ code_children k e own_type (and_parts (covers s e.code (type_of x)) (targets_hold s m e (seen x)) parts.0).0 by_code
          ]

      type_children : (n k : NodeRef) → IsTrue (types_hold s m conforming x n) → IsTrue (list_all asked_holds (own_root (type_root s (type_of x))))
          → IsTrue (type_children_answer pairs s n k) → ChildrenHold k
      type_children n k typed own_type answers =
          let parts = and_parts (not (is_untyped s n)) (list_all (entry_children_answer pairs s k) (types s n)) answers in
          elim (or_cases (is_untyped s n) (list_any (entry_holds s m conforming x) (types s n)) typed) [
            | inl untyped ↦ absurd (true≢false (sym untyped ∙ not-true (is_untyped s n) parts.0))
            | inr some ↦ any_with_all (entry_holds s m conforming x) (entry_children_answer pairs s k) (ChildrenHold k) (entry_children k own_type) (types s n) some parts.1
          ]

      -- a root names no types
      root_types : (n k : NodeRef) → is_root_node s n ≡ true → IsTrue (type_children_answer pairs s n k) → ⊥
      root_types n k is answers = go (is_root_node s n) is (and_parts (not (is_untyped s n)) _ answers).0
        where
          go : (b : Bool) → b ≡ true → IsTrue (not (nat_eq (length (cond b [] (option_map_or (λ e. e.types) (element_at s n) []))) 0)) → ⊥
          go true is h = false≢true h
          go false is h = false≢true is

      root_step : (n k : NodeRef) → is_root_node s n ≡ true → IsTrue (covers s (type_at s k) (type_at s n)) → IsTrue (all_hold (facet_rules s n k))
          → IsTrue (all_hold (constraint_rules s n k)) → IsTrue (children_answer pairs s n k)
          → IsTrue (root_holds s m resource x kids n) → IsTrue (root_holds s m resource x kids k)
      root_step n k is covered facets constraints answers each =
          let type = and_parts (rule_holds s m resource x root_type n) _ each in
          and_from (rule_holds s m resource x root_type k) _ (root_type_step m resource x n k covered type.0)
          (facets_step (λ r. true) n k (constraint_asks s n ++ kids_asks s x n) (constraint_asks s k ++ kids_asks s x k) facets
          (all_both (ask_holds s m resource x kids (λ r. true)) (constraint_asks s n) (kids_asks s x n) (constraint_asks s k) (kids_asks s x k)
          (constrained_step (λ r. true) n k constraints)
          (children_step (λ r. true) n k answers (λ base by_types. absurd (root_types n base is by_types)))) type.1)

      rules_in_parts : (n k : NodeRef) → IsTrue (all_hold (facet_rules s n k ++ (constraint_rules s n k ++ (children_answer pairs s n k, children) ∷ [])))
          → IsTrue (all_hold (facet_rules s n k)) × IsTrue (all_hold (constraint_rules s n k)) × IsTrue (children_answer pairs s n k)
      rules_in_parts n k rules =
          let below = (children_answer pairs s n k, children) ∷ [] in
          let facets = all_append (λ rule. rule.0) (facet_rules s n k) (constraint_rules s n k ++ below) rules in
          let constraints = all_append (λ rule. rule.0) (constraint_rules s n k) below facets.1 in
          (facets.0, constraints.0, (and_parts (children_answer pairs s n k) true constraints.1).0)

      -- ---- pairs of roots

      root_pair_step : (n k : NodeRef) → is_root_node s n ≡ true → IsTrue (has_item_pair pairs n k) → IsTrue (conforming n) → IsTrue (is_root_node s k) × IsTrue (conforming k)
      root_pair_step n k is pair each =
          let typed = and_parts (type_answers pairs s n k) _ (right (ItemPair (record { derived = n; base = k })) pair) in
          let answers = of_true (is_root_node s n) (roots_answer s n k) (not (is_root_node s k) && types_answer pairs s n k) is typed.0 in
          let r = and_parts (is_root_node s k) (covers s (type_at s k) (type_at s n)) answers in
          let parts = rules_in_parts n k typed.1 in
          (r.0, root_step n k is r.1 parts.0 parts.1 parts.2 each)

      profiles_keep : ProfilesKeep s pairs conforming
      profiles_keep own base n k is_own is_base pair each = (root_pair_step n k (names_roots own n is_own) pair each).1

      -- ---- pairs of inner nodes

      -- what is asked of an item's types and of its children
      below_step : (n k : NodeRef) → IsTrue (children_answer pairs s n k) → IsTrue (types_hold s m conforming x n)
          → IsTrue (list_all asked_holds (own_root (type_root s (type_of x)) ++ (profile_asks s x n ++ kids_asks s x n)))
          → IsTrue (list_all asked_holds (own_root (type_root s (type_of x)) ++ (profile_asks s x k ++ kids_asks s x k)))
      below_step n k answers typed each =
          let own_type = own_root (type_root s (type_of x)) in
          let both = all_append asked_holds own_type (profile_asks s x n ++ kids_asks s x n) each in
          let more = all_append asked_holds (profile_asks s x n) (kids_asks s x n) both.1 in
          all_joined asked_holds own_type (profile_asks s x k ++ kids_asks s x k) both.0
          (all_joined asked_holds (profile_asks s x k) (kids_asks s x k)
          (given_all asked_holds as_profile (flat_map (entry_roots s x) (types s k)) (λ r there. refl))
          (children_step conforming n k answers (λ base. type_children n base typed both.0) more.1))

      inner_step : (n k : NodeRef) → IsTrue (types_answer pairs s n k) → IsTrue (all_hold (facet_rules s n k)) → IsTrue (all_hold (constraint_rules s n k))
          → IsTrue (children_answer pairs s n k) → IsTrue (inner_holds s m resource x kids n) → IsTrue (inner_holds s m resource x kids k)
      inner_step n k typed facets constraints answers each =
          let own_type = own_root (type_root s (type_of x)) in
          let type = and_parts (types_hold s m conforming x n) _ each in
          and_from (types_hold s m conforming x k) _ (types_step s narrow.covers_on narrow.targets_are pairs m conforming x profiles_keep n k typed type.0)
          (facets_step conforming n k (constraint_asks s n ++ (own_type ++ (profile_asks s x n ++ kids_asks s x n)))
          (constraint_asks s k ++ (own_type ++ (profile_asks s x k ++ kids_asks s x k))) facets
          (all_both asked_holds (constraint_asks s n) (own_type ++ (profile_asks s x n ++ kids_asks s x n)) (constraint_asks s k)
          (own_type ++ (profile_asks s x k ++ kids_asks s x k)) (constrained_step conforming n k constraints) (below_step n k answers type.0)) type.1)

      inner_pair_step : (n k : NodeRef) → is_root_node s n ≡ false → IsTrue (has_item_pair pairs n k) → IsTrue (inner_holds s m resource x kids n)
          → (is_root_node s k ≡ false) × IsTrue (inner_holds s m resource x kids k)
      inner_pair_step n k isnt pair each =
          let typed = and_parts (type_answers pairs s n k) _ (right (ItemPair (record { derived = n; base = k })) pair) in
          let answers = of_false (is_root_node s n) (roots_answer s n k) (not (is_root_node s k) && types_answer pairs s n k) isnt typed.0 in
          let r = and_parts (not (is_root_node s k)) (types_answer pairs s n k) answers in
          let parts = rules_in_parts n k typed.1 in
          (not-true (is_root_node s k) r.0, inner_step n k r.1 parts.0 parts.1 parts.2 each)

      -- ---- each pair

      item_step : Keeps (item_holds s m resource x kids)
      item_step n k pair = go (is_root_node s n) refl
        where
          go : (b : Bool) → is_root_node s n ≡ b → IsTrue (if b then conforming n else inner_holds s m resource x kids n) → IsTrue (item_holds s m resource x kids k)
          go true is each =
              let step = root_pair_step n k is pair each in
              as_true (is_root_node s k) (conforming k) (inner_holds s m resource x kids k) step.0 step.1
          go false isnt each =
              let step = inner_pair_step n k isnt pair each in
              as_false (is_root_node s k) (conforming k) (inner_holds s m resource x kids k) step.0 step.1

    mutual
      keeps : (meaning : Interpretation) → IsFairEverywhere s meaning → (around : Around) (x : Item) → Keeps (conforms s meaning around x)
      keeps meaning fair around (item type json kids) =
          item_step (meaning_at meaning around) (fair around.outermost around.place) (resource_at s around (item type json kids)) (item type json kids)
          (kid_tests s meaning (inside s around (item type json kids)) 0 kids)
          (each_keeps meaning fair (inside s around (item type json kids)) 0 kids)

      each_keeps : (meaning : Interpretation) → IsFairEverywhere s meaning → (around : Around) (position : ℕ) (kids : Kids)
          → EachKeeps (kid_tests s meaning around position kids)
      each_keeps meaning fair around position no_kids = tt
      each_keeps meaning fair around position (kid name x kids) =
          (keeps meaning fair (below around position) x, each_keeps meaning fair around (suc position) kids)

    pub includes : (n m : NodeRef) → IsTrue (has_item_pair pairs n m) → IncludesItems s n m
    includes n m pair meaning fair around x = keeps meaning fair around x n m pair
