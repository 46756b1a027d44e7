-- What the rules of a slot promise of its items: of how many there are, of each, and of each in its slice.
use Rattle.std.proofs.Common.{◌≡◌, ℕ, Bool, true, false, List, [], ◌∷◌, ◌++◌, map, Option, Some, None, refl, sym, ap, subst, ◌∙◌, inl, inr, arith, ◌&&◌, ◌||◌}
use Rattle.std.proofs.Common.{IsTrue, not, length, get_or}
use Rattle.std.specs.Prelude.{if◌then◌else◌}
use Rattle.std.specs.List.{list_all, filter, flat_map}
use Rattle.std.specs.Option.{option_map_or}
use Rattle.std.specs.Str.{bytes_eq}
use Rattle.std.specs.Cmp.Lexicographic.{bytes_decides}
use Rattle.std.proofs.lemmas.Bool.{and_parts, and_from, or_cases, not-true, leb-true, eqb-true, false≢true, true≢false}
use Rattle.fhir_json.specs.Tree.{Text}
use Rattle.fhir_json.specs.Bytes.{is_empty}
use Rattle.fhir_elements.specs.declared.max.Max.{Max}
use Rattle.fhir_elements.specs.declared.max.Max.TheVariants.{Unbounded, UpTo}
use Rattle.fhir_elements.specs.Max.{is_within}
use Rattle.fhir_elements.specs.Element.{Element}
use Rattle.fhir_elements.specs.Tests.{all_hold}
use Rattle.fhir_nodes.specs.declared.node.NodeRef.{NodeRef}
use Rattle.fhir_nodes.specs.Slots.{Slot}
use Rattle.fhir_schema.specs.Schemas.{SchemaValue, element_at, entry_of, slices, slice_named, is_closed, criteria}
use Rattle.fhir_instance.specs.Items.{Item, kids_of}
use Rattle.fhir_facets.specs.Unread.{Meaning}
use Rattle.fhir_facets.specs.Order.{is_ordered, is_open_at_end, ordered_narrower, is_live}
use Rattle.fhir_facets.specs.Cardinality.{are_enough, are_within, cardinality_holds, cardinality_narrower, allows_none, is_forbidden}
use Rattle.fhir_slicing.specs.Belonging.{belongs, is_in, slice_of, is_apart, is_sliced}
use Rattle.fhir_slicing.specs.SameCriteria.{same_criteria}
use Rattle.fhir_conformance.specs.Asks.{too_few, too_many, too_few_in, too_many_in}
use Rattle.fhir_conformance.specs.Asks.{Ask, own, places_of, child_ask, apart_ask, in_slice_ask, order_asks, rest_ask, behind_rest, sequence_asks, slice_asks, sliced_asks, named_asks}
use Rattle.fhir_conformance.specs.Positions.{kid_at, at_kid, members}
use Rattle.fhir_conformance.specs.Conformance.{count_of, count_in, rule_holds, ask_holds}
use Rattle.fhir_certificate.specs.declared.pair.Pair.{Pair}
use Rattle.fhir_cert_check.specs.Rule.{entry}
use Rattle.fhir_cert_check.specs.Rules.{is_answered, elements_answer, is_forbidden_at, has_item_pair, is_paired, own_slice_rules, slice_rules, is_shared, slices_shared, closed_answers, end_answers, slicing_rules}
use Rattle.fhir_cert_check.specs.Rules.{empty_slice_rule, entry_rules}
use Rattle.fhir_cert_check.proofs.Answered.{all_append, all_joined, all_moved}
use Rattle.fhir_cert_check.proofs.Sequenced.{EachOwn, child_there, sequence_step}
use Rattle.fhir_cert_check.proofs.Within.{Within, some_within, within_some, at_within, all_within, any_within, within_any, found_within, within_kept, given_at, given_all, flat_at, flat_all}

pub same_text : (a b : Text) → IsTrue (bytes_eq a b) → a ≡ b
same_text a b h = (bytes_decides a b).0 h

-- ---- none where none may be

none_there : {A : Type 0} (o : Option Max) (xs : List A) → IsTrue (option_map_or allows_none o false) → IsTrue (option_map_or (is_within (length xs)) o true)
    → xs ≡ []
none_there o [] forbidden holds = refl
none_there None (x ∷ xs) forbidden holds = absurd (false≢true forbidden)
none_there (Some Unbounded) (x ∷ xs) forbidden holds = absurd (false≢true forbidden)
none_there (Some (UpTo k)) (x ∷ xs) forbidden holds =
    absurd (omega (arith, eqb-true k 0 forbidden, leb-true (length (x ∷ xs)) k holds))

none_at : {A : Type 0} (o : Option Element) (xs : List A) → IsTrue (option_map_or is_forbidden o false)
    → IsTrue (option_map_or (λ e. are_within e (length xs)) o true) → xs ≡ []
none_at None xs forbidden holds = absurd (false≢true forbidden)
none_at (Some e) xs forbidden holds = none_there e.max xs forbidden holds

none_within_most : (o : Option Max) → IsTrue (option_map_or (is_within 0) o true)
none_within_most None = refl
none_within_most (Some Unbounded) = refl
none_within_most (Some (UpTo k)) = grind arith

-- no items are too many nowhere
none_within : (o : Option Element) → IsTrue (option_map_or (λ e. are_within e 0) o true)
none_within None = refl
none_within (Some e) = none_within_most e.max

-- ---- how many

-- narrower bounds hold of less
abbrev pub CountsHold : Type 0
CountsHold = (e f : Element) (n : ℕ) → IsTrue (cardinality_narrower e f) → IsTrue (cardinality_holds e n) → IsTrue (cardinality_holds f n)

counts_step : CountsHold → (n : ℕ) (o p : Option Element) → IsTrue (is_answered cardinality_narrower o p) → IsTrue (option_map_or (λ e. are_enough e n) o true)
    → IsTrue (option_map_or (λ e. are_within e n) o true)
    → IsTrue (option_map_or (λ e. are_enough e n) p true) × IsTrue (option_map_or (λ e. are_within e n) p true)
counts_step hold n o None answers few many = (refl, refl)
counts_step hold n None (Some f) answers few many = absurd (false≢true answers)
counts_step hold n (Some e) (Some f) answers few many =
    and_parts (are_enough f n) (are_within f n) (hold e f n answers (and_from (are_enough e n) (are_within e n) few many))

-- slices that are told apart by the same have the same items
abbrev pub BelongAlike : SchemaValue → Type 0
BelongAlike s = (n k : NodeRef) (x : Item) → IsTrue (same_criteria s n k) → belongs s (criteria s n) x ≡ belongs s (criteria s k) x

module _ (s : SchemaValue) (counts_hold : CountsHold) (alike : BelongAlike s) (pairs : Pair → Bool) where
  -- ---- slices of the base, each with the derived one's

  record Answers (n k : NodeRef) (b a : Slot) : Type 0 where
    found : slice_named s n b.name ≡ Some a
    there : Within a (slices s n)
    named : b.name ≡ a.name
    same : IsTrue (same_criteria s (entry_of n a) (entry_of k b))
    counted : IsTrue (elements_answer cardinality_narrower s (entry_of n a) (entry_of k b))
    paired : IsTrue (is_paired pairs s (entry_of n a) (entry_of k b))

  slice_answer : (name : Text) (n k : NodeRef) (b : Slot) → IsTrue (all_hold (slice_rules pairs s name n k b)) → (a : Slot) × Answers n k b a
  slice_answer name n k b = go (slice_named s n b.name) refl
    where
      go : (o : Option Slot) → slice_named s n b.name ≡ o → IsTrue (all_hold (own_slice_rules pairs s name n k b o)) → (a : Slot) × Answers n k b a
      go None e rules = absurd (false≢true rules)
      go (Some a) e rules =
          let by_criteria = and_parts (same_criteria s (entry_of n a) (entry_of k b)) _ rules in
          let by_count = and_parts (elements_answer cardinality_narrower s (entry_of n a) (entry_of k b)) _ by_criteria.1 in
          let by_pair = and_parts (is_paired pairs s (entry_of n a) (entry_of k b)) true by_count.1 in
          let found = found_within (λ slice. bytes_eq b.name slice.name) (slices s n) a e in (
            a,
            record {
              found = e;
              there = found.0;
              named = same_text b.name a.name found.1;
              same = by_criteria.0;
              counted = by_count.0;
              paired = by_pair.0;
            },
          )

  abbrev EachAnswers : NodeRef → NodeRef → Type 0
  EachAnswers n k = (b : Slot) → Within b (slices s k) → (a : Slot) × Answers n k b a

  each_answer : (name : Text) (n k : NodeRef) → IsTrue (all_hold (flat_map (slice_rules pairs s name n k) (slices s k))) → EachAnswers n k
  each_answer name n k rules b there = slice_answer name n k b (flat_at (λ rule. rule.0) (slice_rules pairs s name n k) (slices s k) b there rules)

  -- ---- an item is in no two slices

  apart_answered : (n k : NodeRef) (y : Item) (one other a c : Slot) → Answers n k one a → Answers n k other c
      → IsTrue (bytes_eq a.name c.name || not (is_in s n y a && is_in s n y c))
      → IsTrue (bytes_eq one.name other.name || not (is_in s k y one && is_in s k y other))
  apart_answered n k y one other a c p q apart =
      let in_one : is_in s n y a ≡ is_in s k y one = alike (entry_of n a) (entry_of k one) y p.same in
      let in_other : is_in s n y c ≡ is_in s k y other = alike (entry_of n c) (entry_of k other) y q.same in
      let same : (bytes_eq a.name c.name || not (is_in s n y a && is_in s n y c)) ≡ (bytes_eq one.name other.name || not (is_in s k y one && is_in s k y other)) =
      λ i. bytes_eq (sym p.named i) (sym q.named i) || not (in_one i && in_other i) in
      sym same ∙ apart

  apart_step : (n k : NodeRef) → EachAnswers n k → (y : Item) → IsTrue (is_apart s n y) → IsTrue (is_apart s k y)
  apart_step n k answers y apart =
      all_within (λ one. list_all (λ other. bytes_eq one.name other.name || not (is_in s k y one && is_in s k y other)) (slices s k)) (slices s k)
      (λ one at_one.
      all_within (λ other. bytes_eq one.name other.name || not (is_in s k y one && is_in s k y other)) (slices s k)
      (λ other at_other.
      let p = answers one at_one in
      let q = answers other at_other in
      apart_answered n k y one other p.0 q.0 p.1 q.1
      (at_within (λ c. bytes_eq p.0.name c.name || not (is_in s n y p.0 && is_in s n y c)) (slices s n) q.0 q.1.there
      (at_within (λ a. list_all (λ c. bytes_eq a.name c.name || not (is_in s n y a && is_in s n y c)) (slices s n)) (slices s n) p.0 p.1.there apart))))

  -- ---- the items of a slice

  same_members : (x : Item) (n k : NodeRef) (places : List ℕ) → IsTrue (same_criteria s n k) → members s x n places ≡ members s x k places
  same_members x n k places same = ap (λ test. filter (at_kid false test x) places) (λ i y. alike n k y same i)

  -- a test of the item at a place
  at_kid_step : (x : Item) (p q : Item → Bool) → ((y : Item) → IsTrue (p y) → IsTrue (q y)) → (i : ℕ) → IsTrue (at_kid true p x i) → IsTrue (at_kid true q x i)
  at_kid_step x p q step i = go (kid_at (kids_of x) i)
    where
      go : (o : Option Item) → IsTrue (option_map_or p o true) → IsTrue (option_map_or q o true)
      go None h = refl
      go (Some y) h = step y h

  module _ (m : Meaning) (resource x : Item) (kids : List (NodeRef → Bool)) (roots : NodeRef → Bool) where
    abbrev holds : Ask → Bool
    holds ask = ask_holds s m resource x kids roots ask

    -- each child keeps to the pairs
    abbrev pub ChildrenKeep : Type 0
    ChildrenKeep = (n k : NodeRef) → IsTrue (has_item_pair pairs n k) → (i : ℕ) → IsTrue (get_or kids i (λ n. true) n) → IsTrue (get_or kids i (λ n. true) k)

    count_step : (name : Text) (n k : NodeRef) → IsTrue (elements_answer cardinality_narrower s n k)
        → IsTrue (rule_holds s m resource x (too_few name) n) → IsTrue (rule_holds s m resource x (too_many name) n)
        → IsTrue (rule_holds s m resource x (too_few name) k) × IsTrue (rule_holds s m resource x (too_many name) k)
    count_step name n k = counts_step counts_hold (count_of name x) (element_at s n) (element_at s k)

    -- the two counts of a slice's items
    abbrev CountsIn : Text → NodeRef → Type 0
    CountsIn name n = IsTrue (rule_holds s m resource x (too_few_in name) n) × IsTrue (rule_holds s m resource x (too_many_in name) n)

    count_in_step : (name : Text) (n k : NodeRef) → IsTrue (same_criteria s n k) → IsTrue (elements_answer cardinality_narrower s n k) → CountsIn name n → CountsIn name k
    count_in_step name n k same counted each =
        subst (λ is. IsTrue (option_map_or (λ e. are_enough e (length is)) (element_at s k) true) × IsTrue (option_map_or (λ e. are_within e (length is)) (element_at s k) true))
        (same_members x n k (places_of name x) same)
        (counts_step counts_hold (count_in s n name x) (element_at s n) (element_at s k) counted each.0 each.1)

    -- what a slice asks, in parts
    slice_parts : (name : Text) (n : NodeRef) (a : Slot) → IsTrue (list_all holds (slice_asks s x name (places_of name x) n a))
        → IsTrue (list_all holds (map (child_ask (entry_of n a)) (members s x (entry_of n a) (places_of name x)))) × CountsIn name (entry_of n a)
    slice_parts name n a each =
        let parts = all_append holds (map (child_ask (entry_of n a)) (members s x (entry_of n a) (places_of name x)))
        (own (too_few_in name) (entry_of n a) ∷ own (too_many_in name) (entry_of n a) ∷ []) each in
        let few = and_parts (rule_holds s m resource x (too_few_in name) (entry_of n a)) _ parts.1 in
        let many = and_parts (rule_holds s m resource x (too_many_in name) (entry_of n a)) true few.1 in
        (parts.0, (few.0, many.0))

    slice_from : (name : Text) (k : NodeRef) (b : Slot)
        → IsTrue (list_all holds (map (child_ask (entry_of k b)) (members s x (entry_of k b) (places_of name x)))) → CountsIn name (entry_of k b)
        → IsTrue (list_all holds (slice_asks s x name (places_of name x) k b))
    slice_from name k b each counts =
        all_joined holds (map (child_ask (entry_of k b)) (members s x (entry_of k b) (places_of name x)))
        (own (too_few_in name) (entry_of k b) ∷ own (too_many_in name) (entry_of k b) ∷ []) each
        (and_from (rule_holds s m resource x (too_few_in name) (entry_of k b)) _ counts.0
        (and_from (rule_holds s m resource x (too_many_in name) (entry_of k b)) true counts.1 refl))

    -- ---- the slicing is closed

    -- no item is in a slice where none may be
    not_in_forbidden : (name : Text) (n : NodeRef) (i : ℕ) → IsTrue (is_forbidden_at s n) → IsTrue (rule_holds s m resource x (too_many_in name) n)
        → Within i (places_of name x) → IsTrue (at_kid false (belongs s (criteria s n)) x i) → ⊥
    not_in_forbidden name n i forbidden many there belonging =
        subst (λ is. Within i is) (none_at (element_at s n) (members s x n (places_of name x)) forbidden many)
        (within_kept (at_kid false (belongs s (criteria s n)) x) (places_of name x) i there belonging)

    in_shared : (n k : NodeRef) (y : Item) (a : Slot) → IsTrue (is_shared s n k a) → IsTrue (is_in s n y a) → IsTrue (is_sliced s k y)
    in_shared n k y a shared belonging = go (slice_named s k a.name) refl shared
      where
        go : (o : Option Slot) → slice_named s k a.name ≡ o → IsTrue (option_map_or (λ b. same_criteria s (entry_of n a) (entry_of k b)) o false)
            → IsTrue (is_sliced s k y)
        go None e same = absurd (false≢true same)
        go (Some b) e same =
            within_any (is_in s k y) (slices s k) b (found_within (λ slice. bytes_eq a.name slice.name) (slices s k) b e).0
            (sym (alike (entry_of n a) (entry_of k b) y same) ∙ belonging)

    module _ (name : Text) (n k : NodeRef) where
      abbrev places : List ℕ
      places = places_of name x

      abbrev AsksOfSlices : NodeRef → Type 0
      AsksOfSlices n = IsTrue (list_all holds (flat_map (slice_asks s x name places n) (slices s n)))

      sliced_at : IsTrue (slices_shared s n k) → AsksOfSlices n → (i : ℕ)
          → Within i places → IsTrue (at_kid true (is_sliced s n) x i) → IsTrue (at_kid true (is_sliced s k) x i)
      sliced_at answers each i there = go (kid_at (kids_of x) i) refl
        where
          go : (o : Option Item) → kid_at (kids_of x) i ≡ o → IsTrue (option_map_or (is_sliced s n) o true) → IsTrue (option_map_or (is_sliced s k) o true)
          go None e some = refl
          go (Some y) e some =
              any_within (is_in s n y) (slices s n) (IsTrue (is_sliced s k y))
              (λ a at belonging.
              elim (or_cases (is_forbidden_at s (entry_of n a)) (is_shared s n k a)
              (at_within (λ a. is_forbidden_at s (entry_of n a) || is_shared s n k a) (slices s n) a at answers)) [
                | inl forbidden ↦
                    absurd (not_in_forbidden name (entry_of n a) i forbidden
                    (slice_parts name n a (flat_at holds (slice_asks s x name places n) (slices s n) a at each)).1.1 there
                    (ap (λ o. option_map_or (belongs s (criteria s (entry_of n a))) o false) e ∙ belonging))
                | inr shared ↦ in_shared n k y a shared belonging
              ])
              some

      abbrev closed_asks : NodeRef → List Ask
      closed_asks n = if is_closed s n then map (in_slice_ask n) places else []

      closed_parts : is_empty (slices s k) ≡ false → is_closed s k ≡ true → IsTrue (closed_answers s n k)
          → IsTrue (is_closed s n && slices_shared s n k)
      closed_parts sliced closing answers =
          elim (or_cases (is_empty (slices s k) || not (is_closed s k)) (is_closed s n && slices_shared s n k) answers) [
            | inl free ↦
                elim (or_cases (is_empty (slices s k)) (not (is_closed s k)) free) [
                  | inl none ↦ absurd (false≢true (sym sliced ∙ none))
                  | inr opened ↦ absurd (true≢false (sym closing ∙ not-true (is_closed s k) opened))
                ]
            | inr closes ↦ closes
          ]

      closed_step : is_empty (slices s k) ≡ false → IsTrue (closed_answers s n k) → AsksOfSlices n → IsTrue (list_all holds (closed_asks n))
          → IsTrue (list_all holds (closed_asks k))
      closed_step sliced answers each own_closed = go (is_closed s k) refl
        where
          go : (b : Bool) → is_closed s k ≡ b → IsTrue (list_all holds (if b then map (in_slice_ask k) places else []))
          go false e = refl
          go true e =
              let parts = and_parts (is_closed s n) (slices_shared s n k) (closed_parts sliced e answers) in
              let asked : IsTrue (list_all holds (map (in_slice_ask n) places)) =
              sym (ap (λ b. list_all holds (if b then map (in_slice_ask n) places else [])) parts.0) ∙ own_closed in
              given_all holds (in_slice_ask k) places
              (λ i there. sliced_at parts.1 each i there (given_at holds (in_slice_ask n) places i there asked))

      -- ---- where no items are

      none_of_slice : places ≡ [] → (b : Slot) → IsTrue (empty_slice_rule s name k b).0 → IsTrue (list_all holds (slice_asks s x name places k b))
      none_of_slice none b enough =
          let no_members : members s x (entry_of k b) places ≡ [] = ap (λ is. members s x (entry_of k b) is) none in
          slice_from name k b
          (subst (λ is. IsTrue (list_all holds (map (child_ask (entry_of k b)) is))) (sym no_members) refl) (
            subst (λ is. IsTrue (option_map_or (λ e. are_enough e (length is)) (element_at s (entry_of k b)) true)) (sym no_members) enough,
            subst (λ is. IsTrue (option_map_or (λ e. are_within e (length is)) (element_at s (entry_of k b)) true)) (sym no_members) (none_within (element_at s (entry_of k b))),
          )

      abbrev asks_of_slicing : NodeRef → List Ask
      asks_of_slicing n = map (apart_ask n) places ++ (flat_map (slice_asks s x name places n) (slices s n) ++ (closed_asks n ++ sequence_asks s x n places))

      slicing_from : (n : NodeRef) → IsTrue (list_all holds (map (apart_ask n) places)) → AsksOfSlices n → IsTrue (list_all holds (closed_asks n))
          → IsTrue (list_all holds (sequence_asks s x n places)) → IsTrue (list_all holds (sliced_asks s x name places n))
      slicing_from n of_apart of_slices of_closed of_sequence = go (is_empty (slices s n))
        where
          go : (b : Bool) → IsTrue (list_all holds (if b then [] else asks_of_slicing n))
          go true = refl
          go false =
              all_joined holds (map (apart_ask n) places) (flat_map (slice_asks s x name places n) (slices s n) ++ (closed_asks n ++ sequence_asks s x n places)) of_apart
              (all_joined holds (flat_map (slice_asks s x name places n) (slices s n)) (closed_asks n ++ sequence_asks s x n places) of_slices
              (all_joined holds (closed_asks n) (sequence_asks s x n places) of_closed of_sequence))

      nowhere : places ≡ [] → (f : ℕ → Ask) → IsTrue (list_all holds (map f places))
      nowhere none f = ap (λ is. list_all holds (map f is)) none

      none_closed : places ≡ [] → IsTrue (list_all holds (closed_asks k))
      none_closed none = go (is_closed s k)
        where
          go : (b : Bool) → IsTrue (list_all holds (if b then map (in_slice_ask k) places else []))
          go true = nowhere none (in_slice_ask k)
          go false = refl

      none_in_order : (m : NodeRef) → IsTrue (list_all holds (sequence_asks s x m []))
      none_in_order m = go (is_ordered s m) (is_open_at_end s m)
        where
          go : (b c : Bool) → IsTrue (list_all holds ((if b then order_asks s x m [] [] else []) ++ (if c then map (rest_ask m) (behind_rest s x m []) else [])))
          go true true = refl
          go true false = refl
          go false true = refl
          go false false = refl

      none_sequence : places ≡ [] → IsTrue (list_all holds (sequence_asks s x k places))
      none_sequence none = ap (λ is. list_all holds (sequence_asks s x k is)) none ∙ none_in_order k

      none_sliced : places ≡ [] → IsTrue (all_hold (map (empty_slice_rule s name k) (slices s k))) → IsTrue (list_all holds (sliced_asks s x name places k))
      none_sliced none rules =
          slicing_from k (nowhere none (apart_ask k))
          (flat_all holds (slice_asks s x name places k) (slices s k)
          (λ b there. none_of_slice none b (given_at (λ rule. rule.0) (empty_slice_rule s name k) (slices s k) b there rules)))
          (none_closed none) (none_sequence none)

      -- ---- where some may be

      module _ (keep : ChildrenKeep) where
        paired_children : (n k : NodeRef) (is : List ℕ) → IsTrue (is_paired pairs s n k) → IsTrue (option_map_or (λ e. are_within e (length is)) (element_at s n) true)
            → IsTrue (list_all holds (map (child_ask n) is)) → IsTrue (list_all holds (map (child_ask k) is))
        paired_children n k is paired many each =
            elim (or_cases (is_forbidden_at s n) (has_item_pair pairs n k) paired) [
              | inl forbidden ↦ ap (λ is. list_all holds (map (child_ask k) is)) (none_at (element_at s n) is forbidden many)
              | inr pair ↦ all_moved (child_ask n) (child_ask k) holds (λ i. keep n k pair i) is each
            ]

        slice_step : (b a : Slot) → Answers n k b a → IsTrue (list_all holds (slice_asks s x name places n a)) → IsTrue (list_all holds (slice_asks s x name places k b))
        slice_step b a answers each =
            let parts = slice_parts name n a each in
            slice_from name k b
            (subst (λ is. IsTrue (list_all holds (map (child_ask (entry_of k b)) is))) (same_members x (entry_of n a) (entry_of k b) places answers.same)
            (paired_children (entry_of n a) (entry_of k b) (members s x (entry_of n a) places) answers.paired parts.1.1 parts.0))
            (count_in_step name (entry_of n a) (entry_of k b) answers.same answers.counted parts.1)

        -- where the base's element has slices, so has the derived one
        is_sliced_too : EachAnswers n k → is_empty (slices s k) ≡ false → is_empty (slices s n) ≡ false
        is_sliced_too answers sliced =
            let some = some_within (slices s k) sliced in
            let answer = answers some.0 some.1 in
            within_some answer.0 (slices s n) answer.1.there

        -- the items stand to one another as the base says too
        each_own : EachAnswers n k → EachOwn s alike n k
        each_own answers b there = let answer = answers b there in (answer.0, answer.1.found, answer.1.same)

        child_at : (i : ℕ) → Within i places → (y : Item) × (kid_at (kids_of x) i ≡ Some y)
        child_at i there =
            let c = child_there 0 name (kids_of x) i there in
            let at : i ≡ c.0 = omega (arith, c.1) in
            (c.2, ap (λ j. kid_at (kids_of x) j) at ∙ c.3)

        apart_at : IsTrue (list_all holds (map (apart_ask n) places)) → (i : ℕ) (y : Item) → Within i places → kid_at (kids_of x) i ≡ Some y
            → IsTrue (is_apart s n y)
        apart_at each i y there e = sym (ap (λ o. option_map_or (is_apart s n) o true) e) ∙ given_at holds (apart_ask n) places i there each

        live_at : AsksOfSlices n → (i : ℕ) (y : Item) → Within i places → kid_at (kids_of x) i ≡ Some y → (c : Slot) → slice_of s n y ≡ Some c
            → IsTrue (is_live s n c)
        live_at each i y there e c is = go (is_forbidden_at s (entry_of n c)) refl
          where
            go : (b : Bool) → is_forbidden_at s (entry_of n c) ≡ b → IsTrue (not b)
            go false allowed = refl
            go true forbidden =
                let found = found_within (is_in s n y) (slices s n) c is in
                absurd (not_in_forbidden name (entry_of n c) i forbidden
                (slice_parts name n c (flat_at holds (slice_asks s x name places n) (slices s n) c found.0 each)).1.1 there
                (ap (λ o. option_map_or (belongs s (criteria s (entry_of n c))) o false) e ∙ found.1))

        closed_at : IsTrue (list_all holds (closed_asks n)) → (i : ℕ) (y : Item) → Within i places → kid_at (kids_of x) i ≡ Some y → IsTrue (is_closed s n)
            → IsTrue (is_sliced s n y)
        closed_at each i y there e closes =
            let asked : IsTrue (list_all holds (map (in_slice_ask n) places)) =
            sym (ap (λ b. list_all holds (if b then map (in_slice_ask n) places else [])) closes) ∙ each in
            sym (ap (λ o. option_map_or (is_sliced s n) o true) e) ∙ given_at holds (in_slice_ask n) places i there asked

        sliced_step : IsTrue (all_hold (flat_map (slice_rules pairs s name n k) (slices s k))) → IsTrue (all_hold (slicing_rules s name n k))
            → IsTrue (list_all holds (sliced_asks s x name places n)) → IsTrue (list_all holds (sliced_asks s x name places k))
        sliced_step rules closes each = go (is_empty (slices s k)) refl
          where
            go : (b : Bool) → is_empty (slices s k) ≡ b → IsTrue (list_all holds (if b then [] else asks_of_slicing k))
            go true e = refl
            go false e =
                let answers = each_answer name n k rules in
                let asked : IsTrue (list_all holds (asks_of_slicing n)) =
                sym (ap (λ b. list_all holds (if b then [] else asks_of_slicing n)) (is_sliced_too answers e)) ∙ each in
                let of_closed = and_parts (closed_answers s n k) _ closes in
                let of_order = and_parts (ordered_narrower s n k) _ of_closed.1 in
                let of_end = and_parts (end_answers s n k) true of_order.1 in
                let of_apart = all_append holds (map (apart_ask n) places) (flat_map (slice_asks s x name places n) (slices s n) ++ (closed_asks n ++ sequence_asks s x n places)) asked in
                let of_slices = all_append holds (flat_map (slice_asks s x name places n) (slices s n)) (closed_asks n ++ sequence_asks s x n places) of_apart.1 in
                let of_rest = all_append holds (closed_asks n) (sequence_asks s x n places) of_slices.1 in
                all_joined holds (map (apart_ask k) places) (flat_map (slice_asks s x name places k) (slices s k) ++ (closed_asks k ++ sequence_asks s x k places))
                (all_moved (apart_ask n) (apart_ask k) holds (at_kid_step x (is_apart s n) (is_apart s k) (apart_step n k answers)) places of_apart.0)
                (all_joined holds (flat_map (slice_asks s x name places k) (slices s k)) (closed_asks k ++ sequence_asks s x k places)
                (flat_all holds (slice_asks s x name places k) (slices s k)
                (λ b there.
                let answer = answers b there in
                slice_step b answer.0 answer.1 (flat_at holds (slice_asks s x name places n) (slices s n) answer.0 answer.1.there of_slices.0)))
                (all_joined holds (closed_asks k) (sequence_asks s x k places) (closed_step e of_closed.0 of_slices.0 of_rest.0)
                (sequence_step s alike n k (each_own answers) x places holds (λ m j i. refl) (λ m i. refl) child_at (apart_at of_apart.0) (live_at of_slices.0) (closed_at of_rest.0)
                e of_order.0 of_end.0 of_rest.1)))

        -- ---- the items of a slot

        abbrev items_asks : NodeRef → List Ask
        items_asks n = map (child_ask n) places ++ sliced_asks s x name places n

        allowed_step : IsTrue (all_hold ((has_item_pair pairs n k, entry name) ∷ flat_map (slice_rules pairs s name n k) (slices s k) ++ slicing_rules s name n k))
            → IsTrue (list_all holds (items_asks n)) → IsTrue (list_all holds (items_asks k))
        allowed_step rules each =
            let pair = and_parts (has_item_pair pairs n k) _ rules in
            let of_slices = all_append (λ rule. rule.0) (flat_map (slice_rules pairs s name n k) (slices s k)) (slicing_rules s name n k) pair.1 in
            let parts = all_append holds (map (child_ask n) places) (sliced_asks s x name places n) each in
            all_joined holds (map (child_ask k) places) (sliced_asks s x name places k)
            (all_moved (child_ask n) (child_ask k) holds (λ i. keep n k pair.0 i) places parts.0)
            (sliced_step of_slices.0 of_slices.1 parts.1)

        items_step : IsTrue (all_hold (entry_rules pairs s name n k)) → IsTrue (rule_holds s m resource x (too_many name) n)
            → IsTrue (list_all holds (items_asks n)) → IsTrue (list_all holds (items_asks k))
        items_step rules many each = go (is_forbidden_at s n) refl rules
          where
            go : (b : Bool) → is_forbidden_at s n ≡ b
                → IsTrue (all_hold (if b then map (empty_slice_rule s name k) (slices s k)
                else (has_item_pair pairs n k, entry name) ∷ flat_map (slice_rules pairs s name n k) (slices s k) ++ slicing_rules s name n k))
                → IsTrue (list_all holds (items_asks k))
            go true forbidden rules =
                let none = none_at (element_at s n) places forbidden many in
                all_joined holds (map (child_ask k) places) (sliced_asks s x name places k) (nowhere none (child_ask k)) (none_sliced none rules)
            go false allowed rules = allowed_step rules each

        -- what a slot of that name asks, where its items are as the node says
        pub named_step : IsTrue (elements_answer cardinality_narrower s n k && all_hold (entry_rules pairs s name n k))
            → IsTrue (list_all holds (named_asks s x name places n)) → IsTrue (list_all holds (named_asks s x name places k))
        named_step rules each =
            let r = and_parts (elements_answer cardinality_narrower s n k) (all_hold (entry_rules pairs s name n k)) rules in
            let few = and_parts (rule_holds s m resource x (too_few name) n) _ each in
            let many = and_parts (rule_holds s m resource x (too_many name) n) _ few.1 in
            let counts = count_step name n k r.0 few.0 many.0 in
            and_from (rule_holds s m resource x (too_few name) k) _ counts.0
            (and_from (rule_holds s m resource x (too_many name) k) _ counts.1 (items_step r.1 many.0 many.1))
