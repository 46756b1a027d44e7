-- What is asked of children by their positions is asked of them.
use Rattle.std.proofs.Common.{◌≡◌, ◌+◌, ℕ, zero, suc, Bool, true, false, cond, not, List, [], ◌∷◌, ◌++◌, map, filter, length, get_or, Option, None, Some, is_some, is_none, refl, sym, ap, ap₂, ◌∙◌, subst, ◌&&◌, ◌||◌, arith}
use Rattle.std.specs.List.{list_all, flat_map}
use Rattle.std.specs.Option.{option_map, option_map_or, option_and_then}
use Rattle.std.specs.Str.{bytes_eq}
use Rattle.std.proofs.lemmas.Bool.{true≢false, false≢true}
use Rattle.std.proofs.lemmas.Option.{none-some, same_Some}
use Rattle.std.proofs.lemmas.List.Folds.{list_all-append}
use Rattle.fhir_json.specs.Tree.{Text}
use Rattle.fhir_json.specs.Bytes.{is_empty}
use Rattle.fhir_nodes.specs.declared.node.NodeRef.{NodeRef}
use Rattle.fhir_nodes.specs.Slots.{Slot}
use Rattle.fhir_schema.specs.Schemas.{SchemaValue, slots, slices, criteria, entry_of, is_closed, holder}
use Rattle.fhir_instance.specs.Items.{Item, Kids, no_kids, kid, kids_of}
use Rattle.fhir_facets.specs.Cardinality.{are_enough, are_within}
use Rattle.fhir_facets.specs.Order.{may_follow, are_in_order, is_rest_last, is_ordered, is_open_at_end}
use Rattle.fhir_facets.proofs.KeptOrder.{mapped_pairs}
use Rattle.fhir_slicing.specs.Belonging.{belongs, slice_of, is_apart, is_sliced}
use Rattle.fhir_conformance.specs.Positions.{kid_at, at_kid, slice_place}
use Rattle.fhir_conformance.proofs.Sequenced.{order_is, rest_is}
use Rattle.fhir_conformance.specs.Asks.{Ask, own, too_few_in, too_many_in, places_from, places_of, child_ask, apart_ask, in_slice_ask, order_asks, rest_ask, behind_rest, sequence_asks, slice_asks, sliced_asks, named_asks, slot_asks, slots_ask, kids_asks}
use Rattle.fhir_conformance.specs.Conformance.{Interpretation, Around, inside, below, at_element, conforms, kid_tests, ask_conforms}
use Rattle.further_laws.specs.Children.{Child, children_from, child_conforms, slice_holds, slice_places, sequence_holds, slices_hold, element_holds, slot_holds, slots_hold}

-- ---- lists

all_mapped : {A B : Type 0} (p : B → Bool) (f : A → B) (xs : List A) → list_all p (map f xs) ≡ list_all (λ x. p (f x)) xs
all_mapped p f [] = refl
all_mapped p f (x ∷ xs) = ap (λ b. p (f x) && b) (all_mapped p f xs)

all_gathered : {A B : Type 0} (p : B → Bool) (f : A → List B) (xs : List A) → list_all p (flat_map f xs) ≡ list_all (λ x. list_all p (f x)) xs
all_gathered p f [] = refl
all_gathered p f (x ∷ xs) = list_all-append p (f x) (flat_map f xs) ∙ ap (λ b. list_all p (f x) && b) (all_gathered p f xs)

all_alike : {A : Type 0} (p q : A → Bool) → ((x : A) → p x ≡ q x) → (xs : List A) → list_all p xs ≡ list_all q xs
all_alike p q same [] = refl
all_alike p q same (x ∷ xs) = ap₂ (λ a b. a && b) (same x) (all_alike p q same xs)

-- ---- positions and children

module _ (around : Around) (name : Text) where
  abbrev child : ℕ → Item → Child
  child i x = record { itself = x; around = below around i }

  -- a test of positions is one of the children at them, whose positions begin at a number
  abbrev Agree : {A : Type 0} → (ℕ → A) → (Child → A) → ℕ → Kids → Type 0
  Agree p q i kids = (j : ℕ) (x : Item) → kid_at kids j ≡ Some x → p (i + j) ≡ q (child (i + j) x)

  agree_here : {A : Type 0} (p : ℕ → A) (q : Child → A) (i : ℕ) (other : Text) (x : Item) (kids : Kids) → Agree p q i (kid other x kids) → p i ≡ q (child i x)
  agree_here p q i other x kids agree =
      let e : i + 0 ≡ i = omega arith in subst (λ k. p k ≡ q (child k x)) e (agree 0 x refl)

  agree_behind : {A : Type 0} (p : ℕ → A) (q : Child → A) (i : ℕ) (other : Text) (x : Item) (kids : Kids) → Agree p q i (kid other x kids) → Agree p q (suc i) kids
  agree_behind p q i other x kids agree j y e =
      let next : i + suc j ≡ suc i + j = omega arith in subst (λ k. p k ≡ q (child k y)) next (agree (suc j) y e)

  all_children : (p : ℕ → Bool) (q : Child → Bool) (i : ℕ) (kids : Kids) → Agree p q i kids
      → list_all p (places_from i name kids) ≡ list_all q (children_from around i name kids)
  all_children p q i no_kids agree = refl
  all_children p q i (kid other x kids) agree =
      by (bytes_eq name other) (all_children p q (suc i) kids (agree_behind p q i other x kids agree))
    where
      by : (b : Bool) → list_all p (places_from (suc i) name kids) ≡ list_all q (children_from around (suc i) name kids)
          → list_all p (cond b (i ∷ places_from (suc i) name kids) (places_from (suc i) name kids))
          ≡ list_all q (cond b (child i x ∷ children_from around (suc i) name kids) (children_from around (suc i) name kids))
      by true more = ap₂ (λ a b. a && b) (agree_here p q i other x kids agree) more
      by false more = more

  -- what is given by positions is given by the children at them
  map_children : {A : Type 0} (p : ℕ → A) (q : Child → A) (i : ℕ) (kids : Kids) → Agree p q i kids
      → map p (places_from i name kids) ≡ map q (children_from around i name kids)
  map_children p q i no_kids agree = refl
  map_children {A} p q i (kid other x kids) agree =
      by (bytes_eq name other) (map_children p q (suc i) kids (agree_behind p q i other x kids agree))
    where
      by : (b : Bool) → map p (places_from (suc i) name kids) ≡ map q (children_from around (suc i) name kids)
          → map p (cond b (i ∷ places_from (suc i) name kids) (places_from (suc i) name kids))
          ≡ map q (cond b (child i x ∷ children_from around (suc i) name kids) (children_from around (suc i) name kids))
      by true more = ap₂ (λ (y : A) ys. y ∷ ys) (agree_here p q i other x kids agree) more
      by false more = more

  count_children : (i : ℕ) (kids : Kids) → length (places_from i name kids) ≡ length (children_from around i name kids)
  count_children i no_kids = refl
  count_children i (kid other x kids) = by (bytes_eq name other) (count_children (suc i) kids)
    where
      by : (b : Bool) → length (places_from (suc i) name kids) ≡ length (children_from around (suc i) name kids)
          → length (cond b (i ∷ places_from (suc i) name kids) (places_from (suc i) name kids))
          ≡ length (cond b (child i x ∷ children_from around (suc i) name kids) (children_from around (suc i) name kids))
      by true more = ap suc more
      by false more = more

  module _ (p : ℕ → Bool) (q : Child → Bool) where
    all_some : (f : ℕ → Bool) (g : Child → Bool) (i : ℕ) (kids : Kids) → Agree p q i kids → Agree f g i kids
        → list_all f (filter p (places_from i name kids)) ≡ list_all g (filter q (children_from around i name kids))
    all_some f g i no_kids agree also = refl
    all_some f g i (kid other x kids) agree also =
        by (bytes_eq name other) (all_some f g (suc i) kids (agree_behind p q i other x kids agree) (agree_behind f g i other x kids also))
      where
        one : (b c : Bool) → b ≡ c → list_all f (filter p (places_from (suc i) name kids)) ≡ list_all g (filter q (children_from around (suc i) name kids))
            → list_all f (cond b (i ∷ filter p (places_from (suc i) name kids)) (filter p (places_from (suc i) name kids)))
            ≡ list_all g (cond c (child i x ∷ filter q (children_from around (suc i) name kids)) (filter q (children_from around (suc i) name kids)))
        one true true e more = ap₂ (λ a b. a && b) (agree_here f g i other x kids also) more
        one true false e more = absurd (true≢false e)
        one false true e more = absurd (false≢true e)
        one false false e more = more

        by : (b : Bool) → list_all f (filter p (places_from (suc i) name kids)) ≡ list_all g (filter q (children_from around (suc i) name kids))
            → list_all f (filter p (cond b (i ∷ places_from (suc i) name kids) (places_from (suc i) name kids)))
            ≡ list_all g (filter q (cond b (child i x ∷ children_from around (suc i) name kids) (children_from around (suc i) name kids)))
        by true more = one (p i) (q (child i x)) (agree_here p q i other x kids agree) more
        by false more = more

    count_some : (i : ℕ) (kids : Kids) → Agree p q i kids
        → length (filter p (places_from i name kids)) ≡ length (filter q (children_from around i name kids))
    count_some i no_kids agree = refl
    count_some i (kid other x kids) agree = by (bytes_eq name other) (count_some (suc i) kids (agree_behind p q i other x kids agree))
      where
        one : (b c : Bool) → b ≡ c → length (filter p (places_from (suc i) name kids)) ≡ length (filter q (children_from around (suc i) name kids))
            → length (cond b (i ∷ filter p (places_from (suc i) name kids)) (filter p (places_from (suc i) name kids)))
            ≡ length (cond c (child i x ∷ filter q (children_from around (suc i) name kids)) (filter q (children_from around (suc i) name kids)))
        one true true e more = ap suc more
        one true false e more = absurd (true≢false e)
        one false true e more = absurd (false≢true e)
        one false false e more = more

        by : (b : Bool) → length (filter p (places_from (suc i) name kids)) ≡ length (filter q (children_from around (suc i) name kids))
            → length (filter p (cond b (i ∷ places_from (suc i) name kids) (places_from (suc i) name kids)))
            ≡ length (filter q (cond b (child i x ∷ children_from around (suc i) name kids) (children_from around (suc i) name kids)))
        by true more = one (p i) (q (child i x)) (agree_here p q i other x kids agree) more
        by false more = more

-- ---- what is asked of them

tests_at : (s : SchemaValue) (meaning : Interpretation) (around : Around) (n : NodeRef) (i : ℕ) (kids : Kids) (j : ℕ) (x : Item) → kid_at kids j ≡ Some x
    → get_or (kid_tests s meaning around i kids) j (λ n. true) n ≡ conforms s meaning (below around (i + j)) x n
tests_at s meaning around n i no_kids j x e = absurd (none-some x e)
tests_at s meaning around n i (kid name y kids) zero x e =
    let here : i ≡ i + 0 = omega arith in
    ap (λ z. conforms s meaning (below around i) z n) (same_Some y x e) ∙ ap (λ k. conforms s meaning (below around k) x n) here
tests_at s meaning around n i (kid name y kids) (suc j) x e =
    let next : suc i + j ≡ i + suc j = omega arith in
    tests_at s meaning around n (suc i) kids j x e ∙ ap (λ k. conforms s meaning (below around k) x n) next

module _ (s : SchemaValue) (meaning : Interpretation) (around : Around) (x : Item) (name : Text) where
  abbrev within : Around
  within = inside s around x

  abbrev places : List ℕ
  places = places_of name x

  abbrev children : List Child
  children = children_from within 0 name (kids_of x)

  abbrev holds : Ask → Bool
  holds ask = ask_conforms s meaning around x ask

  -- a test of the children is one of those at these positions
  at_position : (otherwise : Bool) (test : Item → Bool) (j : ℕ) (y : Item) → kid_at (kids_of x) j ≡ Some y → at_kid otherwise test x (0 + j) ≡ test y
  at_position otherwise test j y e =
      let same : 0 + j ≡ j = omega arith in
      ap (λ k. option_map_or test (kid_at (kids_of x) k) otherwise) same ∙ ap (λ o. option_map_or test o otherwise) e

  conforming : (n : NodeRef) (j : ℕ) (y : Item) → kid_at (kids_of x) j ≡ Some y
      → holds (child_ask n (0 + j)) ≡ conforms s meaning (below within (0 + j)) y n
  conforming n j y e =
      let same : 0 + j ≡ j = omega arith in
      ap (λ k. get_or (kid_tests s meaning within 0 (kids_of x)) k (λ n. true) n) same ∙ tests_at s meaning within n 0 (kids_of x) j y e

  counted : length places ≡ length children
  counted = count_children within name 0 (kids_of x)

  each_conforms : (n : NodeRef) → list_all holds (map (child_ask n) places) ≡ list_all (child_conforms s meaning n) children
  each_conforms n =
      all_mapped holds (child_ask n) places
      ∙ all_children within name (λ k. holds (child_ask n k)) (child_conforms s meaning n) 0 (kids_of x) (conforming n)

  each_apart : (n : NodeRef) → list_all holds (map (apart_ask n) places) ≡ list_all (λ (c : Child). is_apart s n c.itself) children
  each_apart n =
      all_mapped holds (apart_ask n) places
      ∙ all_children within name (λ k. holds (apart_ask n k)) (λ c. is_apart s n c.itself) 0 (kids_of x) (at_position true (is_apart s n))

  each_in_one : (n : NodeRef) → list_all holds (map (in_slice_ask n) places) ≡ list_all (λ (c : Child). is_sliced s n c.itself) children
  each_in_one n =
      all_mapped holds (in_slice_ask n) places
      ∙ all_children within name (λ k. holds (in_slice_ask n k)) (λ c. is_sliced s n c.itself) 0 (kids_of x) (at_position true (is_sliced s n))

  -- ---- how they stand

  abbrev place : NodeRef → ℕ → Option ℕ
  place n i = slice_place s x n i

  abbrev their_places : NodeRef → List (Option ℕ)
  their_places n = slice_places s meaning n children

  placed : (n : NodeRef) → map (place n) places ≡ their_places n
  placed n =
      map_children within name (place n) (λ c. option_map (λ slice. slice.entry) (slice_of s n c.itself)) 0 (kids_of x)
      (λ j y e.
      let same : 0 + j ≡ j = omega arith in
      ap (place n) same ∙ ap (λ o. option_map (λ slice. slice.entry) (option_and_then (slice_of s n) o)) e)

  in_sequence : (n : NodeRef) → list_all holds (sequence_asks s x n places) ≡ sequence_holds s meaning children n
  in_sequence n =
      list_all-append holds (cond (is_ordered s n) (order_asks s x n [] places) []) (cond (is_open_at_end s n) (map (rest_ask n) (behind_rest s x n places)) [])
      ∙ ap₂ (λ a b. a && b) (ordered (is_ordered s n)) (at_end (is_open_at_end s n))
    where
      ordered : (b : Bool) → list_all holds (cond b (order_asks s x n [] places) []) ≡ (not b || are_in_order (their_places n))
      ordered true = order_is s x n holds (λ j i. refl) places ∙ sym (mapped_pairs may_follow (place n) places) ∙ ap are_in_order (placed n)
      ordered false = refl

      at_end : (b : Bool) → list_all holds (cond b (map (rest_ask n) (behind_rest s x n places)) []) ≡ (not b || is_rest_last (their_places n))
      at_end true =
          rest_is s x n holds (λ i. refl) places
          ∙ sym (mapped_pairs (λ p q. not (is_none p && is_some q)) (place n) places)
          ∙ ap is_rest_last (placed n)
      at_end false = refl

  abbrev belonging : NodeRef → Child → Bool
  belonging m c = belongs s (criteria s m) c.itself

  of_slice : (n : NodeRef) (slice : Slot) → list_all holds (slice_asks s x name places n slice) ≡ slice_holds s meaning children n slice
  of_slice n slice =
      let m = entry_of n slice in
      let among = at_kid false (belongs s (criteria s m)) x in
      let some = filter among places in
      let count : length some ≡ length (filter (belonging m) children) =
      count_some within name among (belonging m) 0 (kids_of x) (at_position false (belongs s (criteria s m))) in
      list_all-append holds (map (child_ask m) some) (own (too_few_in name) m ∷ own (too_many_in name) m ∷ [])
      ∙ ap₂ (λ a b. a && b)
      (all_mapped holds (child_ask m) some
      ∙ all_some within name among (belonging m) (λ k. holds (child_ask m k)) (child_conforms s meaning m) 0 (kids_of x)
      (at_position false (belongs s (criteria s m))) (conforming m))
      (ap (λ k. at_element s (λ e. are_enough e k) m && (at_element s (λ e. are_within e k) m && true)) count
      ∙ whole (at_element s (λ e. are_enough e (length (filter (belonging m) children))) m) (at_element s (λ e. are_within e (length (filter (belonging m) children))) m))
    where
      whole : (a b : Bool) → a && (b && true) ≡ a && b
      whole true true = refl
      whole true false = refl
      whole false b = refl

  of_slices : (n : NodeRef) → list_all holds (sliced_asks s x name places n) ≡ slices_hold s meaning children n
  of_slices n = by (is_empty (slices s n)) (is_closed s n)
    where
      closing : (c : Bool) → list_all holds (cond c (map (in_slice_ask n) places) []) ≡ (not c || list_all (λ (d : Child). is_sliced s n d.itself) children)
      closing true = each_in_one n
      closing false = refl

      by : (none c : Bool)
          → list_all holds (cond none [] (map (apart_ask n) places ++ (flat_map (slice_asks s x name places n) (slices s n) ++ (cond c (map (in_slice_ask n) places) [] ++ sequence_asks s x n places))))
          ≡ (none || (list_all (λ (d : Child). is_apart s n d.itself) children
          && (list_all (slice_holds s meaning children n) (slices s n) && ((not c || list_all (λ (d : Child). is_sliced s n d.itself) children) && sequence_holds s meaning children n))))
      by true c = refl
      by false c =
          let last = cond c (map (in_slice_ask n) places) [] in
          let each = flat_map (slice_asks s x name places n) (slices s n) in
          list_all-append holds (map (apart_ask n) places) (each ++ (last ++ sequence_asks s x n places))
          ∙ ap₂ (λ a b. a && b) (each_apart n)
          (list_all-append holds each (last ++ sequence_asks s x n places)
          ∙ ap₂ (λ a b. a && b)
          (all_gathered holds (slice_asks s x name places n) (slices s n)
          ∙ all_alike (λ slice. list_all holds (slice_asks s x name places n slice)) (slice_holds s meaning children n) (of_slice n) (slices s n))
          (list_all-append holds last (sequence_asks s x n places) ∙ ap₂ (λ a b. a && b) (closing c) (in_sequence n)))

  of_name : (n : NodeRef) → list_all holds (named_asks s x name places n) ≡ element_holds s meaning children n
  of_name n =
      let more = map (child_ask n) places ++ sliced_asks s x name places n in
      ap₂ (λ k b. at_element s (λ e. are_enough e k) n && (at_element s (λ e. are_within e k) n && b)) counted
      (list_all-append holds (map (child_ask n) places) (sliced_asks s x name places n)
      ∙ ap₂ (λ a b. a && b) (each_conforms n) (of_slices n))
      ∙ regroup (at_element s (λ e. are_enough e (length children)) n) (at_element s (λ e. are_within e (length children)) n)
      (list_all (child_conforms s meaning n) children && slices_hold s meaning children n)
    where
      regroup : (a b c : Bool) → a && (b && c) ≡ (a && b) && c
      regroup true b c = refl
      regroup false b c = refl

pub by_name : (s : SchemaValue) (meaning : Interpretation) (around : Around) (x : Item) (n : NodeRef)
    → list_all (ask_conforms s meaning around x) (kids_asks s x n) ≡ slots_hold s meaning around x n
by_name s meaning around x n = by (holder s n)
  where
    by : (o : Option NodeRef) → list_all (ask_conforms s meaning around x) (option_map_or (slots_ask s x) o [])
        ≡ option_map_or (λ h. list_all (slot_holds s meaning around x h) (slots s h)) o true
    by None = refl
    by (Some h) =
        all_gathered (ask_conforms s meaning around x) (slot_asks s x h) (slots s h)
        ∙ all_alike (λ slot. list_all (ask_conforms s meaning around x) (slot_asks s x h slot)) (slot_holds s meaning around x h)
        (λ slot. of_name s meaning around x slot.name (entry_of h slot)) (slots s h)
