-- Equal values have one key.
use Rattle.std.proofs.Common.{◌≡◌, ℕ, Bool, true, false, List, [], ◌∷◌, ◌++◌, map, codes, Option, Some, None, refl, sym, ap, ap₂, ◌∙◌}
use Rattle.std.specs.Prelude.{if◌then◌else◌, decimal}
use Rattle.std.specs.Option.{option_map}
use Rattle.std.specs.declared.cmp.Ordering.{Ordering}
use Rattle.std.specs.declared.cmp.Ordering.TheVariants.{Less, Equal, Greater}
use Rattle.std.specs.Cmp.Lexicographic.{slice_cmp}
use Rattle.std.specs.List.{AllByRecursion}
use Rattle.std.specs.Ordering.{is_lt, is_eq, nat_cmp, partial_ordering_then}
use Rattle.std.specs.Str.{bytes_eq}
use Rattle.std.proofs.lemmas.Slice.Eq.{bytes_eq-Decides}
use Rattle.std.proofs.lemmas.Map.Lookups.{exact_unsigned}
use Rattle.fhir_json.specs.Tree.{Text}
use Rattle.fhir_decimal.specs.Value.{Value, value_order, is_same_value}
use Rattle.fhir_prims.specs.Order.{Fields, field_order, moment_order}
use Rattle.fhir_number_keys.proofs.Signed.{keys_right}
use Rattle.fhir_instance.specs.Items.{Item, item, Kids, no_kids, kid, Named, kids_in, type_of, kids_of}
use Rattle.fhir_fp_values.specs.Values.{Plain, node, truth, number, text, SystemValue, boolean_of, number_of, string_of, moment_of, time_of, item_value, system_value}
use Rattle.fhir_fp_values.specs.Equality.{Kleene, same_truth, same_system_value, same_said, if_same, sides_named, items_named, in_turn, by_name, sides_of, equal, same_node, alike}
use Rattle.fhir_fp_values.specs.Pairing.{Ascends}
use Rattle.fhir_fp_values.specs.Keys.{measured, truth_key, field_key, second_key, moment_key, said_key, key_said, Keyed, in_order, written, parts_key, item_key, keyed_kids, node_key, key_of}
use Rattle.fhir_fp_values.proofs.ByName.{both_true, of_names}
use Rattle.fhir_fp_values.proofs.Ordered.{under, Rises, order_is, order_one}

pub item_key_out : (x : Item) → item_key x ≡ key_said (item_value x) (parts_key (type_of x) (keyed_kids (kids_of x)))
item_key_out (item type json ks) = refl

-- ---- what values say

truth_one : (a b : Bool) → same_truth a b ≡ true → truth_key a ≡ truth_key b
truth_one true true h = refl
truth_one true false h = absurd cc
truth_one false true h = absurd cc
truth_one false false h = refl

-- an order that is decided, and what it is
equal_first : (p q : Option Ordering) → option_map is_eq (partial_ordering_then p q) ≡ Some true → (p ≡ Some Equal) × (option_map is_eq q ≡ Some true)
equal_first (Some Less) q h = absurd cc
equal_first (Some Equal) q h = (refl, h)
equal_first (Some Greater) q h = absurd cc
equal_first None q h = absurd cc

field_one : (a b : Option ℕ) → field_order nat_cmp a b ≡ Some Equal → field_key a ≡ field_key b
field_one (Some m) (Some n) h = let e : nat_cmp m n ≡ Equal = cc in ap (λ k. codes ":" ++ decimal k) (exact_unsigned m n e)
field_one (Some m) None h = absurd cc
field_one None (Some n) h = absurd cc
field_one None None h = refl

second_one : (a b : Option Value) → option_map is_eq (field_order value_order a b) ≡ Some true → second_key a ≡ second_key b
second_one (Some v) (Some w) h = let e : is_same_value v w ≡ true = cc in ap (λ (k : Text). codes ":" ++ k) ((keys_right v w).1 e)
second_one (Some v) None h = absurd cc
second_one None (Some w) h = absurd cc
second_one None None h = refl

moment_one : (a b : Fields) → option_map is_eq (moment_order a b) ≡ Some true → moment_key a ≡ moment_key b
moment_one a b h =
    let year = equal_first (field_order nat_cmp a.year b.year) _ h in
    let month = equal_first (field_order nat_cmp a.month b.month) _ year.1 in
    let day = equal_first (field_order nat_cmp a.day b.day) _ month.1 in
    let hour = equal_first (field_order nat_cmp a.hour b.hour) _ day.1 in
    let minute = equal_first (field_order nat_cmp a.minute b.minute) _ hour.1 in
    ap₂ both (ap₂ both (field_one a.year b.year year.0) (ap₂ both (field_one a.month b.month month.0) (field_one a.day b.day day.0)))
    (ap₂ both (field_one a.hour b.hour hour.0) (ap₂ both (field_one a.minute b.minute minute.0) (second_one a.second b.second minute.1)))
  where
    both : Text → Text → Text
    both s t = s ++ t

said_one : (a b : SystemValue) → same_system_value a b ≡ Some true → said_key a ≡ said_key b
said_one (boolean_of a) (boolean_of b) h = let e : same_truth a b ≡ true = cc in truth_one a b e
said_one (boolean_of a) (number_of b) h = absurd cc
said_one (boolean_of a) (string_of b) h = absurd cc
said_one (boolean_of a) (moment_of b) h = absurd cc
said_one (boolean_of a) (time_of b) h = absurd cc
said_one (number_of a) (boolean_of b) h = absurd cc
said_one (number_of a) (number_of b) h = let e : is_same_value a b ≡ true = cc in ap (λ (k : Text). codes "n" ++ (k ++ codes ";")) ((keys_right a b).1 e)
said_one (number_of a) (string_of b) h = absurd cc
said_one (number_of a) (moment_of b) h = absurd cc
said_one (number_of a) (time_of b) h = absurd cc
said_one (string_of a) (boolean_of b) h = absurd cc
said_one (string_of a) (number_of b) h = absurd cc
said_one (string_of a) (string_of b) h =
    let e : bytes_eq a b ≡ true = cc in ap (λ (s : Text). codes "s" ++ measured s) ((bytes_eq-Decides a b).0 e)
said_one (string_of a) (moment_of b) h = absurd cc
said_one (string_of a) (time_of b) h = absurd cc
said_one (moment_of a) (boolean_of b) h = absurd cc
said_one (moment_of a) (number_of b) h = absurd cc
said_one (moment_of a) (string_of b) h = absurd cc
said_one (moment_of a) (moment_of b) h = ap (λ (k : Text). codes "m" ++ (k ++ codes ";")) (moment_one a b h)
said_one (moment_of a) (time_of b) h = absurd cc
said_one (time_of a) (boolean_of b) h = absurd cc
said_one (time_of a) (number_of b) h = absurd cc
said_one (time_of a) (string_of b) h = absurd cc
said_one (time_of a) (moment_of b) h = absurd cc
said_one (time_of a) (time_of b) h = ap (λ (k : Text). codes "h" ++ (k ++ codes ";")) (moment_one a b h)

said_or_parts : (p q : Option SystemValue) (r : Kleene) (s t : Text) → same_said p q r ≡ Some true → (r ≡ Some true → s ≡ t) → key_said p s ≡ key_said q t
said_or_parts (Some a) (Some b) r s t h parts = said_one a b h
said_or_parts (Some a) None r s t h parts = absurd cc
said_or_parts None (Some b) r s t h parts = absurd cc
said_or_parts None None r s t h parts = parts h

-- ---- children

both_same : (a b : Text) (r : Kleene) → if_same a b r ≡ Some true → (a ≡ b) × (r ≡ Some true)
both_same a b r h = go (bytes_eq a b) refl h
  where
    go : (c : Bool) → bytes_eq a b ≡ c → (if c then r else Some false) ≡ Some true → (a ≡ b) × (r ≡ Some true)
    go true is e = ((bytes_eq-Decides a b).0 is, e)
    go false is e = absurd cc

-- what stands under a name, child by child
pub under_kids : (n : Text) (ks : Kids) → under n (keyed_kids ks) ≡ map item_key (items_named n ks)
under_kids n no_kids = refl
under_kids n (kid m x ks) = go (bytes_eq n m) (under_kids n ks)
  where
    go : (b : Bool) → under n (keyed_kids ks) ≡ map item_key (items_named n ks)
        → (if b then item_key x ∷ under n (keyed_kids ks) else under n (keyed_kids ks))
        ≡ map item_key (if b then x ∷ items_named n ks else items_named n ks)
    go true e = ap (λ ts. item_key x ∷ ts) e
    go false e = e

-- one child more
one_more : (b : Bool) (n : Text) (x : Item) (ks : Kids) (ys : List Item)
    → ((y : Item) → equal x y ≡ Some true → item_key x ≡ item_key y)
    → ((zs : List Item) → in_turn (sides_named n (sides_of ks)) zs ≡ Some true → under n (keyed_kids ks) ≡ map item_key zs)
    → in_turn (if b then equal x ∷ sides_named n (sides_of ks) else sides_named n (sides_of ks)) ys ≡ Some true
    → (if b then item_key x ∷ under n (keyed_kids ks) else under n (keyed_kids ks)) ≡ map item_key ys
one_more true n x ks [] first rest h = absurd cc
one_more true n x ks (y ∷ ys) first rest h =
    let e = both_true (equal x y) (in_turn (sides_named n (sides_of ks)) ys) h in
    ap (λ (t : Text). t ∷ under n (keyed_kids ks)) (first y e.0) ∙ ap (λ (ts : List Text). item_key y ∷ ts) (rest ys e.1)
one_more false n x ks ys first rest h = rest ys h

-- ---- items

mutual
  item_one : (x y : Item) → equal x y ≡ Some true → item_key x ≡ item_key y
  item_one (item a v ks) (item b w ls) h =
      said_or_parts (item_value (item a v ks)) (item_value (item b w ls)) (if_same a b (by_name (sides_of ks) ls))
      (parts_key a (keyed_kids ks)) (parts_key b (keyed_kids ls)) h
      (λ same.
      let e = both_same a b (by_name (sides_of ks) ls) same in
      ap (λ (t : Text). parts_key t (keyed_kids ks)) e.0
      ∙ ap (λ (ps : List Keyed). codes "i" ++ (measured b ++ (written ps ++ codes ";")))
      (order_one (keyed_kids ks) (keyed_kids ls)
      (λ n. named_one ks n (items_named n ls) ((of_names ks ls).each e.1 n) ∙ sym (under_kids n ls))))

  named_one : (ks : Kids) (n : Text) (ys : List Item) → in_turn (sides_named n (sides_of ks)) ys ≡ Some true → under n (keyed_kids ks) ≡ map item_key ys
  named_one no_kids n [] h = refl
  named_one no_kids n (y ∷ ys) h = absurd cc
  named_one (kid m x ks) n ys h = one_more (bytes_eq n m) n x ks ys (item_one x) (named_one ks n) h

-- ---- values

node_one : (x y : Plain) → same_node x y ≡ Some true → node_key x ≡ node_key y
node_one (node x) (node y) h = item_one x y h
node_one (node x) (truth b) h = absurd cc
node_one (node x) (number v) h = absurd cc
node_one (node x) (text s) h = absurd cc
node_one (truth a) y h = absurd cc
node_one (number u) y h = absurd cc
node_one (text r) y h = absurd cc

-- equal values have one key
pub alike_one : (x y : Plain) → alike x y ≡ Some true → key_of x ≡ key_of y
unfolding alike key_of
alike_one x y h = said_or_parts (system_value x) (system_value y) (same_node x y) (node_key x) (node_key y) h (node_one x y)

-- ---- children in the order of their names

rises : (ks : List Named) → Ascends ks → Rises (keyed_kids (kids_in ks))
rises [] a = tt
rises (k ∷ ks) a = (each k ks a.0, rises ks a.1)
  where
    each : (k : Named) (ls : List Named) → AllByRecursion (λ l. is_lt (slice_cmp nat_cmp l.0 k.0) ≡ false) ls
        → AllByRecursion (λ l. is_lt (slice_cmp nat_cmp l.0 k.0) ≡ false) (keyed_kids (kids_in ls))
    each k [] h = tt
    each k (l ∷ ls) h = (h.0, each k ls h.1)

-- sorted by their names, children have their keys in order
pub sorted_keys : (own : List Named) (ks : Kids) → Ascends own → ((n : Text) → items_named n (kids_in own) ≡ items_named n ks)
    → keyed_kids (kids_in own) ≡ in_order (keyed_kids ks)
sorted_keys own ks a same =
    order_is (keyed_kids (kids_in own)) (keyed_kids ks) (rises own a)
    (λ n. under_kids n (kids_in own) ∙ ap (map item_key) (same n) ∙ sym (under_kids n ks))
