-- Lists of children that are there or not, one behind the other.
use Rattle.std.proofs.Common.{◌≡◌, ◌==◌, ℕ, zero, suc, ◌+◌, ◌<◌, Bool, true, false, ◌&&◌, cond, List, [], ◌∷◌, map, length, get_or, drop, nat_lt, refl, sym, ap, ap₂, ◌∙◌, subst, append_assoc, add-one, Option, None, Some, IsTrue, arith}
use Rattle.std.proofs.lemmas.List.{append-nil, length-map}
use Rattle.std.proofs.lemmas.Option.{slice_get-get_or}
use Rattle.std.proofs.lemmas.Slice.Zip.{get_or-zip, length-zip}
use Rattle.std.proofs.lemmas.Bool.{eqb-true, eq-eqb, lt-ltb}
use Rattle.std.proofs.Math.Seq.{drop-cons, drop-length}
use Rattle.std.specs.Borrow.{Bor}
use Rattle.std.specs.Option.{option_map, option_map_or, option_and_then, IfSome}
use Rattle.std.specs.List.{list_all, slice_get, zip}
use Rattle.std.specs.Str.{bytes_eq}
use Rattle.fhir_json.specs.declared.json.Json.{Json}
use Rattle.fhir_json.specs.declared.json.Member.{Member, fold_out-Member}
use Rattle.fhir_json.specs.Tree.{Text, Tree, Property, array, names}
use Rattle.fhir_json.specs.Views.{tree_of, property_of, items_view, members_view, tree_seen, json_step, member_step}
use Rattle.fhir_prims.specs.declared.prim.PrimType.{PrimType}
use Rattle.fhir_prims.specs.Values.{lexical}
use Rattle.fhir_forms.specs.declared.form.Content.{Content}
use Rattle.fhir_forms.specs.declared.form.Content.TheVariants.{Primitive, System, Resource, Complex}
use Rattle.fhir_nodes.specs.declared.node.NodeRef.{NodeRef}
use Rattle.fhir_forms.specs.Forms.{Form, is_primitive, companion_name}
use Rattle.fhir_schema.specs.Schemas.{SchemaValue}
use Rattle.fhir_instance.specs.Items.{Named}
use Rattle.fhir_instance.specs.Typing.{Frame, Value, Halves, both, joined, value_of, held_of, values_of, if_not_null, where_true, place_items, items_from, form_items, held_by, side_by_side, kids_by, is_null, under, item_with, is_known, object_kids, forms_in}
use Rattle.fhir_instance.specs.declared.role.ObjectRole.TheVariants as roles
use Rattle.fhir_instance.specs.declared.spelled.Places.{Places}
use Rattle.fhir_instance.specs.Found.{fields_in, value_in_hand, halves_in_hand, held_at, one_items, given, IsWithin, ArePlaces, uncompanied}
use Rattle.fhir_instance.specs.Spelled.{place_from, places_from, are_known}

module _ {A : Type 0} where
  pub both_none : (a : Option (List A)) → both a None ≡ None
  both_none None = refl
  both_none (Some xs) = refl

  pub both_nothing : (a : Option (List A)) → both a (Some []) ≡ a
  both_nothing None = refl
  both_nothing (Some xs) = ap (λ ys. Some ys) (append-nil xs)

  pub both_first : (a : Option (List A)) → both (Some []) a ≡ a
  both_first None = refl
  both_first (Some xs) = refl

  pub both_both : (a b c : Option (List A)) → both (both a b) c ≡ both a (both b c)
  both_both None b c = refl
  both_both (Some xs) None c = refl
  both_both (Some xs) (Some ys) None = refl
  both_both (Some xs) (Some ys) (Some zs) = ap (λ l. Some l) (append_assoc xs ys zs)

-- one more of those that are joined
module _ {A X : Type 0} (p : X → Option (List A)) where
  pub next_joined : (old new : Option (List A)) (x : X) (rest : List X) → new ≡ both old (p x)
      → both new (joined (map p rest)) ≡ both old (joined (map p (x ∷ rest)))
  next_joined old new x rest e = ap (λ a. both a (joined (map p rest))) e ∙ both_both old (p x) (joined (map p rest))

  -- at a place in a list
  pub step_joined : (xs : List X) (k i : ℕ) (x : X) (old new all : Option (List A)) → k + 1 ≡ i → k < length xs → x ≡ get_or xs k x → new ≡ both old (p x)
      → both old (joined (map p (drop k xs))) ≡ all → both new (joined (map p (drop i xs))) ≡ all
  step_joined xs k i x old new all next within is e was =
      ap (λ (j : ℕ). both new (joined (map p (drop j xs)))) (sym next ∙ add-one k)
      ∙ next_joined old new x (drop (suc k) xs) e
      ∙ ap (λ (ys : List X). both old (joined (map p ys))) (ap (λ y. y ∷ drop (suc k) xs) is ∙ sym (drop-cons xs k x within))
      ∙ was

  pub end_joined : (xs : List X) (i : ℕ) (old all : Option (List A)) → i ≡ length xs → both old (joined (map p (drop i xs))) ≡ all → old ≡ all
  end_joined xs i old all e was =
      sym (ap (λ (j : ℕ). both old (joined (map p (drop j xs)))) e ∙ ap (λ (ys : List X). both old (joined (map p ys))) (drop-length xs) ∙ both_nothing old)
      ∙ was

-- ---- what the values in hand are

values_in : (s : SchemaValue) (xs : List Json) → values_of s (items_view xs) ≡ map (λ j. value_of s (tree_of j)) xs
values_in s [] = refl
values_in s (x ∷ xs) = ap (λ vs. value_of s (tree_of x) ∷ vs) (values_in s xs)

-- what stands at each place, of a list of values
parts_in : (s : SchemaValue) (xs : List Json) → map if_not_null (values_of s (items_view xs)) ≡ map (value_in_hand s) xs
parts_in s [] = refl
parts_in s (x ∷ xs) = ap (λ vs. value_in_hand s x ∷ vs) (parts_in s xs)

length_in : (s : SchemaValue) (xs : List Json) → length (values_of s (items_view xs)) ≡ length xs
length_in s [] = refl
length_in s (x ∷ xs) = ap (λ n. suc n) (length_in s xs)

map_map : {A B C : Type 0} (g : B → C) (f : A → B) (xs : List A) → map g (map f xs) ≡ map (λ x. g (f x)) xs
map_map g f [] = refl
map_map g f (x ∷ xs) = ap (λ ys. g (f x) ∷ ys) (map_map g f xs)

module _ (s : SchemaValue) (f : Form) where
  abbrev pub value_items : Json → Option (List Named)
  value_items j = place_items s f (value_in_hand s j, None)

  abbrev pub companion_items : Json → Option (List Named)
  companion_items j = place_items s f (None, value_in_hand s j)

  abbrev pub pair_items : Json × Json → Option (List Named)
  pair_items p = place_items s f (halves_in_hand s p.0 p.1)

  -- the places of a list, where it isn't empty
  placed_in : (h : Option Value → Halves) (xs : List Json) → option_and_then (λ hs. joined (map (place_items s f) hs))
      (option_map (map h) (where_true (nat_lt 0 (length (values_of s (items_view xs)))) (map if_not_null (values_of s (items_view xs))))) ≡ cond
      (nat_lt 0 (length xs)) (joined (map (λ j. place_items s f (h (value_in_hand s j))) xs)) None
  placed_in h xs = rw (length_in s xs, parts_in s xs) (go (nat_lt 0 (length xs)))
    where
      go : (b : Bool) → option_and_then (λ hs. joined (map (place_items s f) hs)) (option_map (map h) (where_true b (map (value_in_hand s) xs))) ≡ cond b
          (joined (map (λ j. place_items s f (h (value_in_hand s j))) xs)) None
      go true = ap joined (map_map (place_items s f) h (map (value_in_hand s) xs) ∙ map_map (λ p. place_items s f (h p)) (value_in_hand s) xs)
      go false = refl

-- ---- the members of an array, side by side

zip_map : {A B : Type 0} (g : A → B) (xs ys : List A) → zip (map g xs) (map g ys) ≡ map (λ p. (g p.0, g p.1)) (zip xs ys)
zip_map g [] ys = refl
zip_map g (x ∷ xs) [] = refl
zip_map g (x ∷ xs) (y ∷ ys) = ap (λ ps. (g x, g y) ∷ ps) (zip_map g xs ys)

length_same : (s : SchemaValue) (xs ys : List Json) → (length (map (value_in_hand s) xs) == length (map (value_in_hand s) ys)) ≡ (length xs == length ys)
length_same s xs ys = rw (length-map xs (value_in_hand s), length-map ys (value_in_hand s)) refl

module _ (s : SchemaValue) (f : Form) where
  -- the values of an array, which have no companions
  pub values_from : (t : Tree) (xs : List Json) → f.repeats ≡ true → t ≡ array (items_view xs)
      → cond (nat_lt 0 (length xs)) (joined (map (value_items s f) xs)) None ≡ items_from s f (Some (held_of s t)) None
  values_from t xs e is =
      rw (e, is) (sym (placed_in s f (λ p. (p, None)) xs))

  pub companions_from : (t : Tree) (xs : List Json) → f.repeats ≡ true → t ≡ array (items_view xs)
      → cond (nat_lt 0 (length xs)) (joined (map (companion_items s f) xs)) None ≡ items_from s f None (Some (held_of s t))
  companions_from t xs e is =
      rw (e, is) (sym (placed_in s f (λ p. (None, p)) xs))

  paired_in : (xs ys : List Json) → cond (nat_lt 0 (length xs) && (length xs == length ys)) (joined (map (pair_items s f) (zip xs ys))) None ≡ option_and_then
      (λ hs. joined (map (place_items s f) hs)) (option_and_then (λ vs. option_and_then (side_by_side vs)
      (where_true (nat_lt 0 (length ys)) (map (value_in_hand s) ys))) (where_true (nat_lt 0 (length xs)) (map (value_in_hand s) xs)))
  paired_in xs ys = go (nat_lt 0 (length xs)) refl (length xs == length ys) refl (nat_lt 0 (length ys)) refl
    where
      go : (a : Bool) → nat_lt 0 (length xs) ≡ a → (e : Bool) → (length xs == length ys) ≡ e → (b : Bool) → nat_lt 0 (length ys) ≡ b
          → cond (nat_lt 0 (length xs) && (length xs == length ys)) (joined (map (pair_items s f) (zip xs ys))) None ≡ option_and_then
          (λ hs. joined (map (place_items s f) hs)) (option_and_then (λ vs. option_and_then (side_by_side vs)
          (where_true (nat_lt 0 (length ys)) (map (value_in_hand s) ys))) (where_true (nat_lt 0 (length xs)) (map (value_in_hand s) xs)))
      go false ea e ee b eb = rw ea refl
      go true ea false ee true eb = rw (ea, ee, eb, length_same s xs ys, ee) refl
      go true ea false ee false eb = rw (ea, ee, eb) refl
      go true ea true ee true eb =
          rw (
            ea,
            ee,
            eb,
            length_same s xs ys,
            ee,
            zip_map (value_in_hand s) xs ys,
            map_map (place_items s f) (λ p. (value_in_hand s p.0, value_in_hand s p.1))
                (zip xs ys),
          ) refl
      go true ea true ee false eb =
          let same : length xs ≡ length ys = eqb-true (length xs) (length ys) ee in
          let clash : true ≡ false = sym ea ∙ ap (nat_lt 0) same ∙ eb in absurd cc

  pub pairs_from : (t u : Tree) (xs ys : List Json) → f.repeats ≡ true → t ≡ array (items_view xs) → u ≡ array (items_view ys)
      → cond (nat_lt 0 (length xs) && (length xs == length ys)) (joined (map (pair_items s f) (zip xs ys))) None ≡ items_from s f (Some (held_of s t))
      (Some (held_of s u))
  pairs_from t u xs ys e is is2 =
      rw (e, is, is2, length_in s xs, length_in s ys, parts_in s xs, parts_in s ys) (paired_in xs ys)

  pub pair_step : (xs ys : List Json) (k : ℕ) (x y : Json) (old new all : Option (List Named)) → length xs ≡ length ys → k < length ys → x ≡ get_or xs k x
      → y ≡ get_or ys k y → new ≡ both old (pair_items s f (x, y)) → both old (joined (map (pair_items s f) (drop k (zip xs ys)))) ≡ all
      → both new (joined (map (pair_items s f) (drop (k + 1) (zip xs ys)))) ≡ all
  pair_step xs ys k x y old new all e within x_is y_is =
      let long : k < length xs = rw e within in
      let here : (x, y) ≡ get_or (zip xs ys) k (x, y) = ap₂ (λ (a b : Json). (a, b)) x_is y_is ∙ sym (get_or-zip xs ys k (x, y) long within) in
      let inside : k < length (zip xs ys) = omega (arith, length-zip xs ys) in
      step_joined (pair_items s f) (zip xs ys) k (k + 1) (x, y) old new all refl inside here

module _ (s : SchemaValue) (f : Form) where
  pub pairs_end : (xs ys : List Json) (i : ℕ) (old before : Option (List Named)) → 0 < length xs → length xs ≡ length ys → i ≡ length ys
      → both old (joined (map (pair_items s f) (drop i (zip xs ys)))) ≡ both before (joined (map (pair_items s f) (zip xs ys)))
      → old ≡ both before (cond (nat_lt 0 (length xs) && (length xs == length ys)) (joined (map (pair_items s f) (zip xs ys))) None)
  pairs_end xs ys i old before some e at was =
      let all : i ≡ length (zip xs ys) = omega (arith, length-zip xs ys) in
      let there : nat_lt 0 (length xs) ≡ true = lt-ltb 0 (length xs) some in
      end_joined (pair_items s f) (zip xs ys) i old (both before (joined (map (pair_items s f) (zip xs ys)))) all was
      ∙ ap (both before) (rw (there, eq-eqb (length xs) (length ys) e) refl)

-- ---- a primitive with its companion

pub companion_same : (s : SchemaValue) (f : Form) (prim : PrimType) (below : Option NodeRef) (v : Option (Bor Json)) (t : Tree) (code : Text)
    (inner : Option (List Named)) → f.content ≡ Primitive prim below → code ≡ f.code → option_map_or (lexical prim) (tree_seen v) true ≡ true
    → inner ≡ kids_by roles.Companion below (value_of s t) → under f (item_with code (tree_seen v) inner) ≡ place_items s f (given s v, Some (value_of s t))
companion_same s f prim below None t code inner is code_is fits inner_is = rw (is, code_is, inner_is) refl
companion_same s f prim below (Some j) t code inner is code_is fits inner_is = rw (is, code_is, inner_is, fits) refl

-- ---- where the members are

slice_at : {X : Type 0} (all : List X) (k : ℕ) (m : X) (ms : List X) → drop k all ≡ m ∷ ms → slice_get all k ≡ Some m
slice_at [] zero m ms e = absurd cc
slice_at [] (suc k) m ms e = absurd cc
slice_at (x ∷ all) zero m ms e = ap (λ l. slice_get l 0) e
slice_at (x ∷ all) (suc k) m ms e = slice_at all k m ms e

drop_after : {X : Type 0} (all : List X) (k : ℕ) (m : X) (ms : List X) → drop k all ≡ m ∷ ms → drop (suc k) all ≡ ms
drop_after [] zero m ms e = absurd cc
drop_after [] (suc k) m ms e = absurd cc
drop_after (x ∷ all) zero m ms e = ap (λ l. drop 1 l) e
drop_after (x ∷ all) (suc k) m ms e = drop_after all k m ms e

held_from : (s : SchemaValue) (all ms : List Member) (k : ℕ) (p : Text) → drop k all ≡ ms
    → held_at s all (place_from k p (names (members_view ms))) ≡ held_by p (fields_in s ms)
held_from s all [] k p e = refl
held_from s all (m ∷ ms) k p e = go (bytes_eq p (property_of m).0) refl (held_from s all ms (suc k) p (drop_after all k m ms e))
  where
    go : (b : Bool) → bytes_eq p (property_of m).0 ≡ b → held_at s all (place_from (suc k) p (names (members_view ms))) ≡ held_by p (fields_in s ms)
        → held_at s all (place_from k p (names (members_view (m ∷ ms)))) ≡ held_by p (fields_in s (m ∷ ms))
    go true is ih = rw (is, slice_at all k m ms e) refl
    go false is ih = rw is ih

-- what stands at a form's places is what its properties hold
pub form_held : (s : SchemaValue) (ms : List Member) (f : Form) (at : Places) → at ≡ places_from 0 (names (members_view ms)) f
    → items_from s f (held_at s ms at.value) (held_at s ms at.companion) ≡ form_items s (fields_in s ms) f
form_held s ms f at e = ap (λ (a : Places). items_from s f (held_at s ms a.value) (held_at s ms a.companion)) e ∙ go (is_primitive f.content) refl
  where
    go : (p : Bool) → is_primitive f.content ≡ p → items_from s f (held_at s ms (place_from 0 f.property (names (members_view ms))))
        (held_at s ms (cond (is_primitive f.content) (place_from 0 (companion_name f) (names (members_view ms))) None)) ≡ items_from s f
        (held_by f.property (fields_in s ms)) (cond (is_primitive f.content) (held_by (companion_name f) (fields_in s ms)) None)
    go true is =
        rw (is, held_from s ms ms 0 f.property refl, held_from s ms ms 0 (companion_name f) refl) refl
    go false is = rw (is, held_from s ms ms 0 f.property refl) refl

-- the places are within the members
place_within : (names : List Text) (n m : ℕ) (p : Text) → n + length names ≡ m → IsWithin (place_from n p names) m
place_within [] n m p e = tt
place_within (x ∷ names) n m p e = go (bytes_eq p x) (place_within names (suc n) m p (omega arith))
  where
    go : (b : Bool) → IsWithin (place_from (suc n) p names) m → IsWithin (cond b (Some n) (place_from (suc n) p names)) m
    go true h = omega arith
    go false h = h

length_names : (ms : List Member) → length (names (members_view ms)) ≡ length ms
length_names [] = refl
length_names (m ∷ ms) = ap (λ n. suc n) (length_names ms)

surely : (o : Option ℕ) → IfSome o (λ _. IsTrue true)
surely None = tt
surely (Some n) = refl

pub places_fit : (ms : List Member) (f : Form) (at : Places) → at ≡ places_from 0 (names (members_view ms)) f → ArePlaces f (length ms) at
places_fit ms f at e = subst (λ (a : Places). ArePlaces f (length ms) a) (sym e) (go (is_primitive f.content) refl)
  where
    go : (p : Bool) → is_primitive f.content ≡ p → ArePlaces f (length ms) (places_from 0 (names (members_view ms)) f)
    go true is =
        let value = place_within (names (members_view ms)) 0 (length ms) f.property (omega (arith, length_names ms)) in
        let companion = place_within (names (members_view ms)) 0 (length ms) (companion_name f) (omega (arith, length_names ms)) in
        rw is (value, companion, surely (place_from 0 (companion_name f) (names (members_view ms))))
    go false is =
        let value = place_within (names (members_view ms)) 0 (length ms) f.property (omega (arith, length_names ms)) in
        rw is (value, tt, tt)

pub held_found : (s : SchemaValue) (ms : List Member) (at : Option ℕ) (i : ℕ) (m : Member) (t : Tree) → at ≡ Some i → IsWithin at (length ms)
    → m ≡ get_or ms i m → t ≡ (property_of m).1 → held_at s ms at ≡ Some (held_of s t)
held_found s ms at i m t e h is t_is =
    let within : i < length ms = subst (λ (o : Option ℕ). IsWithin o (length ms)) e h in
    ap (held_at s ms) e ∙ ap (option_map (λ (n : Member). held_of s (property_of n).1)) (slice_get-get_or ms i m within ∙ ap (λ n. Some n) (sym is))
    ∙ ap (λ u. Some (held_of s u)) (sym t_is)

-- ---- the start

fields_long : (s : SchemaValue) (ms : List Member) → length (fields_in s ms) ≡ length ms
fields_long s [] = refl
fields_long s (m ∷ ms) = ap (λ n. suc n) (fields_long s ms)

fields_known : (s : SchemaValue) (fr : Frame) (ms : List Member) → list_all (λ x. is_known s fr x.name) (fields_in s ms) ≡ are_known s fr
    (names (members_view ms))
fields_known s fr [] = refl
fields_known s fr (m ∷ ms) = ap (λ b. is_known s fr (property_of m).0 && b) (fields_known s fr ms)

pub starts : (s : SchemaValue) (fr : Frame) (ms : List Member) (start before rest : Option (List Named)) → nat_lt 0 (length ms) ≡ true → before ≡ Some []
    → start ≡ cond (are_known s fr (names (members_view ms))) before None → rest ≡ joined (map (form_items s (fields_in s ms)) (forms_in s fr))
    → both start rest ≡ object_kids s fr (fields_in s ms)
starts s fr ms start before rest some none is rest_is =
    ap₂ (λ (a b : Option (List Named)). both a b) (is ∙ ap (λ (a : Option (List Named)). cond (are_known s fr (names (members_view ms))) a None) none) rest_is
    ∙ go (are_known s fr (names (members_view ms)))
    ∙ sym (ap₂ (λ (a b : Bool). cond (a && b) (joined (map (form_items s (fields_in s ms)) (forms_in s fr))) None) (ap (nat_lt 0) (fields_long s ms) ∙ some)
    (fields_known s fr ms))
  where
    go : (b : Bool) → both (cond b (Some []) None) (joined (map (form_items s (fields_in s ms)) (forms_in s fr))) ≡ cond (true && b)
        (joined (map (form_items s (fields_in s ms)) (forms_in s fr))) None
    go true = both_first (joined (map (form_items s (fields_in s ms)) (forms_in s fr)))
    go false = refl

-- ---- a member

pub pair_value : (m : Member) → tree_of m.value ≡ (property_of m).1
pair_value m = sym (ap (λ (p : Property). p.1) (fold_out-Member Tree Property json_step member_step m))

-- ---- where the element doesn't repeat

module _ (s : SchemaValue) (f : Form) where
  pub one_pair : (v c : Tree) → f.repeats ≡ false → one_items s f (if_not_null (value_of s v)) (if_not_null (value_of s c)) ≡ items_from s f
      (Some (held_of s v)) (Some (held_of s c))
  one_pair v c e = rw e (go (if_not_null (value_of s v)) (if_not_null (value_of s c)))
    where
      go : (a b : Option Value) → one_items s f a b ≡ option_and_then (λ hs. joined (map (place_items s f) hs))
          (option_and_then (λ vs. option_and_then (side_by_side vs) (option_map (λ x. Some x ∷ []) b)) (option_map (λ x. Some x ∷ []) a))
      go None b = refl
      go (Some a) None = refl
      go (Some a) (Some b) = sym (both_nothing (place_items s f (Some a, Some b)))

-- ---- what has no item

-- neither a value nor a companion
pub no_halves : (s : SchemaValue) (f : Form) → place_items s f (None, None) ≡ None
no_halves s f = go f.content refl
  where
    go : (k : Content) → f.content ≡ k → place_items s f (None, None) ≡ None
    go (Primitive prim below) is = rw is refl
    go System is = rw is refl
    go Resource is = rw is refl
    go (Complex below) is = rw is refl

-- a primitive whose companion is null
pub uncompanied_is : (s : SchemaValue) (f : Form) (v c : Tree) → is_primitive f.content ≡ true → is_null c ≡ true
    → uncompanied f v ≡ place_items s f (if_not_null (value_of s v), if_not_null (value_of s c))
uncompanied_is s f v c e none = rw none (go f.content refl (is_null v) refl)
  where
    go : (k : Content) → f.content ≡ k → (b : Bool) → is_null v ≡ b → uncompanied f v ≡ place_items s f (if_not_null (value_of s v), None)
    go (Primitive prim below) is true null_is = rw (is, null_is) refl
    go (Primitive prim below) is false null_is = rw (is, null_is) refl
    go System is b null_is = absurd (let h = rw is at e in cc)
    go Resource is b null_is = absurd (let h = rw is at e in cc)
    go (Complex below) is b null_is = absurd (let h = rw is at e in cc)

-- a companion of what isn't primitive
pub no_companion : (s : SchemaValue) (f : Form) (v : Option Value) (c : Value) → is_primitive f.content ≡ false → place_items s f (v, Some c) ≡ None
no_companion s f None c e = go f.content refl
  where
    go : (k : Content) → f.content ≡ k → place_items s f (None, Some c) ≡ None
    go (Primitive prim below) is = absurd (let h = rw is at e in cc)
    go System is = rw is refl
    go Resource is = rw is refl
    go (Complex below) is = rw is refl
no_companion s f (Some v) c e = go f.content refl
  where
    go : (k : Content) → f.content ≡ k → place_items s f (Some v, Some c) ≡ None
    go (Primitive prim below) is = absurd (let h = rw is at e in cc)
    go System is = rw is refl
    go Resource is = rw is refl
    go (Complex below) is = rw is refl
