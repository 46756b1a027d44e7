-- Elements whose ids differ, and those that stand under others, by their places.
use Rattle.std.proofs.Common.{◌≡◌, ◌≤◌, ℕ, suc, List, [], ◌∷◌, map, Bool, true, false, cond, Option, None, Some, is_some, is_none, is_ok, refl, ap}
use Rattle.std.proofs.Common.{sym, ◌∙◌, subst, inl, inr, arith}
use Rattle.std.specs.Prelude.{codes, nat_le, not, ◌==◌, Ok, Err}
use Rattle.std.specs.List.{list_all}
use Rattle.std.specs.Option.{option_map_or}
use Rattle.std.specs.Str.{bytes_eq}
use Rattle.std.proofs.lemmas.Bool.{and_parts, and_from, cond-false, false≢true, eqb-true, eq-eqb, false_from_ne_true}
use Rattle.std.proofs.lemmas.Bool.Decides.{nat_tests}
use Rattle.std.proofs.lemmas.Option.{same_Some}
use Rattle.std.proofs.lemmas.Slice.Eq.{bytes_eq-Decides}
use Rattle.fhir_json.specs.Tree.{Text, Tree}
use Rattle.fhir_json.specs.Bytes.{space, line_feed}
use Rattle.fhir_json.specs.Fields.{text_in, items_in}
use Rattle.fhir_names.specs.Texts.{is_plain, lacks}
use Rattle.fhir_names.specs.Segments.{segments_of, first_fault}
use Rattle.fhir_names.specs.Ids.{read_id}
use Rattle.fhir_names.specs.declared.fault.NameFault.TheVariants.{Control}
use Rattle.fhir_elements.specs.declared.reason.Reason.TheVariants.{WrongField, MinOverMax, RepeatedType, WrongId}
use Rattle.fhir_elements.specs.Tests.{first_of}
use Rattle.fhir_elements.specs.TypeEntry.{codes_differ}
use Rattle.fhir_elements.specs.Element.{Element, fields_of, element_fault, has_right_fields, has_right_bounds, has_readable_id}
use Rattle.fhir_definition.specs.Snapshot.{id_place_from, id_place, is_at, are_first, ids_differ, up_of, has_parent, is_tree}
use Rattle.fhir_inheritance.specs.Sources.{trees_in, elements_in}
use Rattle.fhir_snapshot.specs.Snapshots.{has_right_part, brings_elements}
use Rattle.snapshot_laws.proofs.Among.{In, Each, Differ}
use Rattle.snapshot_laws.proofs.Finding.{ids, IsPlain}

-- ---- places

is_here : (n : ℕ) (o : Option ℕ) → is_at n o ≡ true → o ≡ Some n
is_here n None e = absurd (false≢true e)
is_here n (Some q) e = ap Some (sym (eqb-true n q e))

here_is : (n : ℕ) (o : Option ℕ) → o ≡ Some n → is_at n o ≡ true
here_is n o e = ap (is_at n) e ∙ eq-eqb n n refl

place_of : (all : List Element) (n : ℕ) (es : List Element) (x : Text) → are_first all n es ≡ true → In x (ids es)
    → (m : ℕ) × (n ≤ m) × (id_place all x ≡ Some m)
place_of all n [] x h i = absurd i
place_of all n (e ∷ es) x h (inl is) =
    let parts = and_parts (is_at n (id_place all e.id)) (are_first all (suc n) es) h in
    (n, omega arith, ap (id_place all) is ∙ is_here n (id_place all e.id) parts.0)
place_of all n (e ∷ es) x h (inr i) =
    let parts = and_parts (is_at n (id_place all e.id)) (are_first all (suc n) es) h in
    let rest = place_of all (suc n) es x parts.1 i in
    let more : suc n ≤ rest.0 = rest.1 in
    (rest.0, omega arith, rest.2)

differ_from : (all : List Element) (n : ℕ) (es : List Element) → are_first all n es ≡ true → Differ (ids es)
differ_from all n [] h = tt
differ_from all n (e ∷ es) h =
    let parts = and_parts (is_at n (id_place all e.id)) (are_first all (suc n) es) h in (
      λ i. let later = place_of all (suc n) es e.id parts.1 i in
          let same : n ≡ later.0 = same_Some n later.0 (sym (is_here n (id_place all e.id) parts.0) ∙ later.2) in
          let more : suc n ≤ later.0 = later.1 in
          absurd (omega arith),
      differ_from all (suc n) es parts.1,
    )

pub differ_if : (es : List Element) → ids_differ es ≡ true → Differ (ids es)
differ_if es h = differ_from es 0 es h

unlike : (x y : Text) → (x ≡ y → ⊥) → bytes_eq x y ≡ false
unlike x y apart = false_from_ne_true (bytes_eq x y) (λ e. apart ((bytes_eq-Decides x y).0 e))

first_if : (all : List Element) (n : ℕ) (es : List Element) → ((x : Text) → In x (ids es) → id_place all x ≡ id_place_from n es x) → Differ (ids es)
    → are_first all n es ≡ true
first_if all n [] places d = refl
first_if all n (e ∷ es) places d =
    let first : id_place_from n (e ∷ es) e.id ≡ Some n =
    ap (λ (b : Bool). cond b (Some n) (id_place_from (suc n) es e.id)) ((bytes_eq-Decides e.id e.id).1 refl) in
    and_from (is_at n (id_place all e.id)) (are_first all (suc n) es) (here_is n (id_place all e.id) (places e.id (inl refl) ∙ first))
    (first_if all (suc n) es
    (λ x h. places x (inr h) ∙ cond-false (bytes_eq x e.id) (Some n) (id_place_from (suc n) es x)
    (unlike x e.id (λ is. d.0 (subst (λ (y : Text). In y (ids es)) is h)))) d.1)

pub if_differ : (es : List Element) → Differ (ids es) → ids_differ es ≡ true
if_differ es d = first_if es 0 es (λ x h. refl) d

-- ---- the tree

placed_in : (n : ℕ) (es : List Element) (x : Text) → is_some (id_place_from n es x) ≡ true → In x (ids es)
placed_in n [] x e = absurd (false≢true e)
placed_in n (y ∷ es) x e = by (bytes_eq x y.id) refl e (placed_in (suc n) es x)
  where
    by : (b : Bool) → bytes_eq x y.id ≡ b → is_some (cond b (Some n) (id_place_from (suc n) es x)) ≡ true
        → (is_some (id_place_from (suc n) es x) ≡ true → In x (ids es)) → In x (ids (y ∷ es))
    by true is e rest = inl ((bytes_eq-Decides x y.id).0 is)
    by false is e rest = inr (rest e)

pub all_in : (f : Element → Bool) (es : List Element) (x : Text) → list_all f es ≡ true → In x (ids es) → (e : Element) × (e.id ≡ x) × (f e ≡ true)
all_in f [] x h i = absurd i
all_in f (e ∷ es) x h (inl is) = (e, sym is, (and_parts (f e) (list_all f es) h).0)
all_in f (e ∷ es) x h (inr i) = all_in f es x (and_parts (f e) (list_all f es) h).1 i

pub tree_parents : (es : List Element) → is_tree es ≡ true → (id up : Text) → In id (ids es) → up_of id ≡ Some up → In up (ids es)
tree_parents es h id up i e =
    let parents = (and_parts (list_all (has_parent es) es) _ h).0 in
    let one = all_in (has_parent es) es id parents i in
    let parent : is_some (id_place es up) ≡ true =
    sym (ap (λ (o : Option Text). option_map_or (λ up. is_some (id_place es up)) o true) (ap up_of one.1 ∙ e)) ∙ one.2 in
    placed_in 0 es up parent

-- ---- ids that are read

plain_byte : (b : ℕ) → nat_le space b ≡ true → not (b == line_feed) ≡ true
plain_byte b e = grind (arith, nat_tests)

plain_lacks : (text : Text) → is_plain text ≡ true → IsPlain text
plain_lacks [] e = refl
plain_lacks (b ∷ bs) e =
    let parts = and_parts (nat_le space b) (is_plain bs) e in
    and_from (not (b == line_feed)) (lacks line_feed bs) (plain_byte b parts.0) (plain_lacks bs parts.1)

plain_read : (id : Text) → is_ok (read_id id) ≡ true → is_plain id ≡ true
plain_read id e = go (is_plain id) e
  where
    go : (b : Bool) → is_ok (option_map_or Err (cond b (first_fault (segments_of id)) (Some Control)) (Ok (segments_of id))) ≡ true → b ≡ true
    go true e = refl
    go false e = absurd (false≢true e)

plain_if : (o : Option Text) → option_map_or (λ id. is_ok (read_id id)) o false ≡ true → IsPlain (option_map_or (λ s. s) o [])
plain_if None e = absurd (false≢true e)
plain_if (Some id) e = plain_lacks id (plain_read id e)

-- the last of four tests holds, where nothing is answered of the first that doesn't
last_holds : {R : Type 0} (a b c d : Bool) (x y z w : R) → is_none (first_of ((a, x) ∷ (b, y) ∷ (c, z) ∷ (d, w) ∷ [])) ≡ true → d ≡ true
last_holds a b c true x y z w e = refl
last_holds true true true false x y z w e = absurd (false≢true e)
last_holds true true false false x y z w e = absurd (false≢true e)
last_holds true false c false x y z w e = absurd (false≢true e)
last_holds false b c false x y z w e = absurd (false≢true e)

fault_plain : (t : Tree) → is_none (element_fault t) ≡ true → IsPlain (fields_of t).id
fault_plain t e =
    plain_if (text_in (codes "id") t)
    (last_holds (has_right_fields t) (has_right_bounds t) (codes_differ (items_in (codes "type") t)) (has_readable_id t)
    WrongField MinOverMax RepeatedType WrongId e)

trees_plain : (ts : List Tree) → list_all (λ t. is_none (element_fault t)) ts ≡ true → Each IsPlain (ids (map fields_of ts))
trees_plain [] h x i = absurd i
trees_plain (t ∷ ts) h x (inl is) = subst IsPlain (sym is) (fault_plain t (and_parts (is_none (element_fault t)) _ h).0)
trees_plain (t ∷ ts) h x (inr i) = trees_plain ts (and_parts (is_none (element_fault t)) _ h).1 x i

pub brought_plain : (part : Text) (t : Tree) → brings_elements part t ≡ true → Each IsPlain (ids (elements_in part t))
brought_plain part t h = trees_plain (trees_in part t) (and_parts (has_right_part part t) _ h).1
