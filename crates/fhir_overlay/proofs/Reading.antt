-- An element that a tree is can be written.
use Rattle.std.proofs.Common.{◌≡◌, ℕ, zero, suc, ℤ, List, [], ◌∷◌, map, Bool, true, false, Option, None, Some, Ok, IsTrue, is_ok, refl, sym, ap, ◌∙◌, arith, if◌then◌else◌}
use Rattle.std.specs.Prelude.{pos, codes, ◌||◌, ◌==◌}
use Rattle.std.specs.Option.{option_map, option_map_or, option_and_then}
use Rattle.std.specs.List.{list_any}
use Rattle.std.specs.Str.{bytes_eq}
use Rattle.std.proofs.lemmas.Bool.{false≢true}
use Rattle.fhir_json.specs.Tree.{Text, Tree, null, boolean, number, string, array, object, Members, no_members, member, Property}
use Rattle.fhir_json.specs.Fields.{field, text_in, text_at, items_in, count_of, as_number, is_choice, first_choice, choice_in}
use Rattle.fhir_json.specs.Sound.{is_among, differ}
use Rattle.fhir_names.specs.Ids.{read_id}
use Rattle.fhir_elements.specs.declared.max.Max.TheVariants.{UpTo}
use Rattle.fhir_elements.specs.declared.reason.Reason.{Reason}
use Rattle.fhir_elements.specs.declared.reason.Reason.TheVariants.{WrongField, MinOverMax, RepeatedType, WrongId}
use Rattle.fhir_elements.specs.Tests.{first_of}
use Rattle.fhir_elements.specs.Max.{max_of}
use Rattle.fhir_elements.specs.Integers.{negative_of, below_zero, integer_of, as_integer}
use Rattle.fhir_elements.specs.TypeEntry.{type_entry_of, codes_differ}
use Rattle.fhir_elements.specs.Element.{Element, has_right_fields, has_right_bounds, has_readable_id, element_fault, fields_of, unless, element_of}
use Rattle.fhir_overlay.specs.Overlay.{bounds_fit}
use Rattle.fhir_overlay.specs.Writable.{is_count, is_max, is_integer, is_named, has_writable_numbers, has_named_choices, is_writable}
use Rattle.fhir_overlay.proofs.Truths.{all_three, all_four}

-- ---- that it is an element

came : (fault : Option Reason) (x e : Element) → unless fault x ≡ Ok e → (fault ≡ None) × (x ≡ e)
came None x e is = (refl, cc)
came (Some reason) x e is = absurd (cc)

held : (b : Bool) (reason : Reason) (tests : List (Bool × Reason)) → first_of ((b, reason) ∷ tests) ≡ None → IsTrue b × (first_of tests ≡ None)
held true reason tests none = (refl, none)
held false reason tests none = absurd (cc)

-- it has its tests behind it, and is the element of its fields
pub record IsElement (t : Tree) (e : Element) : Type 0 where
  pub right : IsTrue (has_right_fields t)
  pub bounds : IsTrue (has_right_bounds t)
  pub differ : IsTrue (codes_differ (items_in (codes "type") t))
  pub readable : IsTrue (has_readable_id t)
  pub same : fields_of t ≡ e

pub is_element : (t : Tree) (e : Element) → element_of t ≡ Ok e → IsElement t e
is_element t e is =
    let it = came (element_fault t) (fields_of t) e is in
    let last : List (Bool × Reason) = (has_readable_id t, WrongId) ∷ [] in
    let types : List (Bool × Reason) = (codes_differ (items_in (codes "type") t), RepeatedType) ∷ last in
    let first = held (has_right_fields t) WrongField ((has_right_bounds t, MinOverMax) ∷ types) it.0 in
    let second = held (has_right_bounds t) MinOverMax types first.1 in
    let third = held (codes_differ (items_in (codes "type") t)) RepeatedType last second.1 in
    let fourth = held (has_readable_id t) WrongId [] third.1 in
    record { right = first.0; bounds = second.0; differ = third.0; readable = fourth.0; same = it.1 }

-- ---- its parts

id_read : (o : Option Text) → IsTrue (option_map_or (λ id. is_ok (read_id id)) o false) → IsTrue (is_ok (read_id (option_map_or (λ s. s) o [])))
id_read None h = absurd (false≢true h)
id_read (Some s) h = h

count_small : (s : Text) → IsTrue (option_map_or is_count (count_of s) true)
count_small s = grind arith

counts_small : (o : Option Text) → IsTrue (option_map_or is_count (option_and_then count_of o) true)
counts_small None = refl
counts_small (Some s) = count_small s

up_to_small : (o : Option ℕ) → IsTrue (option_map_or is_count o true) → IsTrue (option_map_or is_max (option_map UpTo o) true)
up_to_small None h = refl
up_to_small (Some n) h = h

max_small : (s : Text) → IsTrue (option_map_or is_max (max_of s) true)
max_small s =
    let most : IsTrue (option_map_or is_max (option_map UpTo (count_of s)) true) = up_to_small (count_of s) (count_small s) in grind arith

maxes_small : (o : Option Text) → IsTrue (option_map_or is_max (option_and_then max_of o) true)
maxes_small None = refl
maxes_small (Some s) = max_small s

positive_small : (o : Option ℕ) → IsTrue (option_map_or is_count o true) → IsTrue (option_map_or is_integer (option_map pos o) true)
positive_small None h = refl
positive_small (Some n) h = h

negative_small : (o : Option ℕ) → IsTrue (option_map_or is_count o true) → IsTrue (option_map_or is_integer (option_and_then negative_of o) true)
negative_small None h = refl
negative_small (Some zero) h = refl
negative_small (Some (suc n)) h = grind arith

below_small : (s : Text) → IsTrue (option_map_or is_integer (below_zero s) true)
below_small s =
    let most : IsTrue (option_map_or is_integer (option_and_then negative_of (count_of s)) true) = negative_small (count_of s) (count_small s) in
    grind arith

by_sign : (b : Bool) (x y : Option ℤ) → IsTrue (option_map_or is_integer x true) → IsTrue (option_map_or is_integer y true)
    → IsTrue (option_map_or is_integer (if b then x else y) true)
by_sign true x y h i = h
by_sign false x y h i = i

integer_small : (s : Text) → IsTrue (option_map_or is_integer (integer_of s) true)
integer_small [] = refl
integer_small (b ∷ bs) =
    let below : IsTrue (option_map_or is_integer (below_zero bs) true) = below_small bs in
    let above : IsTrue (option_map_or is_integer (option_map pos (count_of (b ∷ bs))) true) = positive_small (count_of (b ∷ bs)) (count_small (b ∷ bs)) in
    by_sign (b == 45) (below_zero bs) (option_map pos (count_of (b ∷ bs))) below above

integers_small : (o : Option Tree) → IsTrue (option_map_or is_integer (option_and_then as_integer o) true)
integers_small None = refl
integers_small (Some (number s)) = integer_small s
integers_small (Some null) = refl
integers_small (Some (boolean b)) = refl
integers_small (Some (string s)) = refl
integers_small (Some (array ts)) = refl
integers_small (Some (object ms)) = refl

among : (code : Text) (ts : List Tree)
    → is_among code (map (λ e. e.code) (map type_entry_of ts)) ≡ list_any (λ u. bytes_eq code (text_at (codes "code") u)) ts
among code [] = refl
among code (t ∷ ts) = ap (λ b. bytes_eq code (text_at (codes "code") t) || b) (among code ts)

pub types_differ : (ts : List Tree) → differ (map (λ e. e.code) (map type_entry_of ts)) ≡ codes_differ ts
types_differ [] = refl
types_differ (t ∷ ts) = rw (among (text_at (codes "code") t) ts, types_differ ts) refl

named_if : (stem n : Text) (t : Tree) (rest : Option Property) (b : Bool) → is_choice stem n ≡ b → IsTrue (is_named stem rest)
    → IsTrue (is_named stem (if b then Some (n, t) else rest))
named_if stem n t rest true is h = is
named_if stem n t rest false is h = h

named_first : (stem : Text) (ms : Members) → IsTrue (is_named stem (first_choice stem ms))
named_first stem no_members = refl
named_first stem (member n t ms) = named_if stem n t (first_choice stem ms) (is_choice stem n) refl (named_first stem ms)

named : (stem : Text) (t : Tree) → IsTrue (is_named stem (choice_in stem t))
named stem (object ms) = named_first stem ms
named stem null = refl
named stem (boolean b) = refl
named stem (number s) = refl
named stem (string s) = refl
named stem (array ts) = refl

-- ---- the element

numbers : (t : Tree) → IsTrue (has_writable_numbers (fields_of t))
numbers t =
    all_three _ _ _ (counts_small (option_and_then as_number (field (codes "min") t))) (maxes_small (text_in (codes "max") t))
    (integers_small (field (codes "maxLength") t))

choices : (t : Tree) → IsTrue (has_named_choices (fields_of t))
choices t = all_four _ _ _ _ (named (codes "fixed") t) (named (codes "pattern") t) (named (codes "minValue") t) (named (codes "maxValue") t)

pub read_writable : (t : Tree) (e : Element) → element_of t ≡ Ok e → IsTrue (is_writable e)
read_writable t e is =
    let it = is_element t e is in
    rw (sym it.same)
    (all_four _ _ _ _ (id_read (text_in (codes "id") t) it.readable) (numbers t)
    (types_differ (items_in (codes "type") t) ∙ it.differ) (choices t))

pub read_bounds : (t : Tree) (e : Element) → element_of t ≡ Ok e → IsTrue (bounds_fit e)
read_bounds t e is =
    let it = is_element t e is in rw (sym it.same) it.bounds
