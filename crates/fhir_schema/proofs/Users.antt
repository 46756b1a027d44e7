-- Who rests on a definition: what is asked of others, by their places, and the lists of those that ask.
use Rattle.std.proofs.Common.{◌≡◌, ℕ, ◌<◌, List, [], ◌∷◌, ◌++◌, length, get_or, replicate, refl, ap, ap₂, sym, ◌∙◌, arith}
use Rattle.std.proofs.Common.{Bool, true, false, ◌&&◌, ◌||◌, cond, nat_eq, Option, Some, None, is_none, ◌⊎◌, inl, inr}
use Rattle.std.specs.Option.{option_map_or}
use Rattle.std.specs.List.{list_all, list_any, flat_map, slice_get}
use Rattle.std.proofs.lemmas.Bool.{cases_eq, eq-eqb, ne_eqb, eqb-true, and_parts, and_from}
use Rattle.std.proofs.lemmas.List.{length-set, length-replicate, get_or-set_same, get_or-set_other, get_or-replicate}
use Rattle.std.proofs.lemmas.List.Folds.{list_all-append, list_any-append, list_any_at, Any-from_list_any}
use Rattle.std.proofs.lemmas.Option.{slice_get_read, slice_get_within, get_or_from_slice_get}
use Rattle.fhir_elements.specs.TypeEntry.{TypeEntry}
use Rattle.fhir_elements.specs.Element.{Element}
use Rattle.fhir_definition.specs.Snapshot.{is_at, is_root}
use Rattle.fhir_definition.specs.Definition.{Definition}
use Rattle.fhir_definition.specs.Gathering.{put_at}
use Rattle.fhir_nodes.specs.Types.{type_place, is_system}
use Rattle.fhir_nodes.specs.Tables.{ArePlaced}
use Rattle.fhir_schema.specs.Settling.{Reasons, reason_at, is_usable_type, entry_is_usable, element_is_usable, types_are_usable, target_place, target_is_usable, targets_are_usable}
use Rattle.fhir_schema.specs.Resting.{entry_rests_on, element_rests_on, target_rests_on, rests_on, put_under, users_from, users_of}

-- ---- what a definition asks of others it asks of those at their places

module _ {A B : Type 0} where
  list_all-flat_map : (p : B → Bool) (f : A → List B) (xs : List A) → list_all p (flat_map f xs) ≡ list_all (λ x. list_all p (f x)) xs
  list_all-flat_map p f [] = refl
  list_all-flat_map p f (x ∷ xs) =
      list_all-append p (f x) (flat_map f xs) ∙ ap (λ (b : Bool). list_all p (f x) && b) (list_all-flat_map p f xs)

list_all-same : {A : Type 0} (p q : A → Bool) → ((x : A) → p x ≡ q x) → (xs : List A) → list_all p xs ≡ list_all q xs
list_all-same p q h [] = refl
list_all-same p q h (x ∷ xs) = ap₂ (λ (a b : Bool). a && b) (h x) (list_all-same p q h xs)

and-true : (b : Bool) → (b && true) ≡ b
and-true true = refl
and-true false = refl

abbrev pub is_usable : Reasons → Option ℕ → Bool
is_usable reasons place = option_map_or (λ p. is_none (reason_at reasons p)) place false

module _ (ds : List Definition) (reasons : Reasons) where
  entry_cases : (b : Bool) (o : Option ℕ) → (b || is_usable reasons o) ≡ list_all (is_usable reasons) (cond b [] (o ∷ []))
  entry_cases true o = refl
  entry_cases false o = sym (and-true (is_usable reasons o))

  entry_asks : (x : TypeEntry) → entry_is_usable ds reasons x ≡ list_all (is_usable reasons) (entry_rests_on ds x)
  entry_asks x = entry_cases (is_system x.code) (type_place ds x.code)

  entries_ask : (xs : List TypeEntry) → list_all (entry_is_usable ds reasons) xs ≡ list_all (is_usable reasons) (flat_map (entry_rests_on ds) xs)
  entries_ask xs =
      list_all-same (entry_is_usable ds reasons) (λ x. list_all (is_usable reasons) (entry_rests_on ds x)) entry_asks xs
      ∙ sym (list_all-flat_map (is_usable reasons) (entry_rests_on ds) xs)

  element_cases : (b : Bool) (xs : List TypeEntry)
      → (b || list_all (entry_is_usable ds reasons) xs) ≡ list_all (is_usable reasons) (cond b [] (flat_map (entry_rests_on ds) xs))
  element_cases true xs = refl
  element_cases false xs = entries_ask xs

  element_asks : (e : Element) → element_is_usable ds reasons e ≡ list_all (is_usable reasons) (element_rests_on ds e)
  element_asks e = element_cases (is_root e) e.types

  types_ask : (d : Definition)
      → types_are_usable ds reasons d ≡ list_all (is_usable reasons) (type_place ds d.type ∷ flat_map (element_rests_on ds) d.elements)
  types_ask d =
      ap (λ (b : Bool). is_usable_type ds reasons d.type && b)
      (list_all-same (element_is_usable ds reasons) (λ e. list_all (is_usable reasons) (element_rests_on ds e)) element_asks d.elements
      ∙ sym (list_all-flat_map (is_usable reasons) (element_rests_on ds) d.elements))

  target_asks : (d : Definition) (e : Element) → target_is_usable ds reasons d e ≡ list_all (is_usable reasons) (target_rests_on ds d e)
  target_asks d e = entry_cases (is_none e.content_reference) (target_place ds d e)

  targets_ask : (d : Definition)
      → targets_are_usable ds reasons d ≡ list_all (is_usable reasons) (flat_map (target_rests_on ds d) d.elements)
  targets_ask d =
      list_all-same (target_is_usable ds reasons d) (λ e. list_all (is_usable reasons) (target_rests_on ds d e)) (target_asks d) d.elements
      ∙ sym (list_all-flat_map (is_usable reasons) (target_rests_on ds d) d.elements)

  -- what others have to be is asked of those on which the definition rests
  pub others_ask : (d : Definition)
      → (types_are_usable ds reasons d && targets_are_usable ds reasons d) ≡ list_all (is_usable reasons) (rests_on ds d)
  others_ask d =
      ap₂ (λ (a b : Bool). a && b) (types_ask d) (targets_ask d)
      ∙ sym (list_all-append (is_usable reasons) (type_place ds d.type ∷ flat_map (element_rests_on ds) d.elements)
      (flat_map (target_rests_on ds d) d.elements))

-- ---- who is listed

-- a place is listed under another
abbrev pub has : List (List ℕ) → ℕ → ℕ → Bool
has lists p q = list_any (nat_eq q) (get_or lists p [])

or-false : (b : Bool) → (b || false) ≡ b
or-false true = refl
or-false false = refl

regroup : (x i a e : Bool) → ((x || (i && e)) || (a && e)) ≡ (x || ((i || a) && e))
regroup true i a e = refl
regroup false true a true = refl
regroup false true true false = refl
regroup false true false false = refl
regroup false false a e = refl

or_assoc : (x y z : Bool) → ((x || y) || z) ≡ (x || (y || z))
or_assoc true y z = refl
or_assoc false y z = refl

length-put : (o : Option ℕ) (place : ℕ) (lists : List (List ℕ)) → length (put_at o place lists) ≡ length lists
length-put None place lists = refl
length-put (Some at) place lists = length-set lists at (get_or lists at [] ++ place ∷ [])

put_same : (p q place : ℕ) (lists : List (List ℕ)) → p < length lists
    → has (put_at (Some p) place lists) p q ≡ (has lists p q || nat_eq q place)
put_same p q place lists h =
    ap (list_any (nat_eq q)) (get_or-set_same lists p (get_or lists p [] ++ place ∷ []) [] h)
    ∙ list_any-append (nat_eq q) (get_or lists p []) (place ∷ [])
    ∙ ap (λ (b : Bool). has lists p q || b) (or-false (nat_eq q place))

put_has : (o : Option ℕ) (p q place : ℕ) (lists : List (List ℕ)) → p < length lists
    → has (put_at o place lists) p q ≡ (has lists p q || (is_at p o && nat_eq q place))
put_has None p q place lists h = sym (or-false (has lists p q))
put_has (Some at) p q place lists h = go (cases_eq p at)
  where
    go : (p ≡ at) ⊎ (p ≡ at → ⊥) → has (put_at (Some at) place lists) p q ≡ (has lists p q || (nat_eq p at && nat_eq q place))
    go (inl e) =
        ap (λ (n : ℕ). has (put_at (Some n) place lists) p q) (sym e)
        ∙ put_same p q place lists h
        ∙ ap (λ (b : Bool). has lists p q || (b && nat_eq q place)) (sym (eq-eqb p at e))
    go (inr n) =
        ap (list_any (nat_eq q)) (get_or-set_other lists at p (get_or lists at [] ++ place ∷ []) [] n)
        ∙ sym (or-false (has lists p q))
        ∙ ap (λ (b : Bool). has lists p q || (b && nat_eq q place)) (sym (ne_eqb p at n))

length-under : (os : List (Option ℕ)) (place : ℕ) (lists : List (List ℕ)) → length (put_under os place lists) ≡ length lists
length-under [] place lists = refl
length-under (o ∷ os) place lists = length-under os place (put_at o place lists) ∙ length-put o place lists

under_has : (os : List (Option ℕ)) (p q place : ℕ) (lists : List (List ℕ)) → p < length lists
    → has (put_under os place lists) p q ≡ (has lists p q || (list_any (is_at p) os && nat_eq q place))
under_has [] p q place lists h = sym (or-false (has lists p q))
under_has (o ∷ os) p q place lists h =
    let long = length-put o place lists in
    under_has os p q place (put_at o place lists) (omega arith)
    ∙ ap (λ (b : Bool). b || (list_any (is_at p) os && nat_eq q place)) (put_has o p q place lists h)
    ∙ regroup (has lists p q) (is_at p o) (list_any (is_at p) os) (nat_eq q place)

-- a definition at one place rests on another
abbrev rests : List Definition → ℕ → ℕ → Definition → Bool
rests ds p q d = list_any (is_at p) (rests_on ds d) && nat_eq q d.place

from_has : (ds es : List Definition) (p q : ℕ) (lists : List (List ℕ)) → p < length lists
    → has (users_from ds es lists) p q ≡ (has lists p q || list_any (rests ds p q) es)
from_has ds [] p q lists h = sym (or-false (has lists p q))
from_has ds (e ∷ es) p q lists h =
    let long = length-under (rests_on ds e) e.place lists in
    from_has ds es p q (put_under (rests_on ds e) e.place lists) (omega arith)
    ∙ ap (λ (b : Bool). b || list_any (rests ds p q) es) (under_has (rests_on ds e) p q e.place lists h)
    ∙ or_assoc (has lists p q) (rests ds p q e) (list_any (rests ds p q) es)

users_has : (ds : List Definition) (p q : ℕ) → p < length ds → has (users_of ds) p q ≡ list_any (rests ds p q) ds
users_has ds p q h =
    let long = length-replicate {A = List ℕ} (length ds) [] in
    from_has ds ds p q (replicate (length ds) []) (omega arith)
    ∙ ap (λ (l : List ℕ). list_any (nat_eq q) l || list_any (rests ds p q) ds) (get_or-replicate {A = List ℕ} (length ds) p [] [] h)

module _ (ds : List Definition) (is_placed : ArePlaced ds) where
  -- who is listed under a place is a definition that rests on it
  pub user : (p q : ℕ) → p < length ds → has (users_of ds) p q ≡ true
      → (d : Definition) × (slice_get ds d.place ≡ Some d) × (q ≡ d.place) × (list_any (is_at p) (rests_on ds d) ≡ true)
  user p q h listed =
      let any = Any-from_list_any (rests ds p q) ds (sym (users_has ds p q h) ∙ listed) in
      let k = any.0 in
      let d = any.1 in
      let at : slice_get ds k ≡ Some d = slice_get_read ds (length ds) k d refl any.2 (sym any.3) in
      let place : d.place ≡ k = is_placed k d at in
      let parts = and_parts (list_any (is_at p) (rests_on ds d)) (nat_eq q d.place) any.4 in
      (d, ap (slice_get ds) place ∙ at, eqb-true q d.place parts.1, parts.0)

  -- a definition is listed under each place on which it rests
  pub listed : (p : ℕ) (d : Definition) → p < length ds → slice_get ds d.place ≡ Some d → list_any (is_at p) (rests_on ds d) ≡ true
      → has (users_of ds) p d.place ≡ true
  listed p d h at asks =
      let here : get_or ds d.place d ≡ d = get_or_from_slice_get ds d.place d d at in
      let passes : rests ds p d.place d ≡ true =
      and_from (list_any (is_at p) (rests_on ds d)) (nat_eq d.place d.place) asks (eq-eqb d.place d.place refl) in
      users_has ds p d.place h
      ∙ list_any_at (rests ds p d.place) ds d.place d (slice_get_within ds d.place d at) (ap (rests ds p d.place) here ∙ passes)
