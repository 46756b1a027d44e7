-- What stands in lists of elements, by their ids.
use Rattle.std.proofs.Common.{◌≡◌, List, [], ◌∷◌, ◌++◌, map, Bool, true, false, cond, Option, None, Some, is_some, refl, ap, sym, ◌∙◌, subst, inl}
use Rattle.std.proofs.Common.{inr, ◌⊎◌}
use Rattle.std.specs.List.{filter}
use Rattle.std.specs.Str.{bytes_eq}
use Rattle.std.proofs.lemmas.Bool.{false≢true}
use Rattle.std.proofs.lemmas.Option.{none-some, same_Some}
use Rattle.std.proofs.lemmas.Slice.Eq.{bytes_eq-Decides}
use Rattle.fhir_json.specs.Tree.{Text}
use Rattle.fhir_json.specs.Bytes.{line_feed}
use Rattle.fhir_names.specs.Texts.{lacks}
use Rattle.fhir_names.specs.Parents.{name_of, front_of, slice_of, sliced_of}
use Rattle.fhir_elements.specs.Element.{Element}
use Rattle.fhir_definition.specs.Snapshot.{up_of}
use Rattle.fhir_inheritance.specs.Keys.{child_id}
use Rattle.fhir_inheritance.specs.Elements.{find, is_this, parent_of, slice_parent_of, names_under, sliced_names_under, slices_under}
use Rattle.snapshot_laws.proofs.Among.{In, Each, Differ, in_left, in_right}
use Rattle.snapshot_laws.proofs.Ups.{IsName, name_read, name_lacks, child_again, up_sliced, up_unsliced, sliced_none}

abbrev pub ids : List Element → List Text
ids es = map (λ e. e.id) es

abbrev pub IsPlain : Text → Type 0
IsPlain text = lacks line_feed text ≡ true

-- ---- an element is found

pub found_id : (es : List Element) (id : Text) (e : Element) → find es id ≡ Some e → (e.id ≡ id) × In id (ids es)
found_id [] id e h = absurd (none-some e h)
found_id (x ∷ es) id e h = by (bytes_eq id x.id) refl h (found_id es id e)
  where
    by : (b : Bool) → bytes_eq id x.id ≡ b → cond b (Some x) (find es id) ≡ Some e → (find es id ≡ Some e → (e.id ≡ id) × In id (ids es))
        → (e.id ≡ id) × In id (ids (x ∷ es))
    by true is h rest =
        let same = (bytes_eq-Decides id x.id).0 is in
        (ap (λ (y : Element). y.id) (sym (same_Some x e h)) ∙ sym same, inl same)
    by false is h rest = let r = rest h in (r.0, inr r.1)

pub found_in : (es : List Element) (id : Text) → is_some (find es id) ≡ true → In id (ids es)
found_in es id h = by (find es id) refl h
  where
    by : (o : Option Element) → find es id ≡ o → is_some o ≡ true → In id (ids es)
    by None is some = absurd (false≢true some)
    by (Some e) is some = (found_id es id e is).1

pub finds : (es : List Element) (id : Text) → In id (ids es) → (e : Element) × (find es id ≡ Some e)
finds [] id h = absurd h
finds (x ∷ es) id h = by (bytes_eq id x.id) refl (finds es id)
  where
    by : (b : Bool) → bytes_eq id x.id ≡ b → (In id (ids es) → (e : Element) × (find es id ≡ Some e))
        → (e : Element) × (cond b (Some x) (find es id) ≡ Some e)
    by true is rest = (x, refl)
    by false is rest =
        elim h [
          | inl e ↦ absurd (false≢true (sym is ∙ (bytes_eq-Decides id x.id).1 e))
          | inr later ↦ rest later
        ]

-- ---- the children and slices of an id

this_is : (id : Text) (o : Option Text) → is_this id o ≡ true → o ≡ Some id
this_is id None e = absurd (false≢true e)
this_is id (Some other) e = ap Some (sym ((bytes_eq-Decides id other).0 e))

is_one : (id : Text) (o : Option Text) → o ≡ Some id → is_this id o ≡ true
is_one id o e = ap (is_this id) e ∙ (bytes_eq-Decides id id).1 refl

parent_parts : (id up : Text) → parent_of id ≡ Some up → (slice_of id ≡ None) × (front_of id ≡ Some up)
parent_parts id up e = by (slice_of id) refl e
  where
    by : (o : Option Text) → slice_of id ≡ o → cond (is_some o) None (front_of id) ≡ Some up → (o ≡ None) × (front_of id ≡ Some up)
    by None is e = (refl, e)
    by (Some s) is e = absurd (none-some up e)

pub parent_from : (id up : Text) → slice_of id ≡ None → front_of id ≡ Some up → parent_of id ≡ Some up
parent_from id up none e = ap (λ (o : Option Text). cond (is_some o) None (front_of id)) none ∙ e

pub Child : List Element → Text → Text → Type 0
Child es id name = (e : Element) × In e.id (ids es) × (parent_of e.id ≡ Some id) × (name_of e.id ≡ name)

later_child : (x : Element) (es : List Element) (id name : Text) → Child es id name → Child (x ∷ es) id name
unfolding Child
later_child x es id name c = (c.0, inr c.1, c.2, c.3)

pub child_in : (es : List Element) (id name : Text) → In name (names_under es id) → Child es id name
unfolding Child
child_in [] id name h = absurd h
child_in (x ∷ es) id name h = by (is_this id (parent_of x.id)) refl h (child_in es id name)
  where
    by : (b : Bool) → is_this id (parent_of x.id) ≡ b
        → In name (map (λ e. name_of e.id) (cond b (x ∷ filter (λ e. is_this id (parent_of e.id)) es) (filter (λ e. is_this id (parent_of e.id)) es)))
        → (In name (names_under es id) → Child es id name) → Child (x ∷ es) id name
    by true is (inl e) rest = (x, inl refl, this_is id (parent_of x.id) is, sym e)
    by true is (inr h) rest = later_child x es id name (rest h)
    by false is h rest = later_child x es id name (rest h)

pub in_child : (es : List Element) (id x : Text) → In x (ids es) → parent_of x ≡ Some id → In (name_of x) (names_under es id)
in_child [] id x h is = absurd h
in_child (e ∷ es) id x h is = by (is_this id (parent_of e.id)) refl h (λ h. in_child es id x h is)
  where
    by : (b : Bool) → is_this id (parent_of e.id) ≡ b → (x ≡ e.id) ⊎ In x (ids es) → (In x (ids es) → In (name_of x) (names_under es id))
        → In (name_of x) (map (λ e. name_of e.id)
        (cond b (e ∷ filter (λ e. is_this id (parent_of e.id)) es) (filter (λ e. is_this id (parent_of e.id)) es)))
    by true this (inl same) rest = inl (ap name_of same)
    by true this (inr h) rest = inr (rest h)
    by false this (inl same) rest = absurd (false≢true (sym this ∙ is_one id (parent_of e.id) (ap parent_of (sym same) ∙ is)))
    by false this (inr h) rest = rest h

pub in_sliced : (es : List Element) (id x : Text) → In x (ids es) → slice_parent_of x ≡ Some id → In (name_of x) (sliced_names_under es id)
in_sliced [] id x h is = absurd h
in_sliced (e ∷ es) id x h is = by (is_this id (slice_parent_of e.id)) refl h (λ h. in_sliced es id x h is)
  where
    by : (b : Bool) → is_this id (slice_parent_of e.id) ≡ b → (x ≡ e.id) ⊎ In x (ids es) → (In x (ids es) → In (name_of x) (sliced_names_under es id))
        → In (name_of x) (map (λ e. name_of e.id)
        (cond b (e ∷ filter (λ e. is_this id (slice_parent_of e.id)) es) (filter (λ e. is_this id (slice_parent_of e.id)) es)))
    by true this (inl same) rest = inl (ap name_of same)
    by true this (inr h) rest = inr (rest h)
    by false this (inl same) rest = absurd (false≢true (sym this ∙ is_one id (slice_parent_of e.id) (ap slice_parent_of (sym same) ∙ is)))
    by false this (inr h) rest = rest h

pub slice_in : (es : List Element) (id x : Text) → In x (slices_under es id) → In x (ids es) × (sliced_of x ≡ Some id)
slice_in [] id x h = absurd h
slice_in (e ∷ es) id x h = by (is_this id (sliced_of e.id)) refl h (slice_in es id x)
  where
    by : (b : Bool) → is_this id (sliced_of e.id) ≡ b
        → In x (map (λ e. e.id) (cond b (e ∷ filter (λ e. is_this id (sliced_of e.id)) es) (filter (λ e. is_this id (sliced_of e.id)) es)))
        → (In x (slices_under es id) → In x (ids es) × (sliced_of x ≡ Some id)) → In x (ids (e ∷ es)) × (sliced_of x ≡ Some id)
    by true is (inl same) rest = (inl same, ap sliced_of same ∙ this_is id (sliced_of e.id) is)
    by true is (inr h) rest = let r = rest h in (inr r.0, r.1)
    by false is h rest = let r = rest h in (inr r.0, r.1)

pub in_slice : (es : List Element) (id x : Text) → In x (ids es) → sliced_of x ≡ Some id → In x (slices_under es id)
in_slice [] id x h is = absurd h
in_slice (e ∷ es) id x h is = by (is_this id (sliced_of e.id)) refl h (λ h. in_slice es id x h is)
  where
    by : (b : Bool) → is_this id (sliced_of e.id) ≡ b → (x ≡ e.id) ⊎ In x (ids es) → (In x (ids es) → In x (slices_under es id))
        → In x (map (λ e. e.id) (cond b (e ∷ filter (λ e. is_this id (sliced_of e.id)) es) (filter (λ e. is_this id (sliced_of e.id)) es)))
    by true this (inl same) rest = inl same
    by true this (inr h) rest = inr (rest h)
    by false this (inl same) rest = absurd (false≢true (sym this ∙ is_one id (sliced_of e.id) (ap sliced_of (sym same) ∙ is)))
    by false this (inr h) rest = rest h

-- ---- no two of them are alike

same_id : (id x y : Text) → parent_of x ≡ Some id → parent_of y ≡ Some id → name_of x ≡ name_of y → x ≡ y
same_id id x y one other e =
    let first = parent_parts x id one in
    let second = parent_parts y id other in
    child_again x id first.0 first.1 ∙ ap (child_id id) e ∙ sym (child_again y id second.0 second.1)

pub names_differ : (es : List Element) (id : Text) → Differ (ids es) → Differ (names_under es id)
unfolding Child
names_differ [] id d = tt
names_differ (x ∷ es) id d = by (is_this id (parent_of x.id)) refl (names_differ es id d.1)
  where
    by : (b : Bool) → is_this id (parent_of x.id) ≡ b → Differ (names_under es id)
        → Differ (map (λ e. name_of e.id) (cond b (x ∷ filter (λ e. is_this id (parent_of e.id)) es) (filter (λ e. is_this id (parent_of e.id)) es)))
    by true is rest = (
      λ h. let c = child_in es id (name_of x.id) h in
          d.0 (subst (λ (y : Text). In y (ids es)) (same_id id c.0.id x.id c.2 (this_is id (parent_of x.id) is) c.3) c.1),
      rest,
    )
    by false is rest = rest

pub slices_differ : (es : List Element) (id : Text) → Differ (ids es) → Differ (slices_under es id)
slices_differ [] id d = tt
slices_differ (x ∷ es) id d = by (is_this id (sliced_of x.id)) refl (slices_differ es id d.1)
  where
    by : (b : Bool) → is_this id (sliced_of x.id) ≡ b → Differ (slices_under es id)
        → Differ (map (λ e. e.id) (cond b (x ∷ filter (λ e. is_this id (sliced_of e.id)) es) (filter (λ e. is_this id (sliced_of e.id)) es)))
    by true is rest = (λ h. d.0 (slice_in es id x.id h).0, rest)
    by false is rest = rest

pub names_read : (es : List Element) (id : Text) → Each IsName (names_under es id)
unfolding Child
names_read es id name h = let c = child_in es id name h in subst IsName c.3 (name_read c.0.id)

pub names_plain : (es : List Element) (id : Text) → Each IsPlain (ids es) → Each IsPlain (names_under es id)
unfolding Child
names_plain es id plain name h = let c = child_in es id name h in subst IsPlain c.3 (name_lacks line_feed c.0.id (plain c.0.id c.1))

-- ---- what stands under an id

pub in_map : (f : Text → Text) (xs : List Text) (x : Text) → In x xs → In (f x) (map f xs)
in_map f [] x h = absurd h
in_map f (y ∷ ys) x (inl e) = inl (ap f e)
in_map f (y ∷ ys) x (inr h) = inr (in_map f ys x h)

pub map_in : (f : Text → Text) (xs : List Text) (x : Text) → In x (map f xs) → (y : Text) × In y xs × (x ≡ f y)
map_in f [] x h = absurd h
map_in f (y ∷ ys) x (inl e) = (y, inl refl, e)
map_in f (y ∷ ys) x (inr h) = let rest = map_in f ys x h in (rest.0, inr rest.1, rest.2)

pub stands_under : (es : List Element) (id up : Text) → In id (ids es) → up_of id ≡ Some up
    → In id (map (child_id up) (names_under es up) ++ slices_under es up)
stands_under es id up h e = by (sliced_of id) refl
  where
    by : (o : Option Text) → sliced_of id ≡ o → In id (map (child_id up) (names_under es up) ++ slices_under es up)
    by None is =
        let none = sliced_none id is in
        let front : front_of id ≡ Some up = sym (up_unsliced id none) ∙ e in
        in_left id (map (child_id up) (names_under es up)) (slices_under es up)
        (subst (λ (x : Text). In x (map (child_id up) (names_under es up))) (sym (child_again id up none front))
        (in_map (child_id up) (names_under es up) (name_of id) (in_child es up id h (parent_from id up none front))))
    by (Some other) is =
        let same : other ≡ up = same_Some other up (sym (up_sliced id other is) ∙ e) in
        in_right id (map (child_id up) (names_under es up)) (slices_under es up) (in_slice es up id h (is ∙ ap Some same))
