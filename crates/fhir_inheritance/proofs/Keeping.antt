-- Elements as they are kept.
use Rattle.std.proofs.Common.{◌≡◌, ℕ, suc, ◌+◌, Bool, cond, true, false, List, [], ◌∷◌, ◌++◌, map, Option, None, Some, refl, ap, sym, ◌∙◌, subst, arith}
use Rattle.std.specs.List.{position_from, slice_get}
use Rattle.std.specs.Option.{option_map, option_and_then}
use Rattle.std.specs.Str.{bytes_eq}
use Rattle.std.proofs.lemmas.List.{map-append}
use Rattle.fhir_json.specs.Tree.{Text}
use Rattle.fhir_names.specs.Parents.{name_of, sliced_of}
use Rattle.fhir_names.specs.Places.{Places, Finds, place_of}
use Rattle.fhir_definition.specs.Snapshot.{id_place, id_place_from}
use Rattle.fhir_elements.specs.Element.{Element}
use Rattle.fhir_inheritance.specs.Named.{Groups, texts_under}
use Rattle.fhir_inheritance.specs.Elements.{find, is_this, parent_of, slice_parent_of, IsKept}
use Rattle.fhir_inheritance.proofs.Listed.{position-shift, picked-snoc}

at_next : (e : Element) (es : List Element) (o : Option ℕ) → option_and_then (slice_get es) o ≡ option_and_then (slice_get (e ∷ es)) (option_map suc o)
at_next e es None = refl
at_next e es (Some k) = refl

find_step : (b : Bool) (e : Element) (es : List Element) (o : Option ℕ) (found : Option Element)
    → found ≡ option_and_then (slice_get es) o → cond b (Some e) found ≡ option_and_then (slice_get (e ∷ es)) (cond b (Some 0) (option_map suc o))
find_step true e es o found h = refl
find_step false e es o found h = h ∙ at_next e es o

-- the first element of an id stands where the id first stands
pub find-at : (es : List Element) (id : Text) → find es id ≡ option_and_then (slice_get es) (position_from (bytes_eq id) 0 (map (λ e. e.id) es))
find-at [] id = refl
find-at (e ∷ es) id =
    find_step (bytes_eq id e.id) e es (position_from (bytes_eq id) 0 (map (λ e. e.id) es)) (find es id) (find-at es id)
    ∙ ap (λ (o : Option ℕ). option_and_then (slice_get (e ∷ es)) (cond (bytes_eq id e.id) (Some 0) o)) (sym (position-shift (bytes_eq id) 0 (map (λ e. e.id) es)))

-- one more element
kept-snoc : (es : List Element) (e : Element) (places more : Places) (children slices sliced others parts names : Groups) → IsKept es places children slices sliced
    → Finds more (map (λ e. e.id) es ++ e.id ∷ [])
    → ((id : Text) → texts_under others id ≡ texts_under children id ++ cond (is_this id (parent_of e.id)) (name_of e.id ∷ []) [])
    → ((id : Text) → texts_under parts id ≡ texts_under slices id ++ cond (is_this id (sliced_of e.id)) (e.id ∷ []) [])
    → ((id : Text) → texts_under names id ≡ texts_under sliced id ++ cond (is_this id (slice_parent_of e.id)) (name_of e.id ∷ []) [])
    → IsKept (es ++ e ∷ []) more others parts names
kept-snoc es e places more children slices sliced others parts names h found children_are slices_are sliced_are = record {
  ids = subst (Finds more) (sym (map-append (λ (x : Element). x.id) es (e ∷ []))) found;
  children_are = λ id.
      children_are id ∙ ap (λ (l : List Text). l ++ cond (is_this id (parent_of e.id)) (name_of e.id ∷ []) []) (h.children_are id)
      ∙ sym (picked-snoc (λ (x : Element). name_of x.id) (λ x. is_this id (parent_of x.id)) es e);
  slices_are = λ id.
      slices_are id ∙ ap (λ (l : List Text). l ++ cond (is_this id (sliced_of e.id)) (e.id ∷ []) []) (h.slices_are id)
      ∙ sym (picked-snoc (λ (x : Element). x.id) (λ x. is_this id (sliced_of x.id)) es e);
  sliced_are = λ id.
      sliced_are id ∙ ap (λ (l : List Text). l ++ cond (is_this id (slice_parent_of e.id)) (name_of e.id ∷ []) []) (h.sliced_are id)
      ∙ sym (picked-snoc (λ (x : Element). name_of x.id) (λ x. is_this id (slice_parent_of x.id)) es e);
}

-- the same, of an element whose id is this one
pub kept-by : (es : List Element) (e : Element) (own : Text) (places more : Places) (children slices sliced others parts names : Groups) → own ≡ e.id
    → IsKept es places children slices sliced
    → Finds more (map (λ e. e.id) es ++ own ∷ [])
    → ((id : Text) → texts_under others id ≡ texts_under children id ++ cond (is_this id (parent_of own)) (name_of own ∷ []) [])
    → ((id : Text) → texts_under parts id ≡ texts_under slices id ++ cond (is_this id (sliced_of own)) (own ∷ []) [])
    → ((id : Text) → texts_under names id ≡ texts_under sliced id ++ cond (is_this id (slice_parent_of own)) (name_of own ∷ []) [])
    → IsKept (es ++ e ∷ []) more others parts names
kept-by es e own places more children slices sliced others parts names is h found children_are slices_are sliced_are =
    kept-snoc es e places more children slices sliced others parts names h
    (subst (λ x. Finds more (map (λ (e : Element). e.id) es ++ x ∷ [])) is found)
    (λ id. children_are id ∙ ap (λ (x : Text). texts_under children id ++ cond (is_this id (parent_of x)) (name_of x ∷ []) []) is)
    (λ id. slices_are id ∙ ap (λ (x : Text). texts_under slices id ++ cond (is_this id (sliced_of x)) (x ∷ []) []) is)
    (λ id. sliced_are id ∙ ap (λ (x : Text). texts_under sliced id ++ cond (is_this id (slice_parent_of x)) (name_of x ∷ []) []) is)

-- ---- the first of an id

next_place : (n : ℕ) → suc n ≡ n + 1
next_place n = omega arith

id-place-from : (n : ℕ) (es : List Element) (id : Text) → id_place_from n es id ≡ position_from (bytes_eq id) n (map (λ e. e.id) es)
id-place-from n [] id = refl
id-place-from n (e ∷ es) id =
    ap (λ (o : Option ℕ). cond (bytes_eq id e.id) (Some n) o)
    (id-place-from (suc n) es id ∙ ap (λ (k : ℕ). position_from (bytes_eq id) k (map (λ (e : Element). e.id) es)) (next_place n))

-- the place of an id is that under which it is kept
pub place-is : (es : List Element) (places : Places) (id : Text) → Finds places (map (λ e. e.id) es) → id_place es id ≡ place_of places id
place-is es places id h = id-place-from 0 es id ∙ sym (h id)
