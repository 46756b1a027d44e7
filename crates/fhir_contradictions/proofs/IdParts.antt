-- What the ids of elements are made of, and how elements are found by them.
use Rattle.std.proofs.Common.{◌≡◌, ◌+◌, ◌-◌, ℕ, zero, suc, Bool, true, false, cond, ◌==◌, List, [], ◌∷◌, ◌++◌, take, length, Option, None, Some, refl, sym, ap, ◌∙◌, IsTrue, arith, append_assoc, length-append, take_at}
use Rattle.std.specs.Option.{option_map, option_map_or}
use Rattle.std.specs.List.{slice_get}
use Rattle.std.specs.Str.{bytes_eq}
use Rattle.std.proofs.lemmas.Bool.{and_parts, false≢true, eqb-true}
use Rattle.std.proofs.lemmas.Option.{none-some, same_Some}
use Rattle.std.proofs.lemmas.Slice.Eq.{bytes_eq-Decides}
use Rattle.fhir_json.specs.Tree.{Text}
use Rattle.fhir_json.specs.Bytes.{dot, colon}
use Rattle.fhir_names.specs.Texts.{cut_at_first, cut_at_last}
use Rattle.fhir_names.specs.Segments.{SegmentParts, segment_parts}
use Rattle.fhir_names.specs.Parents.{front_of, name_of, slice_of, sliced_of}
use Rattle.fhir_elements.specs.Element.{Element}
use Rattle.fhir_definition.specs.Snapshot.{id_place_from, id_place, is_at, are_first, ids_differ}

-- ---- what an id is made of

-- a text that is cut at the last byte c is what stands before it, c, and what stands behind it
joined_last : (c : ℕ) (t : Text) (p : Text × Text) → cut_at_last c t ≡ Some p → p.0 ++ c ∷ p.1 ≡ t
joined_last c [] p e = absurd (none-some p e)
joined_last c (b ∷ bs) p e = behind (cut_at_last c bs) refl e (joined_last c bs)
  where
    here : (v : Bool) → (b == c) ≡ v → cond v (Some ([], bs)) None ≡ Some p → p.0 ++ c ∷ p.1 ≡ b ∷ bs
    here true is e = ap (λ (q : Text × Text). q.0 ++ c ∷ q.1) (sym (same_Some ([], bs) p e)) ∙ ap (λ (k : ℕ). k ∷ bs) (sym (eqb-true b c is))
    here false is e = absurd (none-some p e)

    behind : (o : Option (Text × Text)) → cut_at_last c bs ≡ o
        → option_map_or (λ (q : Text × Text). Some (b ∷ q.0, q.1)) o (cond (b == c) (Some ([], bs)) None) ≡ Some p
        → ((q : Text × Text) → cut_at_last c bs ≡ Some q → q.0 ++ c ∷ q.1 ≡ bs) → p.0 ++ c ∷ p.1 ≡ b ∷ bs
    behind None is e more = here (b == c) refl e
    behind (Some q) is e more =
        ap (λ (r : Text × Text). r.0 ++ c ∷ r.1) (sym (same_Some (b ∷ q.0, q.1) p e)) ∙ ap (λ (t : Text). b ∷ t) (more q is)

-- so is one that is cut at the first
joined_first : (c : ℕ) (t : Text) (p : Text × Text) → cut_at_first c t ≡ Some p → p.0 ++ c ∷ p.1 ≡ t
joined_first c [] p e = absurd (none-some p e)
joined_first c (b ∷ bs) p e = here (b == c) refl e (joined_first c bs)
  where
    behind : (o : Option (Text × Text)) → cut_at_first c bs ≡ o → option_map (λ (q : Text × Text). (b ∷ q.0, q.1)) o ≡ Some p
        → ((q : Text × Text) → cut_at_first c bs ≡ Some q → q.0 ++ c ∷ q.1 ≡ bs) → p.0 ++ c ∷ p.1 ≡ b ∷ bs
    behind None is e more = absurd (none-some p e)
    behind (Some q) is e more =
        ap (λ (r : Text × Text). r.0 ++ c ∷ r.1) (sym (same_Some (b ∷ q.0, q.1) p e)) ∙ ap (λ (t : Text). b ∷ t) (more q is)

    here : (v : Bool) → (b == c) ≡ v → cond v (Some ([], bs)) (option_map (λ (q : Text × Text). (b ∷ q.0, q.1)) (cut_at_first c bs)) ≡ Some p
        → ((q : Text × Text) → cut_at_first c bs ≡ Some q → q.0 ++ c ∷ q.1 ≡ bs) → p.0 ++ c ∷ p.1 ≡ b ∷ bs
    here true is e more =
        ap (λ (q : Text × Text). q.0 ++ c ∷ q.1) (sym (same_Some ([], bs) p e)) ∙ ap (λ (k : ℕ). k ∷ bs) (sym (eqb-true b c is))
    here false is e more = behind (cut_at_first c bs) refl e more

-- the parts of a segment, by where it is cut
abbrev parts_by : Text → Option (Text × Text) → SegmentParts
parts_by t o = option_map_or (λ p. (p.0, Some p.1)) o (t, None)

-- a segment that names no slice is a name
segment_whole : (t : Text) → (segment_parts t).1 ≡ None → (segment_parts t).0 ≡ t
segment_whole t = go (cut_at_first colon t)
  where
    go : (o : Option (Text × Text)) → (parts_by t o).1 ≡ None → (parts_by t o).0 ≡ t
    go None none = refl
    go (Some p) none = absurd (none-some p.1 (sym none))

-- the id of a child is that of what it is a child of, a dot, and its name
pub child_id : (id front : Text) → front_of id ≡ Some front → slice_of id ≡ None → front ++ dot ∷ name_of id ≡ id
child_id id front = go (cut_at_last dot id) refl
  where
    go : (o : Option (Text × Text)) → cut_at_last dot id ≡ o → option_map (λ (p : Text × Text). p.0) o ≡ Some front
        → (segment_parts (option_map_or (λ (p : Text × Text). p.1) o id)).1 ≡ None
        → front ++ dot ∷ (segment_parts (option_map_or (λ (p : Text × Text). p.1) o id)).0 ≡ id
    go None is e none = absurd (none-some front e)
    go (Some p) is e none =
        ap (λ (t : Text). front ++ dot ∷ t) (segment_whole p.1 none)
        ∙ ap (λ (t : Text). t ++ dot ∷ p.1) (sym (same_Some p.0 front e))
        ∙ joined_last dot id p is

-- a text that ends in a ':' and that name
abbrev EndsIn : Text → Text → Type 0
EndsIn name text = (front : Text) × (front ++ colon ∷ name ≡ text)

-- so does a segment with a slice of that name
segment_ends : (t name : Text) → (segment_parts t).1 ≡ Some name → EndsIn name t
segment_ends t name = go (cut_at_first colon t) refl
  where
    go : (o : Option (Text × Text)) → cut_at_first colon t ≡ o → (parts_by t o).1 ≡ Some name → EndsIn name t
    go None is e = absurd (none-some name e)
    go (Some p) is e = (p.0, ap (λ (s : Text). p.0 ++ colon ∷ s) (sym (same_Some p.1 name e)) ∙ joined_first colon t p is)

-- and an id with one
id_ends : (id name : Text) → slice_of id ≡ Some name → EndsIn name id
id_ends id name = go (cut_at_last dot id) refl
  where
    go : (o : Option (Text × Text)) → cut_at_last dot id ≡ o → (segment_parts (option_map_or (λ (p : Text × Text). p.1) o id)).1 ≡ Some name
        → EndsIn name id
    go None is e = segment_ends id name e
    go (Some p) is e =
        let last = segment_ends p.1 name e in (
          p.0 ++ dot ∷ last.0,
          append_assoc p.0 (dot ∷ last.0) (colon ∷ name) ∙ ap (λ (t : Text). p.0 ++ dot ∷ t) last.1 ∙ joined_last dot id p is,
        )

-- the id of a slice is that of what it is a slice of, a ':', and its name
pub slice_id : (id sliced name : Text) → sliced_of id ≡ Some sliced → slice_of id ≡ Some name → sliced ++ colon ∷ name ≡ id
slice_id id sliced name cut names =
    let ends = id_ends id name names in
    let n : length id ≡ length ends.0 + suc (length name) = ap length (sym ends.1) ∙ length-append ends.0 (colon ∷ name) in
    let place : length ends.0 ≡ length id - (length name + 1) = omega arith in
    let taken : take (length id - (length name + 1)) id ≡ ends.0 =
    ap (take (length id - (length name + 1))) (sym ends.1) ∙ take_at ends.0 (colon ∷ name) (length id - (length name + 1)) place in
    let given : take (length id - (length name + 1)) id ≡ sliced =
    same_Some (take (length id - (length name + 1)) id) sliced
    (sym (ap (option_map (λ (s : Text). take (length id - (length s + 1)) id)) names) ∙ cut) in
    ap (λ (t : Text). t ++ colon ∷ name) (sym given ∙ taken) ∙ ends.1

-- ---- elements by their ids

-- an element with an id that stands at a place
record IsFound (n : ℕ) (es : List Element) (id : Text) (place : ℕ) : Type 0 where
  off : ℕ
  at : n + off ≡ place
  element : Element
  there : slice_get es off ≡ Some element
  named : id ≡ element.id

-- where an id has a place an element with it stands there
found : (n : ℕ) (es : List Element) (id : Text) (place : ℕ) → id_place_from n es id ≡ Some place → IsFound n es id place
found n [] id place e = absurd (none-some place e)
found n (x ∷ es) id place e = go (bytes_eq id x.id) refl e (found (suc n) es id place)
  where
    go : (b : Bool) → bytes_eq id x.id ≡ b → cond b (Some n) (id_place_from (suc n) es id) ≡ Some place
        → (id_place_from (suc n) es id ≡ Some place → IsFound (suc n) es id place) → IsFound n (x ∷ es) id place
    go true is e behind =
        record {
          off = 0;
          at = omega (arith, same_Some n place e);
          element = x;
          there = refl;
          named = (bytes_eq-Decides id x.id).0 is;
        }
    go false is e behind =
        let more = behind e in
        record {
          off = suc more.off;
          at = omega (arith, more.at);
          element = more.element;
          there = more.there;
          named = more.named;
        }

-- two ids of one place are one id
pub one_id : (es : List Element) (a b : Text) (place : ℕ) → id_place es a ≡ Some place → id_place es b ≡ Some place → a ≡ b
one_id es a b place at_a at_b =
    let f = found 0 es a place at_a in
    let g = found 0 es b place at_b in
    let off : f.off ≡ g.off = omega (arith, f.at, g.at) in
    let same : f.element ≡ g.element = same_Some f.element g.element (sym f.there ∙ (ap (slice_get es) off ∙ g.there)) in
    f.named ∙ (ap (λ (e : Element). e.id) same ∙ sym g.named)

-- what is at a place is that place
pub at_some : (p : ℕ) (o : Option ℕ) → IsTrue (is_at p o) → o ≡ Some p
at_some p None e = absurd (false≢true e)
at_some p (Some q) e = ap Some (sym (eqb-true p q e))

-- where ids differ each element is found by its id
place_of_id : (all : List Element) (n : ℕ) (es : List Element) (k p : ℕ) (e : Element) → IsTrue (are_first all n es) → slice_get es k ≡ Some e
    → p ≡ n + k → id_place all e.id ≡ Some p
place_of_id all n [] k p e h at is = absurd (none-some e at)
place_of_id all n (x ∷ es) zero p e h at is =
    let first = at_some n (id_place all x.id) (and_parts (is_at n (id_place all x.id)) (are_first all (suc n) es) h).0 in
    let same : n ≡ p = omega arith in
    ap (λ (e : Element). id_place all e.id) (sym (same_Some x e at)) ∙ (first ∙ ap Some same)
place_of_id all n (x ∷ es) (suc k) p e h at is =
    place_of_id all (suc n) es k p e (and_parts (is_at n (id_place all x.id)) (are_first all (suc n) es) h).1 at (omega arith)

-- two elements with one id stand at one place
pub one_place : (es : List Element) (a b : ℕ) (x y : Element) → IsTrue (ids_differ es) → slice_get es a ≡ Some x → slice_get es b ≡ Some y
    → x.id ≡ y.id → a ≡ b
one_place es a b x y differ at_a at_b same =
    same_Some a b
    (sym (place_of_id es 0 es a a x differ at_a (omega arith)) ∙ (ap (id_place es) same ∙ place_of_id es 0 es b b y differ at_b (omega arith)))
