-- What an id says of the id under which it stands.
use Rattle.std.proofs.Common.{◌≡◌, ℕ, suc, ◌+◌, ◌-◌, ◌<◌, ◌∷◌, ◌++◌, length, take, true, cond, Option, None, Some, is_some, option_map, refl, ap}
use Rattle.std.proofs.Common.{sym, ◌∙◌, arith, length-append, append_assoc}
use Rattle.std.proofs.Math.Seq.{take-append_seam}
use Rattle.std.specs.Option.{option_map_or}
use Rattle.std.proofs.lemmas.Bool.{and_parts, and_from}
use Rattle.std.proofs.lemmas.List.Folds.{list_all-append}
use Rattle.std.proofs.lemmas.Option.{none-some, same_Some}
use Rattle.fhir_json.specs.Tree.{Text}
use Rattle.fhir_json.specs.Bytes.{dot, colon}
use Rattle.fhir_names.specs.Texts.{lacks, cut_at_first, cut_at_last}
use Rattle.fhir_names.specs.Segments.{SegmentParts, segment_parts}
use Rattle.fhir_names.specs.Parents.{front_of, last_segment, name_of, slice_of, sliced_of}
use Rattle.fhir_names.proofs.Cuts.{IsFirstCut, first_is, first_none, IsLastCut, last_is, last_found}
use Rattle.fhir_names.proofs.ReadIds.{segment_parts_by}
use Rattle.fhir_names.proofs.Slices.{EndsIn}
use Rattle.fhir_definition.specs.Snapshot.{up_of}
use Rattle.fhir_inheritance.specs.Keys.{child_id}

-- ---- texts that lack a byte

lacks_parts : (c : ℕ) (xs ys : Text) → lacks c (xs ++ ys) ≡ true → (lacks c xs ≡ true) × (lacks c ys ≡ true)
lacks_parts c xs ys e = and_parts (lacks c xs) (lacks c ys) (sym (list_all-append _ xs ys) ∙ e)

pub lacks_both : (c : ℕ) (xs ys : Text) → lacks c xs ≡ true → lacks c ys ≡ true → lacks c (xs ++ ys) ≡ true
lacks_both c xs ys one other = list_all-append _ xs ys ∙ and_from _ _ one other

-- a name of a child
pub record IsName (name : Text) : Type 0 where
  pub undotted : lacks dot name ≡ true
  pub whole : lacks colon name ≡ true

-- ---- the id of a child

front_child : (id name : Text) → lacks dot name ≡ true → front_of (child_id id name) ≡ Some id
front_child id name h = ap (option_map (λ (p : Text × Text). p.0)) (last_found dot id name h)

last_child : (id name : Text) → lacks dot name ≡ true → last_segment (child_id id name) ≡ name
last_child id name h = ap (λ (o : Option (Text × Text)). option_map_or (λ (p : Text × Text). p.1) o (child_id id name)) (last_found dot id name h)

parts_child : (id name : Text) → IsName name → segment_parts (last_segment (child_id id name)) ≡ (name, None)
parts_child id name h = ap segment_parts (last_child id name h.undotted) ∙ ap (segment_parts_by name) (first_none colon name h.whole)

pub name_child : (id name : Text) → IsName name → name_of (child_id id name) ≡ name
name_child id name h = ap (λ (p : SegmentParts). p.0) (parts_child id name h)

pub unsliced_child : (id name : Text) → IsName name → slice_of (child_id id name) ≡ None
unsliced_child id name h = ap (λ (p : SegmentParts). p.1) (parts_child id name h)

pub up_unsliced : (id : Text) → slice_of id ≡ None → up_of id ≡ front_of id
up_unsliced id e = ap (λ (o : Option Text). cond (is_some o) (sliced_of id) (front_of id)) e

pub up_child : (id name : Text) → IsName name → up_of (child_id id name) ≡ Some id
up_child id name h = up_unsliced (child_id id name) (unsliced_child id name h) ∙ front_child id name h.undotted

pub same_child : (id one other : Text) → IsName one → IsName other → child_id id one ≡ child_id id other → one ≡ other
same_child id one other first second e = sym (name_child id one first) ∙ ap name_of e ∙ name_child id other second

-- ---- the id of a slice

pub up_sliced : (id up : Text) → sliced_of id ≡ Some up → up_of id ≡ Some up
up_sliced id up e = by (slice_of id) refl
  where
    by : (o : Option Text) → slice_of id ≡ o → up_of id ≡ Some up
    by None is = absurd (none-some up (sym (ap (option_map (λ s. take (length id - (length s + 1)) id)) is) ∙ e))
    by (Some s) is = ap (λ (o : Option Text). cond (is_some o) (sliced_of id) (front_of id)) is ∙ e

pub sliced_none : (id : Text) → sliced_of id ≡ None → slice_of id ≡ None
sliced_none id e = by (slice_of id) refl
  where
    by : (o : Option Text) → slice_of id ≡ o → o ≡ None
    by None is = refl
    by (Some s) is = absurd (none-some _ (sym e ∙ ap (option_map (λ s. take (length id - (length s + 1)) id)) is))

pub none_sliced : (id up : Text) → slice_of id ≡ None → sliced_of id ≡ Some up → ⊥
none_sliced id up none e = none-some up (sym (ap (option_map (λ s. take (length id - (length s + 1)) id)) none) ∙ e)

-- ---- a name is read of any id

lone : (s : Text) (r : Option (Text × Text)) → IsFirstCut colon s r → lacks colon (segment_parts_by s r).0 ≡ true
lone s None h = h
lone s (Some p) h = h.1

part_lacks : (c : ℕ) (s : Text) (r : Option (Text × Text)) → IsFirstCut colon s r → lacks c s ≡ true → lacks c (segment_parts_by s r).0 ≡ true
part_lacks c s None h e = e
part_lacks c s (Some p) h e = (lacks_parts c p.0 (colon ∷ p.1) (sym (ap (lacks c) h.0) ∙ e)).0

last_lacks : (c : ℕ) (id : Text) (r : Option (Text × Text)) → IsLastCut dot id r → lacks c id ≡ true
    → lacks c (option_map_or (λ (p : Text × Text). p.1) r id) ≡ true
last_lacks c id None h e = e
last_lacks c id (Some p) h e =
    (and_parts _ _ (lacks_parts c p.0 (dot ∷ p.1) (sym (ap (lacks c) h.0) ∙ e)).1).1

last_undotted : (id : Text) (r : Option (Text × Text)) → IsLastCut dot id r → lacks dot (option_map_or (λ (p : Text × Text). p.1) r id) ≡ true
last_undotted id None h = h
last_undotted id (Some p) h = h.1

pub name_read : (id : Text) → IsName (name_of id)
name_read id =
    let last = last_segment id in
    let cut = first_is colon last in
    record {
      undotted = part_lacks dot last (cut_at_first colon last) cut (last_undotted id (cut_at_last dot id) (last_is dot id));
      whole = lone last (cut_at_first colon last) cut;
    }

pub name_lacks : (c : ℕ) (id : Text) → lacks c id ≡ true → lacks c (name_of id) ≡ true
name_lacks c id e =
    let last = last_segment id in
    part_lacks c last (cut_at_first colon last) (first_is colon last) (last_lacks c id (cut_at_last dot id) (last_is dot id) e)

-- an id that is no slice's is that of a child
name_whole : (s : Text) (r : Option (Text × Text)) → (segment_parts_by s r).1 ≡ None → (segment_parts_by s r).0 ≡ s
name_whole s None e = refl
name_whole s (Some p) e = absurd (none-some _ (sym e))

front_is : (id up : Text) (r : Option (Text × Text)) → IsLastCut dot id r → option_map (λ (p : Text × Text). p.0) r ≡ Some up
    → id ≡ up ++ dot ∷ option_map_or (λ (p : Text × Text). p.1) r id
front_is id up None h e = absurd (none-some up e)
front_is id up (Some p) h e = h.0 ∙ ap (λ (t : Text). t ++ dot ∷ p.1) (same_Some p.0 up e)

pub child_again : (id up : Text) → slice_of id ≡ None → front_of id ≡ Some up → id ≡ child_id up (name_of id)
child_again id up none e =
    front_is id up (cut_at_last dot id) (last_is dot id) e
    ∙ ap (child_id up) (sym (name_whole (last_segment id) (cut_at_first colon (last_segment id)) none))

-- ---- what stands in front

-- a text begins with another one
pub Begins : Text → Text → Type 0
Begins front text = (c : ℕ) × (rest : Text) × (text ≡ front ++ c ∷ rest)

segment_ends : (s slice : Text) (r : Option (Text × Text)) → IsFirstCut colon s r → (segment_parts_by s r).1 ≡ Some slice → EndsIn slice s
segment_ends s slice None h e = absurd (none-some slice e)
segment_ends s slice (Some p) h e = (p.0, h.0 ∙ ap (λ (t : Text). p.0 ++ colon ∷ t) (same_Some p.1 slice e))

last_ends : (id slice : Text) (r : Option (Text × Text)) → IsLastCut dot id r
    → (segment_parts (option_map_or (λ (p : Text × Text). p.1) r id)).1 ≡ Some slice
    → EndsIn slice id
last_ends id slice None h e = segment_ends id slice (cut_at_first colon id) (first_is colon id) e
last_ends id slice (Some p) h e =
    let last = segment_ends p.1 slice (cut_at_first colon p.1) (first_is colon p.1) e in
    (p.0 ++ dot ∷ last.0, h.0 ∙ ap (λ (t : Text). p.0 ++ dot ∷ t) last.1 ∙ sym (append_assoc p.0 (dot ∷ last.0) (colon ∷ slice)))

without_end : (xs ys : Text) (c : ℕ) → take (length (xs ++ c ∷ ys) - (length ys + 1)) (xs ++ c ∷ ys) ≡ xs
without_end xs ys c =
    let n : length (xs ++ c ∷ ys) ≡ length xs + suc (length ys) = length-append xs (c ∷ ys) in
    let place : length (xs ++ c ∷ ys) - (length ys + 1) ≡ length xs = omega arith in
    ap (λ i. take i (xs ++ c ∷ ys)) place ∙ take-append_seam xs (c ∷ ys)

begins_sliced : (id up : Text) (o : Option Text) → slice_of id ≡ o → option_map (λ s. take (length id - (length s + 1)) id) o ≡ Some up → Begins up id
unfolding Begins
begins_sliced id up None is e = absurd (none-some up e)
begins_sliced id up (Some s) is e =
    let ends = last_ends id s (cut_at_last dot id) (last_is dot id) is in
    let same : ends.0 ≡ up =
    sym (without_end ends.0 s colon) ∙ ap (λ (t : Text). take (length t - (length s + 1)) t) (sym ends.1) ∙ same_Some _ up e in
    (colon, s, ends.1 ∙ ap (λ (t : Text). t ++ colon ∷ s) same)

begins_front : (id up : Text) → front_of id ≡ Some up → Begins up id
unfolding Begins
begins_front id up e = (dot, last_segment id, front_is id up (cut_at_last dot id) (last_is dot id) e)

pub begins : (id up : Text) → up_of id ≡ Some up → Begins up id
begins id up e = by (slice_of id) refl
  where
    by : (o : Option Text) → slice_of id ≡ o → Begins up id
    by None is = begins_front id up (sym (up_unsliced id is) ∙ e)
    by (Some s) is =
        begins_sliced id up (slice_of id) refl
        (sym (ap (λ (o : Option Text). cond (is_some o) (sliced_of id) (front_of id)) is) ∙ e)

pub shorter : (id up : Text) → up_of id ≡ Some up → length up < length id
unfolding Begins
shorter id up e =
    let b = begins id up e in
    let n : length id ≡ length up + suc (length b.1) = ap length b.2 ∙ length-append up (b.0 ∷ b.1) in
    omega arith

pub up_lacks : (c : ℕ) (id up : Text) → up_of id ≡ Some up → lacks c id ≡ true → lacks c up ≡ true
unfolding Begins
up_lacks c id up e plain =
    let b = begins id up e in
    (lacks_parts c up (b.0 ∷ b.1) (sym (ap (lacks c) b.2) ∙ plain)).0
