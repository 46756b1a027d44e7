-- Ids that can be read.
use Rattle.std.proofs.Common.{◌≡◌, List, [], ◌∷◌, ◌++◌, true, None, Some, Result, Ok, Err, IsTrue, is_ok, refl, ap, sym, ◌∙◌, subst, arith, append_assoc}
use Rattle.std.specs.List.{list_all}
use Rattle.std.proofs.lemmas.Bool.{and_parts, and_from, false≢true}
use Rattle.std.proofs.lemmas.List.Folds.{list_all-append}
use Rattle.fhir_json.specs.Tree.{Text}
use Rattle.fhir_json.specs.Bytes.{dot, colon}
use Rattle.fhir_names.specs.declared.fault.NameFault.{NameFault}
use Rattle.fhir_names.specs.Segments.{SegmentParts, segment_text, is_name, is_segment}
use Rattle.fhir_names.specs.Ids.{id_text, IsIdOf, read_id}
use Rattle.fhir_names.proofs.Ends.{last_names}
use Rattle.fhir_names.proofs.ReadIds.{id_found, id_only}
use Rattle.fhir_inheritance.specs.Keys.{child_id, names_joined, path_in, path_of}
use Rattle.snapshot_laws.proofs.Ups.{IsName, name_child}
use Rattle.snapshot_laws.proofs.Unicode.{IsUnicode, parted, joined}

abbrev pub IsReadable : Text → Type 0
IsReadable id = IsTrue (is_ok (read_id id))

segments : (id : Text) → IsReadable id → (ps : List SegmentParts) × IsIdOf ps id
segments id h = by (read_id id) refl h
  where
    by : (r : Result (List SegmentParts) NameFault) → read_id id ≡ r → IsTrue (is_ok r) → (ps : List SegmentParts) × IsIdOf ps id
    by (Ok ps) is h = (ps, id_found id ps is)
    by (Err fault) is h = absurd (false≢true h)

readable : (ps : List SegmentParts) (id : Text) → IsIdOf ps id → IsReadable id
readable ps id h = ap is_ok (id_only id ps h)

-- ---- its path

name_unicode : (p : SegmentParts) → IsUnicode (segment_text p) → IsUnicode p.0
name_unicode (name, None) h = h
name_unicode (name, Some slice) h = (parted colon name slice (omega arith) h).0

names_unicode : (ps : List SegmentParts) → IsUnicode (id_text ps) → IsUnicode (names_joined ps)
names_unicode [] h = h
names_unicode (p ∷ []) h = name_unicode p h
names_unicode (p ∷ q ∷ ps) h =
    let parts = parted dot (segment_text p) (id_text (q ∷ ps)) (omega arith) h in
    joined dot p.0 (names_joined (q ∷ ps)) (omega arith) (name_unicode p parts.0) (names_unicode (q ∷ ps) parts.1)

-- the path of an id of Unicode is a text of Unicode
pub path_unicode : (id : Text) → IsReadable id → IsUnicode id → IsUnicode (path_of id)
path_unicode id h u =
    let s = segments id h in
    subst (λ (r : Result (List SegmentParts) NameFault). IsUnicode (path_in id r)) (sym (id_only id s.0 s.1))
    (names_unicode s.0 (subst IsUnicode s.1.2 u))

-- ---- the ids of children

parted_last : (p : SegmentParts) (ps : List SegmentParts) → (others : List SegmentParts) × (last : SegmentParts) × (p ∷ ps ≡ others ++ last ∷ [])
parted_last p [] = ([], p, refl)
parted_last p (q ∷ ps) = let it = parted_last q ps in (p ∷ it.0, it.1, ap (λ (l : List SegmentParts). p ∷ l) it.2)

name_right : (id name : Text) → IsName name → IsReadable (child_id id name) → IsTrue (is_name name)
name_right id name plain h = let s = segments (child_id id name) h in by s.0 s.1
  where
    by : (ps : List SegmentParts) → IsIdOf ps (child_id id name) → IsTrue (is_name name)
    by [] is = absurd (omega (arith, is.0))
    by (p ∷ ps) is =
        let it = parted_last p ps in
        let whole = subst (λ (l : List SegmentParts). IsIdOf l (child_id id name)) it.2 is in
        let named : it.1.0 ≡ name = sym (last_names it.0 it.1 (child_id id name) whole).0 ∙ name_child id name plain in
        let right = (and_parts (list_all is_segment it.0) (list_all is_segment (it.1 ∷ [])) (sym (list_all-append is_segment it.0 (it.1 ∷ [])) ∙ whole.1)).1 in
        let last = (and_parts (is_segment it.1) true right).0 in
        subst (λ (n : Text). IsTrue (is_name n)) named (and_parts (is_name it.1.0) _ last).0

text_behind : (p : SegmentParts) (ps : List SegmentParts) (name : Text) → id_text (p ∷ ps) ++ dot ∷ name ≡ id_text ((p ∷ ps) ++ (name, None) ∷ [])
text_behind p [] name = refl
text_behind p (q ∷ ps) name =
    append_assoc (segment_text p) (dot ∷ id_text (q ∷ ps)) (dot ∷ name)
    ∙ ap (λ (t : Text). segment_text p ++ dot ∷ t) (text_behind q ps name)

child_of : (ps : List SegmentParts) (front name : Text) → IsTrue (is_name name) → IsIdOf ps front → IsIdOf (ps ++ (name, None) ∷ []) (child_id front name)
child_of [] front name right is = absurd (omega (arith, is.0))
child_of (p ∷ ps) front name right is = (
  omega arith,
  list_all-append is_segment (p ∷ ps) ((name, None) ∷ []) ∙ and_from _ _ is.1 (and_from (is_segment (name, None)) true (and_from (is_name name) true right refl) refl),
  ap (λ (t : Text). t ++ dot ∷ name) is.2 ∙ text_behind p ps name,
)

-- a child's id can be read, where its parent's can, and so can that of another child of its name
pub child_readable : (front other name : Text) → IsName name → IsReadable front → IsReadable (child_id other name) → IsReadable (child_id front name)
child_readable front other name plain h i =
    let s = segments front h in
    readable (s.0 ++ (name, None) ∷ []) (child_id front name) (child_of s.0 front name (name_right other name plain i) s.1)

-- and it is of Unicode where these are
pub child_unicode : (front other name : Text) → IsUnicode front → IsUnicode (child_id other name) → IsUnicode (child_id front name)
child_unicode front other name h i = joined dot front name (omega arith) h (parted dot other name (omega arith) i).1
