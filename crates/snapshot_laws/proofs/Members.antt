-- The fields of a definition that gets a snapshot.
use Rattle.std.proofs.Common.{◌≡◌, ◌++◌, Bool, cond, true, false, List, [], ◌∷◌, map, Option, Some, None, IsTrue, refl, ap, sym, ◌∙◌}
use Rattle.std.specs.Prelude.{not, All, Ok, codes}
use Rattle.std.specs.Option.{option_map_or}
use Rattle.std.specs.Str.{bytes_eq}
use Rattle.std.proofs.lemmas.Bool.{cond-false, false≢true, false_from_ne_true}
use Rattle.std.proofs.lemmas.List.Elements.{All-head, All-tail}
use Rattle.std.proofs.lemmas.Slice.Eq.{bytes_eq-Decides}
use Rattle.fhir_json.specs.Tree.{Text, Tree, null, boolean, number, string, array, object, list_of, items_of, Members, no_members, member, Property, members_of, properties_of}
use Rattle.fhir_json.specs.Fields.{value_named, field, is_object, members_in, items_in}
use Rattle.fhir_elements.specs.declared.reason.Reason.{Reason}
use Rattle.fhir_elements.specs.Element.{Element, element_fault, fields_of, unless, element_of}
use Rattle.fhir_overlay.specs.Overlay.{bounds_fit}
use Rattle.fhir_overlay.specs.Json.{element_tree}
use Rattle.fhir_overlay.specs.Writable.{is_writable}
use Rattle.fhir_overlay.specs.Completed.{snapshot_tree, without_member, with_snapshot}
use Rattle.fhir_inheritance.specs.Sources.{elements_in}

-- ---- a member in place of others of its name

-- the members but for those of a name, and then one of that name
abbrev pub with_last : Text → Tree → List Property → Members
with_last last s ps = members_of (without_member last ps ++ (last, s) ∷ [])

others_stay : (last name : Text) (s : Tree) (ps : List Property) → bytes_eq name last ≡ false
    → value_named name (with_last last s ps) ≡ value_named name (members_of ps)
others_stay last name s [] other = cond-false (bytes_eq name last) (Some s) None other
others_stay last name s (m ∷ ps) other = by (bytes_eq last m.0) refl (others_stay last name s ps other)
  where
    by : (b : Bool) → bytes_eq last m.0 ≡ b → value_named name (with_last last s ps) ≡ value_named name (members_of ps)
        → value_named name (members_of (cond (not b) (m ∷ without_member last ps) (without_member last ps) ++ (last, s) ∷ []))
        ≡ cond (bytes_eq name m.0) (Some m.1) (value_named name (members_of ps))
    by true is rest =
        rest ∙ sym (cond-false (bytes_eq name m.0) (Some m.1) (value_named name (members_of ps))
        (ap (bytes_eq name) (sym ((bytes_eq-Decides last m.0).0 is)) ∙ other))
    by false is rest = ap (λ (o : Option Tree). cond (bytes_eq name m.0) (Some m.1) o) rest

last_there : (last : Text) (s : Tree) (ps : List Property) → value_named last (with_last last s ps) ≡ Some s
last_there last s [] = ap (λ (b : Bool). cond b (Some s) None) ((bytes_eq-Decides last last).1 refl)
last_there last s (m ∷ ps) = by (bytes_eq last m.0) refl (last_there last s ps)
  where
    by : (b : Bool) → bytes_eq last m.0 ≡ b → value_named last (with_last last s ps) ≡ Some s
        → value_named last (members_of (cond (not b) (m ∷ without_member last ps) (without_member last ps) ++ (last, s) ∷ [])) ≡ Some s
    by true is rest = rest
    by false is rest = cond-false (bytes_eq last m.0) (Some m.1) (value_named last (with_last last s ps)) is ∙ rest

pub same_members : (ms : Members) → members_of (properties_of ms) ≡ ms
same_members no_members = refl
same_members (member name t ms) = ap (member name t) (same_members ms)

-- ---- a definition

pub others : (es : List Element) (t : Tree) (name : Text) → is_object t ≡ true → ¬ (name ≡ codes "snapshot")
    → field name (with_snapshot es t) ≡ field name t
others es null name is other = absurd (false≢true is)
others es (boolean b) name is other = absurd (false≢true is)
others es (number n) name is other = absurd (false≢true is)
others es (string s) name is other = absurd (false≢true is)
others es (array ts) name is other = absurd (false≢true is)
others es (object ms) name is other =
    others_stay (codes "snapshot") name (snapshot_tree es) (properties_of ms)
    (false_from_ne_true (bytes_eq name (codes "snapshot")) (λ e. other ((bytes_eq-Decides name (codes "snapshot")).0 e)))
    ∙ ap (value_named name) (same_members ms)

same_list : (ts : List Tree) → list_of (items_of ts) ≡ ts
same_list [] = refl
same_list (t ∷ ts) = ap (λ xs. t ∷ xs) (same_list ts)

ok_fields : (fault : Option Reason) (x e : Element) → unless fault x ≡ Ok e → x ≡ e
ok_fields None x e is = cc
ok_fields (Some reason) x e is = cc

abbrev Back : Type 0
Back = (e : Element) → IsTrue (is_writable e) → IsTrue (bounds_fit e) → element_of (element_tree e) ≡ Ok e

fields_back : Back → (es : List Element) → All (λ e. IsTrue (is_writable e)) es → All (λ e. IsTrue (bounds_fit e)) es
    → map fields_of (map element_tree es) ≡ es
fields_back back [] writable fit = refl
fields_back back (e ∷ es) writable fit =
    let first : fields_of (element_tree e) ≡ e =
    ok_fields (element_fault (element_tree e)) (fields_of (element_tree e)) e
    (back e (All-head (λ e. IsTrue (is_writable e)) e es writable) (All-head (λ e. IsTrue (bounds_fit e)) e es fit)) in
    ap (λ x. x ∷ map fields_of (map element_tree es)) first
    ∙ ap (λ xs. e ∷ xs)
    (fields_back back es (All-tail (λ e. IsTrue (is_writable e)) e es writable) (All-tail (λ e. IsTrue (bounds_fit e)) e es fit))

pub elements : Back → (es : List Element) (t : Tree) → All (λ e. IsTrue (is_writable e)) es → All (λ e. IsTrue (bounds_fit e)) es
    → elements_in (codes "snapshot") (with_snapshot es t) ≡ es
elements back es t writable fit =
    ap (λ (o : Option Tree). map fields_of (option_map_or (items_in (codes "element")) o []))
    (last_there (codes "snapshot") (snapshot_tree es) (properties_of (members_in t)))
    ∙ ap (map fields_of) (same_list (map element_tree es)) ∙ fields_back back es writable fit
