-- Definitions that stand in a text of JSON read again as they are written.
use Rattle.std.proofs.Common.{◌≡◌, ℕ, zero, suc, ◌≤◌, Bool, true, false, cond, List, [], ◌∷◌, ◌++◌, Option, None, Some, Ok, refl, sym, ap, subst, ◌∙◌, inl, inr, arith, append_assoc}
use Rattle.std.specs.Prelude.{codes, ◌↔◌}
use Rattle.std.specs.List.{AllByRecursion, flat_map}
use Rattle.std.specs.Option.{option_map, option_map_or, option_and_then}
use Rattle.std.specs.Str.{bytes_eq}
use Rattle.std.proofs.lemmas.Bool.{cases_Bool, leb-true, leb-false}
use Rattle.std.proofs.lemmas.Slice.Eq.{bytes_eq-Decides}
use Rattle.std.proofs.lemmas.Str.{IsUtf8-append, IsUtf8-from_ascii}
use Rattle.std.proofs.lemmas.Str.Ascii.{IsAscii-cons, IsAscii-nil}
use Rattle.std.proofs.Common.{leb}
use Rattle.fhir_json.specs.Tree.{Text, Tree, null, boolean, number, string, array, object, Items, no_items, item, Members, no_members, member, list_of}
use Rattle.fhir_json.specs.Bytes.{line_feed}
use Rattle.fhir_json.specs.Fields.{value_named, field, as_items, items_in, text_in}
use Rattle.fhir_json.specs.Sound.{IsSound, depth, items_depth, members_depth, larger, max_depth}
use Rattle.fhir_json.specs.Compact.{compact}
use Rattle.fhir_json.specs.Grammar.{Reads, IsTextOf, Padded, AreBlanks, Spells, mark}
use Rattle.fhir_json.specs.Reading.{reading}
use Rattle.fhir_json.proofs.SoundParts.{SoundIfAny, AreSound, field_sound, items_in_sound}
use Rattle.fhir_package.specs.declared.kind.Kind.{Kind}
use Rattle.fhir_package.specs.Packing.{Definition, is_bundle, resource_type, kind_named, definition_with, definition_of, held_within, in_entry, definitions_in}

-- ---- trees that are read

-- sound, and of no more levels than a text may have
pub record IsFit (t : Tree) : Type 0 where
  pub is_sound : IsSound t
  pub shallow : depth t ≤ max_depth

abbrev FitIfAny : Option Tree → Type 0
FitIfAny None = Unit {0}
FitIfAny (Some t) = IsFit t

abbrev AreFit : List Tree → Type 0
AreFit ts = AllByRecursion IsFit ts

first_within : (m n d : ℕ) → larger m n ≤ d → m ≤ d
first_within m n d h =
    elim (cases_Bool (leb m n)) [
      | inl is ↦ let most : n ≤ d = rw is at h in omega (arith, leb-true m n is)
      | inr isnt ↦ rw isnt at h
    ]

second_within : (m n d : ℕ) → larger m n ≤ d → n ≤ d
second_within m n d h =
    elim (cases_Bool (leb m n)) [
      | inl is ↦ rw is at h
      | inr isnt ↦ let most : m ≤ d = rw isnt at h in omega (arith, leb-false m n isnt)
    ]

abbrev Within : ℕ → Option Tree → Type 0
Within d None = Unit {0}
Within d (Some t) = depth t ≤ d

abbrev AllWithin : ℕ → List Tree → Type 0
AllWithin d ts = AllByRecursion (λ t. depth t ≤ d) ts

named_within : (d : ℕ) (name : Text) (ms : Members) → members_depth ms ≤ d → Within d (value_named name ms)
named_within d name no_members h = tt
named_within d name (member n t ms) h =
    by (bytes_eq name n) (first_within (depth t) (members_depth ms) d h) (named_within d name ms (second_within (depth t) (members_depth ms) d h))
  where
    by : (b : Bool) → depth t ≤ d → Within d (value_named name ms) → Within d (cond b (Some t) (value_named name ms))
    by true first rest = first
    by false first rest = rest

field_within : (d : ℕ) (name : Text) (t : Tree) → depth t ≤ d → Within d (field name t)
field_within d name null h = tt
field_within d name (boolean b) h = tt
field_within d name (number n) h = tt
field_within d name (string s) h = tt
field_within d name (array ts) h = tt
field_within d name (object ms) h = named_within d name ms (omega arith)

list_within : (d : ℕ) (ts : Items) → items_depth ts ≤ d → AllWithin d (list_of ts)
list_within d no_items h = tt
list_within d (item t ts) h = (first_within (depth t) (items_depth ts) d h, list_within d ts (second_within (depth t) (items_depth ts) d h))

as_items_within : (d : ℕ) (t : Tree) → depth t ≤ d → AllWithin d (list_of (as_items t))
as_items_within d null h = tt
as_items_within d (boolean b) h = tt
as_items_within d (number n) h = tt
as_items_within d (string s) h = tt
as_items_within d (array ts) h = list_within d ts (omega arith)
as_items_within d (object ms) h = tt

items_in_within : (d : ℕ) (name : Text) (t : Tree) → depth t ≤ d → AllWithin d (items_in name t)
items_in_within d name t h = by (field name t) (field_within d name t h)
  where
    by : (r : Option Tree) → Within d r → AllWithin d (option_map_or (λ v. list_of (as_items v)) r [])
    by None h = tt
    by (Some v) h = as_items_within d v h

field_fit : (name : Text) (t : Tree) → IsFit t → FitIfAny (field name t)
field_fit name t h = by (field name t) (field_sound name t h.is_sound) (field_within max_depth name t h.shallow)
  where
    by : (r : Option Tree) → SoundIfAny r → Within max_depth r → FitIfAny r
    by None s w = tt
    by (Some v) s w = record { is_sound = s; shallow = w }

items_fit : (name : Text) (t : Tree) → IsFit t → AreFit (items_in name t)
items_fit name t h = by (items_in name t) (items_in_sound name t h.is_sound) (items_in_within max_depth name t h.shallow)
  where
    by : (ts : List Tree) → AreSound ts → AllWithin max_depth ts → AreFit ts
    by [] s w = tt
    by (t ∷ ts) s w = (record { is_sound = s.0; shallow = w.0 }, by ts s.1 w.1)

-- ---- the definitions that they hold

-- a definition that is all of its tree
pub record IsWhole (d : Definition) : Type 0 where
  pub is_fit : IsFit d.tree
  pub itself : definition_of d.tree ≡ Some d

abbrev pub AreWhole : List Definition → Type 0
AreWhole ds = AllByRecursion IsWhole ds

held_tree : (t : Tree) (kind : Option Kind) (d : Definition) → option_and_then (definition_with t) kind ≡ Some d → d.tree ≡ t
held_tree t None d e = absurd cc
held_tree t (Some kind) d e = by (text_in (codes "url") t) e
  where
    made : Text → Definition
    made url = record { kind = kind; url = url; tree = t }

    same : (url : Text) → Some (made url) ≡ Some d → made url ≡ d
    same url e = cc

    by : (url : Option Text) → option_map made url ≡ Some d → d.tree ≡ t
    by None e = absurd cc
    by (Some url) e = sym (ap (λ (x : Definition). x.tree) (same url e))

itself_whole : (t : Tree) → IsFit t → AreWhole (option_map_or (λ d. d ∷ []) (definition_of t) [])
itself_whole t h = by (definition_of t) refl
  where
    by : (r : Option Definition) → definition_of t ≡ r → AreWhole (option_map_or (λ d. d ∷ []) r [])
    by None is = tt
    by (Some d) is =
        let e : t ≡ d.tree = sym (held_tree t (kind_named (resource_type t)) d is) in
        (record { is_fit = subst IsFit e h; itself = subst (λ (u : Tree). definition_of u ≡ Some d) e is }, tt)

both_whole : (ds es : List Definition) → AreWhole ds → AreWhole es → AreWhole (ds ++ es)
both_whole [] es h k = k
both_whole (d ∷ ds) es h k = (h.0, both_whole ds es h.1 k)

each_whole : (f : Tree → List Definition) (ts : List Tree) → ((t : Tree) → IsFit t → AreWhole (f t)) → AreFit ts → AreWhole (flat_map f ts)
each_whole f [] holds h = tt
each_whole f (t ∷ ts) holds h = both_whole (f t) (flat_map f ts) (holds t h.0) (each_whole f ts holds h.1)

entry_whole : (n : ℕ) → ((t : Tree) → IsFit t → AreWhole (held_within n t)) → (e : Tree) → IsFit e → AreWhole (in_entry n e)
entry_whole n holds e h = by (field (codes "resource") e) (field_fit (codes "resource") e h)
  where
    by : (r : Option Tree) → FitIfAny r → AreWhole (option_map_or (held_within n) r [])
    by None h = tt
    by (Some t) h = holds t h

held_whole : (n : ℕ) (t : Tree) → IsFit t → AreWhole (held_within n t)
unfolding held_within
held_whole zero t h = tt
held_whole (suc n) t h =
    by (is_bundle t) (each_whole (in_entry n) (items_in (codes "entry") t) (entry_whole n (held_whole n)) (items_fit (codes "entry") t h)) (itself_whole t h)
  where
    by : (b : Bool) → AreWhole (flat_map (in_entry n) (items_in (codes "entry") t)) → AreWhole (option_map_or (λ d. d ∷ []) (definition_of t) [])
        → AreWhole (cond b (flat_map (in_entry n) (items_in (codes "entry") t)) (option_map_or (λ d. d ∷ []) (definition_of t) []))
    by true entries itself = entries
    by false entries itself = itself

pub all_whole : (t : Tree) → IsFit t → AreWhole (definitions_in t)
unfolding definitions_in
all_whole t h = held_whole 128 t h

-- a definition is no Bundle
no_bundle : (t : Tree) (d : Definition) → definition_of t ≡ Some d → is_bundle t ≡ false
no_bundle t d e = by (is_bundle t) refl
  where
    none : definition_of t ≡ None → (let r : Option Definition = None in r ≡ Some d)
    none h = sym h ∙ e

    by : (b : Bool) → is_bundle t ≡ b → b ≡ false
    by false is = refl
    by true is =
        let type : resource_type t ≡ codes "Bundle" = (bytes_eq-Decides (resource_type t) (codes "Bundle")).0 is in
        let nothing : None ≡ Some d = none (ap (λ (n : Text). option_and_then (definition_with t) (kind_named n)) type) in
        absurd cc

-- so it holds itself and nothing else
pub holds_itself : (d : Definition) → IsWhole d → ((t : Tree) → is_bundle t ≡ false → definitions_in t ≡ option_map_or (λ d. d ∷ []) (definition_of t) [])
    → definitions_in d.tree ≡ d ∷ []
holds_itself d h other =
    other d.tree (no_bundle d.tree d h.itself) ∙ ap (λ (r : Option Definition). option_map_or (λ d. d ∷ []) r []) h.itself

-- ---- a line feed behind a text

line_blank : (bs : Text) → AreBlanks bs → AreBlanks (bs ++ line_feed ∷ [])
line_blank [] h = (refl, tt)
line_blank (b ∷ bs) h = (h.0, line_blank bs h.1)

line_padded : (P : Text → Type 0) (bs : Text) → Padded P bs → Padded P (bs ++ line_feed ∷ [])
line_padded P bs h = (h.0, h.1, h.2 ++ line_feed ∷ [], around h.0 h.1 h.2 h.3, h.4, h.5, line_blank h.2 h.6)
  where
    around : (before v after : Text) → bs ≡ before ++ (v ++ after) → bs ++ line_feed ∷ [] ≡ before ++ (v ++ (after ++ line_feed ∷ []))
    around before v after e =
        ap (λ (cs : Text). cs ++ line_feed ∷ []) e ∙ append_assoc before (v ++ after) (line_feed ∷ [])
        ∙ ap (λ (cs : Text). before ++ cs) (append_assoc v after (line_feed ∷ []))

line_text : (t : Tree) (bs : Text) → IsTextOf t bs → IsTextOf t (bs ++ line_feed ∷ [])
line_text t bs h = elim h [
  | inl padded ↦ inl (line_padded (Spells t) bs padded)
  | inr marked ↦ inr (marked.0 ++ line_feed ∷ [], ap (λ (cs : Text). cs ++ line_feed ∷ []) marked.1 ∙ append_assoc mark marked.0 (line_feed ∷ []), line_padded (Spells t) marked.0 marked.2)
]

line_reads : (t : Tree) (bs : Text) → Reads bs t → Reads (bs ++ line_feed ∷ []) t
line_reads t bs h = record {
  utf8 = IsUtf8-append bs (line_feed ∷ []) h.utf8 (IsUtf8-from_ascii (line_feed ∷ []) (IsAscii-cons line_feed [] (omega arith) IsAscii-nil));
  text = line_text t bs h.text;
  sound = h.sound;
  shallow = h.shallow;
}

-- a fit tree reads from its text and a line feed
pub reads_again : ((bs : Text) (t : Tree) → (reading bs ≡ Ok t) ↔ Reads bs t) → ((t : Tree) → (IsSound t × (depth t ≤ max_depth)) ↔ Reads (compact t) t)
    → (t : Tree) → IsFit t → reading (compact t ++ line_feed ∷ []) ≡ Ok t
reads_again agrees sounds t h = (agrees (compact t ++ line_feed ∷ []) t).1 (line_reads t (compact t) ((sounds t).0 (h.is_sound, h.shallow)))

-- what is read is fit
pub fit_read : ((bs : Text) (t : Tree) → (reading bs ≡ Ok t) ↔ Reads bs t) → (bs : Text) (t : Tree) → reading bs ≡ Ok t → IsFit t
fit_read agrees bs t is = let r = (agrees bs t).0 is in record { is_sound = r.sound; shallow = r.shallow }
