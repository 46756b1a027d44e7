-- Elements that are sound and can be written, where they are laid over one another.
use Rattle.std.proofs.Common.{◌≡◌, List, [], ◌∷◌, map, Bool, cond, true, false, Option, None, Some, IsTrue, Ok, is_ok, refl, subst}
use Rattle.std.specs.Prelude.{◌==◌, codes}
use Rattle.std.specs.List.{AllByRecursion, ends_with}
use Rattle.std.specs.Option.{option_map_or}
use Rattle.std.specs.Str.{bytes_eq, is_utf8}
use Rattle.std.proofs.lemmas.Bool.{and_from}
use Rattle.std.proofs.lemmas.Option.{none-some, same_Some}
use Rattle.fhir_json.specs.Tree.{Text, Tree}
use Rattle.fhir_json.specs.Sound.{IsSound, differ}
use Rattle.fhir_names.specs.Ids.{read_id}
use Rattle.fhir_names.specs.Parents.{name_of}
use Rattle.fhir_elements.specs.declared.slicing.DiscriminatorType.TheVariants as types
use Rattle.fhir_elements.specs.Slicing.{Slicing}
use Rattle.fhir_elements.specs.Element.{Element, element_of}
use Rattle.fhir_overlay.specs.Overlay.{laid_over, as_slice, bounds_fit}
use Rattle.fhir_overlay.specs.Writable.{has_writable_numbers, has_named_choices, is_writable, slicing_sound, is_sound}
use Rattle.fhir_overlay.proofs.Truths.{all_four}
use Rattle.fhir_overlay.proofs.Laying.{or_holds, writable_parts}
use Rattle.fhir_overlay.proofs.Objects.{plain_utf8}
use Rattle.fhir_overlay.proofs.SoundLaid.{sound_parts, sound_whole}
use Rattle.fhir_inheritance.specs.Elements.{find}
use Rattle.fhir_inheritance.specs.Lists.{has_any}
use Rattle.fhir_inheritance.specs.Laying.{is_extension, open_by, implied, slicing_with, moved, over, laid}
use Rattle.snapshot_laws.proofs.Unicode.{IsUnicode}
use Rattle.snapshot_laws.proofs.Readable.{IsReadable, path_unicode}

pub record IsGood (e : Element) : Type 0 where
  pub sound : IsTrue (is_sound e)
  pub writable : IsTrue (is_writable e)

-- what is known of reading elements, and of laying one over another
pub record Known : Type 0 where
  pub read_sound : (t : Tree) (e : Element) → IsSound t → element_of t ≡ Ok e → IsTrue (is_sound e)
  pub read_writable : (t : Tree) (e : Element) → element_of t ≡ Ok e → IsTrue (is_writable e)
  pub read_bounds : (t : Tree) (e : Element) → element_of t ≡ Ok e → IsTrue (bounds_fit e)
  pub laid_sound : (over under : Element) → IsTrue (is_sound over) → IsTrue (is_sound under) → IsTrue (is_sound (laid_over over under))
  pub laid_writable : (over under : Element) → IsTrue (is_writable over) → IsTrue (is_writable under) → IsTrue (is_writable (laid_over over under))
  pub sliced_sound : (e : Element) → IsTrue (is_sound e) → IsTrue (is_sound (as_slice e))
  pub sliced_writable : (e : Element) → IsTrue (is_writable e) → IsTrue (is_writable (as_slice e))

abbrev pub AreGood : List Element → Type 0
AreGood es = AllByRecursion IsGood es

-- the lower bound of each lies within its upper one
abbrev pub HaveBounds : List Element → Type 0
HaveBounds es = AllByRecursion (λ e. IsTrue (bounds_fit e)) es

-- ---- one of them

pub found_good : (es : List Element) (id : Text) (e : Element) → AreGood es → find es id ≡ Some e → IsGood e
found_good [] id e good found = absurd (none-some e found)
found_good (x ∷ es) id e good found = by (bytes_eq id x.id) (found_good es id e good.1) found
  where
    by : (b : Bool) → (find es id ≡ Some e → IsGood e) → cond b (Some x) (find es id) ≡ Some e → IsGood e
    by true rest found = subst IsGood (same_Some x e found) good.0
    by false rest found = rest found

-- ---- with another id, or another slicing

pub moved_good : (id : Text) (e : Element) → IsReadable id → IsUnicode id → IsGood e → IsGood (moved id e)
moved_good id e readable unicode good =
    let s = sound_parts e good.sound in
    let w = writable_parts e good.writable in
    record {
      sound = sound_whole (moved id e) (record {
        id = unicode;
        path = path_unicode id readable unicode;
        slice_name = s.slice_name;
        content_reference = s.content_reference;
        fixed = s.fixed;
        pattern = s.pattern;
        min_value = s.min_value;
        max_value = s.max_value;
        types = s.types;
        constraints = s.constraints;
        binding = s.binding;
        slicing = s.slicing;
      });
      writable = all_four (is_ok (read_id id)) (has_writable_numbers e) (differ (map (λ t. t.code) e.types)) (has_named_choices e) readable w.1 w.2 w.3;
    }

sliced_so : (e : Element) (slicing : Option Slicing) → IsTrue (option_map_or slicing_sound slicing true) → IsGood e → IsGood (record e { slicing = slicing })
sliced_so e slicing right good =
    let s = sound_parts e good.sound in
    record {
      sound = sound_whole (record e { slicing = slicing }) (record {
        id = s.id;
        path = s.path;
        slice_name = s.slice_name;
        content_reference = s.content_reference;
        fixed = s.fixed;
        pattern = s.pattern;
        min_value = s.min_value;
        max_value = s.max_value;
        types = s.types;
        constraints = s.constraints;
        binding = s.binding;
        slicing = right;
      });
      writable = good.writable;
    }

slicing_if : (extends chooses : Bool)
    → IsTrue (option_map_or slicing_sound (cond extends (Some (open_by types.Value (codes "url"))) (cond chooses (Some (open_by types.TypeCode (codes "$this"))) None)) true)
slicing_if true chooses = and_from (is_utf8 (codes "url")) true (plain_utf8 (codes "url") refl) refl
slicing_if false true = and_from (is_utf8 (codes "$this")) true (plain_utf8 (codes "$this") refl) refl
slicing_if false false = refl

implied_if : (b : Bool) (name : Text) → IsTrue (option_map_or slicing_sound (cond b (implied name) None) true)
implied_if true name = slicing_if (is_extension name) (ends_with (λ x y. x == y) name (codes "[x]"))
implied_if false name = refl

-- ---- laid over another

module _ (known : Known) where
  over_good : (es : List Element) (e : Element) (o : Option Element) → AreGood es → IsGood e → find es e.id ≡ o → IsGood (over o e)
  over_good es e None all good found = good
  over_good es e (Some d) all good found =
      let own = found_good es e.id d all found in
      record {
        sound = known.laid_sound d e own.sound good.sound;
        writable = known.laid_writable d e own.writable good.writable;
      }

  pub laid_good : (es : List Element) (slices : List Text) (e : Element) → AreGood es → IsGood e → IsGood (laid es slices e)
  laid_good es slices e all good =
      let x = over (find es e.id) e in
      let whole = over_good es e (find es e.id) all good refl in
      sliced_so x (slicing_with slices x)
      (or_holds slicing_sound x.slicing (cond (has_any slices) (implied (name_of x.id)) None) (sound_parts x whole.sound).slicing
      (implied_if (has_any slices) (name_of x.id)))
      whole

  pub sliced_good : (e : Element) → IsGood e → IsGood (as_slice e)
  sliced_good e good = record { sound = known.sliced_sound e good.sound; writable = known.sliced_writable e good.writable }
