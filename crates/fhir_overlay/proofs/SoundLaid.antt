-- What laying one element over another keeps of soundness.
use Rattle.std.proofs.Common.{List, [], ◌∷◌, ◌++◌, Bool, true, false, IsTrue, refl, if◌then◌else◌}
use Rattle.std.specs.Prelude.{◌&&◌}
use Rattle.std.specs.List.{list_all, list_any}
use Rattle.std.specs.Option.{option_map_or}
use Rattle.std.specs.Str.{is_utf8}
use Rattle.std.proofs.lemmas.Bool.{and_parts}
use Rattle.fhir_json.specs.Tree.{Property}
use Rattle.fhir_json.specs.Sound.{sound}
use Rattle.fhir_elements.specs.Constraint.{Constraint}
use Rattle.fhir_elements.specs.Element.{Element}
use Rattle.fhir_overlay.specs.Overlay.{same_constraint, with_constraint, with_constraints, laid_over, as_slice}
use Rattle.fhir_overlay.specs.Writable.{text_sound, type_entry_sound, constraint_sound, binding_sound, slicing_sound, choice_sound, has_sound_texts, has_sound_choices, has_sound_parts, is_sound}
use Rattle.fhir_overlay.proofs.Truths.{both, three, four, all_three, all_four}
use Rattle.fhir_overlay.proofs.Laying.{or_holds, listed_holds}

-- ---- the parts of a sound element

pub record Sound (e : Element) : Type 0 where
  pub id : IsTrue (is_utf8 e.id)
  pub path : IsTrue (text_sound e.path)
  pub slice_name : IsTrue (text_sound e.slice_name)
  pub content_reference : IsTrue (text_sound e.content_reference)
  pub fixed : IsTrue (choice_sound e.fixed)
  pub pattern : IsTrue (choice_sound e.pattern)
  pub min_value : IsTrue (choice_sound e.min_value)
  pub max_value : IsTrue (choice_sound e.max_value)
  pub types : IsTrue (list_all type_entry_sound e.types)
  pub constraints : IsTrue (list_all constraint_sound e.constraints)
  pub binding : IsTrue (option_map_or binding_sound e.binding true)
  pub slicing : IsTrue (option_map_or slicing_sound e.slicing true)

pub sound_parts : (e : Element) → IsTrue (is_sound e) → Sound e
sound_parts e h =
    let all = three (has_sound_texts e) (has_sound_choices e) (has_sound_parts e) h in
    let texts = four (is_utf8 e.id) (text_sound e.path) (text_sound e.slice_name) (text_sound e.content_reference) all.0 in
    let choices = four (choice_sound e.fixed) (choice_sound e.pattern) (choice_sound e.min_value) (choice_sound e.max_value) all.1 in
    let parts = four (list_all type_entry_sound e.types) (list_all constraint_sound e.constraints) (option_map_or binding_sound e.binding true)
    (option_map_or slicing_sound e.slicing true) all.2 in
    record {
      id = texts.0;
      path = texts.1;
      slice_name = texts.2;
      content_reference = texts.3;
      fixed = choices.0;
      pattern = choices.1;
      min_value = choices.2;
      max_value = choices.3;
      types = parts.0;
      constraints = parts.1;
      binding = parts.2;
      slicing = parts.3;
    }

pub sound_whole : (e : Element) → Sound e → IsTrue (is_sound e)
sound_whole e s =
    all_three _ _ _ (all_four _ _ _ _ s.id s.path s.slice_name s.content_reference)
    (all_four _ _ _ _ s.fixed s.pattern s.min_value s.max_value) (all_four _ _ _ _ s.types s.constraints s.binding s.slicing)

-- ---- constraints

all_behind : (p : Constraint → Bool) (cs : List Constraint) (c : Constraint) → IsTrue (list_all p cs) → IsTrue (p c) → IsTrue (list_all p (cs ++ c ∷ []))
all_behind p [] c all is = both (p c) true is refl
all_behind p (d ∷ ds) c all is =
    let parts = and_parts (p d) (list_all p ds) all in
    both (p d) _ parts.0 (all_behind p ds c parts.1 is)

all_if : (p : Constraint → Bool) (b : Bool) (cs : List Constraint) (c : Constraint) → IsTrue (list_all p cs) → IsTrue (p c)
    → IsTrue (list_all p (if b then cs else cs ++ c ∷ []))
all_if p true cs c all is = all
all_if p false cs c all is = all_behind p cs c all is

all_with : (p : Constraint → Bool) (old more : List Constraint) → IsTrue (list_all p old) → IsTrue (list_all p more)
    → IsTrue (list_all p (with_constraints old more))
all_with p old [] all more = all
all_with p old (c ∷ cs) all more =
    let parts = and_parts (p c) (list_all p cs) more in
    all_with p (with_constraint old c) cs (all_if p (list_any (same_constraint c) old) old c all parts.0) parts.1

-- ---- elements

pub laid_sound : (over under : Element) → IsTrue (is_sound over) → IsTrue (is_sound under) → IsTrue (is_sound (laid_over over under))
laid_sound over under h i =
    let o = sound_parts over h in
    let u = sound_parts under i in
    let choice = λ (p : Property). is_utf8 p.0 && sound p.1 in
    sound_whole (laid_over over under) (record {
      id = o.id;
      path = or_holds is_utf8 over.path under.path o.path u.path;
      slice_name = or_holds is_utf8 over.slice_name under.slice_name o.slice_name u.slice_name;
      content_reference = or_holds is_utf8 over.content_reference under.content_reference o.content_reference u.content_reference;
      fixed = or_holds choice over.fixed under.fixed o.fixed u.fixed;
      pattern = or_holds choice over.pattern under.pattern o.pattern u.pattern;
      min_value = or_holds choice over.min_value under.min_value o.min_value u.min_value;
      max_value = or_holds choice over.max_value under.max_value o.max_value u.max_value;
      types = listed_holds (list_all type_entry_sound) over.types under.types o.types u.types;
      constraints = all_with constraint_sound under.constraints over.constraints u.constraints o.constraints;
      binding = or_holds binding_sound over.binding under.binding o.binding u.binding;
      slicing = or_holds slicing_sound over.slicing under.slicing o.slicing u.slicing;
    })

pub sliced_sound : (e : Element) → IsTrue (is_sound e) → IsTrue (is_sound (as_slice e))
sliced_sound e h = let s = sound_parts e h in sound_whole (as_slice e) (record {
  id = s.id;
  path = s.path;
  slice_name = s.slice_name;
  content_reference = s.content_reference;
  fixed = s.fixed;
  pattern = s.pattern;
  min_value = s.min_value;
  max_value = s.max_value;
  types = s.types;
  constraints = s.constraints;
  binding = s.binding;
  slicing = refl;
})
