-- What is so of each definition that a sound tree is, is so of each that it holds.
use Rattle.std.proofs.Common.{ℕ, zero, suc, Bool, true, false, cond, List, [], ◌∷◌, ◌++◌, Option, None, Some}
use Rattle.std.specs.Prelude.{codes}
use Rattle.std.specs.List.{AllByRecursion, flat_map}
use Rattle.std.specs.Option.{option_map_or}
use Rattle.fhir_json.specs.Tree.{Tree}
use Rattle.fhir_json.specs.Fields.{field, items_in}
use Rattle.fhir_json.specs.Sound.{IsSound}
use Rattle.fhir_json.proofs.SoundParts.{SoundIfAny, AreSound, field_sound, items_in_sound}
use Rattle.fhir_package.specs.Packing.{Definition, is_bundle, definition_of, held_within, in_entry, definitions_in}

module _ (Holds : Definition → Type 0) where
  abbrev pub AllHold : List Definition → Type 0
  AllHold ds = AllByRecursion Holds ds

  both_hold : (ds es : List Definition) → AllHold ds → AllHold es → AllHold (ds ++ es)
  both_hold [] es h k = k
  both_hold (d ∷ ds) es h k = (h.0, both_hold ds es h.1 k)

  each_holds : (f : Tree → List Definition) (ts : List Tree) → ((t : Tree) → IsSound t → AllHold (f t)) → AreSound ts → AllHold (flat_map f ts)
  each_holds f [] holds h = tt
  each_holds f (t ∷ ts) holds h = both_hold (f t) (flat_map f ts) (holds t h.0) (each_holds f ts holds h.1)

  entry_holds : (n : ℕ) → ((t : Tree) → IsSound t → AllHold (held_within n t)) → (e : Tree) → IsSound e → AllHold (in_entry n e)
  entry_holds n holds e h = by (field (codes "resource") e) (field_sound (codes "resource") e h)
    where
      by : (r : Option Tree) → SoundIfAny r → AllHold (option_map_or (held_within n) r [])
      by None h = tt
      by (Some t) h = holds t h

  held_hold : ((t : Tree) → IsSound t → AllHold (option_map_or (λ d. d ∷ []) (definition_of t) [])) → (n : ℕ) (t : Tree) → IsSound t → AllHold (held_within n t)
  unfolding held_within
  held_hold itself zero t h = tt
  held_hold itself (suc n) t h =
      by (is_bundle t) (each_holds (in_entry n) (items_in (codes "entry") t) (entry_holds n (held_hold itself n)) (items_in_sound (codes "entry") t h))
      (itself t h)
    where
      by : (b : Bool) → AllHold (flat_map (in_entry n) (items_in (codes "entry") t)) → AllHold (option_map_or (λ d. d ∷ []) (definition_of t) [])
          → AllHold (cond b (flat_map (in_entry n) (items_in (codes "entry") t)) (option_map_or (λ d. d ∷ []) (definition_of t) []))
      by true entries itself = entries
      by false entries itself = itself

  pub all_held : ((t : Tree) → IsSound t → AllHold (option_map_or (λ d. d ∷ []) (definition_of t) [])) → (t : Tree) → IsSound t → AllHold (definitions_in t)
  unfolding definitions_in
  all_held itself t h = held_hold itself 128 t h
