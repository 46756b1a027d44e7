-- The definitions of a package are sound.
use Rattle.std.proofs.Common.{◌≡◌, zero, suc, Bool, true, false, cond, List, [], ◌∷◌, ◌++◌, Option, None, Some, Result, Ok, Err, refl, sym, ap, subst, ◌∙◌, arith}
use Rattle.std.specs.Prelude.{All, codes}
use Rattle.std.specs.List.{AllByRecursion}
use Rattle.std.specs.Option.{option_map, option_map_or, option_and_then}
use Rattle.std.specs.Map.{keys_of}
use Rattle.fhir_json.specs.declared.fault.JsonFault.{JsonFault}
use Rattle.fhir_json.specs.Tree.{Text, Tree}
use Rattle.fhir_json.specs.Fields.{text_in}
use Rattle.fhir_json.specs.Sound.{sound, IsSound}
use Rattle.fhir_json.specs.Reading.{reading}
use Rattle.fhir_matching.specs.Equality.{equal}
use Rattle.fhir_package.specs.declared.kind.Kind.{Kind}
use Rattle.fhir_package.specs.declared.kind.Kind.TheVariants.{StructureDefinition, ValueSet, CodeSystem}
use Rattle.fhir_package.specs.Definitions.{Definitions, ByUrl, no_definitions, of_kind, at_url}
use Rattle.fhir_package.specs.Folder.{Files}
use Rattle.fhir_package.specs.Packing.{Refusal, Definition, definition_with, definition_of}
use Rattle.fhir_package.specs.Packing.{definitions_in, join, joined, join_all, and_then, or_clash, take_tree, bytes_at, json_names, pack}
use Rattle.fhir_package.specs.Changing.{sound_definition, IsSoundEntry, AreSound}
use Rattle.fhir_package.proofs.Packs.{Agrees, take_named}
use Rattle.fhir_package.proofs.Joins.{with_kind_each}
use Rattle.fhir_package.proofs.EachHeld.{all_held}

-- ---- what a tree holds

held_tree : (t : Tree) (kind : Option Kind) (d : Definition) → option_and_then (definition_with t) kind ≡ Some d → d.tree ≡ t
held_tree t None d e = absurd cc
held_tree t (Some kind) d e = by (text_in (codes "url") t) e
  where
    made : Text → Definition
    made url = record { kind = kind; url = url; tree = t }

    same : (url : Text) → Some (made url) ≡ Some d → made url ≡ d
    same url e = cc

    by : (url : Option Text) → option_map made url ≡ Some d → d.tree ≡ t
    by None e = absurd cc
    by (Some url) e = sym (ap (λ (x : Definition). x.tree) (same url e))

-- a definition that is all of its tree, which is sound
abbrev IsSoundly : Definition → Type 0
IsSoundly d = sound_definition d.tree ≡ Some d

itself_holds : (t : Tree) → IsSound t → AllByRecursion IsSoundly (option_map_or (λ d. d ∷ []) (definition_of t) [])
itself_holds t h = by (definition_of t) refl
  where
    by : (r : Option Definition) → definition_of t ≡ r → AllByRecursion IsSoundly (option_map_or (λ d. d ∷ []) r [])
    by None is = tt
    by (Some d) is =
        let itself : sound_definition t ≡ Some d = ap (λ (b : Bool). cond b (definition_of t) None) h ∙ is in
        (subst (λ (u : Tree). sound_definition u ≡ Some d) (sym (held_tree t _ d is)) itself, tt)

-- ---- what is put in

abbrev EntriesSound : Kind → ByUrl → Type 0
EntriesSound kind es = AllByRecursion (IsSoundEntry kind) es

abbrev KindsSound : Definitions → Type 0
KindsSound p = (kind : Kind) → EntriesSound kind (of_kind kind p)

behind_sound : (kind : Kind) (es : ByUrl) (e : Text × Tree) → EntriesSound kind es → IsSoundEntry kind e → EntriesSound kind (es ++ e ∷ [])
behind_sound kind [] e h k = (k, tt)
behind_sound kind (x ∷ es) e h k = (h.0, behind_sound kind es e h.1 k)

abbrev SoundIfOk : {F : Type 0} → Result Definitions F → Type 0
SoundIfOk (Ok p) = KindsSound p
SoundIfOk (Err e) = Unit {0}

join_sound : (d : Definition) (p : Definitions) → IsSoundly d → KindsSound p → SoundIfOk (join d p)
join_sound d p h k = by (at_url d.kind d.url p)
  where
    or_kept : (b : Bool) → (let r : Result Definitions Text = cond b (Ok p) (Err d.url) in SoundIfOk r)
    or_kept true = k
    or_kept false = tt

    by : (there : Option Tree) → SoundIfOk (joined there d p)
    by None =
        with_kind_each EntriesSound d.kind (of_kind d.kind p ++ (d.url, d.tree) ∷ []) p (behind_sound d.kind (of_kind d.kind p) (d.url, d.tree) (k d.kind) h) k
    by (Some t) = or_kept (equal t d.tree)

join_all_sound : (ds : List Definition) (p : Definitions) → AllByRecursion IsSoundly ds → KindsSound p → SoundIfOk (join_all ds p)
join_all_sound [] p h k = k
join_all_sound (d ∷ ds) p h k = by (join d p) (join_sound d p h.0 k) (λ q. join_all_sound ds q h.1)
  where
    by : (r : Result Definitions Text) → SoundIfOk r → ((q : Definitions) → KindsSound q → SoundIfOk (join_all ds q)) → SoundIfOk (and_then (join_all ds) r)
    by (Ok q) k rest = rest q k
    by (Err url) k rest = tt

files_sound : Agrees → (files : Files) (ns : List Text) (p : Definitions) → KindsSound p → SoundIfOk (take_named files ns p)
files_sound agrees files [] p k = k
files_sound agrees files (n ∷ ns) p k = by (reading (bytes_at files n)) refl (files_sound agrees files ns)
  where
    joins : (r : Result Definitions Text) → SoundIfOk r → ((q : Definitions) → KindsSound q → SoundIfOk (take_named files ns q))
        → SoundIfOk (and_then (take_named files ns) (or_clash r))
    joins (Ok q) k rest = rest q k
    joins (Err url) k rest = tt

    by : (r : Result Tree JsonFault) → reading (bytes_at files n) ≡ r → ((q : Definitions) → KindsSound q → SoundIfOk (take_named files ns q))
        → SoundIfOk (and_then (take_named files ns) (take_tree n r p))
    by (Ok t) is rest =
        joins (join_all (definitions_in t) p) (join_all_sound (definitions_in t) p (all_held IsSoundly itself_holds t ((agrees (bytes_at files n) t).0 is).sound) k) rest
    by (Err fault) is rest = tt

none_sound : KindsSound no_definitions
none_sound StructureDefinition = tt
none_sound ValueSet = tt
none_sound CodeSystem = tt

by_index : (P : Text × Tree → Type 0) (es : ByUrl) → AllByRecursion P es → All P es
by_index P [] h k d l = absurd (omega arith)
by_index P (e ∷ es) h zero d l = h.0
by_index P (e ∷ es) h (suc k) d l = by_index P es h.1 k d (omega arith)

pub are_sound : Agrees → (files : Files) (p : Definitions) → pack files ≡ Ok p → AreSound p
are_sound agrees files p e = λ kind.
    by_index (IsSoundEntry kind) (of_kind kind p) (subst P e (files_sound agrees files (json_names (keys_of files)) no_definitions none_sound) kind)
  where
    P : Result Definitions Refusal → Type 0
    P r = SoundIfOk r

-- what the entry of a sound definition is
pub sound_entry : (kind : Kind) (e : Text × Tree) → IsSoundEntry kind e → IsSound e.1 × (definition_of e.1 ≡ Some (record { kind = kind; url = e.0; tree = e.1 }))
sound_entry kind e h = by (sound e.1) refl h
  where
    d : Definition
    d = record { kind = kind; url = e.0; tree = e.1 }

    by : (b : Bool) → sound e.1 ≡ b → cond b (definition_of e.1) None ≡ Some d → IsSound e.1 × (definition_of e.1 ≡ Some d)
    by true is h = (is, h)
    by false isnt h = absurd cc

pub sound_lem : Agrees → (files : Files) (p : Definitions) (kind : Kind) → pack files ≡ Ok p → All (λ e. IsSound e.1) (of_kind kind p)
sound_lem agrees files p kind is = λ k d l. (sound_entry kind _ (are_sound agrees files p is kind k d l)).0
