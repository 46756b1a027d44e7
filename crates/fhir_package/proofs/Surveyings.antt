-- A survey of files, and the package of those that were all given.
use Rattle.std.proofs.Common.{◌≡◌, Bool, true, false, cond, List, [], ◌∷◌, ◌++◌, map, Option, None, Some, Result, Ok, Err, refl, ap, subst, sym, ◌∙◌}
use Rattle.std.proofs.Common.{append-nil, append_assoc}
use Rattle.std.specs.Prelude.{◌≢◌, filter, find, slice_get, is_none}
use Rattle.std.specs.Option.{option_map, option_or}
use Rattle.std.specs.Map.{keys_of}
use Rattle.std.proofs.lemmas.List.Elements.{filter-append}
use Rattle.fhir_json.specs.Tree.{Text, Tree}
use Rattle.fhir_json.specs.declared.refusal.Refusal.{Refusal as JsonRefusal}
use Rattle.fhir_json.specs.Reading.{placed_reading, without_place, reading}
use Rattle.fhir_matching.specs.Equality.{equal}
use Rattle.fhir_package.specs.Definitions.{Definitions, at_url}
use Rattle.fhir_package.specs.Folder.{Files}
use Rattle.fhir_package.specs.Packing.{Refusal, Definition, definitions_in, joined, join, join_all, and_then, or_clash, put_all, take_tree, take_files, pack_files}
use Rattle.fhir_package.specs.ReadFiles.{ReadFiles, is_unreadable_file, unreadable_names, given, all_given}
use Rattle.fhir_package.specs.Surveying.{FileFault, unreadable, not_json, clash, source_of, Surveyed, nothing_surveyed, with_fault, compared, put, put_each}
use Rattle.fhir_package.specs.Surveying.{position_in, survey_tree, survey_file, survey_each, survey, is_unreadable, refusal, refusal_of, told_by, packed_by}
use Rattle.fhir_package.proofs.Given.{given-all_given, unreadable-given, not_given}

-- ---- faults of the device

module _ {X : Type 0} (p : X → Bool) where
  find_none : (xs : List X) → filter p xs ≡ [] → find p xs ≡ None
  find_none [] e = refl
  find_none (x ∷ xs) e = by (p x) (find_none xs) e
    where
      by : (b : Bool) → (filter p xs ≡ [] → find p xs ≡ None) → cond b (x ∷ filter p xs) (filter p xs) ≡ [] → cond b (Some x) (find p xs) ≡ None
      by true rest e = absurd cc
      by false rest e = rest e

  find_first : (xs : List X) (y : X) (ys : List X) → filter p xs ≡ y ∷ ys → find p xs ≡ Some y
  find_first [] y ys e = absurd cc
  find_first (x ∷ xs) y ys e = by (p x) (find_first xs y ys) e
    where
      by : (b : Bool) → (filter p xs ≡ y ∷ ys → find p xs ≡ Some y) → cond b (x ∷ filter p xs) (filter p xs) ≡ y ∷ ys
          → cond b (Some x) (find p xs) ≡ Some y
      by true rest e = cc
      by false rest e = rest e

-- those among the faults of a survey
abbrev of_device : Surveyed → List FileFault
of_device s = filter is_unreadable s.faults

behind : (x : FileFault) (s : Surveyed) → of_device (with_fault x s) ≡ of_device s ++ filter is_unreadable (x ∷ [])
behind x s = filter-append is_unreadable s.faults (x ∷ [])

put_same : (file : Text) (d : Definition) (s : Surveyed) → of_device (put file d s) ≡ of_device s
put_same file d s = by (at_url d.kind d.url s.definitions)
  where
    by : (there : Option Tree) → of_device (compared there file d s) ≡ of_device s
    by None = refl
    by (Some t) =
        let x : FileFault = clash d.kind d.url file (source_of d.kind d.url s) in
        let one : of_device (with_fault x s) ≡ of_device s = behind x s ∙ append-nil (of_device s) in
        elim (equal t d.tree) as (λ b. of_device (cond b s (with_fault x s)) ≡ of_device s) [ true ↦ refl | false ↦ one ]

each_same : (file : Text) (ds : List Definition) (s : Surveyed) → of_device (put_each file ds s) ≡ of_device s
each_same file [] s = refl
each_same file (d ∷ ds) s = each_same file ds (put file d s) ∙ put_same file d s

tree_same : (file bytes : Text) (r : Result Tree JsonRefusal) (s : Surveyed) → of_device (survey_tree file bytes r s) ≡ of_device s
tree_same file bytes (Ok t) s = each_same file (definitions_in t) s
tree_same file bytes (Err refusal) s =
    behind (not_json file refusal.expected (position_in bytes refusal)) s ∙ append-nil (of_device s)

files_add : (fs : ReadFiles) (s : Surveyed) → of_device (survey_each fs s) ≡ of_device s ++ map unreadable (unreadable_names fs)
files_add [] s = sym (append-nil (of_device s))
files_add (f ∷ fs) s = by f.1 (files_add fs)
  where
    by : (bytes : Option Text) → ((s : Surveyed) → of_device (survey_each fs s) ≡ of_device s ++ map unreadable (unreadable_names fs))
        → of_device (survey_each fs (survey_file f.0 bytes s))
        ≡ of_device s ++ map unreadable (keys_of (cond (is_none bytes) (f ∷ filter is_unreadable_file fs) (filter is_unreadable_file fs)))
    by None rest =
        rest (with_fault (unreadable f.0) s) ∙ ap (λ (xs : List FileFault). xs ++ map unreadable (unreadable_names fs)) (behind (unreadable f.0) s)
        ∙ append_assoc (of_device s) (unreadable f.0 ∷ []) (map unreadable (unreadable_names fs))
    by (Some bytes) rest =
        rest (survey_tree f.0 bytes (placed_reading bytes) s)
        ∙ ap (λ (xs : List FileFault). xs ++ map unreadable (unreadable_names fs)) (tree_same f.0 bytes (placed_reading bytes) s)

-- a survey has a fault for each file that the device didn't give
pub all_unreadable : (fs : ReadFiles) → filter is_unreadable (survey fs).faults ≡ map unreadable (unreadable_names fs)
all_unreadable fs = files_add fs nothing_surveyed

pub first_unreadable : (fs : ReadFiles) (name : Text) (names : List Text) → unreadable_names fs ≡ name ∷ names → refusal (survey fs) ≡ Some (unreadable name)
first_unreadable fs name names e =
    ap (λ (r : Option FileFault). option_or r (slice_get (survey fs).faults 0))
    (find_first is_unreadable (survey fs).faults (unreadable name) (map unreadable names) (all_unreadable fs ∙ ap (λ (ns : List Text). map unreadable ns) e))

-- ---- the package

-- this is the first fault
abbrev Begins : FileFault → Surveyed → Type 0
Begins f s = (fs : List FileFault) × (s.faults ≡ f ∷ fs)

-- what a survey of files that were all given says of their package
abbrev Tells : Result Definitions Refusal → Surveyed → Type 0
Tells (Ok p) s = (s.faults ≡ []) × (s.definitions ≡ p)
Tells (Err refusal) s = (f : FileFault) × Begins f s × (refusal_of f ≡ Some refusal)

told : (r : Result Definitions Refusal) (s : Surveyed) → of_device s ≡ [] → Tells r s → packed_by s ≡ Some r
told (Ok p) s given t =
    ap (λ (fs : List FileFault). told_by (option_or (find is_unreadable fs) (slice_get fs 0)) s.definitions) t.0 ∙ ap (λ (d : Definitions). Some (Ok d)) t.1
told (Err refusal) s given t =
    ap (λ (r : Option FileFault). told_by (option_or r (slice_get s.faults 0)) s.definitions) (find_none is_unreadable s.faults given)
    ∙ ap (λ (fs : List FileFault). told_by (slice_get fs 0) s.definitions) t.1.1 ∙ ap (λ (r : Option Refusal). option_map Err r) t.2

-- one step and then others
goes_on : (g : Definitions → Result Definitions Refusal) (h : Surveyed → Surveyed) → ((f : FileFault) (s : Surveyed) → Begins f s → Begins f (h s))
    → ((s : Surveyed) → s.faults ≡ [] → Tells (g s.definitions) (h s)) → (r : Result Definitions Refusal) (s : Surveyed) → Tells r s
    → Tells (and_then g r) (h s)
goes_on g h keeps well (Ok p) s t = subst (λ (q : Definitions). Tells (g q) (h s)) t.1 (well s t.0)
goes_on g h keeps well (Err refusal) s t = (t.0, keeps t.0 s t.1, t.2)

fault_behind : (f x : FileFault) (s : Surveyed) → Begins f s → Begins f (with_fault x s)
fault_behind f x s b = (b.0 ++ x ∷ [], ap (λ (fs : List FileFault). fs ++ x ∷ []) b.1)

first_fault : (x : FileFault) (s : Surveyed) → s.faults ≡ [] → Begins x (with_fault x s)
first_fault x s none = ([], ap (λ (fs : List FileFault). fs ++ x ∷ []) none)

-- ---- a definition

put_keeps : (file : Text) (d : Definition) (f : FileFault) (s : Surveyed) → Begins f s → Begins f (put file d s)
put_keeps file d f s b = by (at_url d.kind d.url s.definitions)
  where
    by : (there : Option Tree) → Begins f (compared there file d s)
    by None = b
    by (Some t) = if_equal (equal t d.tree) _
      where
        if_equal : (is : Bool) (x : FileFault) → Begins f (cond is s (with_fault x s))
        if_equal true x = b
        if_equal false x = fault_behind f x s b

put_tells : (file : Text) (d : Definition) (s : Surveyed) → s.faults ≡ [] → Tells (or_clash (join d s.definitions)) (put file d s)
put_tells file d s none = by (at_url d.kind d.url s.definitions)
  where
    by : (there : Option Tree) → Tells (or_clash (joined there d s.definitions)) (compared there file d s)
    by None = (none, refl)
    by (Some t) =
        let x : FileFault = clash d.kind d.url file (source_of d.kind d.url s) in
        elim (equal t d.tree) as (λ b. Tells (or_clash (cond b (Ok s.definitions) (Err d.url))) (cond b s (with_fault x s)))
        [ true ↦ (none, refl) | false ↦ (x, first_fault x s none, refl) ]

-- ---- the definitions of a file

each_keeps : (file : Text) (ds : List Definition) (f : FileFault) (s : Surveyed) → Begins f s → Begins f (put_each file ds s)
each_keeps file [] f s b = b
each_keeps file (d ∷ ds) f s b = each_keeps file ds f (put file d s) (put_keeps file d f s b)

all_then : (d : Definition) (ds : List Definition) (p : Definitions) → put_all (d ∷ ds) p ≡ and_then (put_all ds) (or_clash (join d p))
all_then d ds p = by (join d p)
  where
    by : (r : Result Definitions Text) → or_clash (and_then (join_all ds) r) ≡ and_then (put_all ds) (or_clash r)
    by (Ok q) = refl
    by (Err url) = refl

each_tells : (file : Text) (ds : List Definition) (s : Surveyed) → s.faults ≡ [] → Tells (put_all ds s.definitions) (put_each file ds s)
each_tells file [] s none = (none, refl)
each_tells file (d ∷ ds) s none =
    subst (λ (r : Result Definitions Refusal). Tells r (put_each file ds (put file d s))) (sym (all_then d ds s.definitions))
    (goes_on (put_all ds) (put_each file ds) (each_keeps file ds) (each_tells file ds) (or_clash (join d s.definitions)) (put file d s)
    (put_tells file d s none))

-- ---- files

tree_keeps : (file bytes : Text) (r : Result Tree JsonRefusal) (f : FileFault) (s : Surveyed) → Begins f s → Begins f (survey_tree file bytes r s)
tree_keeps file bytes (Ok t) f s b = each_keeps file (definitions_in t) f s b
tree_keeps file bytes (Err refusal) f s b = fault_behind f _ s b

tree_tells : (file bytes : Text) (r : Result Tree JsonRefusal) (s : Surveyed) → s.faults ≡ []
    → Tells (take_tree file (without_place r) s.definitions) (survey_tree file bytes r s)
tree_tells file bytes (Ok t) s none = each_tells file (definitions_in t) s none
tree_tells file bytes (Err refusal) s none =
    let x : FileFault = not_json file refusal.expected (position_in bytes refusal) in
    (x, first_fault x s none, refl)

files_keep : (fs : Files) (f : FileFault) (s : Surveyed) → Begins f s → Begins f (survey_each (given fs) s)
files_keep [] f s b = b
files_keep (x ∷ fs) f s b = files_keep fs f (survey_tree x.0 x.1 (placed_reading x.1) s) (tree_keeps x.0 x.1 (placed_reading x.1) f s b)

files_tell : (fs : Files) (s : Surveyed) → s.faults ≡ [] → Tells (take_files fs s.definitions) (survey_each (given fs) s)
unfolding reading
files_tell [] s none = (none, refl)
files_tell (x ∷ fs) s none =
    goes_on (take_files fs) (survey_each (given fs)) (files_keep fs) (files_tell fs)
    (take_tree x.0 (without_place (placed_reading x.1)) s.definitions) (survey_tree x.0 x.1 (placed_reading x.1) s)
    (tree_tells x.0 x.1 (placed_reading x.1) s none)

given_packs : (files : Files) → packed_by (survey (given files)) ≡ Some (pack_files files)
given_packs files =
    told (pack_files files) (survey (given files)) (all_unreadable (given files) ∙ ap (λ (ns : List Text). map unreadable ns) (unreadable-given files))
    (files_tell files nothing_surveyed refl)

not_packed : (read : ReadFiles) → unreadable_names read ≢ [] → packed_by (survey read) ≡ None
not_packed read some = by (unreadable_names read) refl
  where
    by : (names : List Text) → unreadable_names read ≡ names → packed_by (survey read) ≡ None
    by [] e = absurd (some e)
    by (name ∷ names) e = ap (λ (r : Option FileFault). told_by r (survey read).definitions) (first_unreadable read name names e)

pub survey_packs : (read : ReadFiles) → packed_by (survey read) ≡ option_map pack_files (all_given read)
survey_packs read = by (all_given read) refl
  where
    by : (all : Option Files) → all_given read ≡ all → packed_by (survey read) ≡ option_map pack_files all
    by None e = not_packed read ((not_given read).0 e)
    by (Some files) e = ap (λ (fs : ReadFiles). packed_by (survey fs)) (given-all_given read files e) ∙ given_packs files
