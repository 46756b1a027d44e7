-- The files of definitions that are kept load as the package of these.
use Rattle.std.proofs.Common.{Ordering, Less, Equal, Greater, ◌≡◌, ℕ, ◌+◌, ◌≤◌, Bool, true, false, cond, List, [], ◌∷◌, ◌++◌, map, length, Option, None, Some, Result, Ok, Err}
use Rattle.std.proofs.Common.{refl, sym, ap, subst, ◌∙◌, inl, inr, append_assoc, append-nil}
use Rattle.std.specs.Prelude.{◌↔◌, find, filter}
use Rattle.std.specs.Option.{option_map, option_map_or}
use Rattle.std.specs.List.{AllByRecursion}
use Rattle.std.specs.List.Sorted.{IsStrictlySortedBy}
use Rattle.std.specs.Map.{keys_of, lookup}
use Rattle.std.specs.Str.{bytes_eq}
use Rattle.std.specs.Cmp.Lexicographic.{slice_cmp}
use Rattle.std.specs.Ordering.{match_ordering, ordering_reverse, nat_cmp}
use Rattle.std.specs.BTreeSet.{insert_key}
use Rattle.std.proofs.lemmas.Bool.{cases_Bool}
use Rattle.std.proofs.lemmas.Cmp.{nat_list_cmp_total, tied_itself}
use Rattle.std.proofs.lemmas.Slice.Eq.{bytes_eq-Decides}
use Rattle.fhir_json.specs.declared.fault.JsonFault.{JsonFault}
use Rattle.fhir_json.specs.Tree.{Text, Tree}
use Rattle.fhir_json.specs.Sound.{IsSound, depth, max_depth}
use Rattle.fhir_json.specs.Compact.{compact}
use Rattle.fhir_json.specs.Grammar.{Reads}
use Rattle.fhir_json.specs.Reading.{reading}
use Rattle.fhir_package.specs.Definitions.{Definitions, no_definitions}
use Rattle.fhir_package.specs.Folder.{Files}
use Rattle.fhir_package.specs.Packing.{Definition, is_bundle, definitions_in, with_definition, joined, join_all, and_then, or_clash, put_all, take_tree as pack_tree, take_file, take_files as pack_each, is_json_name, ordered_with, json_names, json_files, bytes_at, pack_files, pack}
use Rattle.fhir_package.specs.Found.{itself}
use Rattle.fhir_gather.specs.Gathering.{Taken, taken_each, taken_in, Folders, FileAt, take_tree, take_files, take_folders, all_taken, is_of, gather_behind, gather_one, gather_each, Gathered, nothing_gathered, kept, with_each, package_of}
use Rattle.fhir_gather.specs.Written.{file_name, file_text, written_from, written}
use Rattle.fhir_gather.proofs.Names.{rising_names, json_at_end}
use Rattle.fhir_gather.proofs.Packaged.{at_package}
use Rattle.fhir_gather.proofs.Wholes.{IsWhole, AreWhole, all_whole, holds_itself, reads_again, fit_read}

abbrev by_bytes : Text → Text → Ordering
by_bytes = slice_cmp nat_cmp

-- ---- files in the order of their names

abbrev Rises : List Text → Type 0
Rises ns = IsStrictlySortedBy by_bytes ns

first_below : (n : Text) (ns : List Text) → Rises (n ∷ ns) → AllByRecursion (λ m. by_bytes n m ≡ Less) ns
unfolding IsStrictlySortedBy
first_below n ns h = h.0

others_rise : (n : Text) (ns : List Text) → Rises (n ∷ ns) → Rises ns
unfolding IsStrictlySortedBy
others_rise n ns h = h.1

all_json : (ns : List Text) → AllByRecursion (λ n. is_json_name n ≡ true) ns → filter is_json_name ns ≡ ns
all_json [] h = refl
all_json (n ∷ ns) h = ap (λ (b : Bool). cond b (n ∷ filter is_json_name ns) (filter is_json_name ns)) h.0 ∙ ap (λ (ms : List Text). n ∷ ms) (all_json ns h.1)

-- it is above each of them
abbrev IsAbove : List Text → Text → Type 0
IsAbove ms n = AllByRecursion (λ m. by_bytes n m ≡ Greater) ms

put_last : (ms : List Text) (n : Text) → IsAbove ms n → insert_key by_bytes ms n ≡ ms ++ n ∷ []
put_last [] n h = refl
put_last (m ∷ ms) n h =
    ap (λ (o : Ordering). match_ordering o (n ∷ m ∷ ms) (m ∷ ms) (m ∷ insert_key by_bytes ms n)) h.0 ∙ ap (λ (ks : List Text). m ∷ ks) (put_last ms n h.1)

above_more : (ms : List Text) (n k : Text) → IsAbove ms k → by_bytes n k ≡ Less → IsAbove (ms ++ n ∷ []) k
above_more [] n k h less = (nat_list_cmp_total.antisymm k n ∙ ap ordering_reverse less, tt)
above_more (m ∷ ms) n k h less = (h.0, above_more ms n k h.1 less)

all_above : (ms : List Text) (n : Text) (ns : List Text) → AllByRecursion (IsAbove ms) ns → AllByRecursion (λ m. by_bytes n m ≡ Less) ns
    → AllByRecursion (IsAbove (ms ++ n ∷ [])) ns
all_above ms n [] h less = tt
all_above ms n (k ∷ ns) h less = (above_more ms n k h.0 less.0, all_above ms n ns h.1 less.1)

put_in_order : (ms ns : List Text) → Rises ns → AllByRecursion (IsAbove ms) ns → ordered_with ms ns ≡ ms ++ ns
put_in_order ms [] rises h = sym (append-nil ms)
put_in_order ms (n ∷ ns) rises h =
    ap (λ (ks : List Text). ordered_with ks ns) (put_last ms n h.0)
    ∙ put_in_order (ms ++ n ∷ []) ns (others_rise n ns rises) (all_above ms n ns h.1 (first_below n ns rises)) ∙ append_assoc ms (n ∷ []) ns

above_none : (ns : List Text) → AllByRecursion (IsAbove []) ns
above_none [] = tt
above_none (n ∷ ns) = (tt, above_none ns)

same_names : (ns : List Text) → AllByRecursion (λ n. is_json_name n ≡ true) ns → Rises ns → json_names ns ≡ ns
same_names ns json rises = ap (λ (ms : List Text). ordered_with [] ms) (all_json ns json) ∙ put_in_order [] ns rises (above_none ns)

no_less : (n : Text) → by_bytes n n ≡ Less → ⊥
no_less n h = let e : Equal ≡ Less = sym (tied_itself nat_list_cmp_total n) ∙ h in absurd cc

other_name : (n m : Text) → by_bytes n m ≡ Less → bytes_eq m n ≡ false
other_name n m h = elim (cases_Bool (bytes_eq m n)) [
  | inl is ↦ absurd (no_less n (ap (by_bytes n) (sym ((bytes_eq-Decides m n).0 is)) ∙ h))
  | inr isnt ↦ isnt
]

-- a file, by its name
abbrev file_named : Files → Text → Text × List ℕ
file_named files n = (n, bytes_at files n)

-- the same, where it is known whether it is the first
abbrev file_if : Bool → Text × List ℕ → Files → Text → Text × List ℕ
file_if b f fs n = (n, option_map_or (λ bytes. bytes) (cond b (Some f.1) (lookup (bytes_eq n) fs)) [])

-- files of names that aren't the first's
others_found : (f : Text × List ℕ) (fs : Files) (ns : List Text) → AllByRecursion (λ m. by_bytes f.0 m ≡ Less) ns
    → map (file_named (f ∷ fs)) ns ≡ map (file_named fs) ns
others_found f fs [] h = refl
others_found f fs (n ∷ ns) h =
    ap (λ (b : Bool). file_if b f fs n ∷ map (file_named (f ∷ fs)) ns) (other_name f.0 n h.0)
    ∙ ap (λ (gs : Files). file_named fs n ∷ gs) (others_found f fs ns h.1)

same_bytes : (files : Files) → Rises (keys_of files) → map (file_named files) (keys_of files) ≡ files
same_bytes [] rises = refl
same_bytes (f ∷ fs) rises =
    ap (λ (b : Bool). file_if b f fs f.0 ∷ map (file_named (f ∷ fs)) (keys_of fs)) ((bytes_eq-Decides f.0 f.0).1 refl)
    ∙ ap (λ (gs : Files). f ∷ gs)
    (others_found f fs (keys_of fs) (first_below f.0 (keys_of fs) rises) ∙ same_bytes fs (others_rise f.0 (keys_of fs) rises))

-- JSON files in the order of their names are all that a package is made of
pub same_files : (files : Files) → AllByRecursion (λ n. is_json_name n ≡ true) (keys_of files) → Rises (keys_of files) → json_files files ≡ files
same_files files json rises =
    ap (λ (ns : List Text). map (file_named files) ns) (same_names (keys_of files) json rises) ∙ same_bytes files rises

json_written : (count p : ℕ) (ts : List Taken) → AllByRecursion (λ n. is_json_name n ≡ true) (keys_of (written_from count p ts))
json_written count p [] = tt
json_written count p (t ∷ ts) = (json_at_end count p t, json_written count (p + 1) ts)

-- ---- definitions of which no two are of one kind and url

-- none of them is of the kind and url of one before it, or of one of the first
abbrev AreApart : List Taken → List Taken → Type 0
AreApart us [] = Unit {0}
AreApart us (t ∷ ts) = (find (is_of t.definition.kind t.definition.url) us ≡ None) × AreApart (us ++ t ∷ []) ts

apart_more : (us ts : List Taken) (t : Taken) → AreApart us ts → find (is_of t.definition.kind t.definition.url) (us ++ ts) ≡ None → AreApart us (ts ++ t ∷ [])
apart_more us [] t h none = (ap (λ (vs : List Taken). find (is_of t.definition.kind t.definition.url) vs) (sym (append-nil us)) ∙ none, tt)
apart_more us (s ∷ ts) t h none =
    (h.0, apart_more (us ++ s ∷ []) ts t h.1 (ap (λ (vs : List Taken). find (is_of t.definition.kind t.definition.url) vs) (append_assoc us (s ∷ []) ts) ∙ none))

apart_one : (t : Taken) (g : Gathered) → AreApart [] g.kept → AreApart [] (gather_one t g).kept
apart_one t g h = by (find (is_of t.definition.kind t.definition.url) g.kept) refl
  where
    by : (first : Option Taken) → find (is_of t.definition.kind t.definition.url) g.kept ≡ first → AreApart [] (gather_behind first t g).kept
    by None none = apart_more [] g.kept t h none
    by (Some first) is = h

apart_each : (ts : List Taken) (g : Gathered) → AreApart [] g.kept → AreApart [] (gather_each ts g).kept
apart_each [] g h = h
apart_each (t ∷ ts) g h = apart_each ts (gather_one t g) (apart_one t g h)

apart_kept : (ts : List Taken) → AreApart [] (kept ts)
apart_kept ts = apart_each ts nothing_gathered tt

-- ---- what is so of all that is taken is so of what is kept

module _ (P : Taken → Type 0) where
  abbrev AllOf : List Taken → Type 0
  AllOf ts = AllByRecursion P ts

  all_more : (ts us : List Taken) → AllOf ts → AllOf us → AllOf (ts ++ us)
  all_more [] us h k = k
  all_more (t ∷ ts) us h k = (h.0, all_more ts us h.1 k)

  kept_one : (t : Taken) (g : Gathered) → P t → AllOf g.kept → AllOf (gather_one t g).kept
  kept_one t g one h = by (find (is_of t.definition.kind t.definition.url) g.kept)
    where
      by : (first : Option Taken) → AllOf (gather_behind first t g).kept
      by None = all_more g.kept (t ∷ []) h (one, tt)
      by (Some first) = h

  kept_each : (ts : List Taken) (g : Gathered) → AllOf ts → AllOf g.kept → AllOf (gather_each ts g).kept
  kept_each [] g all h = h
  kept_each (t ∷ ts) g all h = kept_each ts (gather_one t g) all.1 (kept_one t g all.0 h)

  all_kept : (ts : List Taken) → AllOf ts → AllOf (kept ts)
  all_kept ts all = kept_each ts nothing_gathered all tt

-- ---- all that is taken is whole

abbrev Whole : Taken → Type 0
Whole t = IsWhole t.definition

abbrev WholeIfOk : Result (List Taken) FileAt → Type 0
WholeIfOk (Ok ts) = AllByRecursion Whole ts
WholeIfOk (Err file) = Unit {0}

each_taken : (folder file : Text) (ds : List Definition) → AreWhole ds → AllByRecursion Whole (taken_each folder file ds)
each_taken folder file [] h = tt
each_taken folder file (d ∷ ds) h = (h.0, each_taken folder file ds h.1)

module _ (agrees : (bs : Text) (t : Tree) → (reading bs ≡ Ok t) ↔ Reads bs t) where
  tree_taken : (folder file : Text) (bytes : List ℕ) (r : Result Tree JsonFault) (ts : List Taken) → reading bytes ≡ r → AllByRecursion Whole ts
      → WholeIfOk (take_tree folder file r ts)
  tree_taken folder file bytes (Ok t) ts is h =
      all_more Whole ts (taken_in folder file t) h (each_taken folder file (definitions_in t) (all_whole t (fit_read agrees bytes t is)))
  tree_taken folder file bytes (Err fault) ts is h = tt

  goes_on : (f : List Taken → Result (List Taken) FileAt) → ((ts : List Taken) → AllByRecursion Whole ts → WholeIfOk (f ts)) → (r : Result (List Taken) FileAt)
      → WholeIfOk r → WholeIfOk (and_then f r)
  goes_on f each (Ok ts) h = each ts h
  goes_on f each (Err file) h = tt

  files_taken : (folder : Text) (fs : Files) (ts : List Taken) → AllByRecursion Whole ts → WholeIfOk (take_files folder fs ts)
  files_taken folder [] ts h = h
  files_taken folder (f ∷ fs) ts h =
      goes_on (take_files folder fs) (files_taken folder fs) (take_tree folder f.0 (reading f.1) ts) (tree_taken folder f.0 f.1 (reading f.1) ts refl h)

  folders_taken : (xs : Folders) (ts : List Taken) → AllByRecursion Whole ts → WholeIfOk (take_folders xs ts)
  folders_taken [] ts h = h
  folders_taken (x ∷ xs) ts h = goes_on (take_folders xs) (folders_taken xs) (take_files x.0 x.1 ts) (files_taken x.0 x.1 ts h)

  whole_taken : (xs : Folders) (ts : List Taken) → all_taken xs ≡ Ok ts → AllByRecursion Whole ts
  whole_taken xs ts is = subst WholeIfOk is (folders_taken xs [] tt)

  -- ---- the files are the package

  module _
      (sounds : (t : Tree) → (IsSound t × (depth t ≤ max_depth)) ↔ Reads (compact t) t)
      (other : (t : Tree) → is_bundle t ≡ false → definitions_in t ≡ itself t)
    where
      with-behind : (us : List Taken) (t : Taken) (p : Definitions) → with_each (us ++ t ∷ []) p ≡ with_definition t.definition (with_each us p)
      with-behind [] t p = refl
      with-behind (u ∷ us) t p = with-behind us t (with_definition u.definition p)

      one_put : (us : List Taken) (t : Taken) → find (is_of t.definition.kind t.definition.url) us ≡ None
          → put_all (t.definition ∷ []) (package_of us) ≡ Ok (package_of (us ++ t ∷ []))
      one_put us t none =
          ap (λ (there : Option Tree). or_clash (and_then (join_all []) (joined there t.definition (package_of us))))
          (at_package t.definition.kind t.definition.url us ∙ ap (option_map (λ u. u.definition.tree)) none)
          ∙ ap (λ (p : Definitions). Ok p) (sym (with-behind us t no_definitions))

      one_file : (name : Text) (us : List Taken) (t : Taken) → Whole t → find (is_of t.definition.kind t.definition.url) us ≡ None
          → take_file name (file_text t) (package_of us) ≡ Ok (package_of (us ++ t ∷ []))
      one_file name us t whole none =
          ap (λ (r : Result Tree JsonFault). pack_tree name r (package_of us)) (reads_again agrees sounds t.definition.tree whole.is_fit)
          ∙ ap (λ (ds : List Definition). put_all ds (package_of us)) (holds_itself t.definition whole other) ∙ one_put us t none

      files_packed : (count p : ℕ) (us ts : List Taken) → AllByRecursion Whole ts → AreApart us ts
          → pack_each (written_from count p ts) (package_of us) ≡ Ok (package_of (us ++ ts))
      files_packed count p us [] whole apart = ap (λ (vs : List Taken). Ok (package_of vs)) (sym (append-nil us))
      files_packed count p us (t ∷ ts) whole apart =
          ap (and_then (pack_each (written_from count (p + 1) ts))) (one_file (file_name count p t) us t whole.0 apart.0)
          ∙ files_packed count (p + 1) (us ++ t ∷ []) ts whole.1 apart.1 ∙ ap (λ (vs : List Taken). Ok (package_of vs)) (append_assoc us (t ∷ []) ts)

      written_packs : (ts : List Taken) → AllByRecursion Whole ts → AreApart [] ts → pack (written ts) ≡ Ok (package_of ts)
      written_packs ts whole apart =
          ap pack_files (same_files (written ts) (json_written (length ts) 0 ts) (rising_names ts)) ∙ files_packed (length ts) 0 [] ts whole apart

      pub loads_lem : (xs : Folders) (ts : List Taken) → all_taken xs ≡ Ok ts → pack (written (kept ts)) ≡ Ok (package_of (kept ts))
      loads_lem xs ts is = written_packs (kept ts) (all_kept Whole ts (whole_taken xs ts is)) (apart_kept ts)
