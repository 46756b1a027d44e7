-- Files that were read, and those among them that the device didn't give.
use Rattle.std.proofs.Common.{◌≡◌, ◌<◌, ◌+◌, ℕ, cond, List, [], ◌∷◌, ◌++◌, map, length, Option, None, Some, refl, sym, ap, subst, ◌∙◌, arith}
use Rattle.std.proofs.Common.{add_assoc, append_assoc, length-append}
use Rattle.std.specs.Prelude.{◌≢◌, ◌↔◌, filter, All, is_none}
use Rattle.std.specs.Map.{keys_of}
use Rattle.std.proofs.lemmas.List.Elements.{filter-append, All-head, All-tail, All-push}
use Rattle.std.proofs.lemmas.List.{map-append}
use Rattle.fhir_json.specs.Tree.{Text}
use Rattle.fhir_package.specs.Folder.{Files}
use Rattle.fhir_package.specs.Packing.{bytes_at, json_names, json_files}
use Rattle.fhir_package.specs.ReadFiles.{ReadFiles, IsFrom, is_unreadable_file, unreadable_names, given, given_before, all_given}

-- ---- given and not given

pub all_given-given : (files : Files) → all_given (given files) ≡ Some files
all_given-given [] = refl
all_given-given (f ∷ fs) = ap (given_before f.0 (Some f.1)) (all_given-given fs)

pub unreadable-given : (files : Files) → unreadable_names (given files) ≡ []
unreadable-given [] = refl
unreadable-given (f ∷ fs) = unreadable-given fs

same : (fs gs : Files) → ◌≡◌ {A = Option Files} (Some fs) (Some gs) → fs ≡ gs
same fs gs e = cc

pub given-all_given : (read : ReadFiles) (files : Files) → all_given read ≡ Some files → read ≡ given files
given-all_given [] files e = ap given (same [] files e)
given-all_given (f ∷ fs) files e = by f.1 (all_given fs) refl (given-all_given fs) e
  where
    by : (bytes : Option (List ℕ)) (rest : Option Files) → f.1 ≡ bytes → ((gs : Files) → rest ≡ Some gs → fs ≡ given gs)
        → given_before f.0 bytes rest ≡ Some files → f ∷ fs ≡ given files
    by None rest is later e = absurd cc
    by (Some b) None is later e = absurd cc
    by (Some b) (Some gs) is later e =
        ap (λ (o : Option (List ℕ)). (f.0, o) ∷ fs) is ∙ ap (λ (rs : ReadFiles). (f.0, Some b) ∷ rs) (later gs refl)
        ∙ ap given (same ((f.0, b) ∷ gs) files e)

no_names : (name : Text) (names : List Text) → name ∷ names ≡ [] → ⊥
no_names name names e = cc

some_names : (read : ReadFiles) → all_given read ≡ None → unreadable_names read ≢ []
some_names [] e = absurd cc
some_names (f ∷ fs) e = by f.1 (all_given fs) refl (some_names fs) e
  where
    by : (bytes : Option (List ℕ)) (rest : Option Files) → all_given fs ≡ rest → (all_given fs ≡ None → unreadable_names fs ≢ [])
        → given_before f.0 bytes rest ≡ None → keys_of (cond (is_none bytes) (f ∷ filter is_unreadable_file fs) (filter is_unreadable_file fs)) ≢ []
    by None rest are later e = no_names f.0 (unreadable_names fs)
    by (Some b) None are later e = later are
    by (Some b) (Some gs) are later e = absurd cc

none_given : (read : ReadFiles) (r : Option Files) → all_given read ≡ r → unreadable_names read ≢ [] → r ≡ None
none_given read None is some = refl
none_given read (Some files) is some = absurd (some (ap unreadable_names (given-all_given read files is) ∙ unreadable-given files))

pub not_given : (read : ReadFiles) → (all_given read ≡ None) ↔ (unreadable_names read ≢ [])
not_given read = (some_names read, none_given read (all_given read) refl)

-- ---- how many aren't given

pub none_unread : (read : ReadFiles) (files : Files) → all_given read ≡ Some files → length (unreadable_names read) ≡ 0
none_unread read files is = ap (λ (ns : List Text). length ns) (ap unreadable_names (given-all_given read files is) ∙ unreadable-given files)

pub some_unread : (read : ReadFiles) → all_given read ≡ None → 0 < length (unreadable_names read)
some_unread read is = by (unreadable_names read) (some_names read is)
  where
    by : (names : List Text) → names ≢ [] → 0 < length names
    by [] some = absurd (some refl)
    by (name ∷ names) some = omega arith

-- ---- one file more

unreadable-behind : (xs ys : ReadFiles) → unreadable_names (xs ++ ys) ≡ unreadable_names xs ++ unreadable_names ys
unreadable-behind xs ys = ap (λ (fs : ReadFiles). keys_of fs) (filter-append is_unreadable_file xs ys) ∙ map-append (λ f. f.0) (filter is_unreadable_file xs) (filter is_unreadable_file ys)

-- what is known of files that were read, where so many calls failed before them and these names are to come
pub record AreRead (files : Files) (names : List Text) (before : ℕ) (read : ReadFiles) (rest : List Text) (failed : ℕ) : Type 0 where
  pub counted : failed ≡ before + length (unreadable_names read)
  pub named : names ≡ keys_of read ++ rest
  pub bytes : All (IsFrom files) read

pub one_read : (files : Files) (names : List Text) (before : ℕ) (read new : ReadFiles) (f : Text × Option (List ℕ)) (name : Text) (all rest : List Text)
    (old now : ℕ) → new ≡ read ++ f ∷ [] → all ≡ name ∷ rest → f.0 ≡ name → IsFrom files f → now ≡ old + length (unreadable_names (f ∷ []))
    → AreRead files names before read all old → AreRead files names before new rest now
one_read files names before read new f name all rest old now is first named from counted h =
    rw is
    (record {
      counted =
          counted ∙ ap (λ (n : ℕ). n + length (unreadable_names (f ∷ []))) h.counted ∙ add_assoc before (length (unreadable_names read)) (length (unreadable_names (f ∷ [])))
          ∙ ap (λ (n : ℕ). before + n) (sym (length-append (unreadable_names read) (unreadable_names (f ∷ []))) ∙ ap (λ (ns : List Text). length ns) (sym (unreadable-behind read (f ∷ []))));
      named =
          h.named ∙ ap (λ (ns : List Text). keys_of read ++ ns) (first ∙ ap (λ (n : Text). n ∷ rest) (sym named))
          ∙ sym (append_assoc (keys_of read) (f.0 ∷ []) rest) ∙ ap (λ (ns : List Text). ns ++ rest) (sym (map-append (λ f. f.0) read (f ∷ [])));
      bytes = All-push (IsFrom files) read f h.bytes from;
    })

-- ---- the files of a folder

filled : (files gs : Files) → All (IsFrom files) (given gs) → gs ≡ map (λ n. (n, bytes_at files n)) (keys_of gs)
filled files [] from = refl
filled files (g ∷ gs) from =
    ap (λ (bytes : List ℕ). (g.0, bytes) ∷ gs) (All-head (IsFrom files) (g.0, Some g.1) (given gs) from)
    ∙ ap (λ (rest : Files). (g.0, bytes_at files g.0) ∷ rest) (filled files gs (All-tail (IsFrom files) (g.0, Some g.1) (given gs) from))

keys-given : (gs : Files) → keys_of (given gs) ≡ keys_of gs
keys-given [] = refl
keys-given (g ∷ gs) = ap (λ (ns : List Text). g.0 ∷ ns) (keys-given gs)

-- files that were all given are those of the folder that they were read from
pub folder_given : (files : Files) (read : ReadFiles) (gs : Files) → keys_of read ≡ json_names (keys_of files) → All (IsFrom files) read
    → all_given read ≡ Some gs → gs ≡ json_files files
folder_given files read gs names from is =
    let all = given-all_given read gs is in
    filled files gs (subst (λ (fs : ReadFiles). All (IsFrom files) fs) all from)
    ∙ ap (λ (ns : List Text). map (λ n. (n, bytes_at files n)) ns) (sym (keys-given gs) ∙ sym (ap (λ (fs : ReadFiles). keys_of fs) all) ∙ names)
