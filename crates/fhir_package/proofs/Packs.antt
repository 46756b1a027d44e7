-- What a package and a refusal say of a folder's files.
use Rattle.std.proofs.Common.{◌≡◌, ℕ, List, [], ◌∷◌, map, Result, Ok, Err, refl, sym, ap, ◌∙◌, inl, inr}
use Rattle.std.specs.Prelude.{IsTrue, Contains, ◌↔◌}
use Rattle.std.specs.Map.{keys_of}
use Rattle.fhir_json.specs.declared.fault.JsonFault.{JsonFault}
use Rattle.fhir_json.specs.Tree.{Text, Tree}
use Rattle.fhir_json.specs.Grammar.{Reads}
use Rattle.fhir_json.specs.Reading.{reading}
use Rattle.fhir_package.specs.Definitions.{Definitions, no_definitions}
use Rattle.fhir_package.specs.Folder.{Files}
use Rattle.fhir_package.specs.Packing.{Refusal, not_json, clash, definitions_in, join_all, and_then, or_clash, take_tree, bytes_at, take_files, is_json_name}
use Rattle.fhir_package.specs.Packing.{json_names, pack}
use Rattle.fhir_package.proofs.Among.{Among, among-contained, contained-among, among-json_names, json_names-among}

no_tree : (fault : JsonFault) (t : Tree) → (let r : Result Tree JsonFault = Err fault in r ≡ Ok t) → ⊥
no_tree fault t e = cc

-- what fhir_json's law says of reading
abbrev pub Agrees : Type 0
Agrees = (bytes : List ℕ) (t : Tree) → (reading bytes ≡ Ok t) ↔ Reads bytes t

-- ---- files one after another

-- the files of these names put in
abbrev pub take_named : Files → List Text → Definitions → Result Definitions Refusal
take_named files ns p = take_files (map (λ n. (n, bytes_at files n)) ns) p

abbrev rest_of : Files → List Text → Definitions → Result Definitions Refusal
rest_of files ns = take_named files ns

no_clash : (url name : Text) → (let r : Result Definitions Refusal = Err (clash url) in r ≡ Err (not_json name)) → ⊥
no_clash url name e = cc

no_package : (refusal : Refusal) (q : Definitions) → (let r : Result Definitions Refusal = Err refusal in r ≡ Ok q) → ⊥
no_package refusal q e = cc

same_name : (n name : Text) → (let r : Result Definitions Refusal = Err (not_json n) in r ≡ Err (not_json name)) → n ≡ name
same_name n name e = cc

-- what is refused is a file among them, and no text of a tree
abbrev IsNone : Files → List Text → Text → Type 0
IsNone files ns name = Among name ns × ((t : Tree) → reading (bytes_at files name) ≡ Ok t → ⊥)

pub none_read : (files : Files) (ns : List Text) (p : Definitions) (name : Text) → take_named files ns p ≡ Err (not_json name) → IsNone files ns name
none_read files [] p name e = absurd (cc)
none_read files (n ∷ ns) p name e = by (reading (bytes_at files n)) refl (λ q. none_read files ns q name) e
  where
    joins : (r : Result Definitions Text) → ((q : Definitions) → take_named files ns q ≡ Err (not_json name) → IsNone files ns name)
        → and_then (rest_of files ns) (or_clash r) ≡ Err (not_json name) → IsNone files (n ∷ ns) name
    joins (Ok q) rest e = let h = rest q e in (inr h.0, h.1)
    joins (Err url) rest e = absurd (no_clash url name e)

    is_none : (fault : JsonFault) → reading (bytes_at files n) ≡ Err fault → n ≡ name → IsNone files (n ∷ ns) name
    is_none fault is e = (inl e, λ t h. no_tree fault t (sym is ∙ ap (λ (m : Text). reading (bytes_at files m)) e ∙ h))

    by : (r : Result Tree JsonFault) → reading (bytes_at files n) ≡ r → ((q : Definitions) → take_named files ns q ≡ Err (not_json name) → IsNone files ns name)
        → and_then (rest_of files ns) (take_tree n r p) ≡ Err (not_json name) → IsNone files (n ∷ ns) name
    by (Ok t) is rest e = joins (join_all (definitions_in t) p) rest e
    by (Err fault) is rest e = is_none fault is (same_name n name e)

-- each file of a package is the text of a tree
abbrev IsRead : Files → Text → Type 0
IsRead files name = (t : Tree) × (reading (bytes_at files name) ≡ Ok t)

pub all_read : (files : Files) (ns : List Text) (p q : Definitions) (name : Text) → take_named files ns p ≡ Ok q → Among name ns → IsRead files name
all_read files [] p q name e h = absurd h
all_read files (n ∷ ns) p q name e h = by (reading (bytes_at files n)) refl (λ m. all_read files ns m q name) e h
  where
    joins : (t : Tree) → reading (bytes_at files n) ≡ Ok t → (r : Result Definitions Text)
        → ((m : Definitions) → take_named files ns m ≡ Ok q → Among name ns → IsRead files name) → and_then (rest_of files ns) (or_clash r) ≡ Ok q
        → Among name (n ∷ ns) → IsRead files name
    joins t is (Ok m) rest e h = elim h [ inl same ↦ (t, ap (λ (m : Text). reading (bytes_at files m)) (sym same) ∙ is) | inr more ↦ rest m e more ]
    joins t is (Err url) rest e h = absurd (no_package (clash url) q e)

    by : (r : Result Tree JsonFault) → reading (bytes_at files n) ≡ r → ((m : Definitions) → take_named files ns m ≡ Ok q → Among name ns → IsRead files name)
        → and_then (rest_of files ns) (take_tree n r p) ≡ Ok q → Among name (n ∷ ns) → IsRead files name
    by (Ok t) is rest e h = joins t is (join_all (definitions_in t) p) rest e h
    by (Err fault) is rest e h = absurd (no_package (not_json n) q e)

-- ---- folders

pub refused_lem : Agrees → (files : Files) (name : Text) → pack files ≡ Err (not_json name)
    → Contains (keys_of files) name × IsTrue (is_json_name name) × ((t : Tree) → ¬ Reads (bytes_at files name) t)
refused_lem agrees files name e =
    let none = none_read files (json_names (keys_of files)) no_definitions name e in
    let there = among-json_names (keys_of files) name none.0 in
    (contained-among (keys_of files) name there.0, there.1, λ t r. none.1 t ((agrees (bytes_at files name) t).1 r))

pub packed_lem : Agrees → (files : Files) (p : Definitions) (name : Text) → pack files ≡ Ok p → Contains (keys_of files) name → IsTrue (is_json_name name)
    → (t : Tree) × Reads (bytes_at files name) t
packed_lem agrees files p name e there is =
    let one =
    all_read files (json_names (keys_of files)) no_definitions p name e
    (json_names-among (keys_of files) name (among-contained (keys_of files) name there) is) in
    (one.0, (agrees (bytes_at files name) one.0).0 one.1)
