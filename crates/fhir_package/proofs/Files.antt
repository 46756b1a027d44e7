-- What stands in the package of a folder, and where the definitions of a folder clash.
use Rattle.std.proofs.Common.{◌≡◌, List, [], ◌∷◌, None, Some, Result, Ok, Err, refl, sym, ap, subst, ◌∙◌, ◌⊎◌, inl, inr, true}
use Rattle.std.specs.Prelude.{Contains, IsTrue}
use Rattle.std.specs.List.{IsDistinct}
use Rattle.std.specs.Str.{bytes_eq}
use Rattle.std.specs.Map.{keys_of}
use Rattle.fhir_json.specs.declared.fault.JsonFault.{JsonFault}
use Rattle.fhir_json.specs.Tree.{Text, Tree}
use Rattle.fhir_json.specs.Reading.{reading}
use Rattle.fhir_matching.specs.Equality.{equal}
use Rattle.fhir_package.specs.declared.kind.Kind.{Kind}
use Rattle.fhir_package.specs.declared.kind.Kind.TheVariants.{StructureDefinition, ValueSet, CodeSystem}
use Rattle.fhir_package.specs.Definitions.{Definitions, no_definitions, of_kind, at_url}
use Rattle.fhir_package.specs.Folder.{Files}
use Rattle.fhir_package.specs.Packing.{Refusal, clash, Definition, definitions_in, join_all, and_then, or_clash, take_tree, bytes_at, json_names, pack}
use Rattle.fhir_package.specs.Found.{IsInFolder, Clashes}
use Rattle.fhir_package.proofs.Among.{Among, among-contained, contained-among, among-json_names, json_names-among}
use Rattle.fhir_package.proofs.Entries.{none_distinct}
use Rattle.fhir_package.proofs.Packs.{Agrees, take_named}
use Rattle.fhir_package.proofs.Joins.{Stands, Grows, Ends, Differ, chain, unchanged, join_all_ends}

-- the definition stands in one of these files
record IsIn (files : Files) (ns : List Text) (d : Definition) : Type 0 where
  name : Text
  listed : Among name ns
  tree : Tree
  read : reading (bytes_at files name) ≡ Ok tree
  held : Contains (definitions_in tree) d

in_cases : (files : Files) (n : Text) (ns : List Text) (t : Tree) → reading (bytes_at files n) ≡ Ok t → (d : Definition) → IsIn files (n ∷ ns) d
    → Contains (definitions_in t) d ⊎ IsIn files ns d
in_cases files n ns t is d i = elim i.listed [
  | inl e ↦ inl (same e)
  | inr more ↦ inr (record { name = i.name; listed = more; tree = i.tree; read = i.read; held = i.held })
]
  where
    one : (u : Tree) → (let r : Result Tree JsonFault = Ok u in r ≡ Ok t) → u ≡ t
    one u e = cc

    same : n ≡ i.name → Contains (definitions_in t) d
    same e = subst (λ u. Contains (definitions_in u) d) (one i.tree (sym i.read ∙ ap (λ (m : Text). reading (bytes_at files m)) (sym e) ∙ is)) i.held

module _ (In : Definition → Type 0) (files : Files) (same : (t : Tree) → equal t t ≡ true) where
  take_ends : (ns : List Text) (p : Definitions) → ((d : Definition) → IsIn files ns d → In d) → Stands In p → Ends In (IsIn files ns) p (take_named files ns p)
  take_ends [] p i s = unchanged In (IsIn files []) p s (λ d c. absurd c.listed)
  take_ends (n ∷ ns) p i s = by (reading (bytes_at files n)) refl (λ q. take_ends ns q (λ d c. i d (later d c)))
    where
      later : (d : Definition) → IsIn files ns d → IsIn files (n ∷ ns) d
      later d c = record { name = c.name; listed = inr c.listed; tree = c.tree; read = c.read; held = c.held }

      joins : (t : Tree) → reading (bytes_at files n) ≡ Ok t → (r : Result Definitions Text) → Ends In (Contains (definitions_in t)) p (or_clash r)
          → ((q : Definitions) → Stands In q → Ends In (IsIn files ns) q (take_named files ns q))
          → Ends In (IsIn files (n ∷ ns)) p (and_then (take_named files ns) (or_clash r))
      joins t is (Ok q) h rest =
          chain In (Contains (definitions_in t)) (IsIn files ns) (IsIn files (n ∷ ns)) (in_cases files n ns t is) p q (take_named files ns q) h
          (rest q h.stands)
      joins t is (Err url) h rest = h

      by : (r : Result Tree JsonFault) → reading (bytes_at files n) ≡ r
          → ((q : Definitions) → Stands In q → Ends In (IsIn files ns) q (take_named files ns q))
          → Ends In (IsIn files (n ∷ ns)) p (and_then (take_named files ns) (take_tree n r p))
      by (Ok t) is rest =
          joins t is (join_all (definitions_in t) p)
          (join_all_ends In same (definitions_in t) p (λ d c. i d (record { name = n; listed = inl refl; tree = t; read = is; held = c })) s) rest
      by (Err fault) is rest = tt

-- ---- folders

none_stands : (In : Definition → Type 0) → Stands In no_definitions
none_stands In = record { only = only; distinct = distinct }
  where
    none : (t : Tree) (P : Type 0) → None ≡ Some t → P
    none t P e = absurd cc

    only : (kind : Kind) (url : Text) (t : Tree) → at_url kind url no_definitions ≡ Some t → In (record { kind = kind; url = url; tree = t })
    only StructureDefinition url t e = none t _ e
    only ValueSet url t e = none t _ e
    only CodeSystem url t e = none t _ e

    distinct : (kind : Kind) → IsDistinct bytes_eq (keys_of (of_kind kind no_definitions))
    distinct StructureDefinition = none_distinct
    distinct ValueSet = none_distinct
    distinct CodeSystem = none_distinct

module _ (agrees : Agrees) (same : (t : Tree) → IsTrue (equal t t)) where
  from_files : (files : Files) (d : Definition) → IsIn files (json_names (keys_of files)) d → IsInFolder files d
  from_files files d i =
      let there = among-json_names (keys_of files) i.name i.listed in
      record {
        name = i.name;
        listed = contained-among (keys_of files) i.name there.0;
        is_json = there.1;
        tree = i.tree;
        text = (agrees (bytes_at files i.name) i.tree).0 i.read;
        held = i.held;
      }

  to_files : (files : Files) (d : Definition) → IsInFolder files d → IsIn files (json_names (keys_of files)) d
  to_files files d i = record {
    name = i.name;
    listed = json_names-among (keys_of files) i.name (among-contained (keys_of files) i.name i.listed) i.is_json;
    tree = i.tree;
    read = (agrees (bytes_at files i.name) i.tree).1 i.text;
    held = i.held;
  }

  abbrev Packed : Files → Result Definitions Refusal → Type 0
  Packed files r = Ends (IsInFolder files) (IsIn files (json_names (keys_of files))) no_definitions r

  packs : (files : Files) → Packed files (pack files)
  packs files = take_ends (IsInFolder files) files same (json_names (keys_of files)) no_definitions (from_files files) (none_stands (IsInFolder files))

  grown : (files : Files) (p : Definitions) → pack files ≡ Ok p → Grows (IsInFolder files) (IsIn files (json_names (keys_of files))) no_definitions p
  grown files p e = subst (Packed files) e (packs files)

  pub all_lem : (files : Files) (p : Definitions) (d : Definition) → pack files ≡ Ok p → IsInFolder files d
      → (t : Tree) × (at_url d.kind d.url p ≡ Some t) × IsTrue (equal t d.tree)
  all_lem files p d e i = (grown files p e).shows d (to_files files d i)

  pub only_lem : (files : Files) (p : Definitions) (kind : Kind) (url : Text) (t : Tree) → pack files ≡ Ok p → at_url kind url p ≡ Some t
      → IsInFolder files (record { kind = kind; url = url; tree = t })
  only_lem files p kind url t e is = (grown files p e).stands.only kind url t is

  pub distinct_lem : (files : Files) (p : Definitions) (kind : Kind) → pack files ≡ Ok p → IsDistinct bytes_eq (keys_of (of_kind kind p))
  distinct_lem files p kind e = (grown files p e).stands.distinct kind

  pub clashes_lem : (files : Files) (url : Text) → pack files ≡ Err (clash url) → Clashes files url
  clashes_lem files url e =
      let h : Differ (IsInFolder files) url = subst (Packed files) e (packs files) in
      record { kind = h.kind; first = h.first; second = h.second; first_there = h.first_in; second_there = h.second_in; unequal = h.unequal }
