-- The package of definitions that are kept.
use Rattle.std.proofs.Common.{◌≡◌, Bool, true, false, cond, ◌&&◌, List, [], ◌∷◌, ◌++◌, map, Some, refl, sym, ap, ◌∙◌, append_assoc, append-nil}
use Rattle.std.specs.Prelude.{find, filter}
use Rattle.std.specs.Option.{option_map}
use Rattle.std.specs.Map.{lookup}
use Rattle.std.specs.Str.{bytes_eq}
use Rattle.fhir_json.specs.Tree.{Text, Tree}
use Rattle.fhir_package.specs.declared.kind.Kind.{Kind}
use Rattle.fhir_package.specs.declared.kind.Kind.TheVariants.{StructureDefinition, ValueSet, CodeSystem}
use Rattle.fhir_package.specs.Definitions.{Definitions, ByUrl, no_definitions, of_kind, with_kind, at_url}
use Rattle.fhir_package.specs.Packing.{with_definition}
use Rattle.fhir_package.specs.Changing.{is_same_kind}
use Rattle.fhir_gather.specs.Gathering.{Taken, is_of, is_of_kind, kept, with_each, package_of}
use Rattle.fhir_gather.specs.Found.{entry_of}
use Rattle.fhir_gather.proofs.Keeping.{found_kept}

none_of_kind : (kind : Kind) → of_kind kind no_definitions ≡ []
none_of_kind StructureDefinition = refl
none_of_kind ValueSet = refl
none_of_kind CodeSystem = refl

-- the definitions of a kind, where one is put behind those of another or the same kind
kind_with : (kind k : Kind) (e : Text × Tree) (p : Definitions)
    → of_kind kind (with_kind k (of_kind k p ++ e ∷ []) p) ≡ of_kind kind p ++ cond (is_same_kind kind k) (e ∷ []) []
kind_with StructureDefinition StructureDefinition e p = refl
kind_with StructureDefinition ValueSet e p = sym (append-nil p.structure_definitions)
kind_with StructureDefinition CodeSystem e p = sym (append-nil p.structure_definitions)
kind_with ValueSet StructureDefinition e p = sym (append-nil p.value_sets)
kind_with ValueSet ValueSet e p = refl
kind_with ValueSet CodeSystem e p = sym (append-nil p.value_sets)
kind_with CodeSystem StructureDefinition e p = sym (append-nil p.code_systems)
kind_with CodeSystem ValueSet e p = sym (append-nil p.code_systems)
kind_with CodeSystem CodeSystem e p = refl

-- the entries of a kind
abbrev entries : Kind → List Taken → ByUrl
entries kind ts = map entry_of (filter (is_of_kind kind) ts)

kind_each : (kind : Kind) (ts : List Taken) (p : Definitions) → of_kind kind (with_each ts p) ≡ of_kind kind p ++ entries kind ts
kind_each kind [] p = sym (append-nil (of_kind kind p))
kind_each kind (t ∷ ts) p =
    kind_each kind ts (with_definition t.definition p) ∙ ap (λ (es : ByUrl). es ++ entries kind ts) (kind_with kind t.definition.kind (entry_of t) p)
    ∙ append_assoc (of_kind kind p) (cond (is_of_kind kind t) (entry_of t ∷ []) []) (entries kind ts)
    ∙ ap (λ (es : ByUrl). of_kind kind p ++ es) (by (is_of_kind kind t))
  where
    by : (b : Bool) → cond b (entry_of t ∷ []) [] ++ entries kind ts ≡ map entry_of (cond b (t ∷ filter (is_of_kind kind) ts) (filter (is_of_kind kind) ts))
    by true = refl
    by false = refl

-- the definitions of a kind, in order
pub kind_package : (kind : Kind) (ts : List Taken) → of_kind kind (package_of ts) ≡ map entry_of (filter (is_of_kind kind) ts)
kind_package kind ts = kind_each kind ts no_definitions ∙ ap (λ (es : ByUrl). es ++ entries kind ts) (none_of_kind kind)

found_entry : (kind : Kind) (url : Text) (ts : List Taken) → lookup (bytes_eq url) (entries kind ts) ≡ option_map (λ t. t.definition.tree) (find (is_of kind url) ts)
found_entry kind url [] = refl
found_entry kind url (t ∷ ts) = by (is_of_kind kind t) (bytes_eq url t.definition.url) refl (found_entry kind url ts)
  where
    by : (a b : Bool) → bytes_eq url t.definition.url ≡ b
        → lookup (bytes_eq url) (entries kind ts) ≡ option_map (λ t. t.definition.tree) (find (is_of kind url) ts)
        → lookup (bytes_eq url) (map entry_of (cond a (t ∷ filter (is_of_kind kind) ts) (filter (is_of_kind kind) ts)))
        ≡ option_map (λ t. t.definition.tree) (cond (a && b) (Some t) (find (is_of kind url) ts))
    by true true is rest = ap (λ (c : Bool). cond c (Some t.definition.tree) (lookup (bytes_eq url) (entries kind ts))) is
    by true false is rest = ap (λ (c : Bool). cond c (Some t.definition.tree) (lookup (bytes_eq url) (entries kind ts))) is ∙ rest
    by false b is rest = rest

-- what stands at a kind and url in a package of definitions
pub at_package : (kind : Kind) (url : Text) (ts : List Taken)
    → at_url kind url (package_of ts) ≡ option_map (λ t. t.definition.tree) (find (is_of kind url) ts)
at_package kind url ts = ap (lookup (bytes_eq url)) (kind_package kind ts) ∙ found_entry kind url ts

-- of what is kept it is the first of all
pub first_of_all : (kind : Kind) (url : Text) (ts : List Taken)
    → at_url kind url (package_of (kept ts)) ≡ option_map (λ t. t.definition.tree) (find (is_of kind url) ts)
first_of_all kind url ts = at_package kind url (kept ts) ∙ ap (option_map (λ t. t.definition.tree)) (found_kept kind url ts)
