-- In the list of all value sets a canonical finds what it names.
use Rattle.std.proofs.Common.{◌≡◌, Bool, true, false, if◌then◌else◌, Option, None, Some, refl, sym, ◌∙◌, ap}
use Rattle.std.specs.Option.{option_map, option_map_or, option_and_then}
use Rattle.std.specs.Map.{lookup}
use Rattle.std.specs.Result.{result_ok}
use Rattle.std.specs.Str.{bytes_eq}
use Rattle.std.proofs.lemmas.Map.Made.{lookup-map_values}
use Rattle.fhir_json.specs.Tree.{Text, Tree}
use Rattle.fhir_names.specs.Canonicals.{CanonicalParts, read_canonical}
use Rattle.fhir_package.specs.declared.kind.Kind.TheVariants.{ValueSet}
use Rattle.fhir_package.specs.Definitions.{Definitions}
use Rattle.fhir_package.specs.Canonical as canonicals
use Rattle.fhir_codes.specs.ValueSets.{expansion, concepts_of}
use Rattle.fhir_codes.specs.Expanding.{expansion_of, expansions_of, where_version, at_version, concepts_in}
use Rattle.fhir_codes.proofs.Settled.{concepts_step}

if_read : {A B : Type 0} (b : Bool) (t : A) (f : A → Option B) → (if b then f t else None) ≡ option_and_then f (if b then Some t else None)
if_read true t f = refl
if_read false t f = refl

at_one : (p : Definitions) (version : Option Text) (o : Option Tree)
    → option_and_then (where_version version) (option_map (expansion_of p) o)
    ≡ option_and_then (expansion p (concepts_of p)) (option_and_then (canonicals.where_version version) o)
at_one p version None = refl
at_one p version (Some t) = if_read (option_map_or (λ v. canonicals.is_of_version v t) version true) t (expansion p (concepts_of p))

at_parts : (p : Definitions) (r : Option CanonicalParts)
    → option_and_then (at_version (expansions_of p)) r ≡ option_and_then (expansion p (concepts_of p)) (option_and_then (canonicals.at_version ValueSet p) r)
at_parts p None = refl
at_parts p (Some r) =
    ap (option_and_then (where_version r.1)) (lookup-map_values (expansion_of p) (bytes_eq r.0) p.value_sets)
    ∙ at_one p r.1 (lookup (bytes_eq r.0) p.value_sets)

pub resolved_at : (p : Definitions) (canonical : Text) → concepts_in (expansions_of p) canonical ≡ concepts_of p canonical
resolved_at p canonical = at_parts p (result_ok (read_canonical canonical)) ∙ sym (concepts_step p canonical)
