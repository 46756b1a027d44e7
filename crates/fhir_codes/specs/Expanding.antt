-- All value sets of a package with their concepts, and what contracts see of code sets.
use Rattle.std.specs.Prelude.{List, map, true, Option, None, if◌then◌else◌, codes}
use Rattle.std.specs.Option.{option_map_or, option_and_then}
use Rattle.std.specs.Map.{lookup}
use Rattle.std.specs.Result.{result_ok}
use Rattle.std.specs.Str.{bytes_eq}
use Rattle.fhir_json.specs.Tree.{Text, Tree}
use Rattle.fhir_json.specs.Fields.{field}
use Rattle.fhir_names.specs.Canonicals.{CanonicalParts, read_canonical}
use Rattle.fhir_package.specs.Definitions.{Definitions}
use Rattle.fhir_package.specs.Canonical.{has_version}
use Rattle.fhir_codes.specs.Concepts.{Concepts}
use Rattle.fhir_codes.specs.ValueSets.{concepts_of, expansion}

-- the version of a value set, if it has one, and its concepts, if they can be read
pub record Expansion : Type 0 where
  pub version : Option Tree
  pub concepts : Option Concepts

-- value sets under their urls
abbrev pub Expansions : Type 0
Expansions = List (Text × Expansion)

abbrev pub expansion_of : Definitions → Tree → Expansion
expansion_of p t = record {
  version = field (codes "version") t;
  concepts = expansion p (concepts_of p) t;
}

abbrev pub expansions_of : Definitions → Expansions
expansions_of p = map (λ e. (e.0, expansion_of p e.1)) p.value_sets

-- the concepts of one, where no version is asked for, or it has none or that one
abbrev pub where_version : Option Text → Expansion → Option Concepts
where_version version e = if option_map_or (λ v. has_version v e.version) version true then e.concepts else None

abbrev pub at_version : Expansions → CanonicalParts → Option Concepts
at_version es r = option_and_then (where_version r.1) (lookup (bytes_eq r.0) es)

-- the concepts of the value set that a canonical names, if it is there and they can be read
abbrev pub concepts_in : Expansions → Text → Option Concepts
concepts_in es canonical = option_and_then (at_version es) (result_ok (read_canonical canonical))
