-- Places that are kept for definitions before they are put in, so that putting them in takes no memory.
use Rattle.std.specs.Prelude.{◌≡◌, List, [], ◌∷◌, ◌++◌, Bool, if◌then◌else◌}
use Rattle.std.specs.List.{list_all}
use Rattle.fhir_json.specs.Tree.{null}
use Rattle.fhir_package.specs.declared.kind.Kind.{Kind}
use Rattle.fhir_package.specs.Definitions.{ByUrl, Definitions, of_kind}
use Rattle.fhir_package.specs.Packing.{Definition, with_definition}
use Rattle.fhir_package.specs.Changing.{has}

-- a place holder behind the others of the kind, unless one of the kind and url is there
abbrev pub with_place : Definition → Definitions → Definitions
with_place d p = if has d.kind d.url p then p else with_definition (record d { tree = null }) p

-- places for definitions, one after the other
abbrev pub with_places : List Definition → Definitions → Definitions
with_places [] p = p
with_places (d ∷ ds) p = with_places ds (with_place d p)

-- each of them has a place
abbrev pub have_places : List Definition → Definitions → Bool
have_places ds p = list_all (λ d. has d.kind d.url p) ds

-- of each kind the new ones are the old ones and then others
abbrev pub Extends : Definitions → Definitions → Type 0
Extends old new = (kind : Kind) → (others : ByUrl) × (of_kind kind new ≡ of_kind kind old ++ others)
