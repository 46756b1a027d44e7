-- A package of a definition without a version and one of version 2.
use Rattle.std.specs.Prelude.{[], ◌∷◌, Option, codes}
use Rattle.fhir_json.specs.Tree.{Text, Tree, string, object, no_members, member}
use Rattle.fhir_package.specs.declared.kind.Kind.TheVariants.{ValueSet}
use Rattle.fhir_package.specs.Canonical.{named_by}
use Rattle.fhir_package.specs.Definitions.{Definitions}

abbrev pub plain : Tree
plain = object (member (codes "url") (string (codes "urn:plain")) no_members)

abbrev pub versioned : Tree
versioned = object (member (codes "url") (string (codes "urn:versioned")) (member (codes "version") (string (codes "2")) no_members))

abbrev pub definitions : Definitions
definitions = record {
  structure_definitions = [];
  value_sets = (codes "urn:plain", plain) ∷ (codes "urn:versioned", versioned) ∷ [];
  code_systems = [];
}

abbrev pub found : Text → Option Tree
found canonical = named_by ValueSet canonical definitions
