-- What completing makes of a package (FHIR R4, Profiling, snapshots): each definition that brings no snapshot gets the one that it
-- has, if it has one.
use Rattle.std.specs.Prelude.{◌≡◌, List, [], ◌∷◌, ◌++◌, Bool, true, false, Option, None, Some}
use Rattle.fhir_json.specs.Tree.{Text, Tree}
use Rattle.fhir_elements.specs.Element.{Element}
use Rattle.fhir_overlay.specs.Completed.{with_snapshot}
use Rattle.fhir_package.specs.declared.kind.Kind.TheVariants.{StructureDefinition}
use Rattle.fhir_package.specs.Definitions.{ByUrl, Definitions, with_kind}
use Rattle.fhir_inheritance.specs.Sources.{brings_snapshot}
use Rattle.fhir_snapshot.specs.declared.fault.SnapNumber.{SnapNumber}
use Rattle.fhir_snapshot.specs.Snapshots.{IsSnapshot}
use Rattle.fhir_snapshot.specs.Refusing.{Applies}

-- a definition that brings a snapshot stays as it is, and one that brings none gets the one that it has
abbrev pub Gets : Definitions → Text → Tree → Bool → Tree → Type 0
Gets p url t true new = new ≡ t
Gets p url t false new = (es : List Element) × IsSnapshot p url es × (new ≡ with_snapshot es t)

-- What becomes of a definition, and with which number it is listed: one that has no snapshot is, and stays as it is.
abbrev pub Becomes : Definitions → Text → Tree → Tree → Option SnapNumber → Type 0
Becomes p url t new None = Gets p url t (brings_snapshot t) new
Becomes p url t new (Some number) = (brings_snapshot t ≡ false) × Applies p url number × (new ≡ t)

-- urls of definitions, each with a number
abbrev pub Numbered : Type 0
Numbered = List (Text × SnapNumber)

abbrev pub listed : Option SnapNumber → Text → Numbered
listed None url = []
listed (Some number) url = (url, number) ∷ []

-- of each definition in order, and those that are listed
abbrev pub AreCompleted : Definitions → ByUrl → ByUrl → Numbered → Type 0
AreCompleted p [] news faults = (news ≡ []) × (faults ≡ [])
AreCompleted p (e ∷ es) news faults =
    (new : Tree) × (others : ByUrl) × (number : Option SnapNumber) × (rest : Numbered)
    × (news ≡ (e.0, new) ∷ others) × (faults ≡ listed number e.0 ++ rest)
    × Becomes p e.0 e.1 new number × AreCompleted p es others rest

-- The second package is the first one completed. Listed are the definitions that have no snapshot, each with a number that applies.
pub record IsCompletion (old new : Definitions) (faults : Numbered) : Type 0 where
  pub completed : AreCompleted old old.structure_definitions new.structure_definitions faults
  -- of other kinds all stays
  pub others_stay : new ≡ with_kind StructureDefinition new.structure_definitions old

-- the second package is the first one completed
abbrev pub Completes : Definitions → Definitions → Type 0
Completes old new = (faults : Numbered) × IsCompletion old new faults
