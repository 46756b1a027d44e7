-- What is known of snapshots (used by private contracts alone).
use Rattle.std.specs.Prelude.{◌≡◌, List, true, false, Option, None, Some, is_some, Result, Ok, Err, string_bytes, codes}
use Rattle.std.specs.declared.vec.Vec.{Vec}
use Rattle.std.specs.declared.alloc.Global.{Global}
use Rattle.std.specs.Map.{lookup}
use Rattle.std.specs.Str.{bytes_eq}
use Rattle.fhir_json.specs.Tree.{Text, Tree}
use Rattle.fhir_elements.specs.Element.{Element}
use Rattle.fhir_package.specs.Definitions.{Definitions}
use Rattle.fhir_snapshot.specs.declared.fault.SnapFault.{SnapFault}
use Rattle.fhir_snapshot.specs.declared.outcome.Outcome.{Outcome}
use Rattle.fhir_snapshot.specs.declared.outcome.Outcome.TheVariants.{Made, Faulty}
use Rattle.fhir_snapshot.specs.declared.chains.Ground.{Ground}
use Rattle.fhir_snapshot.specs.declared.chains.Ground.TheVariants.{Base, Own, Nothing}
use Rattle.fhir_snapshot.specs.Faults.{number_of}
use Rattle.fhir_snapshot.specs.declared.fault.SnapNumber.{SnapNumber}
use Rattle.fhir_snapshot.specs.declared.fault.SnapNumber.TheVariants.{S3, S4}
use Rattle.fhir_definition.specs.Snapshot.{ids_differ}
use Rattle.fhir_snapshot.specs.Snapshots.{brings_elements, IsSnapshot, is_no_memory}
use Rattle.fhir_snapshot.specs.Chains.{Rests, IsWritten}
use Rattle.fhir_snapshot.specs.Refusing.{HasOwn, Applies}

-- the outcome of what was made, where memory didn't run out
abbrev pub IsOf : Outcome → Result (Vec Element Global) SnapFault → Type 0
IsOf (Made v) made = made ≡ Ok v
IsOf (Faulty f) made = (made ≡ Err f) × (is_no_memory f ≡ false)

-- a definition has this snapshot, or the fault's number applies to it
abbrev pub IsOutcome : Definitions → Text → Outcome → Type 0
IsOutcome p url (Made v) = IsSnapshot p url v.items
IsOutcome p url (Faulty f) = Applies p url (number_of f)

-- what is kept under a url is found of the definition there
abbrev pub AreKnown : Definitions → List (Text × Outcome) → Type 0
AreKnown p known = (url : Text) (o : Outcome) → lookup (bytes_eq url) known ≡ Some o → IsOutcome p url o

abbrev pub Knows : List (Text × Outcome) → Text → Type 0
Knows known url = is_some (lookup (bytes_eq url) known) ≡ true

-- a definition rests on the one at that url; it brings a snapshot; or it has the fault of that number
abbrev pub IsGround : Definitions → Text → Ground → Type 0
IsGround p url (Base base) = Rests p url (string_bytes base)
IsGround p url Own = IsWritten p url
IsGround p url (Nothing fault) = HasOwn p url (number_of fault)

-- a definition rests on another one; or what it has is known
abbrev pub Leads : Definitions → List (Text × Outcome) → Text → Option Text → Type 0
Leads p known url None = Knows known url
Leads p known url (Some base) = Rests p url base

-- what the number says of a differential by itself
abbrev pub IsDraftFault : Tree → List Element → SnapNumber → Type 0
IsDraftFault t es S3 = brings_elements (codes "differential") t ≡ false
IsDraftFault t es S4 = ids_differ es ≡ false
IsDraftFault t es number = ⊥
