-- To a profile that has no root nothing conforms, and a fault that isn't of memory, on bytes that are JSON, says that it has none.
use Rattle.std.proofs.Common.{◌≡◌, ◌↔◌, ℕ, Bool, true, false, Option, None, Some, is_none, if◌then◌else◌, IsTrue, IsSome, refl, sym, ◌∙◌}
use Rattle.std.specs.Option.{option_and_then}
use Rattle.fhir_json.specs.Tree.{Text, Tree}
use Rattle.fhir_json.specs.Grammar.{Reads}
use Rattle.fhir_schema.specs.Schemas.{SchemaValue, root, root_in}
use Rattle.fhir_schema.specs.Settling.{reason_at}
use Rattle.fhir_conformance.specs.Conformance.{Interpretation, Conforms}
use Rattle.fhir_validator.specs.declared.fault.Fault.{Fault}
use Rattle.fhir_validator.specs.declared.fault.Fault.TheVariants.{Missing, Unusable, NotJson, NoMemory}
use Rattle.fhir_validator.specs.Verdicts.{Means}

guarded : {A B : Type 0} (found : Option A) (reason : A) (x : Option B) → found ≡ Some reason → (if is_none found then x else None) ≡ None
guarded None reason x is = absurd cc
guarded (Some other) reason x is = refl

at_place : (s : SchemaValue) (place : Option ℕ) (reason : _) → option_and_then (reason_at s.reasons) place ≡ Some reason
    → option_and_then (root_in s) place ≡ None
at_place s None reason is = refl
at_place s (Some place) reason is = guarded (reason_at s.reasons place) reason _ is

-- the fault says that the profile has no root
rootless : (s : SchemaValue) (profile bytes : Text) (t : Tree) (fault : Fault) → Means s profile bytes fault → (fault ≡ NoMemory → ⊥) → Reads bytes t
    → root s profile ≡ None
rootless s profile bytes t Missing means other reads = means.0
rootless s profile bytes t (Unusable reason) means other reads = at_place s _ reason means
rootless s profile bytes t (NotJson fault) means other reads = absurd (means.1 t reads)
rootless s profile bytes t NoMemory means other reads = absurd (other refl)

no_root : {A : Type 0} (found : Option A) → found ≡ None → IsSome found → ⊥
no_root None none some = absurd cc
no_root (Some it) none some = absurd cc

unmet : (s : SchemaValue) (meaning : Interpretation) (profile : Text) (t : Tree) → root s profile ≡ None → Conforms s meaning profile t → ⊥
unmet s meaning profile t none c =
    let two : Some c.node ≡ None = sym c.usable ∙ none in
    absurd cc

untrue : (b : Bool) → b ≡ false → IsTrue b → ⊥
untrue true denied is = absurd cc
untrue false denied is = absurd cc

-- so a no is right
pub conforms_not : (s : SchemaValue) (meaning : Interpretation) (profile bytes : Text) (t : Tree) (fault : Fault) (b : Bool)
    → Means s profile bytes fault → (fault ≡ NoMemory → ⊥) → Reads bytes t → b ≡ false → (IsTrue b ↔ Conforms s meaning profile t)
conforms_not s meaning profile bytes t fault b means other reads denied =
    (λ is. absurd (untrue b denied is), λ c. absurd (unmet s meaning profile t (rootless s profile bytes t fault means other reads) c))

pub violates_not : (s : SchemaValue) (profile bytes : Text) (t : Tree) (fault : Fault) {A : Type 0}
    → Means s profile bytes fault → (fault ≡ NoMemory → ⊥) → Reads bytes t → IsSome (root s profile) → A
violates_not s profile bytes t fault means other reads some =
    absurd (no_root (root s profile) (rootless s profile bytes t fault means other reads) some)

-- and nothing else follows from it
pub nothing : {A : Type 0} (b : Bool) → b ≡ false → IsTrue b → A
nothing b denied is = absurd (untrue b denied is)
