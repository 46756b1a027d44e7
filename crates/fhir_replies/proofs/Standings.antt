-- How a resource stands, from what is known of its validation.
use Rattle.std.proofs.Common.{◌≡◌, ◌<◌, ◌↔◌, true, false, List, length, Result, Ok, Err, IfOk, IfErr, IsTrue, refl, ap, rules}
use Rattle.std.specs.Prelude.{IsSome}
use Rattle.std.proofs.lemmas.Bool.{false≢true}
use Rattle.fhir_json.specs.Tree.{Text, Tree}
use Rattle.fhir_json.specs.Grammar.{Reads}
use Rattle.fhir_schema.specs.Schemas.{SchemaValue, root}
use Rattle.fhir_facets.specs.Unread.{as_given}
use Rattle.fhir_conformance.specs.Conformance.{Interpretation, Conforms, constant, as_read}
use Rattle.fhir_validator.specs.declared.fault.Fault.{Fault}
use Rattle.fhir_validator.specs.declared.fault.Fault.TheVariants.{NoMemory}
use Rattle.fhir_validator.specs.declared.verdict.Verdict.{Verdict}
use Rattle.fhir_validator.specs.declared.verdict.Verdict.TheVariants as verdicts
use Rattle.fhir_validator.specs.declared.verdict.Vouched.{Vouched}
use Rattle.fhir_validator.specs.declared.verdict.Vouched.TheVariants as vouched
use Rattle.fhir_validator.specs.Needed.{ConstraintsHold, ConstraintsHoldAsGiven}
use Rattle.fhir_validator.specs.Verdicts.{is_conforming, is_violating, IsExplained, conforms_as_given, conforms_anyway, violates_anyway, AreGiven, IsUpheld, IsVouchedFor, Means}
use Rattle.fhir_replies.specs.Outcomes.{is_explained, is_explained_as_given}
use Rattle.fhir_replies.specs.Standing.{Stands, StandsAsGiven}

-- what is known of a validation
pub record IsValidated (s : SchemaValue) (profile bytes : Text) (v : Result Verdict Fault) : Type 0 where
  pub conforms : (t : Tree) → Reads bytes t → IfOk v (λ v. IsTrue (is_conforming v) ↔ Conforms s (constant false) profile t)
  pub always : (t : Tree) → Reads bytes t → IfOk v (λ v. IsTrue (is_conforming v) → (meaning : Interpretation) → Conforms s meaning profile t)
  pub constraints : (t : Tree) → Reads bytes t → IfOk v (λ v. IsTrue (is_conforming v) → ConstraintsHold s profile t)
  pub violates : (t : Tree) → Reads bytes t → IfOk v (λ v. IsTrue (is_violating v) ↔ (Conforms s (constant true) profile t → ⊥))
  pub never : (t : Tree) → Reads bytes t → IfOk v (λ v. IsTrue (is_violating v) → (meaning : Interpretation) → Conforms s meaning profile t → ⊥)
  pub explained : (t : Tree) → Reads bytes t → IfOk v (λ v. IsExplained s profile t v)
  pub there : IfOk v (λ v. IsSome (root s profile))
  pub read : IfOk v (λ v. (t : Tree) × Reads bytes t)
  pub refused : IfErr v (λ fault. Means s profile bytes fault)

-- the resource stands as it says
pub stands : (s : SchemaValue) (profile bytes : Text) (v : Result Verdict Fault) → IsValidated s profile bytes v → (v ≡ Err NoMemory → ⊥)
    → Stands s profile bytes v
stands s profile bytes (Ok verdicts.Conforms) known memory =
    let t = known.read.0 in
    let reads = known.read.1 in (t, reads, (known.always t reads refl, known.constraints t reads refl), known.explained t reads, known.there)
stands s profile bytes (Ok (verdicts.Violates issues)) known memory =
    let t = known.read.0 in
    let reads = known.read.1 in (t, reads, known.never t reads refl, known.explained t reads, known.there)
stands s profile bytes (Ok (verdicts.Open sites)) known memory =
    let t = known.read.0 in
    let reads = known.read.1 in (
      t,
      reads,
      ((λ holds. false≢true ((known.conforms t reads).1 holds)), (λ fails. false≢true ((known.violates t reads).1 fails))),
      known.explained t reads,
      known.there,
    )
stands s profile bytes (Err fault) known memory = (known.refused, λ same. memory (ap Err same))

-- it lists something, where it lists
pub is_listed : (s : SchemaValue) (profile bytes : Text) (v : Result Verdict Fault) → IsValidated s profile bytes v → IsTrue (is_explained v)
is_listed s profile bytes (Ok verdicts.Conforms) known = refl
is_listed s profile bytes (Ok (verdicts.Violates issues)) known =
    let some : 0 < length issues.items = (known.explained known.read.0 known.read.1).some in search rules
is_listed s profile bytes (Ok (verdicts.Open sites)) known =
    let some : 0 < length sites.items = (known.explained known.read.0 known.read.1).some in search rules
is_listed s profile bytes (Err fault) known = refl

-- ---- where a user vouches for unread rules

-- what is known of a validation then
pub record IsValidatedAsGiven (s : SchemaValue) (texts : List Text) (profile bytes : Text) (v : Result Vouched Fault) : Type 0 where
  pub conforms : (t : Tree) → Reads bytes t → IfOk v (λ v. IsTrue (conforms_as_given v) ↔ Conforms s (as_read texts as_given) profile t)
  pub always : (t : Tree) → Reads bytes t
      → IfOk v (λ v. IsTrue (conforms_as_given v) → (meaning : Interpretation) → AreGiven texts meaning → Conforms s meaning profile t)
  pub rests : (t : Tree) → Reads bytes t → IfOk v (λ v. (meaning : Interpretation) → IsUpheld meaning v → Conforms s meaning profile t)
  pub anyway : (t : Tree) → Reads bytes t → IfOk v (λ v. IsTrue (conforms_anyway v) ↔ Conforms s (constant false) profile t)
  pub constraints : (t : Tree) → Reads bytes t → IfOk v (λ v. IsTrue (conforms_as_given v) → ConstraintsHoldAsGiven s texts profile t)
  pub violates : (t : Tree) → Reads bytes t → IfOk v (λ v. IsTrue (violates_anyway v) ↔ (Conforms s (constant true) profile t → ⊥))
  pub never : (t : Tree) → Reads bytes t → IfOk v (λ v. IsTrue (violates_anyway v) → (meaning : Interpretation) → Conforms s meaning profile t → ⊥)
  pub explained : (t : Tree) → Reads bytes t → IfOk v (λ v. IsVouchedFor s texts profile t v)
  pub there : IfOk v (λ v. IsSome (root s profile))
  pub read : IfOk v (λ v. (t : Tree) × Reads bytes t)
  pub refused : IfErr v (λ fault. Means s profile bytes fault)

pub stands_as_given : (s : SchemaValue) (texts : List Text) (profile bytes : Text) (v : Result Vouched Fault) → IsValidatedAsGiven s texts profile bytes v
    → (v ≡ Err NoMemory → ⊥) → StandsAsGiven s texts profile bytes v
stands_as_given s texts profile bytes (Ok (vouched.Conforms relied)) known memory =
    let t = known.read.0 in
    let reads = known.read.1 in (
      t,
      reads,
      (known.rests t reads, known.always t reads refl, known.anyway t reads, known.constraints t reads refl),
      known.explained t reads,
      known.there,
    )
stands_as_given s texts profile bytes (Ok (vouched.Violates issues)) known memory =
    let t = known.read.0 in
    let reads = known.read.1 in (t, reads, known.never t reads refl, known.explained t reads, known.there)
stands_as_given s texts profile bytes (Ok (vouched.Open sites)) known memory =
    let t = known.read.0 in
    let reads = known.read.1 in (
      t,
      reads,
      ((λ holds. false≢true ((known.conforms t reads).1 holds)), (λ fails. false≢true ((known.violates t reads).1 fails))),
      known.explained t reads,
      known.there,
    )
stands_as_given s texts profile bytes (Err fault) known memory = (known.refused, λ same. memory (ap Err same))

pub is_listed_as_given : (s : SchemaValue) (texts : List Text) (profile bytes : Text) (v : Result Vouched Fault)
    → IsValidatedAsGiven s texts profile bytes v → IsTrue (is_explained_as_given v)
is_listed_as_given s texts profile bytes (Ok (vouched.Conforms relied)) known = refl
is_listed_as_given s texts profile bytes (Ok (vouched.Violates issues)) known =
    let some : 0 < length issues.items = (known.explained known.read.0 known.read.1).some in search rules
is_listed_as_given s texts profile bytes (Ok (vouched.Open sites)) known =
    let some : 0 < length sites.items = (known.explained known.read.0 known.read.1).some in search rules
is_listed_as_given s texts profile bytes (Err fault) known = refl
