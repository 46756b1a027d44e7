use Rattle.std.proofs.Common.{◌↔◌, true, false, IsTrue, sym}
use Rattle.fhir_facets.specs.Unread.{as_given}
use Rattle.fhir_conformance.specs.Conformance.{Interpretation, Conforms, constant, as_read}
use Rattle.fhir_validator.specs.Verdicts.{conforms_as_given, conforms_anyway, violates_anyway, AreGiven, IsUpheld, IsVouchedFor, Means}
use Rattle.fhir_validator.specs.Listing.{IsVerdictOn, IsOfBytes}
use Rattle.fhir_validator.specs.Needed.{ConstraintsHoldAsGiven}
use Rattle.fhir_validator.proofs.Concluding.{concluded, explained, upheld, of_bytes, err_weaker}
use Rattle.fhir_validator.proofs.Judged.{weaker}
use Rattle.fhir_validator.proofs.Needing.{constraints_hold}
use Rattle.fhir_validator.proofs.validation.validate_given.Goals as goal

pub returns-in-Some-clause-conforms : goal.returns-in-Some-clause-conforms
returns-in-Some-clause-conforms c = λ t reads.
    let s = c.args.schema.now in
    let texts = c.args.given.now in
    let profile = c.args.profile.now in
    weaker (IsVerdictOn s texts c.in-Some.node t) (λ v. IsTrue (conforms_as_given v) ↔ Conforms s (as_read texts as_given) profile t)
    (λ v h. (concluded s texts profile t c.in-Some.node (sym c.in-Some.ensures) (c.positive.ensures.items s) v h).conforms) c.validate_at.result (c.validate_at.ensures.verdict t reads)

pub returns-in-Some-clause-always : goal.returns-in-Some-clause-always
returns-in-Some-clause-always c = λ t reads.
    let s = c.args.schema.now in
    let texts = c.args.given.now in
    let profile = c.args.profile.now in
    weaker (IsVerdictOn s texts c.in-Some.node t) (λ v. IsTrue (conforms_as_given v) → (meaning : Interpretation) → AreGiven texts meaning → Conforms s meaning profile t)
    (λ v h. λ conforming meaning given. c.positive.ensures.resources s (as_read texts as_given) meaning given profile t ((concluded s texts profile t c.in-Some.node (sym c.in-Some.ensures) (c.positive.ensures.items s) v h).conforms.0 conforming)) c.validate_at.result (c.validate_at.ensures.verdict t reads)

pub returns-in-Some-clause-rests : goal.returns-in-Some-clause-rests
returns-in-Some-clause-rests c = λ t reads.
    let s = c.args.schema.now in
    let texts = c.args.given.now in
    let profile = c.args.profile.now in
    weaker (IsVerdictOn s texts c.in-Some.node t) (λ v. (meaning : Interpretation) → IsUpheld meaning v → Conforms s meaning profile t)
    (λ v h. (concluded s texts profile t c.in-Some.node (sym c.in-Some.ensures) (c.positive.ensures.items s) v h).rests) c.validate_at.result (c.validate_at.ensures.verdict t reads)

pub returns-in-Some-clause-upheld : goal.returns-in-Some-clause-upheld
returns-in-Some-clause-upheld c = λ t reads.
    let s = c.args.schema.now in
    let texts = c.args.given.now in
    let profile = c.args.profile.now in
    let usable = sym c.in-Some.ensures in
    weaker (IsVerdictOn s texts c.in-Some.node t) (λ v. IsTrue (conforms_as_given v) → IsUpheld (as_read texts as_given) v)
    (λ v h. upheld s texts profile t c.in-Some.node usable v (explained s texts profile t c.in-Some.node usable v h)) c.validate_at.result
    (c.validate_at.ensures.verdict t reads)

pub returns-in-Some-clause-constraints : goal.returns-in-Some-clause-constraints
returns-in-Some-clause-constraints c = λ t reads.
    let s = c.args.schema.now in
    let texts = c.args.given.now in
    let profile = c.args.profile.now in
    weaker (IsVerdictOn s texts c.in-Some.node t) (λ v. IsTrue (conforms_as_given v) → ConstraintsHoldAsGiven s texts profile t)
    (λ v h conforming. constraints_hold s (c.roots_are_roots.ensures.of_type s) (c.roots_are_roots.ensures.of_canonical s) texts profile t
    ((concluded s texts profile t c.in-Some.node (sym c.in-Some.ensures) (c.positive.ensures.items s) v h).conforms.0 conforming))
    c.validate_at.result (c.validate_at.ensures.verdict t reads)

pub returns-in-Some-clause-anyway : goal.returns-in-Some-clause-anyway
returns-in-Some-clause-anyway c = λ t reads.
    let s = c.args.schema.now in
    let texts = c.args.given.now in
    let profile = c.args.profile.now in
    weaker (IsVerdictOn s texts c.in-Some.node t) (λ v. IsTrue (conforms_anyway v) ↔ Conforms s (constant false) profile t)
    (λ v h. (concluded s texts profile t c.in-Some.node (sym c.in-Some.ensures) (c.positive.ensures.items s) v h).anyway) c.validate_at.result (c.validate_at.ensures.verdict t reads)

pub returns-in-Some-clause-violates : goal.returns-in-Some-clause-violates
returns-in-Some-clause-violates c = λ t reads.
    let s = c.args.schema.now in
    let texts = c.args.given.now in
    let profile = c.args.profile.now in
    weaker (IsVerdictOn s texts c.in-Some.node t) (λ v. IsTrue (violates_anyway v) ↔ ¬ Conforms s (constant true) profile t)
    (λ v h. (concluded s texts profile t c.in-Some.node (sym c.in-Some.ensures) (c.positive.ensures.items s) v h).violates) c.validate_at.result (c.validate_at.ensures.verdict t reads)

pub returns-in-Some-clause-never : goal.returns-in-Some-clause-never
returns-in-Some-clause-never c = λ t reads.
    let s = c.args.schema.now in
    let texts = c.args.given.now in
    let profile = c.args.profile.now in
    weaker (IsVerdictOn s texts c.in-Some.node t) (λ v. IsTrue (violates_anyway v) → (meaning : Interpretation) → ¬ Conforms s meaning profile t)
    (λ v h. (concluded s texts profile t c.in-Some.node (sym c.in-Some.ensures) (c.positive.ensures.items s) v h).never) c.validate_at.result (c.validate_at.ensures.verdict t reads)

pub returns-in-Some-clause-explained : goal.returns-in-Some-clause-explained
returns-in-Some-clause-explained c = λ t reads.
    let s = c.args.schema.now in
    let texts = c.args.given.now in
    let profile = c.args.profile.now in
    weaker (IsVerdictOn s texts c.in-Some.node t) (λ v. IsVouchedFor s texts profile t v)
    (λ v h. explained s texts profile t c.in-Some.node (sym c.in-Some.ensures) v h) c.validate_at.result (c.validate_at.ensures.verdict t reads)

pub returns-in-Some-clause-refused : goal.returns-in-Some-clause-refused
returns-in-Some-clause-refused c =
    let s = c.args.schema.now in
    err_weaker (IsOfBytes c.args.bytes.now) (Means s c.args.profile.now c.args.bytes.now)
    (λ fault h. of_bytes s c.args.profile.now c.args.bytes.now c.in-Some.node (sym c.in-Some.ensures) fault h) c.validate_at.result c.validate_at.ensures.refused

pub returns-in-None-clause-refused : goal.returns-in-None-clause-refused
returns-in-None-clause-refused c = c.root_fault.ensures c.args.bytes.now
