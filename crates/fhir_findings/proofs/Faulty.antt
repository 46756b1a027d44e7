-- Each finding is a fault.
use Rattle.std.proofs.Common.{◌≡◌, List, [], ◌∷◌, Bool, true, false, not, ◌||◌, ◌==◌, length, refl, ◌∙◌, arith}
use Rattle.fhir_findings.specs.declared.finding.Finding.{Finding}
use Rattle.fhir_findings.specs.declared.finding.Finding.TheVariants.{File, Unusable}
use Rattle.fhir_findings.specs.Finding.{faults_told, all_told, is_filled, has_faults}

or_true : (b : Bool) → true ≡ (b || true)
or_true true = refl
or_true false = refl

filled : (f : Finding) (fs : List Finding) → not (length (f ∷ fs) == 0) ≡ true
filled f fs = grind arith

pub any_found : (fs : List Finding) → not (length fs == 0) ≡ has_faults fs
any_found [] = refl
any_found (File fault ∷ fs) = filled (File fault) fs
any_found (Unusable u ∷ fs) = filled (Unusable u) fs ∙ or_true (is_filled (faults_told fs))

empty_told : {A : Type 0} (xs : List A) → is_filled xs ≡ false → xs ≡ []
empty_told [] e = refl
empty_told (x ∷ xs) e = cc

both_false : (a b : Bool) → (a || b) ≡ false → (a ≡ false) × (b ≡ false)
both_false false b e = (refl, e)
both_false true b e = cc

pub none_told : (fs : List Finding) → has_faults fs ≡ false → (faults_told fs ≡ []) × (all_told fs ≡ [])
none_told fs e =
    let parts = both_false (is_filled (faults_told fs)) (is_filled (all_told fs)) e in
    (empty_told (faults_told fs) parts.0, empty_told (all_told fs) parts.1)
