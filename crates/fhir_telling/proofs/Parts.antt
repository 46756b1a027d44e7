-- What is told, by its parts.
use Rattle.std.proofs.Common.{◌≡◌, List, ap₂}
use Rattle.fhir_telling.specs.declared.verdict.LineVerdict.{LineVerdict}
use Rattle.fhir_telling.specs.Judgements.{JudgementValue, ToldValue}

told : LineVerdict → List JudgementValue → ToldValue
told v js = record { verdict = v; judgements = js }

pub told_by : (v w : LineVerdict) (js ks : List JudgementValue) → v ≡ w → js ≡ ks
    → ◌≡◌ {A = ToldValue} (record { verdict = v; judgements = js }) (record { verdict = w; judgements = ks })
unfolding told
told_by v w js ks p q = ap₂ told p q
