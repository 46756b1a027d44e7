use Rattle.std.proofs.Common.{[], inl, inr, sym, ap, arith}
use Rattle.std.specs.Prelude.{Ok}
use Rattle.fhir_fp_eval.specs.Meaning.{den}
use Rattle.further_laws.proofs.Once.{joined_append, joined_from, joined_once, none_once, joined_each}
use Rattle.further_laws.proofs.collections.united_values.Goals as goal

pub returns-clause-values : goal.returns-clause-values
unfolding den
returns-clause-values c w a b x vs us h k = rw (h, k) (ap Ok (sym (joined_append [] vs us)))

pub returns-clause-some : goal.returns-clause-some
returns-clause-some c vs v h =
    elim (joined_from vs [] v h) [
      | inl none ↦ absurd (omega (arith, none.1))
      | inr some ↦ some
    ]

pub returns-clause-once : goal.returns-clause-once
returns-clause-once c vs front back v e = joined_once vs [] none_once front back v e

pub returns-clause-each : goal.returns-clause-each
returns-clause-each c vs v h = joined_each vs [] v h
