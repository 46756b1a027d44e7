use Rattle.std.proofs.Common.{◌≡◌, true, false, None, Some, sym, ap, ◌∙◌, inl, inr}
use Rattle.std.specs.Option.{option_map_or}
use Rattle.std.proofs.lemmas.Bool.{false≢true}
use Rattle.std.proofs.lemmas.Option.{none-some}
use Rattle.fhir_summaries.specs.Summaries.{one_type}
use Rattle.fhir_summaries.proofs.Rows.{known}
use Rattle.fhir_summaries.proofs.laws.lenient_nodes.Goals as goal

pub returns-clause-lenient : goal.returns-clause-lenient
returns-clause-lenient c ds n is =
    elim (known ds n) [
      | inl found ↦ sym (ap (λ s. s.is_lenient) found) ∙ is
      | inr lost ↦ absurd (false≢true (sym (ap (λ s. s.is_lenient) lost.0) ∙ is))
    ]

pub returns-clause-types : goal.returns-clause-types
returns-clause-types c ds n e is =
    elim (known ds n) [
      | inl found ↦ ap (λ s. s.type) found ∙ ap (λ o. option_map_or (λ e. one_type ds e.types) o None) is
      | inr lost ↦ absurd (none-some e (sym lost.1 ∙ is))
    ]
