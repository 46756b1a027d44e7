use Rattle.fhir_package.specs.Surveying.{refusal}
use Rattle.fhir_answers.specs.Answering.{between, countered}
use Rattle.fhir_answers.specs.Session.{schema_in}
use Rattle.answer_laws.proofs.Certificates.{derived_at, derived_then, yes_at, yes_then, open_at, no_at, line_at, refuted_at}
use Rattle.answer_laws.proofs.Standings.{opened}
use Rattle.answer_laws.proofs.profiles.counterexamples_by_status.Goals as goal

pub returns-clause-certificate : goal.returns-clause-certificate
returns-clause-certificate c s folder derived base files reply is e =
    yes_at (schema_in s) derived base reply (opened (countered (schema_in s) derived base) reply (refusal s.survey) is.0 is.1) e

pub returns-clause-agrees : goal.returns-clause-agrees
returns-clause-agrees c s folder derived base files one other is others =
    let first = opened (between (schema_in s) derived base) one (refusal s.survey) is.0 is.1 in
    let second = opened (countered (schema_in s) derived base) other (refusal s.survey) others.0 others.1 in (
      λ e. yes_then (schema_in s) derived base other second (derived_at (schema_in s) derived base one first e),
      λ e. derived_then (schema_in s) derived base one first (yes_at (schema_in s) derived base other second e),
    )

pub returns-clause-shown : goal.returns-clause-shown
returns-clause-shown c s folder derived base files reply is e =
    no_at (schema_in s) derived base reply (opened (countered (schema_in s) derived base) reply (refusal s.survey) is.0 is.1) e

pub returns-clause-line : goal.returns-clause-line
returns-clause-line c s folder derived base files reply is e =
    line_at (schema_in s) derived base reply (opened (countered (schema_in s) derived base) reply (refusal s.survey) is.0 is.1) e

pub returns-clause-refuted : goal.returns-clause-refuted
returns-clause-refuted c s folder derived base files reply is e =
    refuted_at (schema_in s) derived base reply (opened (countered (schema_in s) derived base) reply (refusal s.survey) is.0 is.1) c.fair_meanings.ensures e

pub returns-clause-none : goal.returns-clause-none
returns-clause-none c s folder derived base files reply is e =
    open_at (schema_in s) derived base reply (opened (countered (schema_in s) derived base) reply (refusal s.survey) is.0 is.1) e
