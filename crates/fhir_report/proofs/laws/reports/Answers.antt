use Rattle.fhir_report.proofs.Saying.{faultless, promised}
use Rattle.fhir_report.proofs.laws.reports.Goals as goal

pub returns-clause-faultless : goal.returns-clause-faultless
returns-clause-faultless c files survey s selection certificate of =
    faultless files (c.surveys.ensures.packed files) survey s selection certificate of
    (record { usable = c.selected_usable.ensures.usable; listed = c.selected_usable.ensures.listed }) c.one_completion.ensures.packages

pub returns-clause-promised : goal.returns-clause-promised
returns-clause-promised c files survey s selection certificate of =
    promised files (c.surveys.ensures.packed files) survey s selection certificate of
