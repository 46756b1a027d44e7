use Rattle.fhir_package.specs.Surveying.{refusal}
use Rattle.fhir_answers.specs.Answering.{countered, judged}
use Rattle.fhir_answers.specs.Replying.{out_of}
use Rattle.fhir_answers.specs.Session.{schema_in}
use Rattle.answer_laws.proofs.Shown.{conforms_shown, violates_shown}
use Rattle.answer_laws.proofs.Standings.{opened}
use Rattle.answer_laws.proofs.counterexamples.shown_resources_are_judged_so.Goals as goal

pub returns-clause-derived : goal.returns-clause-derived
returns-clause-derived c s folder derived base name files others shown reply counters status judges =
    conforms_shown c.one_tree.ensures (schema_in s) derived base shown
    (opened (countered (schema_in s) derived base) shown (refusal s.survey) counters.0 counters.1) status reply
    (opened (judged (schema_in s) derived (out_of shown)) reply (refusal s.survey) judges.0 judges.1)

pub returns-clause-base : goal.returns-clause-base
returns-clause-base c s folder derived base name files others shown reply counters status judges =
    violates_shown c.one_tree.ensures (schema_in s) derived base shown
    (opened (countered (schema_in s) derived base) shown (refusal s.survey) counters.0 counters.1) status reply
    (opened (judged (schema_in s) base (out_of shown)) reply (refusal s.survey) judges.0 judges.1)
