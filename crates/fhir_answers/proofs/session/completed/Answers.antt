use Rattle.fhir_answers.proofs.Sessions.{completed_so}
use Rattle.fhir_answers.proofs.session.completed.Goals as goal

pub returns : goal.returns
returns g c =
    completed_so c.args.files.now c.in_ok-survey.survey c.replace_package-definitions.new.self c.replace_package-none.new.self
    c.replace_package-definitions.result c.new.result c.complete.new.«package» c.in_ok-faults.faults.items c.in_ok-lacking.lacking c.in_ok-survey.ensures
    c.replace_package-definitions.ensures.taken c.replace_package-definitions.ensures.put c.replace_package-none.ensures.put c.in_ok-faults.ensures.completed
    c.in_ok-lacking.ensures
