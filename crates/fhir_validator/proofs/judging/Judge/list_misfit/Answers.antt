use Rattle.std.proofs.Common.{◌++◌, ◌∷◌, [], refl}
use Rattle.fhir_conformance.specs.Asks.{types}
use Rattle.fhir_validator.specs.declared.issue.Issue.TheVariants.{Broken}
use Rattle.fhir_validator.specs.Issues as issues
use Rattle.fhir_validator.specs.Listing.{Lists}
use Rattle.fhir_validator.proofs.Told.{of_made, broken_lists}
use Rattle.fhir_validator.proofs.judging.Judge.list_misfit.Goals as goal

pub returns : goal.returns
returns c =
    let layout = c.args.self.now in
    let old = c.args.listing.now in
    let p = c.args.pair in
    let misfit = c.in_ok-misfit.misfit in
    of_made (Lists layout p (types p.node) old) (record old { issues = old.issues ++ Broken misfit ∷ [] }) c.put_breach.new.self c.put_breach.result c.put_breach.ensures
    (broken_lists layout p p.node old (types p.node) issues.types misfit c.requires.asked refl c.requires.fails
    c.in_ok-misfit.ensures.node c.in_ok-misfit.ensures.said c.in_ok-misfit.ensures.named)
