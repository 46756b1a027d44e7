use Rattle.std.proofs.Common.{◌++◌, ◌∷◌, [], refl}
use Rattle.fhir_conformance.specs.Asks.{own}
use Rattle.fhir_conformance.specs.Views.{rule_name}
use Rattle.fhir_validator.specs.declared.issue.Issue.TheVariants.{Broken}
use Rattle.fhir_validator.specs.Issues.{says, told_at}
use Rattle.fhir_validator.specs.Layouts.{item_at}
use Rattle.fhir_validator.specs.Listing.{Lists}
use Rattle.fhir_validator.proofs.Told.{of_made, broken_lists}
use Rattle.fhir_validator.proofs.judging.Judge.list_broken.Goals as goal

pub returns : goal.returns
returns c =
    let layout = c.args.self.now in
    let old = c.args.listing.now in
    let p = c.args.pair in
    let rule = rule_name c.args.rule in
    let breach = c.in_ok-breach.breach in
    of_made (Lists layout p (own rule c.args.node) old) (record old { issues = old.issues ++ Broken breach ∷ [] }) c.put_breach.new.self c.put_breach.result c.put_breach.ensures
    (broken_lists layout p (told_at p.node rule c.args.node) old (own rule c.args.node) (says layout.schema (item_at layout p.item) rule c.args.node) breach c.requires.asked refl c.requires.fails
    c.in_ok-breach.ensures.node c.in_ok-breach.ensures.said c.in_ok-breach.ensures.named)
