use Rattle.fhir_replies.proofs.Items.{one_issue_more}
use Rattle.fhir_replies.proofs.outcomes.Issues.add.Goals as goal

pub returns-in_ok-push-clause-severity : goal.returns-in_ok-push-clause-severity
returns-in_ok-push-clause-severity c =
    one_issue_more c.args.issue.severity.now c.args.self.now.issues.items c.push.new.self.items c.in_ok-json.json c.in_ok-push.ensures.items
    c.in_ok-json.ensures.severity
