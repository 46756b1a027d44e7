use Rattle.std.proofs.Common.{List, map, Some, ap, ◌∙◌}
use Rattle.fhir_json.specs.Tree.{Text}
use Rattle.fhir_vouching.specs.Given.{given_lines}
use Rattle.fhir_findings.specs.Carrying.{Carrier}
use Rattle.fhir_findings.specs.Once.{Told}
use Rattle.fhir_findings.specs.Views.{all_told_seen}
use Rattle.fhir_unread.specs.Unread.{given_text}
use Rattle.fhir_unread.proofs.Entries.{rules_in}
use Rattle.fhir_unread.proofs.Gives.{listing_gives}
use Rattle.fhir_unread.proofs.listing.unread_listing.Goals as goal

pub returns-clause-gives : goal.returns-clause-gives
returns-clause-gives c =
    ap (λ (w : Text). map (λ l. l.1) (given_lines w)) c.in_ok-list.ensures.listed
    ∙ listing_gives c.package.result.now (all_told_seen c.deref.result.now) c.in_ok-list.ensures.utf8
    ∙ ap (λ (ts : List (Told Carrier)). map (λ text. Some text) (map (λ t. given_text t.first) (rules_in ts)))
    (ap all_told_seen c.deref.ensures.value ∙ c.in_ok-told.ensures)
