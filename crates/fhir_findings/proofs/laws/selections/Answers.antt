use Rattle.std.proofs.Common.{map}
use Rattle.fhir_reach.specs.Keys.{of_url}
use Rattle.fhir_reach.specs.Search.{reached}
use Rattle.fhir_findings.specs.Selecting.{own_urls}
use Rattle.fhir_findings.proofs.Selected.{own_selected, named_selected}
use Rattle.fhir_findings.proofs.laws.selections.Goals as goal

pub returns-clause-own : goal.returns-clause-own
returns-clause-own c = λ prefixes p kind url t is own.
    own_selected prefixes p (c.frame.ensures.least p (map of_url (own_urls prefixes p))).closed kind url t is own

pub returns-clause-named : goal.returns-clause-named
returns-clause-named c = λ prefixes p kind url t is selected k named kind_named other u there stands.
    let start = map of_url (own_urls prefixes p) in
    named_selected p start (reached p start) (c.frame.ensures.least p start).closed kind url t is selected k named kind_named other u there stands
