use Rattle.std.proofs.Common.{sym}
use Rattle.fhir_package.specs.Changing.{put_in, put_each, without}
use Rattle.fhir_reach.specs.Search.{reached}
use Rattle.fhir_reach.proofs.Framing.{put_same, all_put_same, removed_same}
use Rattle.fhir_reach.proofs.laws.changes_elsewhere.Goals as goal

pub returns-clause-put_same : goal.returns-clause-put_same
returns-clause-put_same c = λ d p keys none. put_same keys d p none

pub returns-clause-put_reach : goal.returns-clause-put_reach
returns-clause-put_reach c = λ d p start none. c.frame.ensures.one_reach p (put_in d p) start (sym (put_same (reached p start) d p none))

pub returns-clause-all_put_same : goal.returns-clause-all_put_same
returns-clause-all_put_same c = λ ds p keys none. all_put_same keys ds p none

pub returns-clause-all_put_reach : goal.returns-clause-all_put_reach
returns-clause-all_put_reach c = λ ds p start none. c.frame.ensures.one_reach p (put_each ds p) start (sym (all_put_same (reached p start) ds p none))

pub returns-clause-removed_same : goal.returns-clause-removed_same
returns-clause-removed_same c = λ url p keys none. removed_same keys url p none

pub returns-clause-removed_reach : goal.returns-clause-removed_reach
returns-clause-removed_reach c = λ url p start none. c.frame.ensures.one_reach p (without url p) start (sym (removed_same (reached p start) url p none))
