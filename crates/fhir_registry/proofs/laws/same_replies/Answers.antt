use Rattle.std.proofs.Common.{sym}
use Rattle.fhir_package.specs.Changing.{put_each, without}
use Rattle.fhir_registry.specs.Session.{starts_by, reach_of}
use Rattle.fhir_registry.proofs.Elsewhere.{by_reach}
use Rattle.fhir_registry.proofs.laws.same_replies.Goals as goal

pub returns-clause-asked : goal.returns-clause-asked
returns-clause-asked c = λ texts p other q reply is same. by_reach texts p other q reply is same (c.frame.ensures.one_reach p other (starts_by q) same)

pub returns-clause-put_elsewhere : goal.returns-clause-put_elsewhere
returns-clause-put_elsewhere c = λ texts ds p q reply is free.
    by_reach texts p (put_each ds p) q reply is (sym (c.changes_elsewhere.ensures.all_put_same ds p (reach_of p q) free))
    (c.changes_elsewhere.ensures.all_put_reach ds p (starts_by q) free)

pub returns-clause-removed_elsewhere : goal.returns-clause-removed_elsewhere
returns-clause-removed_elsewhere c = λ texts url p q reply is free.
    by_reach texts p (without url p) q reply is (sym (c.changes_elsewhere.ensures.removed_same url p (reach_of p q) free))
    (c.changes_elsewhere.ensures.removed_reach url p (starts_by q) free)
