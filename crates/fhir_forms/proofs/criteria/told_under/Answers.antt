use Rattle.std.proofs.Common.{ap, ◌∙◌}
use Rattle.fhir_forms.specs.Slicings.{discriminators_of}
use Rattle.fhir_forms.specs.CriteriaSeen.{tests_seen}
use Rattle.fhir_forms.proofs.Told.{same_shown, there, not_there}
use Rattle.fhir_forms.proofs.criteria.told_under.Goals as goal

pub told_by-requires : goal.told_by-requires
told_by-requires c =
    let is = there c.args.elements.now c.args.sliced c.in-Some.element.now c.in-Some.ensures.lookup.0 c.in-Some.ensures.lookup.1 in
    ap tests_seen (c.deref.ensures.value ∙ ap (λ v. v.items) c.index-all-sliced.is)
    ∙ same_shown (λ v. tests_seen v.items) discriminators_of c.args.all.now c.args.elements.now c.args.sliced c.index-all-sliced.result c.in-Some.element.now c.requires is

pub returns-in-Some-clause-criteria : goal.returns-in-Some-clause-criteria
returns-in-Some-clause-criteria c =
    rw (there c.args.elements.now c.args.sliced c.in-Some.element.now c.in-Some.ensures.lookup.0 c.in-Some.ensures.lookup.1) c.told_by.ensures.criteria

pub returns-in-Some-clause-reason : goal.returns-in-Some-clause-reason
returns-in-Some-clause-reason c =
    rw (there c.args.elements.now c.args.sliced c.in-Some.element.now c.in-Some.ensures.lookup.0 c.in-Some.ensures.lookup.1) c.told_by.ensures.reason

pub returns-in-None-clause-criteria : goal.returns-in-None-clause-criteria
returns-in-None-clause-criteria c = rw (not_there c.args.elements.now c.args.sliced c.in-None.ensures.lookup.0) (search)

pub returns-in-None-clause-reason : goal.returns-in-None-clause-reason
returns-in-None-clause-reason c = rw (not_there c.args.elements.now c.args.sliced c.in-None.ensures.lookup.0) (search)
