use Rattle.std.proofs.Common.{◌≡◌, false, sym, ap, ◌∙◌, subst}
use Rattle.fhir_conformance.specs.Conformance.{profiles_hold}
use Rattle.fhir_validator.specs.Judgements.{same_judgement}
use Rattle.fhir_validator.specs.Layouts.{item_at}
use Rattle.fhir_validator.specs.Judging.{IsRightOn}
use Rattle.fhir_validator.proofs.Unsettled.{grows_none, settled_other, raised_profiles}
use Rattle.fhir_validator.proofs.judging.Judge.open_hanging_profiles.Goals as goal

pub open_profiles-requires : goal.open_profiles-requires
open_profiles-requires c = rw c.in_ok-judgement.ensures.same c.requires

pub returns-then-is-clause-settles : goal.returns-then-is-clause-settles
returns-then-is-clause-settles c = rw c.in_ok-judgement.ensures.same at c.open_profiles.ensures.settles

pub returns-else-is-clause-settles : goal.returns-else-is-clause-settles
returns-else-is-clause-settles c =
    let layout = c.args.self.now in
    let p = c.args.pair in
    let x = item_at layout p.item in
    let ps = c.args.entry.now.profiles in
    let old = c.args.listing.now in
    let roots = c.args.roots.now.items in
    let judgement = c.in_ok-judgement.judgement in
    let exact = subst (λ ps. IsRightOn layout p.item (λ m f. profiles_hold layout.schema m f x ps) judgement) c.profiles.ensures c.in_ok-judgement.ensures.exact in
    let other : same_judgement judgement old.wanted ≡ false = ap (same_judgement judgement) (sym c.wanted.ensures) ∙ sym c.is.ensures ∙ c.if-is.false in
    record {
      grows = grows_none layout p old roots;
      settled = settled_other layout p (λ m f. profiles_hold layout.schema m f x ps) judgement old roots exact other (raised_profiles layout p old (c.positive.ensures.items layout.schema) ps);
    }
