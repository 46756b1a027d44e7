use Rattle.std.proofs.Common.{◌∙◌, subst}
use Rattle.fhir_package.specs.Definitions.{Definitions}
use Rattle.fhir_codes.specs.Filled.{AreFilled}
use Rattle.fhir_codes.specs.Tables.{found}
use Rattle.fhir_codes.proofs.sources.Sources.fill_along.Goals as goal

pub returns-in_err-fill-clause-keeps : goal.returns-in_err-fill-clause-keeps
returns-in_err-fill-clause-keeps c f =
    subst (λ (p : Definitions). AreFilled p (found c.loop-place.self) → AreFilled p (found c.fill.new.self)) c.loop-place.invariant.definitions c.fill.ensures.keeps (c.loop-place.invariant.keeps f)

pub loop-place-preserved : goal.loop-place-preserved
loop-place-preserved c = record {
  definitions = c.fill.ensures.definitions ∙ c.loop-place.invariant.definitions;
  keeps = λ f. subst (λ (p : Definitions). AreFilled p (found c.loop-place.self) → AreFilled p (found c.fill.new.self)) c.loop-place.invariant.definitions c.fill.ensures.keeps (c.loop-place.invariant.keeps f);
}
