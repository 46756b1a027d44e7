use Rattle.std.proofs.Common.{◌≡◌, ◌<◌, ◌≤◌, ◌∙◌, ℕ, length, false, true, IsTrue, sym, ap, subst, arith}
use Rattle.fhir_package.specs.Definitions.{Definitions}
use Rattle.fhir_codes.specs.Filled.{is_ready, found_count, AreFilled}
use Rattle.fhir_codes.specs.Tables.{found}
use Rattle.fhir_codes.proofs.Finding.{all_done, count_most}
use Rattle.fhir_codes.proofs.sources.Sources.expand_all.Goals as goal

pub loop-place-init : goal.loop-place-init
loop-place-init c = record {
  definitions = c.fill_along.ensures.definitions ∙ c.keep_wholes.ensures.definitions;
  filled =
      subst (λ (p : Definitions). AreFilled p (found c.keep_wholes.new.self) → AreFilled p (found c.fill_along.new.self)) c.keep_wholes.ensures.definitions c.fill_along.ensures.keeps
      (subst (AreFilled c.args.self.now.definitions) (sym c.keep_wholes.ensures.found) c.requires);
}

pub loop-place-smaller : goal.loop-place-smaller
loop-place-smaller c =
    let p = c.args.self.now.definitions in
    let before = found c.loop-place.self in
    let after = found c.fill.new.self in
    let ready : is_ready p before c.in-Some.place ≡ true = ap (λ (q : Definitions). is_ready q before c.in-Some.place) (sym c.loop-place.invariant.definitions) ∙ c.in-Some.ensures.some in
    let grown : found_count before < found_count after =
    subst (λ (q : Definitions). IsTrue (is_ready q before c.in-Some.place) → length before ≡ length q.value_sets → found_count before < found_count after) c.loop-place.invariant.definitions c.in_ok-fill.ensures.grows ready c.loop-place.invariant.filled.0 in
    let kept : AreFilled p after = subst (λ (q : Definitions). AreFilled q before → AreFilled q after) c.loop-place.invariant.definitions c.fill.ensures.keeps c.loop-place.invariant.filled in
    let most : found_count after ≤ length after = count_most after in
    omega (arith, grown, most, kept.0)

pub loop-place-preserved : goal.loop-place-preserved
loop-place-preserved c = record {
  definitions = c.fill.ensures.definitions ∙ c.loop-place.invariant.definitions;
  filled = subst (λ (q : Definitions). AreFilled q (found c.loop-place.self) → AreFilled q (found c.fill.new.self)) c.loop-place.invariant.definitions c.fill.ensures.keeps c.loop-place.invariant.filled;
}

pub returns-clause-done : goal.returns-clause-done
returns-clause-done c =
    let p = c.args.self.now.definitions in
    let sets = found c.loop-place.self in
    let none : (place : ℕ) → place < length p.value_sets → is_ready p sets place ≡ false =
    subst (λ (q : Definitions). (place : ℕ) → place < length q.value_sets → is_ready q sets place ≡ false) c.loop-place.invariant.definitions c.in_default.ensures.none in
    all_done p sets c.loop-place.invariant.filled none
