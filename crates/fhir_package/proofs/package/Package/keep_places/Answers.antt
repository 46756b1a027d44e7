use Rattle.std.proofs.Common.{◌+◌, ◌<◌, length, drop, sym, ap, subst, ◌∙◌, arith}
use Rattle.fhir_package.specs.Keeping.{with_places, Extends}
use Rattle.fhir_package.proofs.Kept.{first_dropped, extends_more}
use Rattle.fhir_package.proofs.package.Package.keep_places.Goals as goal

pub returns-in_err-keep_place-clause-extended : goal.returns-in_err-keep_place-clause-extended
returns-in_err-keep_place-clause-extended c =
    subst (λ p. Extends c.args.self.now p) (sym c.in_err-keep_place.ensures.unchanged) c.loop-definition.invariant.extended

pub loop-definition-preserved : goal.loop-definition-preserved
loop-definition-preserved c =
    let all = c.args.definitions.now in
    let i = c.loop-definition.definition-index in
    let d = c.definition-item.result in
    let inside : i < length all = omega arith in
    record {
      kept =
          c.loop-definition.invariant.kept ∙ ap (λ ds. with_places ds c.loop-definition.self) (first_dropped all i d inside c.definition-item.is)
          ∙ ap (λ p. with_places (drop (i + 1) all) p) (sym c.in_ok-keep_place.ensures.kept);
      extended =
          subst (λ p. Extends c.args.self.now p) (sym c.in_ok-keep_place.ensures.kept)
          (extends_more c.args.self.now d c.loop-definition.self c.loop-definition.invariant.extended);
    }
