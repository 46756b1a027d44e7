use Rattle.std.proofs.Common.{◌≡◌, ◌++◌, ◌∙◌, ap, sym, subst, map, string_bytes}
use Rattle.fhir_alike.specs.Mark.{stem, grown, package_texts, BeginsNone}
use Rattle.fhir_alike.proofs.Tails.{of_both}
use Rattle.fhir_alike.proofs.Fresh.{grown_fresh}
use Rattle.fhir_alike.proofs.mark.mark_between.Goals as goal

pub returns-clause-mark : goal.returns-clause-mark
returns-clause-mark c =
    let old-stem : c.as_bytes.result.now ≡ stem = c.as_bytes.ensures.value ∙ c.stem-front.ensures in
    let new-stem : c.as_bytes-2.result.now ≡ stem = c.as_bytes-2.ensures.value ∙ c.stem-front.ensures in
    let front : string_bytes c.in_ok-mark.mark ≡ stem = c.in_ok-mark.ensures.ok ∙ c.stem-front.ensures in
    c.in_ok-grown.ensures
    ∙ ap (grown (map (λ t. t.now) c.push_package-2.new.tails.items)) front
    ∙ ap (λ ts. grown ts stem)
    (of_both c.args.old.now c.args.new.now c.as_bytes.result.now c.as_bytes-2.result.now (map (λ t. t.now) c.new-tails.result.items)
    (map (λ t. t.now) c.push_package.new.tails.items) (map (λ t. t.now) c.push_package-2.new.tails.items)
    old-stem new-stem (ap (map (λ t. t.now)) c.new-tails.ensures.items) c.in_ok-push_package.ensures c.in_ok-push_package-2.ensures)

pub returns-clause-fresh : goal.returns-clause-fresh
returns-clause-fresh c =
    subst (λ m. BeginsNone m (package_texts c.args.old.now ++ package_texts c.args.new.now)) (sym (returns-clause-mark c))
    (grown_fresh stem (package_texts c.args.old.now ++ package_texts c.args.new.now))
