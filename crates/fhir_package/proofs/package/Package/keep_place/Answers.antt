use Rattle.std.proofs.Common.{◌≡◌, OnOk, sym, ap, subst, ◌∙◌}
use Rattle.fhir_json.specs.Views.{tree_of}
use Rattle.fhir_json.specs.declared.json.Json.TheVariants as json
use Rattle.fhir_package.specs.Definitions.{place_in}
use Rattle.fhir_package.proofs.Kept.{place_there, place_new, null_seen}
use Rattle.fhir_package.proofs.package.Package.keep_place.Goals as goal

pub returns-in-Some-clause-kept : goal.returns-in-Some-clause-kept
returns-in-Some-clause-kept c =
    place_there c.args.definition.now c.args.self.now c.kind.result c.url.result.now c.in-Some.field-0 c.kind.ensures c.url.ensures
    (sym c.in-Some.is ∙ c.place.ensures)

pub returns-in-None-clause-kept : goal.returns-in-None-clause-kept
returns-in-None-clause-kept c =
    let p = c.args.self.now in
    let same_place : place_in c.kind.result c.url.result.now p ≡ place_in c.kind-in-None.result c.url-in-None.result.now p =
    ap (λ k. place_in k c.url.result.now p) (c.kind.ensures ∙ sym c.kind-in-None.ensures)
    ∙ ap (λ u. place_in c.kind-in-None.result u p) (c.url.ensures ∙ sym c.url-in-None.ensures) in
    subst (λ q. OnOk c.add.result (c.add.new.self ≡ q))
    (place_new c.args.definition.now (tree_of json.Null) p c.kind-in-None.result c.url-in-None.result.now null_seen c.kind-in-None.ensures c.url-in-None.ensures
    (sym c.in-None.is ∙ c.place.ensures ∙ same_place)) c.add.ensures.added
