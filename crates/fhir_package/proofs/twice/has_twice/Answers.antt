use Rattle.std.proofs.Common.{◌≡◌, ◌+◌, ◌<◌, length, drop, true, false, sym, ap, ◌∙◌, arith}
use Rattle.fhir_package.specs.Changing.{has}
use Rattle.fhir_json.specs.Views.{tree_of}
use Rattle.fhir_json.specs.declared.json.Json.TheVariants as json
use Rattle.fhir_package.proofs.Kept.{first_dropped, has_is, place_holder}
use Rattle.fhir_package.proofs.Meeting.{is_met, none_met, met_here, met_later}
use Rattle.fhir_package.proofs.twice.has_twice.Goals as goal

pub loop-definition-init : goal.loop-definition-init
loop-definition-init c = sym (none_met c.args.definitions.now) ∙ ap (λ p. is_met c.args.definitions.now p) (sym c.new-seen.ensures)

pub returns-then-is_some : goal.returns-then-is_some
returns-then-is_some c =
    let all = c.args.definitions.now in
    let i = c.loop-definition.definition-index in
    let d = c.definition-item.result in
    let p = c.loop-definition.seen in
    let inside : i < length all = omega arith in
    let there : has d.kind d.url p ≡ true =
    has_is d p c.kind.result c.url.result.now c.place.result c.kind.ensures c.url.ensures c.place.ensures ∙ sym c.is_some.ensures ∙ c.if-is_some.true in
    sym (c.loop-definition.invariant ∙ ap (λ ds. is_met ds p) (first_dropped all i d inside c.definition-item.is) ∙ met_here d (drop (i + 1) all) p there)

pub loop-definition-preserved : goal.loop-definition-preserved
loop-definition-preserved c =
    let all = c.args.definitions.now in
    let i = c.loop-definition.definition-index in
    let d = c.definition-item.result in
    let p = c.loop-definition.seen in
    let inside : i < length all = omega arith in
    let new : has d.kind d.url p ≡ false =
    has_is d p c.kind.result c.url.result.now c.place.result c.kind.ensures c.url.ensures c.place.ensures ∙ sym c.is_some.ensures ∙ c.if-is_some.false in
    let added =
    c.in_ok-add.ensures.added ∙ place_holder d (tree_of json.Null) p c.kind-in-loop-definition.result c.url-in-loop-definition.result.now
    c.kind-in-loop-definition.ensures c.url-in-loop-definition.ensures in
    c.loop-definition.invariant ∙ ap (λ ds. is_met ds p) (first_dropped all i d inside c.definition-item.is)
    ∙ met_later d (tree_of json.Null) (drop (i + 1) all) p c.add.new.self new added
