use Rattle.std.proofs.Common.{◌≡◌, [], Some, None, refl, sym, ap, ◌∙◌, subst}
use Rattle.std.specs.Option.{option_map_or}
use Rattle.fhir_json.specs.Views.{property_seen}
use Rattle.fhir_schema.specs.Schemas.{element_at}
use Rattle.fhir_facets.specs.Carried.{bound_unread, range_unread}
use Rattle.fhir_conformance.specs.Asks.{range}
use Rattle.fhir_conformance.specs.Meeting.{rule_unread}
use Rattle.fhir_validator.specs.Layouts.{item_at}
use Rattle.fhir_validator.specs.Listing.{Grown}
use Rattle.fhir_validator.proofs.Resting.{AreTold, hung_since, least_hung, most_hung, bounds_told, told_none, told_since}
use Rattle.fhir_validator.proofs.Told.{on_ok, on_both, grown_none, grown_more}
use Rattle.fhir_validator.proofs.judging.Judge.put_bounds.Goals as goal

pub put_bound-requires : goal.put_bound-requires
put_bound-requires c =
    let layout = c.args.self.now in
    let p = c.args.pair in
    let n = c.args.node in
    let e = c.in-Some.element.now in
    let is : element_at layout.schema n ≡ Some e = sym (c.in-Some.ensures ∙ ap (λ s. element_at s n) c.schema.ensures) in
    least_hung layout.schema (item_at layout p.item) n e is (property_seen c.min_value.result) e.max_value c.min_value.ensures refl layout c.args.listing.now.wanted p n c.requires

pub put_bound-requires-2 : goal.put_bound-requires-2
put_bound-requires-2 c =
    let layout = c.args.self.now in
    let p = c.args.pair in
    let n = c.args.node in
    let e = c.in-Some.element.now in
    let is : element_at layout.schema n ≡ Some e = sym (c.in-Some.ensures ∙ ap (λ s. element_at s n) c.schema.ensures) in
    hung_since layout p n c.args.listing.now.wanted c.put_bound.new.listing.wanted (option_map_or bound_unread (property_seen c.max_value.result) []) c.in_ok-put_bound.ensures.grown.wanted
    (most_hung layout.schema (item_at layout p.item) n e is e.min_value (property_seen c.max_value.result) refl c.max_value.ensures layout c.args.listing.now.wanted p n c.requires)

pub returns-clause-told : goal.returns-clause-told
returns-clause-told c =
    let layout = c.args.self.now in
    let p = c.args.pair in
    let n = c.args.node in
    let x = item_at layout p.item in
    let e = c.in-Some.element.now in
    let is : element_at layout.schema n ≡ Some e = sym (c.in-Some.ensures ∙ ap (λ s. element_at s n) c.schema.ensures) in
    let mid = c.put_bound.new.listing in
    let new = c.put_bound-2.new.listing in
    let least = option_map_or bound_unread (property_seen c.min_value.result) [] in
    let most = option_map_or bound_unread (property_seen c.max_value.result) [] in
    on_both (AreTold layout new most) (Grown layout p mid new) (AreTold layout new (rule_unread layout.schema x range n))
    (λ told grown. bounds_told layout.schema x n e is (property_seen c.min_value.result) (property_seen c.max_value.result) c.min_value.ensures c.max_value.ensures layout new
    (told_since layout p mid new least grown c.in_ok-put_bound.ensures.told) told)
    c.put_bound-2.result c.put_bound-2.ensures.told c.put_bound-2.ensures.grown

pub returns-clause-grown : goal.returns-clause-grown
returns-clause-grown c =
    let layout = c.args.self.now in
    let p = c.args.pair in
    let old = c.args.listing.now in
    let mid = c.put_bound.new.listing in
    let new = c.put_bound-2.new.listing in
    on_ok (Grown layout p mid new) (Grown layout p old new) (grown_more layout p old mid new c.in_ok-put_bound.ensures.grown) c.put_bound-2.result c.put_bound-2.ensures.grown

pub returns-in_default-clause-told : goal.returns-in_default-clause-told
returns-in_default-clause-told c =
    let layout = c.args.self.now in
    let is : element_at layout.schema c.args.node ≡ None = sym (c.in_default.ensures ∙ ap (λ s. element_at s c.args.node) c.schema.ensures) in
    subst (AreTold layout c.args.listing.now) (sym (ap (λ o. option_map_or range_unread o []) is)) (told_none layout c.args.listing.now)

pub returns-in_default-clause-grown : goal.returns-in_default-clause-grown
returns-in_default-clause-grown c = grown_none c.args.self.now c.args.pair c.args.listing.now
