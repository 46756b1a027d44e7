use Rattle.std.proofs.Common.{refl, ap, ◌∙◌}
use Rattle.fhir_instance.specs.Items.{kids_of}
use Rattle.fhir_validator.specs.Layouts.{place_in_row}
use Rattle.fhir_validator.proofs.Kids.{is_kid, is_none}
use Rattle.fhir_validator.proofs.layout.Layout.kid.Goals as goal

pub returns-then-position-kids-clause-kid : goal.returns-then-position-kids-clause-kid
returns-then-position-kids-clause-kid c =
    let inside = c.self.inside in
    (is_kid inside.schema.now inside.given.now inside.stands.items inside.firsts.items c.self.invariant c.kids.result.now c.args.number c.place_in_row.result c.args.self.now c.self.view_is
    c.args.position c.index.result.now c.place_in_row.ensures.place (c.kids.ensures ∙ ap kids_of c.item.ensures) c.index.ensures c.if-position-kids.true).there

pub returns-then-position-kids-clause-near : goal.returns-then-position-kids-clause-near
returns-then-position-kids-clause-near c =
    let inside = c.self.inside in
    (is_kid inside.schema.now inside.given.now inside.stands.items inside.firsts.items c.self.invariant c.kids.result.now c.args.number c.place_in_row.result c.args.self.now c.self.view_is
    c.args.position c.index.result.now c.place_in_row.ensures.place (c.kids.ensures ∙ ap kids_of c.item.ensures) c.index.ensures c.if-position-kids.true).near

pub returns-then-position-kids-clause-behind : goal.returns-then-position-kids-clause-behind
returns-then-position-kids-clause-behind c =
    let inside = c.self.inside in
    (is_kid inside.schema.now inside.given.now inside.stands.items inside.firsts.items c.self.invariant c.kids.result.now c.args.number c.place_in_row.result c.args.self.now c.self.view_is
    c.args.position c.index.result.now c.place_in_row.ensures.place (c.kids.ensures ∙ ap kids_of c.item.ensures) c.index.ensures c.if-position-kids.true).behind

pub returns-else-position-kids-clause-kid : goal.returns-else-position-kids-clause-kid
returns-else-position-kids-clause-kid c =
    let inside = c.self.inside in
    is_none inside.schema.now inside.given.now inside.stands.items inside.firsts.items c.self.invariant c.kids.result.now c.args.number (place_in_row c.args.self.now c.args.number) c.args.self.now c.self.view_is
    c.args.position refl (c.kids.ensures ∙ ap kids_of c.item.ensures) c.if-position-kids.false
