use Rattle.std.proofs.Common.{Some, None, map, string_bytes, ap, sym, ◌∙◌}
use Rattle.std.specs.Option.{option_copied}
use Rattle.fhir_inheritance.specs.Named.{texts_under}
use Rattle.fhir_inheritance.proofs.Grouped.{under-seen}
use Rattle.fhir_inheritance.proofs.groups.GroupTable.get.Goals as goal

pub returns-in-Some : goal.returns-in-Some
returns-in-Some c =
    ap (map string_bytes) c.deref.ensures.value
    ∙ sym (under-seen (λ v. map string_bytes v.items) c.self.inside.texts c.args.name.now (Some c.in-Some.texts.now) (sym c.get.ensures ∙ ap option_copied c.in-Some.is))
    ∙ ap (λ g. texts_under g c.args.name.now) c.self.view_is

pub returns-in-None : goal.returns-in-None
returns-in-None c =
    ap (map string_bytes) c.default.ensures
    ∙ sym (under-seen (λ v. map string_bytes v.items) c.self.inside.texts c.args.name.now None (sym c.get.ensures ∙ ap option_copied c.in-None.is))
    ∙ ap (λ g. texts_under g c.args.name.now) c.self.view_is
