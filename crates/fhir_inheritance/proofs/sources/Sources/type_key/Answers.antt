use Rattle.std.proofs.Common.{Some, ap, sym, ◌∙◌, string_bytes}
use Rattle.std.specs.Option.{option_map, option_copied}
use Rattle.fhir_inheritance.specs.Sources.{type_key}
use Rattle.fhir_inheritance.proofs.Grouped.{lookup-seen}
use Rattle.fhir_inheritance.proofs.sources.Sources.type_key.Goals as goal

pub returns-in-Some : goal.returns-in-Some
returns-in-Some c =
    ap Some c.as_str.ensures.value
    ∙ ap (option_map string_bytes) (sym (ap option_copied c.in-Some.is) ∙ c.get.ensures)
    ∙ sym (lookup-seen string_bytes c.args.code.now c.self.inside.types)
    ∙ c.self.invariant.types_are c.args.code.now
    ∙ ap (λ p. type_key p c.args.code.now) c.self.view_is

pub returns-in-None : goal.returns-in-None
returns-in-None c =
    ap (option_map string_bytes) (sym (ap option_copied c.in-None.is) ∙ c.get.ensures)
    ∙ sym (lookup-seen string_bytes c.args.code.now c.self.inside.types)
    ∙ c.self.invariant.types_are c.args.code.now
    ∙ ap (λ p. type_key p c.args.code.now) c.self.view_is
