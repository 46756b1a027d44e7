use Rattle.std.proofs.Common.{◌<◌, ◌∙◌, length, set, ap, sym, subst}
use Rattle.std.specs.List.{slice_get}
use Rattle.fhir_codes.specs.Tables.{Tabled, found}
use Rattle.fhir_codes.proofs.Tabling.{numbers_set, found_set_number}
use Rattle.fhir_codes.proofs.sources.Sources.set_number.Goals as goal

pub invariant_of-self : goal.invariant_of-self
invariant_of-self c =
    let within : c.args.number < length c.self.inside.tables.items = subst (λ (s : Tabled). c.args.number < length s.tables) (sym c.self.view_is) c.requires in
    (c.self.invariant.0, c.self.invariant.1, c.self.invariant.2, numbers_set c.self.inside.tables.items c.self.inside.numbers.items c.args.place c.args.number within c.self.invariant.3)

pub returns-then-place-len-clause-found : goal.returns-then-place-len-clause-found
returns-then-place-len-clause-found c =
    found_set_number c.self.inside.tables.items c.self.inside.numbers.items c.args.place c.args.number
    ∙ ap (λ (s : Tabled). set (found s) c.args.place (slice_get s.tables c.args.number)) c.self.view_is
