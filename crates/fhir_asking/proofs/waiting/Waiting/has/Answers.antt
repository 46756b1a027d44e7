use Rattle.std.proofs.Common.{map, string_bytes, sym, ap, ◌∙◌}
use Rattle.std.specs.List.{list_any}
use Rattle.std.specs.Str.{bytes_eq}
use Rattle.fhir_asking.proofs.Marks.{has_marked, has_unmarked}
use Rattle.fhir_asking.proofs.waiting.Waiting.has.Goals as goal

pub returns-in-Some : goal.returns-in-Some
returns-in-Some c =
    c.stands_at.ensures
    ∙ has_marked c.self.inside.places (map string_bytes c.self.inside.names.items) c.args.name.now c.in-Some.place c.self.invariant (sym c.in-Some.ensures)
    ∙ ap (list_any (bytes_eq c.args.name.now)) c.self.view_is

pub returns-in-None : goal.returns-in-None
returns-in-None c =
    has_unmarked c.self.inside.places (map string_bytes c.self.inside.names.items) c.args.name.now c.self.invariant (sym c.in-None.ensures)
    ∙ ap (list_any (bytes_eq c.args.name.now)) c.self.view_is
