use Rattle.std.proofs.Common.{false, sym, ap, ◌∙◌}
use Rattle.std.specs.List.{slice_get}
use Rattle.std.specs.Option.{option_map_or}
use Rattle.fhir_reach.specs.Keys.{of_code, key_eq, keys_seen, has_key}
use Rattle.fhir_reach.proofs.Marks.{has_marked, has_unmarked}
use Rattle.fhir_reach.proofs.key_set.KeySet.has_code.Goals as goal

pub returns-in-Some : goal.returns-in-Some
returns-in-Some c =
    c.code_stands_at.ensures
    ∙ ap (λ keys. option_map_or (key_eq (of_code c.args.code.now)) (slice_get (keys_seen keys) c.in-Some.place) false) c.deref.ensures.value
    ∙ has_marked c.self.inside.urls c.self.inside.codes (keys_seen c.self.inside.keys.items) c.self.invariant (of_code c.args.code.now) c.in-Some.place (sym c.in-Some.ensures)
    ∙ ap (λ keys. has_key keys (of_code c.args.code.now)) c.self.view_is

pub returns-in-None : goal.returns-in-None
returns-in-None c =
    has_unmarked c.self.inside.urls c.self.inside.codes (keys_seen c.self.inside.keys.items) c.self.invariant (of_code c.args.code.now) (sym c.in-None.ensures)
    ∙ ap (λ keys. has_key keys (of_code c.args.code.now)) c.self.view_is
