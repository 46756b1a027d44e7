use Rattle.std.proofs.Common.{◌≡◌, Some, None, is_some, sym, ap, ◌∙◌}
use Rattle.std.specs.Option.{option_copied_mut}
use Rattle.std.specs.BTreeMap.{get_by_text}
use Rattle.fhir_names.specs.Places.{place_of, by_name}
use Rattle.fhir_names.proofs.Named.{lookup-named, set-named, set-none}
use Rattle.fhir_names.proofs.index.Index.set.Goals as goal
use Rattle.fhir_names.proofs.index.Index.set.Goals.{in-Some, in_default}

pub returns : goal.returns
returns c =
    elim c.match-get_mut.branch [
      | in-Some w ↦
          let there : get_by_text c.self.inside.places c.args.name.now ≡ Some w.in-Some.there.now = sym c.get_mut.ensures.value ∙ ap option_copied_mut w.in-Some.is in
          rw (w.self-inside-is, ← c.self.view_is)
          (set-named c.self.inside.places (c.get_mut.follows.lender c.args.place) c.args.name.now w.in-Some.there.now c.args.place
          ((c.get_mut.follows.holds c.args.place).3 (ap is_some there)) there)
      | in_default w ↦
          let none : place_of (by_name c.self.inside.places.entries) c.args.name.now ≡ None =
          sym (lookup-named c.args.name.now c.self.inside.places.entries) ∙ sym c.get_mut.ensures.value ∙ ap option_copied_mut w.in_default.is in
          rw (w.self-inside-is, c.get_mut.follows.holds-at-none, ← c.self.view_is) (set-none (by_name c.self.inside.places.entries) c.args.name.now c.args.place none)
    ]
