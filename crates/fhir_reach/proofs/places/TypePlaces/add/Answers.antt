use Rattle.std.proofs.Common.{◌≡◌, ℕ, ◌++◌, ◌∷◌, [], List, ap, sym, ◌∙◌, string_bytes}
use Rattle.std.specs.Map.{lookup}
use Rattle.std.specs.Str.{bytes_eq}
use Rattle.std.specs.Option.{option_map_or}
use Rattle.fhir_reach.proofs.Grouped.{adds_place}
use Rattle.fhir_reach.proofs.places.TypePlaces.add.Goals as goal
use Rattle.fhir_reach.proofs.places.TypePlaces.add.Goals.{in-Some, in-None}

pub returns : goal.returns
returns c =
    let had : c.match-take.places.items ≡ option_map_or (λ v. v.items) (lookup (bytes_eq c.args.code.now) c.self.inside.places) [] =
    elim c.match-take.branch [
      | in-Some w ↦
          ap (λ v. v.items) w.places-is
          ∙ ap (λ o. option_map_or (λ v. v.items) o []) (sym w.in-Some.is ∙ c.take.ensures.taken)
      | in-None w ↦
          ap (λ v. v.items) w.places-is ∙ w.new-places.ensures.items
          ∙ ap (λ o. option_map_or (λ v. v.items) o []) (sym w.in-None.is ∙ c.take.ensures.taken)
    ] in
    rw (← c.self.view_is)
    (adds_place (λ v. v.items) c.self.inside.places c.take.new.self c.put.new.self c.args.code.now (string_bytes c.in_ok-code.code) c.args.place c.push.new.self
    c.in_ok-code.ensures.ok c.take.ensures.gone c.in_ok-put.ensures
    (c.in_ok-push.ensures.items ∙ ap (λ (l : List ℕ). l ++ c.args.place ∷ []) had))
