use Rattle.std.proofs.Common.{◌≡◌, ◌∙◌, List, Option, Some, None, refl, ap, sym}
use Rattle.std.specs.List.{slice_get}
use Rattle.std.specs.Map.{lookup}
use Rattle.std.specs.Option.{option_map}
use Rattle.std.specs.Str.{bytes_eq}
use Rattle.fhir_json.specs.Tree.{Text}
use Rattle.fhir_names.specs.FirstPlaces.{value_at_place}
use Rattle.fhir_codes.specs.declared.value_sets.FoundSet.{FoundSet}
use Rattle.fhir_codes.specs.Expanding.{Expansion}
use Rattle.fhir_codes.specs.Listing.{found_set, found_sets}
use Rattle.fhir_codes.proofs.value_sets.ValueSets.entry.Goals as goal

map_twice : {A B C : Type 0} (f : B → C) (g : A → B) (o : Option A) → option_map (λ x. f (g x)) o ≡ option_map f (option_map g o)
map_twice f g None = refl
map_twice f g (Some x) = refl

pub returns-in-Some : goal.returns-in-Some
returns-in-Some c =
    let es = found_sets c.self.inside.entries.items in
    map_twice (λ (e : Text × Expansion). e.1) found_set _
    ∙ ap (option_map (λ (e : Text × Expansion). e.1)) (c.entry_at.ensures ∙ ap (λ (vs : List FoundSet). slice_get (found_sets vs) c.in-Some.place) c.deref.ensures.value)
    ∙ value_at_place c.self.inside.urls es c.args.url.now (Some c.in-Some.place) c.self.invariant (sym c.in-Some.is ∙ c.get.ensures)
    ∙ ap (lookup (bytes_eq c.args.url.now)) c.self.view_is

pub returns-in-None : goal.returns-in-None
returns-in-None c =
    value_at_place c.self.inside.urls (found_sets c.self.inside.entries.items) c.args.url.now None c.self.invariant (sym c.in-None.is ∙ c.get.ensures)
    ∙ ap (lookup (bytes_eq c.args.url.now)) c.self.view_is
