use Rattle.std.proofs.Common.{Some, None, sym, ap, ◌∙◌, List}
use Rattle.std.specs.Option.{option_map}
use Rattle.std.specs.List.{slice_get}
use Rattle.fhir_package.specs.declared.url_map.UrlEntry.{UrlEntry}
use Rattle.std.specs.Map.{lookup}
use Rattle.std.specs.Str.{bytes_eq}
use Rattle.fhir_package.specs.View.{entries_seen}
use Rattle.fhir_package.proofs.Seen.{found}
use Rattle.fhir_package.proofs.url_map.UrlMap.get.Goals as goal

pub returns-in-Some : goal.returns-in-Some
returns-in-Some c =
    let es = entries_seen c.self.inside.entries.items in
    c.tree_at.ensures
    ∙ ap (λ (vs : List UrlEntry). option_map (λ e. e.1) (slice_get (entries_seen vs) c.in-Some.place)) c.deref.ensures.value
    ∙ found c.self.inside.urls es c.args.url.now (Some c.in-Some.place) c.self.invariant (sym c.in-Some.is ∙ c.get.ensures)
    ∙ ap (lookup (bytes_eq c.args.url.now)) c.self.view_is

pub returns-in-None : goal.returns-in-None
returns-in-None c =
    found c.self.inside.urls (entries_seen c.self.inside.entries.items) c.args.url.now None c.self.invariant (sym c.in-None.is ∙ c.get.ensures)
    ∙ ap (lookup (bytes_eq c.args.url.now)) c.self.view_is
