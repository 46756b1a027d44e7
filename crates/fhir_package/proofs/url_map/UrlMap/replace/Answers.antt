use Rattle.std.proofs.Common.{List, sym, ap, ◌∙◌}
use Rattle.std.specs.Map.{keys_of}
use Rattle.std.specs.List.{position_from}
use Rattle.std.specs.Str.{bytes_eq}
use Rattle.fhir_json.specs.Tree.{Text}
use Rattle.fhir_json.specs.Views.{tree_of}
use Rattle.fhir_package.specs.Definitions.{ByUrl}
use Rattle.fhir_package.specs.View.{entries_seen}
use Rattle.fhir_package.specs.Changing.{with_tree_at}
use Rattle.fhir_package.proofs.Placed.{same_urls, set_seen}
use Rattle.fhir_package.proofs.url_map.UrlMap.replace.Goals as goal

pub invariant_of-self-2 : goal.invariant_of-self-2
invariant_of-self-2 c =
    let es = c.self.inside.entries.items in
    let seen = set_seen es c.args.place c.in-Some.entry.now c.set_tree.new.entry (tree_of c.args.tree) c.in-Some.ensures.item.3.0 c.in-Some.ensures.value c.set_tree.ensures in
    let urls = ap (λ (fs : ByUrl). keys_of fs) seen ∙ same_urls c.args.place (tree_of c.args.tree) (entries_seen es) in
    λ name. c.self.invariant name ∙ ap (λ (us : List Text). position_from (bytes_eq name) 0 us) (sym urls)

pub returns : goal.returns
returns c =
    set_seen c.self.inside.entries.items c.args.place c.in-Some.entry.now c.set_tree.new.entry (tree_of c.args.tree) c.in-Some.ensures.item.3.0 c.in-Some.ensures.value c.set_tree.ensures
    ∙ ap (with_tree_at c.args.place (tree_of c.args.tree)) c.self.view_is
