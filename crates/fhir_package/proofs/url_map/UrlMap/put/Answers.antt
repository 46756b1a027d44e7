use Rattle.std.proofs.Common.{◌≡◌, [], ◌∷◌, ◌++◌, OnOk, sym, subst, ◌∙◌}
use Rattle.fhir_json.specs.Views.{tree_of}
use Rattle.fhir_package.specs.View.{entries_seen}
use Rattle.fhir_package.specs.Changing.{put_at}
use Rattle.fhir_package.proofs.Placed.{put_in_place, put_last}
use Rattle.fhir_package.proofs.url_map.UrlMap.put.Goals as goal

pub returns-in-Some-clause-put : goal.returns-in-Some-clause-put
returns-in-Some-clause-put c =
    c.replace.ensures
    ∙ rw (← c.self.view_is)
    (put_in_place c.self.inside.urls c.args.url.now (tree_of c.args.tree) (entries_seen c.self.inside.entries.items) c.in-Some.place c.self.invariant
    (sym c.in-Some.is ∙ c.get.ensures))

pub returns-in-None-clause-put : goal.returns-in-None-clause-put
returns-in-None-clause-put c =
    let last : c.args.self.now ++ (c.args.url.now, tree_of c.args.tree) ∷ [] ≡ put_at c.args.url.now (tree_of c.args.tree) c.args.self.now =
    rw (← c.self.view_is)
    (put_last c.self.inside.urls c.args.url.now (tree_of c.args.tree) (entries_seen c.self.inside.entries.items) c.self.invariant (sym c.in-None.is ∙ c.get.ensures)) in
    subst (λ es. OnOk c.push.result (c.push.new.self ≡ es)) last c.push.ensures.pushed
