use Rattle.std.proofs.Common.{◌++◌, List, sym, ap, ◌∙◌}
use Rattle.std.proofs.lemmas.List.{append-nil}
use Rattle.fhir_json.specs.Views.{tree_seen}
use Rattle.fhir_package.specs.Definitions.{of_kind}
use Rattle.fhir_reach.specs.Keys.{KeyValue, keys_seen}
use Rattle.fhir_reach.proofs.Changed.{none_at}
use Rattle.fhir_reach.proofs.changing.push_held.Goals as goal

pub returns-in-None : goal.returns-in-None
returns-in-None c =
    let none = none_at c.args.kind c.args.url.now (of_kind c.args.kind c.args.«package».now) (sym c.at_url.ensures ∙ ap tree_seen c.in-None.is) in
    sym (ap (λ (l : List KeyValue). keys_seen c.args.keys.now.items ++ l) none ∙ append-nil (keys_seen c.args.keys.now.items))
