use Rattle.std.proofs.Common.{◌≡◌, ◌++◌, ◌∷◌, [], string_bytes, ap, ◌∙◌}
use Rattle.std.proofs.lemmas.List.{map-append}
use Rattle.fhir_json.specs.Views.{tree_of, text_seen}
use Rattle.fhir_beside.specs.declared.entries.Entry.{Entry}
use Rattle.fhir_beside.specs.Listing.{listed, version_of}
use Rattle.fhir_beside.specs.Views.{entry_seen, entries_seen}
use Rattle.fhir_beside.proofs.Sets.{entry_of, entry_is}
use Rattle.fhir_beside.proofs.binding_sets.put_entry.Goals as goal

pub returns : goal.returns
returns c =
    let tree : tree_of c.in_ok-tree.tree
    ≡ listed (c.args.mark.now ++ c.args.value_set.0.now) (version_of (tree_of c.args.value_set.1.now)) c.concepts.result.now =
    c.in_ok-tree.ensures
    ∙ ap (λ u. listed u (text_seen c.version_of.result) c.concepts.result.now) (c.as_str.ensures.value ∙ c.in_ok-url.ensures)
    ∙ ap (λ v. listed (c.args.mark.now ++ c.args.value_set.0.now) v c.concepts.result.now) c.version_of.ensures in
    let entry : Entry = record { url = c.in_ok-url.url; tree = c.in_ok-tree.tree } in
    let pushed : entries_seen c.push.new.self.items
    ≡ entries_seen c.args.entries.now.items ++ entry_of (string_bytes c.in_ok-url.url) (tree_of c.in_ok-tree.tree) =
    ap entries_seen c.in_ok-push.ensures.items ∙ map-append entry_seen c.args.entries.now.items (entry ∷ []) in
    let listing = entry_is (string_bytes c.in_ok-url.url) (c.args.mark.now ++ c.args.value_set.0.now) (tree_of c.in_ok-tree.tree)
    (listed (c.args.mark.now ++ c.args.value_set.0.now) (version_of (tree_of c.args.value_set.1.now)) c.concepts.result.now)
    c.in_ok-url.ensures tree in
    (entry_of (string_bytes c.in_ok-url.url) (tree_of c.in_ok-tree.tree), (c.concepts.result.now, c.concepts.ensures, listing), pushed)
