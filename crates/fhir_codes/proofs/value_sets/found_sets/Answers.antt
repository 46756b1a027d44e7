use Rattle.std.proofs.Common.{◌≡◌, ◌<◌, ◌∙◌, length, Option, Some, codes, ap, sym}
use Rattle.std.specs.List.{slice_get}
use Rattle.std.proofs.lemmas.Option.{slice_get_within, get_or_from_slice_get}
use Rattle.fhir_json.specs.Fields.{field}
use Rattle.fhir_json.specs.Tree.{Text, Tree}
use Rattle.fhir_json.specs.Views.{tree_of}
use Rattle.fhir_codes.specs.Concepts.{Concepts}
use Rattle.fhir_codes.specs.ValueSets.{expansion, concepts_of}
use Rattle.fhir_codes.specs.Expanding.{Expansion, expansion_of}
use Rattle.fhir_codes.specs.Listing.{found_set}
use Rattle.fhir_codes.specs.Tables.{found}
use Rattle.fhir_codes.proofs.Finding.{found_entry}
use Rattle.fhir_codes.proofs.Looping.{map_more}
use Rattle.fhir_codes.proofs.value_sets.found_sets.Goals as goal

abbrev with_concepts : Text → Tree → Option Concepts → Text × Expansion
with_concepts url t o = (url, record { version = field (codes "version") t; concepts = o })

pub loop-place-preserved : goal.loop-place-preserved
loop-place-preserved c =
    let p = c.args.from.now in
    let place = c.loop-place.place in
    let e : Text × Tree = (c.in-Some.url.now, tree_of c.in-Some.json.now) in
    let at : slice_get p.value_sets place ≡ Some e = sym c.in-Some.ensures in
    let within : place < length p.value_sets = slice_get_within p.value_sets place e at in
    let concepts : c.in_ok-concepts.concepts ≡ expansion p (concepts_of p) e.1 = c.in_ok-concepts.ensures ∙ found_entry p (found c.args.sources.now) c.requires place e at in
    map_more found_set (λ e. (e.0, expansion_of p e.1)) c.loop-place.entries.items c.push.new.self.items p.value_sets place c.in_ok-entry.entry e
    within (sym (get_or_from_slice_get p.value_sets place e e at)) c.in_ok-push.ensures.items
    (c.in_ok-entry.ensures ∙ ap (with_concepts c.in-Some.url.now (tree_of c.in-Some.json.now)) concepts) c.loop-place.invariant
