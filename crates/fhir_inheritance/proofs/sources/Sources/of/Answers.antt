use Rattle.std.proofs.Common.{◌≡◌, ◌+◌, ◌++◌, ◌∷◌, [], cond, Option, Some, None, List, take, sym, ap, ◌∙◌}
use Rattle.std.specs.Str.{bytes_eq}
use Rattle.std.specs.Map.{lookup}
use Rattle.std.specs.Option.{option_map, option_or}
use Rattle.fhir_json.specs.Tree.{Text, Tree}
use Rattle.fhir_json.specs.Views.{tree_of}
use Rattle.fhir_inheritance.specs.Sources.{Source, source_of, is_type_of, root_key_in, written_root_key, keys_seen}
use Rattle.fhir_inheritance.proofs.Sourced.{take-some, take-none, source-snoc, root-key-snoc, written-root}
use Rattle.fhir_inheritance.proofs.sources.Sources.of.Goals as goal
use Rattle.fhir_inheritance.proofs.sources.Sources.of.Goals.{in-Some+in_ok-source+in_ok-put_type+in_ok-put_source, in_default}

pub loop-place-preserved : goal.loop-place-preserved
loop-place-preserved c =
    let p = c.args.«package».now in
    let es = p.structure_definitions in
    let k = c.loop-place.place in
    let before = take k es in
    elim c.match-at.branch [
      | in-Some+in_ok-source+in_ok-put_type+in_ok-put_source w ↦
          let own = w.in-Some.url.now in
          let t = tree_of w.in-Some.definition.now in
          let source = w.in_ok-source.source in
          let e : Text × Tree = (own, t) in
          let took : take (k + 1) es ≡ before ++ e ∷ [] = take-some es k e (sym c.at.ensures ∙ ap (λ o. option_map (λ e. (e.0.now, tree_of e.1.now)) o) w.in-Some.is) in
          record {
            sources_are = λ url.
                ap (lookup (bytes_eq url)) w.sources-is ∙ w.in_ok-put_source.ensures url
                ∙ ap (λ (o : Option Source). option_or o (cond (bytes_eq url own) (Some source) None)) (c.loop-place.invariant.sources_are url)
                ∙ ap (λ (s : Source). option_or (option_map (source_of p) (lookup (bytes_eq url) before)) (cond (bytes_eq url own) (Some s) None)) w.in_ok-source.ensures
                ∙ sym (source-snoc p before e url) ∙ ap (λ (l : List (Text × Tree)). option_map (source_of p) (lookup (bytes_eq url) l)) (sym took);
            types_are = λ code.
                ap (λ ts. lookup (bytes_eq code) (keys_seen ts)) w.types-is ∙ w.in_ok-put_type.ensures code
                ∙ ap (λ (o : Option Text). option_or o (cond (is_type_of code t) (written_root_key own source) None)) (c.loop-place.invariant.types_are code)
                ∙ ap (λ (s : Source). option_or (root_key_in before code) (cond (is_type_of code t) (written_root_key own s) None)) w.in_ok-source.ensures
                ∙ ap (λ (r : Option Text). option_or (root_key_in before code) (cond (is_type_of code t) r None)) (written-root p own t)
                ∙ sym (root-key-snoc before e code) ∙ ap (λ (l : List (Text × Tree)). root_key_in l code) (sym took);
          }
      | in_default w ↦
          let took : take (k + 1) es ≡ before = take-none es k (sym c.at.ensures ∙ ap (λ o. option_map (λ e. (e.0.now, tree_of e.1.now)) o) w.in_default.is) in
          record {
            sources_are = λ url.
                ap (lookup (bytes_eq url)) w.sources-is ∙ c.loop-place.invariant.sources_are url
                ∙ ap (λ (l : List (Text × Tree)). option_map (source_of p) (lookup (bytes_eq url) l)) (sym took);
            types_are = λ code.
                ap (λ ts. lookup (bytes_eq code) (keys_seen ts)) w.types-is ∙ c.loop-place.invariant.types_are code
                ∙ ap (λ (l : List (Text × Tree)). root_key_in l code) (sym took);
          }
    ]
