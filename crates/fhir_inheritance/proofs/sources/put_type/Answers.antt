use Rattle.std.proofs.Common.{◌≡◌, true, false, cond, ◌&&◌, Option, Some, None, is_some, sym, ap, ◌∙◌, string_bytes}
use Rattle.std.specs.Map.{lookup}
use Rattle.std.specs.Str.{bytes_eq}
use Rattle.std.specs.Option.{option_or, option_map}
use Rattle.fhir_json.specs.Tree.{Text}
use Rattle.fhir_json.specs.Views.{tree_of}
use Rattle.fhir_definition.specs.Head.{is_type_definition}
use Rattle.fhir_inheritance.specs.Sources.{keys_seen, written_root_key, is_type_of}
use Rattle.fhir_inheritance.proofs.Sourced.{no-type, known-type, new-type, seen-some, gets-seen}
use Rattle.fhir_inheritance.proofs.sources.put_type.Goals as goal

pub returns-then-not-is_type_definition : goal.returns-then-not-is_type_definition
returns-then-not-is_type_definition c = λ code.
    no-type (tree_of c.args.definition.now) code (written_root_key c.args.url.now c.args.source.now) (lookup (bytes_eq code) (keys_seen c.args.types.now))
    (sym c.is_type_definition.ensures ∙ c.if-not-is_type_definition.true)

pub returns-then-is_some : goal.returns-then-is_some
returns-then-is_some c = λ code.
    let own = c.text_at-code.result.now in
    let there : is_some (lookup (bytes_eq own) (keys_seen c.args.types.now)) ≡ true =
    seen-some string_bytes own c.args.types.now c.get.result c.get.ensures ∙ sym c.is_some.ensures ∙ c.if-is_some.true in
    known-type (λ x. lookup (bytes_eq x) (keys_seen c.args.types.now)) own code (is_type_definition (tree_of c.args.definition.now)) (written_root_key c.args.url.now c.args.source.now) there
    ∙ ap (λ (t : Text). option_or (lookup (bytes_eq code) (keys_seen c.args.types.now)) (cond (is_type_definition (tree_of c.args.definition.now) && bytes_eq code t) (written_root_key c.args.url.now c.args.source.now) None))
    c.text_at-code.ensures

pub returns : goal.returns
returns c = λ code.
    let own = c.text_at-code.result.now in
    let found : Text → Option Text = λ x. lookup (bytes_eq x) (keys_seen c.args.types.now) in
    let new : Text → Option Text = λ x. lookup (bytes_eq x) (keys_seen c.put.new.self) in
    let root = string_bytes c.in-Some.root in
    let isnt : is_some (found own) ≡ false = seen-some string_bytes own c.args.types.now c.get.result c.get.ensures ∙ sym c.is_some.ensures ∙ c.if-is_some.false in
    let type : is_type_definition (tree_of c.args.definition.now) ≡ true = sym c.is_type_definition.ensures ∙ c.if-not-is_type_definition.false in
    let put : new code ≡ cond (bytes_eq code own) (Some root) (found code) =
    gets-seen string_bytes c.args.types.now c.put.new.self (string_bytes c.in_ok-code.code) c.in-Some.root c.in_ok-put.ensures code
    ∙ ap (λ (t : Text). cond (bytes_eq code t) (Some root) (found code)) c.in_ok-code.ensures.ok in
    new-type found new own code (is_type_definition (tree_of c.args.definition.now)) root type isnt put
    ∙ ap (λ (t : Text). option_or (found code) (cond (is_type_definition (tree_of c.args.definition.now) && bytes_eq code t) (Some root) None)) c.text_at-code.ensures
    ∙ ap (λ (r : Option Text). option_or (found code) (cond (is_type_of code (tree_of c.args.definition.now)) r None)) (ap (λ o. option_map string_bytes o) (sym c.in-Some.is) ∙ c.in_ok-root.ensures)
