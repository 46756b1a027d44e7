use Rattle.std.proofs.Common.{◌≡◌, ◌∷◌, ◌++◌, [], string_bytes, Option, subst, rules}
use Rattle.std.specs.Prelude.{IsUtf8}
use Rattle.std.specs.Option.{option_map}
use Rattle.fhir_json.specs.Tree.{Text}
use Rattle.fhir_json.specs.Views.{tree_of}
use Rattle.fhir_json.specs.Memory.{Gives}
use Rattle.fhir_vouching.proofs.Strings.{string_found, string_missing}
use Rattle.fhir_vouching.proofs.given.text_of.Goals as goal

pub returns-in-Ok : goal.returns-in-Ok
returns-in-Ok c =
    let is : c.as_bytes.result.now ≡ 34 ∷ (c.args.line.now ++ 34 ∷ []) = search rules in
    let u : IsUtf8 c.as_bytes.result.now = rw c.as_bytes.ensures.value c.as_str.utf8 in
    subst (λ (text : Option Text). Gives (option_map string_bytes) c.string_of.result text)
    (string_found c.args.line.now c.as_bytes.result.now (tree_of c.in-Ok.json) is u c.in-Ok.ensures.exact) c.string_of.ensures

pub returns : goal.returns
returns c =
    let is : c.as_bytes.result.now ≡ 34 ∷ (c.args.line.now ++ 34 ∷ []) = search rules in
    let u : IsUtf8 c.as_bytes.result.now = rw c.as_bytes.ensures.value c.as_str.utf8 in
    string_missing c.args.line.now c.as_bytes.result.now c.in-Err.fault is u c.in_default.not-NoMemory c.in-Err.ensures.exact
