use Rattle.std.proofs.Common.{◌≡◌, ◌+◌, ◌<◌, ◌≤◌, ◌++◌, ◌∷◌, [], length, take, map, string_bytes, ap, sym, subst, ◌∙◌, arith}
use Rattle.std.proofs.lemmas.List.{take_all}
use Rattle.fhir_json.specs.Tree.{Text}
use Rattle.fhir_targets.specs.Base.{AreCodes}
use Rattle.fhir_targets.proofs.Taking.{taken}
use Rattle.fhir_targets.proofs.Sets.{has_in}
use Rattle.fhir_targets.proofs.base.codes_of.Goals as goal

pub loop-target-init : goal.loop-target-init
loop-target-init c = λ code. ap (has_in code) c.new-codes.ensures.empty

pub loop-target-preserved : goal.loop-target-preserved
loop-target-preserved c =
    let targets = c.args.targets.now in
    let i = c.loop-target.target-index in
    let before = map string_bytes (take i targets) in
    let lt : i < length targets = omega arith in
    let more : before ++ c.as_str.result.now ∷ [] ≡ map string_bytes (take (i + 1) targets) =
    ap (λ (t : Text). before ++ t ∷ []) c.as_str.ensures.value ∙ sym (taken string_bytes targets i c.target-item.result lt c.target-item.is) in
    subst (λ ts. AreCodes c.args.schema.now ts c.put_type.new.codes) more (c.in_ok-put_type.ensures before c.loop-target.invariant)

pub returns : goal.returns
returns c =
    let targets = c.args.targets.now in
    let ge : length targets ≤ c.loop-target.target-index = omega arith in
    subst (λ ts. AreCodes c.args.schema.now (map string_bytes ts) c.loop-target.codes) (take_all c.loop-target.target-index targets ge) c.loop-target.invariant
