use Rattle.std.proofs.Common.{◌+◌, ◌<◌, ◌≤◌, length, take, map, string_bytes, ap, subst, arith}
use Rattle.std.proofs.lemmas.List.{take_all}
use Rattle.fhir_targets.specs.Base.{AreTexts}
use Rattle.fhir_targets.proofs.Taking.{taken}
use Rattle.fhir_targets.proofs.Sets.{has_in, texts_more}
use Rattle.fhir_targets.proofs.base.texts_of.Goals as goal

pub loop-target-init : goal.loop-target-init
loop-target-init c = λ text. ap (has_in text) c.new-texts.ensures.empty

pub loop-target-preserved : goal.loop-target-preserved
loop-target-preserved c =
    let targets = c.args.targets.now in
    let i = c.loop-target.target-index in
    let lt : i < length targets = omega arith in
    texts_more (map string_bytes (take i targets)) (map string_bytes (take (i + 1) targets)) (string_bytes c.target-item.result) c.as_str.result.now
    c.loop-target.texts c.put_text.new.set (taken string_bytes targets i c.target-item.result lt c.target-item.is) c.as_str.ensures.value
    c.in_ok-put_text.ensures c.loop-target.invariant

pub returns : goal.returns
returns c =
    let targets = c.args.targets.now in
    let ge : length targets ≤ c.loop-target.target-index = omega arith in
    subst (λ ts. AreTexts (map string_bytes ts) c.loop-target.texts) (take_all c.loop-target.target-index targets ge) c.loop-target.invariant
