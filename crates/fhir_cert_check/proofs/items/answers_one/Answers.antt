use Rattle.std.proofs.Common.{◌≡◌, ◌+◌, ◌<◌, ◌||◌, Bool, true, false, drop, length, sym, ap, ◌∙◌, arith}
use Rattle.std.proofs.lemmas.List.{at_drop_more}
use Rattle.std.specs.List.{list_any}
use Rattle.fhir_elements.specs.TypeEntry.{TypeEntry}
use Rattle.fhir_cert_check.specs.PairSet.{has_pair}
use Rattle.fhir_cert_check.specs.Rules.{entry_answers}
use Rattle.fhir_cert_check.proofs.items.answers_one.Goals as goal

pub returns-then-branch : goal.returns-then-branch
returns-then-branch c =
    let p = λ (base : TypeEntry). entry_answers (has_pair c.args.pairs.now) c.args.schema.now c.args.entry.now base in
    let bases = c.args.bases.now in
    let i = c.loop-base.base-index in
    let base = c.base-item.result in
    let rest = list_any p (drop (i + 1) bases) in
    let lt : i < length bases = omega arith in
    let yes : p base ≡ true = sym c.in_ok-entry_answers.ensures ∙ c.if-branch.true in
    sym (at_drop_more (λ l. list_any p l) bases i base lt ∙ ap (λ (x : TypeEntry). p x || rest) (sym c.base-item.is) ∙ ap (λ (b : Bool). b || rest) yes)
    ∙ c.loop-base.invariant

pub loop-base-preserved : goal.loop-base-preserved
loop-base-preserved c =
    let p = λ (base : TypeEntry). entry_answers (has_pair c.args.pairs.now) c.args.schema.now c.args.entry.now base in
    let bases = c.args.bases.now in
    let i = c.loop-base.base-index in
    let base = c.base-item.result in
    let rest = list_any p (drop (i + 1) bases) in
    let lt : i < length bases = omega arith in
    let other : p base ≡ false = sym c.in_ok-entry_answers.ensures ∙ c.if-branch.false in
    sym (at_drop_more (λ l. list_any p l) bases i base lt ∙ ap (λ (x : TypeEntry). p x || rest) (sym c.base-item.is) ∙ ap (λ (b : Bool). b || rest) other)
    ∙ c.loop-base.invariant
