use Rattle.std.proofs.Common.{◌≡◌, ◌+◌, ◌<◌, ◌&&◌, Bool, true, false, drop, length, sym, ap, ◌∙◌, arith}
use Rattle.std.proofs.lemmas.List.{at_drop_more}
use Rattle.std.specs.List.{list_all, list_any}
use Rattle.fhir_elements.specs.TypeEntry.{TypeEntry}
use Rattle.fhir_cert_check.specs.PairSet.{has_pair}
use Rattle.fhir_cert_check.specs.Rules.{entry_answers}
use Rattle.fhir_cert_check.proofs.items.each_answers.Goals as goal

pub returns-then-not-branch : goal.returns-then-not-branch
returns-then-not-branch c =
    let p = λ (entry : TypeEntry). list_any (entry_answers (has_pair c.args.pairs.now) c.args.schema.now entry) c.args.bases.now in
    let owns = c.args.owns.now in
    let i = c.loop-entry.entry-index in
    let entry = c.entry-item.result in
    let rest = list_all p (drop (i + 1) owns) in
    let lt : i < length owns = omega arith in
    let none : p entry ≡ false = sym c.in_ok-answers_one.ensures ∙ c.if-not-branch.true in
    sym (at_drop_more (λ l. list_all p l) owns i entry lt ∙ ap (λ (x : TypeEntry). p x && rest) (sym c.entry-item.is) ∙ ap (λ (b : Bool). b && rest) none)
    ∙ c.loop-entry.invariant

pub loop-entry-preserved : goal.loop-entry-preserved
loop-entry-preserved c =
    let p = λ (entry : TypeEntry). list_any (entry_answers (has_pair c.args.pairs.now) c.args.schema.now entry) c.args.bases.now in
    let owns = c.args.owns.now in
    let i = c.loop-entry.entry-index in
    let entry = c.entry-item.result in
    let rest = list_all p (drop (i + 1) owns) in
    let lt : i < length owns = omega arith in
    let one : p entry ≡ true = sym c.in_ok-answers_one.ensures ∙ c.if-not-branch.false in
    sym (at_drop_more (λ l. list_all p l) owns i entry lt ∙ ap (λ (x : TypeEntry). p x && rest) (sym c.entry-item.is) ∙ ap (λ (b : Bool). b && rest) one)
    ∙ c.loop-entry.invariant
