use Rattle.std.proofs.Common.{◌≡◌, ◌+◌, ◌<◌, ◌≤◌, ◌&&◌, Bool, true, false, length, drop, map, string_bytes, sym, ap, refl, ◌∙◌, arith}
use Rattle.std.proofs.lemmas.List.{at_drop_all}
use Rattle.std.specs.List.{list_all, list_any}
use Rattle.fhir_json.specs.Tree.{Text}
use Rattle.fhir_facets.specs.Targets.{target_narrower}
use Rattle.fhir_targets.proofs.Taking.{all_next}
use Rattle.fhir_targets.proofs.narrower.are_targets_among.Goals as goal

pub loop-own-init : goal.loop-own-init
loop-own-init c = record { base = c.in_ok-base.ensures; rest = refl }

pub loop-own-preserved : goal.loop-own-preserved
loop-own-preserved c =
    let bases = map string_bytes c.args.bases.now in
    let owns = c.args.owns.now in
    let i = c.loop-own.own-index in
    let own = c.own-item.result in
    let p = λ (t : Text). list_any (target_narrower c.args.schema.now t) bases in
    let rest = list_all p (map string_bytes (drop (i + 1) owns)) in
    let lt : i < length owns = omega arith in
    let yes : p (string_bytes own) ≡ true =
    ap p (sym c.as_str.ensures.value) ∙ sym (c.in_ok-has.ensures.among bases c.loop-own.invariant.base) ∙ c.if-not-branch.false in
    record {
      base = c.in_ok-has.ensures.kept bases c.loop-own.invariant.base;
      rest = sym (ap (λ (b : Bool). b && rest) yes) ∙ sym (all_next p string_bytes owns i own lt c.own-item.is) ∙ c.loop-own.invariant.rest;
    }

pub returns-then-not-branch : goal.returns-then-not-branch
returns-then-not-branch c =
    let bases = map string_bytes c.args.bases.now in
    let owns = c.args.owns.now in
    let i = c.loop-own.own-index in
    let own = c.own-item.result in
    let p = λ (t : Text). list_any (target_narrower c.args.schema.now t) bases in
    let rest = list_all p (map string_bytes (drop (i + 1) owns)) in
    let lt : i < length owns = omega arith in
    let missing : p (string_bytes own) ≡ false =
    ap p (sym c.as_str.ensures.value) ∙ sym (c.in_ok-has.ensures.among bases c.loop-own.invariant.base) ∙ c.if-not-branch.true in
    sym (ap (λ (b : Bool). b && rest) missing) ∙ sym (all_next p string_bytes owns i own lt c.own-item.is) ∙ c.loop-own.invariant.rest

pub returns : goal.returns
returns c =
    let bases = map string_bytes c.args.bases.now in
    let owns = c.args.owns.now in
    let ge : length owns ≤ c.loop-own.own-index = omega arith in
    sym (at_drop_all (λ ys. list_all (λ t. list_any (target_narrower c.args.schema.now t) bases) (map string_bytes ys)) owns c.loop-own.own-index ge)
    ∙ c.loop-own.invariant.rest
