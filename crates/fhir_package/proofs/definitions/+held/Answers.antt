use Rattle.std.proofs.Common.{◌≡◌, suc, ◌-◌, sym, append-nil, arith, rules}
use Rattle.fhir_json.specs.Views.{tree_of, trees_of}
use Rattle.fhir_package.proofs.Held.{held_none, held_entries, held_other}
use Rattle.fhir_package.proofs.definitions.+held.Goals as goal

pub push_held-returns-then-levels-eq0 : goal.push_held-returns-then-levels-eq0
push_held-returns-then-levels-eq0 t c = rw (held_none c.args.levels (tree_of c.args.json) (omega arith)) (sym (append-nil c.args.into.now.items))

pub push_held-returns-then-is_bundle : goal.push_held-returns-then-is_bundle
push_held-returns-then-is_bundle t c =
    let e : c.args.levels ≡ suc (c.args.levels - 1) = omega arith in
    rw
    (held_entries c.args.levels (c.args.levels - 1) (tree_of c.args.json) (trees_of c.take_items.result.items) e (search rules)
    (search rules)) c.push_entries.ensures

pub push_held-returns : goal.push_held-returns
push_held-returns t c =
    let e : c.args.levels ≡ suc (c.args.levels - 1) = omega arith in
    rw (held_other c.args.levels (c.args.levels - 1) (tree_of c.args.json) e (search rules)) c.push_definition.ensures
