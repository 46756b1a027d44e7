use Rattle.std.proofs.Common.{◌-◌, ◌∷◌, drop, sym, ◌∙◌, ap, arith}
use Rattle.fhir_json.specs.Views.{tree_of, trees_of}
use Rattle.fhir_elements.specs.TypeEntry.{codes_differ}
use Rattle.fhir_elements.proofs.SeenCodes.{before, differ-front, differ-drop, seen-before}
use Rattle.fhir_elements.proofs.type_entry.repeated_of_many.Goals as goal

pub returns-then-not-branch : goal.returns-then-not-branch
returns-then-not-branch c =
    let ts = trees_of (drop c.loop-i.i c.args.items.now) in
    let front = before c.args.items.now c.loop-i.i (c.loop-i.i - 1) c.index-items-i.result (omega arith) (omega arith) c.index-items-i.is in
    sym (differ-drop (c.loop-i.i - 1) c.args.items.now
    (ap codes_differ (sym front)
    ∙ differ-front (tree_of c.index-items-i.result) ts _ (c.in_ok-is_new.ensures.new ts c.loop-i.invariant.seen) c.loop-i.invariant.differ
    ∙ c.if-not-branch.true))

pub loop-i-preserved : goal.loop-i-preserved
loop-i-preserved c =
    let ts = trees_of (drop c.loop-i.i c.args.items.now) in
    let front = before c.args.items.now c.loop-i.i (c.loop-i.i - 1) c.index-items-i.result (omega arith) (omega arith) c.index-items-i.is in
    record {
      within = omega arith;
      differ = ap codes_differ (sym front)
          ∙ differ-front (tree_of c.index-items-i.result) ts _ (c.in_ok-is_new.ensures.new ts c.loop-i.invariant.seen) c.loop-i.invariant.differ
          ∙ c.if-not-branch.false;
      seen = seen-before c.is_new.new.seen (tree_of c.index-items-i.result ∷ ts) _ front (c.in_ok-is_new.ensures.seen ts c.loop-i.invariant.seen);
    }
