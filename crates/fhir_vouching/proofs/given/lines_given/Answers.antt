use Rattle.std.proofs.Common.{length}
use Rattle.std.specs.Str.Lines.{lines}
use Rattle.std.proofs.lemmas.List.{length_push}
use Rattle.std.proofs.lemmas.Iterator.Splits.{YieldsList-from_lines}
use Rattle.std.proofs.lemmas.Iterator.Consumers.{YieldsList-from_enumerate, YieldsList-turn, YieldsList-end}
use Rattle.fhir_vouching.proofs.Lines.{no_line, turn}
use Rattle.fhir_vouching.proofs.given.lines_given.Goals as goal

pub loop-before-preserved : goal.loop-before-preserved
loop-before-preserved c =
    let yields = YieldsList-from_enumerate (YieldsList-from_lines c.args.text.now cc) (cc) in
    let at =
    YieldsList-turn yields c.loop-before.yielded _ c.loop-before.yielded_by _ _ (c.in-Some.before, c.in-Some.line) c.in-Some.is
    c.next.ensures.steps in
    rw (length_push c.loop-before.yielded (c.in-Some.before, c.in-Some.line))
    (turn (lines c.args.text.now) (length c.loop-before.yielded) (c.in-Some.before, c.in-Some.line.now) _ _ _ at.0 at.1 c.in_ok-put_line.ensures
    c.loop-before.invariant)

pub returns : goal.returns
returns c =
    let yields = YieldsList-from_enumerate (YieldsList-from_lines c.args.text.now cc) (cc) in
    let end = YieldsList-end yields c.loop-before.yielded _ c.loop-before.yielded_by _ _ c.in-None.is c.next.ensures.steps in
    no_line (lines c.args.text.now) (length c.loop-before.yielded) _ _ end.1 c.loop-before.invariant
