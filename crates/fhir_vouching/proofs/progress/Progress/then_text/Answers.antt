use Rattle.std.proofs.Common.{[], ◌∷◌, ◌++◌}
use Rattle.fhir_json.specs.Compact.{escape_text}
use Rattle.fhir_vouching.proofs.Pieces.{both, one_byte, no_byte}
use Rattle.fhir_vouching.proofs.progress.Progress.then_text.Goals as goal

pub loop-byte-preserved : goal.loop-byte-preserved
loop-byte-preserved c end more =
    c.loop-byte.invariant end
    (one_byte c.loop-byte.progress c.then_byte-progress.result end c.as_bytes-byte-items.result.now c.loop-byte.byte-index c.loop-byte-test.true
    c.then_byte-progress.ensures more)

pub returns : goal.returns
returns c =
    let none = no_byte c.loop-byte.progress c.as_bytes-byte-items.result.now c.loop-byte.byte-index c.loop-byte-test.false in
    let inside = rw c.as_bytes-byte-items.ensures.value at (c.loop-byte.invariant c.loop-byte.progress none) in
    both c.args.self c.then-progress.result c.then.result (34 ∷ []) (escape_text c.args.text.now ++ 34 ∷ []) c.then-progress.ensures
    (both c.then-progress.result c.loop-byte.progress c.then.result (escape_text c.args.text.now) (34 ∷ []) inside c.then.ensures)
