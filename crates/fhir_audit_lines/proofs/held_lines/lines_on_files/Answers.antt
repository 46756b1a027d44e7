use Rattle.std.proofs.Common.{map, string_bytes, sym}
use Rattle.fhir_lines.proofs.OnEach.{one_more, all_on}
use Rattle.fhir_audit_lines.specs.Held.{held_seen, AreOnFile}
use Rattle.fhir_audit_lines.proofs.held_lines.lines_on_files.Goals as goal

pub loop-file-preserved : goal.loop-file-preserved
loop-file-preserved c =
    one_more (AreOnFile c.args.format c.args.schema.now) held_seen c.args.files.now c.loop-file.file-index c.file-item.result
    (map string_bytes c.loop-file.lines.items) (map string_bytes c.in_ok-own.own.items) (map string_bytes c.push_texts.new.into.items)
    c.loop-file-test.true (sym c.file-item.is) c.in_ok-own.ensures c.in_ok-push_texts.ensures c.loop-file.invariant

pub returns : goal.returns
returns c =
    all_on (AreOnFile c.args.format c.args.schema.now) held_seen c.args.files.now c.loop-file.file-index
    (map string_bytes c.loop-file.lines.items) c.loop-file-test.false c.loop-file.invariant
