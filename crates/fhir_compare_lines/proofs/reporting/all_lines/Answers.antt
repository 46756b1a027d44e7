use Rattle.std.proofs.Common.{map, string_bytes, sym}
use Rattle.fhir_compare.specs.Views.{said_of}
use Rattle.fhir_lines.proofs.OnEach.{one_more, all_on}
use Rattle.fhir_compare_lines.specs.Report.{IsTold}
use Rattle.fhir_compare_lines.proofs.reporting.all_lines.Goals as goal

pub loop-one-preserved : goal.loop-one-preserved
loop-one-preserved c =
    one_more (IsTold c.args.format c.args.sources.old.survey.now.definitions c.args.sources.new.survey.now.definitions) said_of c.args.compared.now
    c.loop-one.one-index c.one-item.result (map string_bytes c.loop-one.lines.items) (map string_bytes c.in_ok-own.own.items)
    (map string_bytes c.push_texts.new.into.items) c.loop-one-test.true (sym c.one-item.is) c.in_ok-own.ensures c.in_ok-push_texts.ensures
    c.loop-one.invariant

pub returns : goal.returns
returns c =
    all_on (IsTold c.args.format c.args.sources.old.survey.now.definitions c.args.sources.new.survey.now.definitions) said_of c.args.compared.now
    c.loop-one.one-index (map string_bytes c.loop-one.lines.items) c.loop-one-test.false c.loop-one.invariant
