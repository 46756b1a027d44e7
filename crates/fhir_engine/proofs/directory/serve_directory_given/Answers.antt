use Rattle.std.proofs.Common.{rules, ◌≡◌, subst}
use Rattle.std.specs.Io.Buffered.{reader_remaining}
use Rattle.fhir_registry.specs.Lines.{AnswersLine}
use Rattle.fhir_answers.specs.Views.{bytes_seen}
use Rattle.fhir_engine.specs.Serving.{AllWereAnswered}
use Rattle.fhir_engine.proofs.directory.serve_directory_given.Goals as goal

pub returns-in-Ok-open_served : goal.returns-in-Ok-open_served
returns-in-Ok-open_served g c is =
    let served = c.serve_folder_given.ensures.served is in
    let whole : reader_remaining g.I.Read.remaining c.in-Ok.input ≡ g.I.Read.remaining c.args.input = search rules in (
      c.in-Ok-open_served.folder.files,
      bytes_seen c.named.result.bytes,
      (
        served.0,
        served.1,
        subst
            (λ input. AllWereAnswered AnswersLine served.0 input (g.W.Write.contents c.args.out.now) (g.W.Write.contents c.serve_folder_given.new.out))
            whole served.2,
      ),
    )
