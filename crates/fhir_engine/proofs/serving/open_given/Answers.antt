use Rattle.std.proofs.Common.{◌≡◌, Some, Ok}
use Rattle.std.proofs.lemmas.Result.{IfOk-weaker}
use Rattle.fhir_package.specs.ReadFiles.{pack_given}
use Rattle.fhir_answers.specs.Views.{bytes_seen}
use Rattle.fhir_engine.specs.Serving.{AreVouched, AreHeld}
use Rattle.fhir_engine.proofs.Promises.{packed}
use Rattle.fhir_engine.proofs.serving.open_given.Goals as goal

pub returns-in-Ok : goal.returns-in-Ok
returns-in-Ok g c =
    let folder = g.F.Folder.files c.args.folder in
    let given = bytes_seen c.args.file.bytes in
    IfOk-weaker c.given_registry_of.result (λ held. (pack_given c.in-Ok.files ≡ Some (Ok held.0.definitions)) × AreVouched given held.0.texts)
    (λ held. AreHeld folder given held.0)
    (λ held h. (packed c.given_files.ensures.of_folder folder c.in-Ok.files held.0.definitions c.in-Ok.ensures h.0, h.1))
    c.given_registry_of.ensures
