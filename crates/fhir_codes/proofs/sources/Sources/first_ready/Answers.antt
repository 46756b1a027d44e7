use Rattle.fhir_codes.specs.Filled.{is_ready}
use Rattle.fhir_codes.specs.Tables.{found}
use Rattle.std.proofs.Common.{◌∙◌, sym}
use Rattle.fhir_codes.proofs.Looping.{none_more}
use Rattle.fhir_codes.proofs.sources.Sources.first_ready.Goals as goal

pub loop-place-preserved : goal.loop-place-preserved
loop-place-preserved c =
    none_more (is_ready c.args.self.now.definitions (found c.args.self.now)) c.loop-place.place c.loop-place.invariant (sym c.is_ready.ensures ∙ c.if-is_ready.false)
