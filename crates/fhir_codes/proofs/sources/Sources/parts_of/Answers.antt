use Rattle.std.proofs.Common.{◌∙◌, map, ap, sym}
use Rattle.fhir_codes.specs.Concepts.{union_of}
use Rattle.fhir_codes.specs.Including.{included}
use Rattle.fhir_codes.proofs.SameSets.{united_same}
use Rattle.fhir_codes.proofs.sources.Sources.parts_of.Goals as goal

pub returns : goal.returns
returns c =
    let tables = c.args.self.now.tables in
    sym (united_same (map (included tables) c.in_ok-all.all.items) (map (included tables) c.distinct.result.items) (c.distinct.ensures tables))
    ∙ ap union_of c.in_ok-all.ensures
