use Rattle.std.proofs.Common.{map, sym}
use Rattle.fhir_codes.specs.Tables.{table_at}
use Rattle.fhir_codes.proofs.SameSets.{common_same}
use Rattle.fhir_codes.proofs.included.Included.in_all.Goals as goal

pub returns : goal.returns
returns c tables =
    sym (common_same (map (table_at tables) c.args.numbers.items) (map (table_at tables) c.distinct_numbers.result.items) (c.distinct_numbers.ensures tables))
