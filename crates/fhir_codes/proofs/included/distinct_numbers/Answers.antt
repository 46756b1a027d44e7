use Rattle.std.proofs.lemmas.List.Filters.{dedup_is}
use Rattle.fhir_codes.proofs.SameSets.{distinct_numbers_same}
use Rattle.fhir_codes.proofs.included.distinct_numbers.Goals as goal

pub returns : goal.returns
returns c tables =
    distinct_numbers_same tables c.args.numbers.items c.sort_unstable.new.self.items c.dedup.new.self.items
    c.sort_unstable.ensures.permutation (dedup_is _ _ _ c.dedup.ensures.filtered)
