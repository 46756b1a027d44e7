use Rattle.std.proofs.lemmas.List.Filters.{dedup_is}
use Rattle.std.proofs.lemmas.Slice.Eq.{bytes_eq-Decides}
use Rattle.fhir_codes.proofs.DistinctCodes.{distinct_same}
use Rattle.fhir_codes.proofs.code_systems.distinct_codes.Goals as goal

pub returns : goal.returns
returns c system =
    distinct_same (λ r. r.now) _ (λ x y e. (bytes_eq-Decides x.now y.now).0 e) system c.args.codes.items c.sort_unstable.new.self.items c.dedup.new.self.items
    c.sort_unstable.ensures.permutation (dedup_is _ _ _ c.dedup.ensures.filtered)
