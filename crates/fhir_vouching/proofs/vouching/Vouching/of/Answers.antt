use Rattle.std.proofs.Common.{◌∙◌, map, string_bytes, refl, ap}
use Rattle.std.specs.List.{list_any}
use Rattle.std.specs.Str.{bytes_eq}
use Rattle.std.proofs.lemmas.List.Filters.{dedup_is}
use Rattle.fhir_vouching.proofs.Sets.{distinct_rise, distinct_same}
use Rattle.fhir_vouching.proofs.vouching.Vouching.of.Goals as goal

pub invariant_of-result : goal.invariant_of-result
invariant_of-result c =
    rw (dedup_is _ _ _ c.dedup.ensures.filtered)
    (distinct_rise string_bytes _ (λ x y. refl) c.sort_unstable.new.self.items c.sort_unstable.ensures.sorted)

pub returns : goal.returns
returns c t =
    ap (λ xs. list_any (bytes_eq t) (map string_bytes xs)) (dedup_is _ _ _ c.dedup.ensures.filtered)
    ∙ distinct_same string_bytes _ (λ x y. refl) c.args.texts.items c.sort_unstable.new.self.items c.sort_unstable.ensures.permutation t
