use Rattle.std.proofs.Common.{ap, sym, ◌∙◌, take, List, ℕ, arith}
use Rattle.std.proofs.lemmas.List.{length-take-le, take_all}
use Rattle.fhir_gather.proofs.naming.first_bytes.Goals as goal

pub slice_bounds-result-end : goal.slice_bounds-result-end
slice_bounds-result-end c = sym (length-take-le 150 c.as_bytes-bytes.result.now (omega arith))

pub returns-then-bytes-le150 : goal.returns-then-bytes-le150
returns-then-bytes-le150 c =
    sym (take_all 150 c.as_bytes-bytes.result.now (omega arith)) ∙ ap (λ (bs : List ℕ). take 150 bs) c.as_bytes-bytes.ensures.value
