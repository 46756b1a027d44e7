use Rattle.std.proofs.Common.{◌∙◌, ap}
use Rattle.std.specs.FinSet as set
use Rattle.fhir_codes.proofs.Looping.{gives_as}
use Rattle.fhir_codes.proofs.Members.{difference_none, filter_difference}
use Rattle.fhir_codes.proofs.combining.without.Goals as goal

pub returns-then-is_empty : goal.returns-then-is_empty
returns-then-is_empty c =
    gives_as (λ s. s) c.share.result c.args.from.now (set.difference c.args.from.now c.args.less.now)
    (difference_none c.args.from.now c.args.less.now (c.is_empty.ensures c.if-is_empty.true)) c.share.ensures

pub returns-else-is_empty : goal.returns-else-is_empty
returns-else-is_empty c =
    gives_as (λ s. s) c.kept_outside.result _ (set.difference c.args.from.now c.args.less.now)
    (filter_difference c.concepts.result.now c.args.less.now ∙ ap (λ s. set.difference s c.args.less.now) c.concepts.ensures) c.kept_outside.ensures
