use Rattle.std.proofs.Common.{sym, subst, ◌∙◌}
use Rattle.std.specs.List.{IsDistinct}
use Rattle.fhir_reach.specs.Keys.{key_eq, keys_seen}
use Rattle.fhir_reach.specs.Reach.{IsReach}
use Rattle.fhir_reach.proofs.reaching.reach.Goals as goal

pub returns-clause-least : goal.returns-clause-least
returns-clause-least c =
    subst (IsReach c.args.«package».now (keys_seen c.args.start.now)) (sym c.into_keys.ensures) c.in_ok-found.ensures.least

pub returns-clause-in_order : goal.returns-clause-in_order
returns-clause-in_order c = c.into_keys.ensures ∙ c.in_ok-found.ensures.in_order

pub returns-clause-once : goal.returns-clause-once
returns-clause-once c = subst (IsDistinct key_eq) (sym c.into_keys.ensures) c.in_ok-found.ensures.once
