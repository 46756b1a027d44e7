use Rattle.std.proofs.Common.{◌∙◌, sym, Vec, Global, List, subst}
use Rattle.fhir_reach.specs.declared.key.Key.{Key}
use Rattle.fhir_reach.specs.Keys.{KeyValue, keys_seen}
use Rattle.fhir_reach.specs.Search.{reached}
use Rattle.fhir_registry.specs.Sound.{IsRightFor, IsRightSchema}
use Rattle.fhir_registry.proofs.Equal.{starts_eq, same_start}
use Rattle.fhir_registry.proofs.Right.{all_promoted, promoted_first}
use Rattle.fhir_registry.proofs.schemas.hold_for.Goals as goal

pub keep_new-requires : goal.keep_new-requires
keep_new-requires c = all_promoted (IsRightSchema c.args.definitions.now) (starts_eq c.args.start) c.args.schemas.now c.promote.new.self c.promote.ensures.entries c.requires

pub returns-then-promote-clause-right : goal.returns-then-promote-clause-right
returns-then-promote-clause-right c =
    all_promoted (IsRightSchema c.args.definitions.now) (starts_eq c.args.start) c.args.schemas.now c.promote.new.self c.promote.ensures.entries c.requires

pub returns-then-promote-clause-first : goal.returns-then-promote-clause-first
returns-then-promote-clause-first c =
    let p = c.args.definitions.now in
    let start : Vec Key Global = c.args.start in
    promoted_first (λ e. IsRightFor p (reached p (keys_seen start.items)) e.1) (starts_eq start) c.args.schemas.now c.promote.new.self c.promote.ensures.entries
    (sym c.promote.ensures.value ∙ c.if-promote.true)
    (λ e there same. subst (λ (l : List KeyValue). IsRightFor p (reached p l) e.1) (sym (same_start start e.0 same)) (c.requires e there))
