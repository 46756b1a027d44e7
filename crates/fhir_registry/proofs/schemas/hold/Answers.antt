use Rattle.std.proofs.Common.{◌≡◌, ◌∙◌, true, false, sym, subst, List}
use Rattle.std.specs.Prelude.{slice_get}
use Rattle.std.specs.List.{list_all}
use Rattle.std.specs.Option.{option_map_or}
use Rattle.fhir_reach.specs.declared.key.Key.{Key}
use Rattle.fhir_reach.specs.Keys.{key_seen, has_key, keys_seen}
use Rattle.std.proofs.Common.{take}
use Rattle.fhir_registry.proofs.Led.{first_led}
use Rattle.fhir_registry.proofs.schemas.hold.Goals as goal

pub returns-then-is_led-clause-first : goal.returns-then-is_led-clause-first
returns-then-is_led-clause-first c =
    let laws = c.same_sets.ensures in
    let all = subst (λ (ks : List Key). option_map_or (λ e. list_all (λ (key : Key). has_key e.1.keys (key_seen key)) ks) (slice_get c.hold_for.new.schemas.entries 0) false ≡ true)
    c.deref-2.ensures.value (sym c.is_led.ensures ∙ c.if-is_led.true) in
    let front = subst (λ (ks : List Key). keys_seen c.in_ok-front.front.items ≡ take 1 (keys_seen ks)) c.deref.ensures.value c.in_ok-front.ensures in
    first_led c.args.definitions.now (c.frame.ensures.least c.args.definitions.now) laws.tests laws.restrictions c.args.start.items (keys_seen c.in_ok-front.front.items) c.hold_for.new.schemas front
    c.in_ok-hold_for.ensures.first all
