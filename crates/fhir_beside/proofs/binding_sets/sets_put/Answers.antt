use Rattle.std.proofs.Common.{◌≡◌, List, Bor, None, map, length, replicate, ap, sym, subst, ◌∙◌}
use Rattle.fhir_json.specs.Tree.{Text}
use Rattle.fhir_alike.specs.ValueSets.{kept_by}
use Rattle.fhir_beside.specs.Made.{canonicals}
use Rattle.fhir_beside.specs.Naming.{names_seen, name_all}
use Rattle.fhir_beside.specs.Views.{entries_seen}
use Rattle.fhir_beside.proofs.Sets.{ArePutUpTo, sets_first, sets_step, sets_done}
use Rattle.fhir_beside.proofs.binding_sets.sets_put.Goals as goal

pub loop-place-init : goal.loop-place-init
loop-place-init c =
    subst (ArePutUpTo c.args.sides.old.now c.args.sides.new.now (kept_by c.args.sides.old.now c.args.sides.new.now c.args.sides.changes.now.changed.items) c.args.sides.mark.now 0) (sym (ap entries_seen c.new-entries.ensures.items))
    (sets_first c.args.sides.old.now c.args.sides.new.now (kept_by c.args.sides.old.now c.args.sides.new.now c.args.sides.changes.now.changed.items) c.args.sides.mark.now)

pub loop-place-preserved : goal.loop-place-preserved
loop-place-preserved c =
    let named : names_seen c.deref-canonical-items.result.now
    ≡ name_all c.args.sides.old.now (canonicals c.args.sides.old.now c.args.sides.new.now (kept_by c.args.sides.old.now c.args.sides.new.now c.args.sides.changes.now.changed.items)) (replicate (length c.args.sides.old.now.value_sets) None) =
    ap names_seen c.deref-canonical-items.ensures.value
    ∙ c.in_ok-names.ensures
    ∙ ap (λ (xs : List (Bor Text)). name_all c.args.sides.old.now (map (λ t. t.now) xs) (replicate (length c.args.sides.old.now.value_sets) None))
    c.deref.ensures.value
    ∙ ap (λ cs. name_all c.args.sides.old.now cs (replicate (length c.args.sides.old.now.value_sets) None)) c.in_ok-canonicals.ensures in
    sets_step c.args.sides.old.now c.args.sides.new.now (kept_by c.args.sides.old.now c.args.sides.new.now c.args.sides.changes.now.changed.items) c.args.sides.mark.now c.deref-canonical-items.result.now named
    c.loop-place.place _ (entries_seen c.loop-place.entries.items) (entries_seen c.put_set_if.new.entries.items) c.in_ok-put_set_if.ensures.0
    c.loop-place-test.true c.in_ok-put_set_if.ensures.1 c.in_ok-put_set_if.ensures.2 c.loop-place.invariant

pub returns : goal.returns
returns c =
    let named : names_seen c.deref-canonical-items.result.now
    ≡ name_all c.args.sides.old.now (canonicals c.args.sides.old.now c.args.sides.new.now (kept_by c.args.sides.old.now c.args.sides.new.now c.args.sides.changes.now.changed.items)) (replicate (length c.args.sides.old.now.value_sets) None) =
    ap names_seen c.deref-canonical-items.ensures.value
    ∙ c.in_ok-names.ensures
    ∙ ap (λ (xs : List (Bor Text)). name_all c.args.sides.old.now (map (λ t. t.now) xs) (replicate (length c.args.sides.old.now.value_sets) None))
    c.deref.ensures.value
    ∙ ap (λ cs. name_all c.args.sides.old.now cs (replicate (length c.args.sides.old.now.value_sets) None)) c.in_ok-canonicals.ensures in
    sets_done c.args.sides.old.now c.args.sides.new.now (kept_by c.args.sides.old.now c.args.sides.new.now c.args.sides.changes.now.changed.items) c.args.sides.mark.now c.deref-canonical-items.result.now named
    c.loop-place.place (entries_seen c.loop-place.entries.items) c.loop-place-test.false c.loop-place.invariant
