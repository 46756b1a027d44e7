use Rattle.std.proofs.Common.{◌+◌, length, ap, sym, ◌∙◌, subst}
use Rattle.std.specs.List.{slice_get}
use Rattle.std.proofs.lemmas.List.{length_push}
use Rattle.std.proofs.lemmas.Option.{none-some}
use Rattle.fhir_schema.specs.Blaming.{EachLasting}
use Rattle.fhir_schema.proofs.Blamed.{lasting_push}
use Rattle.fhir_schema.proofs.settling.lasting_of.Goals as goal

pub loop-place-init : goal.loop-place-init
loop-place-init c = record {
  counted = ap length c.new-all.ensures.items;
  each = subst (EachLasting c.args.table.now) (sym c.new-all.ensures.items) (λ place d lasting at is. absurd (none-some lasting is));
}

pub loop-place-preserved : goal.loop-place-preserved
loop-place-preserved c =
    let ds = c.args.table.now in
    let all = c.loop-place.all.items in
    let new = c.lasting_at.result in
    let more = length_push all new in
    record {
      counted = ap length c.in_ok-push.ensures.items ∙ more ∙ ap (λ n. n + 1) c.loop-place.invariant.counted;
      each = subst (EachLasting ds) (sym c.in_ok-push.ensures.items) (lasting_push ds all new c.loop-place.invariant.each (λ d at.
          c.lasting_at.ensures d (ap (slice_get ds) (sym c.loop-place.invariant.counted) ∙ at)));
    }
