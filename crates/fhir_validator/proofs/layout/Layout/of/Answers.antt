use Rattle.std.proofs.Common.{◌≡◌, ◌<◌, ◌≤◌, ◌+◌, ◌++◌, ◌∷◌, [], length, map, arith, ap, ◌∙◌}
use Rattle.std.proofs.lemmas.List.{length-map, length-append}
use Rattle.fhir_instance.specs.Items.{kids_of}
use Rattle.fhir_validator.specs.Layouts.{spot_in, spots_in, numbered}
use Rattle.fhir_validator.proofs.Rows.{laid_more, longer, item_read, numbered_left}
use Rattle.fhir_validator.proofs.layout.Layout.of.Goals as goal

pub loop-at-preserved : goal.loop-at-preserved
loop-at-preserved c =
    let s = c.args.schema.now in
    let xs = map spot_in c.loop-at.stands.items in
    let ys = map spot_in c.put_kids.new.stands.items in
    let stand = c.index-stand.result.now in
    let same : numbered xs c.loop-at.at ≡ spot_in stand = item_read spot_in c.loop-at.stands.items c.loop-at.at stand (omega (arith, c.loop-at-test.true, c.len.ensures)) c.index-stand.ensures in
    let e : ys ≡ xs ++ spots_in s (spot_in stand).resource (kids_of (spot_in stand).itself) = c.in_ok-put_kids.ensures.items in
    let n : length xs ≡ length c.loop-at.stands.items = length-map c.loop-at.stands.items spot_in in
    let m : length ys ≡ length c.put_kids.new.stands.items = length-map c.put_kids.new.stands.items spot_in in
    let more : length xs ≤ length ys = longer xs ys (spots_in s (spot_in stand).resource (kids_of (spot_in stand).itself)) e in
    let inside : c.loop-at.at < length xs = omega (arith, n, c.len.ensures, c.loop-at-test.true) in
    record {
      stands = c.in_ok-put_kids.ensures.stands c.loop-at.invariant.stands;
      each = ap length c.in_ok-push-2.ensures.items ∙ length-append c.loop-at.firsts.items (c.len-in-loop-at.result ∷ []) ∙ ap (λ k. k + 1) c.loop-at.invariant.each;
      within = omega (arith, n, m, more, c.len.ensures, c.loop-at-test.true);
      laid = laid_more s xs ys c.loop-at.firsts.items c.push-in-loop-at.new.self.items c.loop-at.at c.len-in-loop-at.result (spot_in stand)
          c.loop-at.invariant.each inside (omega (arith, n, c.len-in-loop-at.ensures)) same e c.in_ok-push-2.ensures.items c.loop-at.invariant.laid;
      some = omega (arith, n, m, more, c.loop-at.invariant.some);
      first = ap (λ zs. numbered zs 0) e ∙ numbered_left xs (spots_in s (spot_in stand).resource (kids_of (spot_in stand).itself)) 0 (omega (arith, n, c.loop-at.invariant.some)) ∙ c.loop-at.invariant.first;
    }
