use Rattle.std.proofs.Common.{◌≡◌, ◌++◌, ◌∷◌, [], List, map, take, length, get_or, ◌+◌, sym, ap, subst, ◌∙◌, arith}
use Rattle.std.proofs.lemmas.List.{length-map, length-take-le, map_more}
use Rattle.fhir_json.specs.Tree.{Text}
use Rattle.fhir_names.specs.Places.{Finds}
use Rattle.fhir_findings.specs.Firsts.{firsts}
use Rattle.fhir_findings.proofs.Pushed.{next_first}
use Rattle.fhir_unread.specs.declared.saying.Saying.{Saying as SayingOf}
use Rattle.fhir_unread.specs.Sayings.{Saying}
use Rattle.fhir_unread.specs.Seen.{saying_seen, sayings_seen}
use Rattle.fhir_unread.proofs.saying.firsts.Goals as goal

abbrev human_of : Saying → Text
human_of y = y.human

abbrev no_saying : SayingOf
no_saying = record {
  key = record { ref_ptr = (0, 0); now = [] };
  human = record { ref_ptr = (0, 0); now = [] };
  url = record { ref_ptr = (0, 0); now = [] };
  id = record { ref_ptr = (0, 0); now = [] };
}

pub loop-place-preserved : goal.loop-place-preserved
loop-place-preserved c =
    let before : List Saying = sayings_seen (take c.loop-place.place c.args.sayings.now) in
    let x : Saying = saying_seen (get_or c.args.sayings.now c.loop-place.place no_saying) in
    let more : sayings_seen (take (c.loop-place.place + 1) c.args.sayings.now) ≡ before ++ x ∷ [] =
    map_more saying_seen c.args.sayings.now c.loop-place.place no_saying c.loop-place-test.true in
    let long : length before ≡ c.loop-place.place =
    length-map (take c.loop-place.place c.args.sayings.now) saying_seen
    ∙ length-take-le c.loop-place.place c.args.sayings.now (omega (arith, c.loop-place-test.true)) in
    record {
      found = subst (λ (l : List Saying). Finds c.push_if_first.new.seen (map human_of l)) (sym more)
          (c.in_ok-push_if_first.ensures.seen before c.loop-place.invariant.found long);
      pushed =
          next_first human_of before [] (sayings_seen c.loop-place.into.items)
          (sayings_seen c.push_if_first.new.into.items) x c.loop-place.invariant.pushed
          (c.in_ok-push_if_first.ensures.pushed before c.loop-place.invariant.found)
          ∙ ap (firsts human_of) (sym more);
    }
