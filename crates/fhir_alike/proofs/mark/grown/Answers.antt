use Rattle.std.proofs.Common.{◌<◌, ◌∙◌, ap, map, length, List, Bor, string_bytes, arith}
use Rattle.std.proofs.lemmas.Bool.Decides.{nat_tests}
use Rattle.std.proofs.lemmas.List.{length-map}
use Rattle.fhir_json.specs.Tree.{Text}
use Rattle.fhir_alike.specs.Mark.{fewer_behind, grown}
use Rattle.fhir_alike.proofs.Fresh.{grown_turn, behind_less}
use Rattle.fhir_alike.proofs.mark.grown.Goals as goal

seen : List (Bor Text) → List Text
seen xs = map (λ t. t.now) xs

pub loop-alloc-smaller : goal.loop-alloc-smaller
unfolding seen
loop-alloc-smaller c =
    let some : 0 < length (seen c.loop-alloc.tails.items) = grind (arith, nat_tests, length-map) in
    behind_less (seen c.loop-alloc.tails.items) (seen c.in_ok-digit.behind.items) c.in_ok-digit.digit.now some
    (c.in_ok-digit.ensures ∙ ap (λ xs. fewer_behind (seen xs)) c.deref.ensures.value)

pub loop-alloc-preserved : goal.loop-alloc-preserved
unfolding seen
loop-alloc-preserved c =
    let some : 0 < length (seen c.loop-alloc.tails.items) = grind (arith, nat_tests, length-map) in
    grown_turn (seen c.loop-alloc.tails.items) (seen c.in_ok-digit.behind.items) c.in_ok-digit.digit.now (string_bytes c.loop-alloc.mark)
    (string_bytes c.push_str.new.self) (grown (seen c.args.tails.items) (string_bytes c.args.mark)) some
    (c.in_ok-digit.ensures ∙ ap (λ xs. fewer_behind (seen xs)) c.deref.ensures.value) c.in_ok-push_str.ensures.bytes c.loop-alloc.invariant
