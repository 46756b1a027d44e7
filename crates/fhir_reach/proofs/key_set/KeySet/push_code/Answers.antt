use Rattle.std.proofs.Common.{◌≡◌, length, ap, arith}
use Rattle.std.proofs.lemmas.List.{length-map}
use Rattle.fhir_reach.specs.Keys.{of_code, keys_seen}
use Rattle.fhir_reach.proofs.Marks.{puts_code, marks_kept, marks_more, seen_snoc}
use Rattle.fhir_reach.proofs.key_set.KeySet.push_code.Goals as goal

pub invariant_of-self-in_err-push : goal.invariant_of-self-in_err-push
invariant_of-self-in_err-push c =
    let none = rw (← c.self.view_is) at c.requires in
    let puts = puts_code c.self.inside.urls c.self.inside.codes c.put.new.self c.args.code.now c.len.result c.in_ok-put.ensures.put in
    rw c.in_err-push.ensures.items
    (marks_kept c.self.inside.urls c.self.inside.codes c.self.inside.urls c.put.new.self (keys_seen c.self.inside.keys.items) (of_code c.args.code.now) c.len.result c.self.invariant none puts)

pub invariant_of-self-2 : goal.invariant_of-self-2
invariant_of-self-2 c =
    let none = rw (← c.self.view_is) at c.requires in
    let puts = puts_code c.self.inside.urls c.self.inside.codes c.put.new.self c.args.code.now c.len.result c.in_ok-put.ensures.put in
    let at : c.len.result ≡ length (keys_seen c.self.inside.keys.items) = simp length-map (omega arith) in
    rw (seen_snoc c.self.inside.keys.items _ c.push.new.self.items (of_code c.args.code.now) (ap of_code c.in_ok-text.ensures.ok) c.in_ok-push.ensures.items)
    (marks_more c.self.inside.urls c.self.inside.codes c.self.inside.urls c.put.new.self (keys_seen c.self.inside.keys.items) (of_code c.args.code.now) c.len.result c.self.invariant none puts at)
