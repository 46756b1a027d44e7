use Rattle.std.proofs.Common.{◌≡◌, length, map, string_bytes, arith}
use Rattle.std.proofs.lemmas.List.{length-map}
use Rattle.fhir_asking.proofs.Lists.{seen_snoc}
use Rattle.fhir_asking.proofs.Marks.{marks_kept, marks_more}
use Rattle.fhir_asking.proofs.waiting.Waiting.push.Goals as goal

pub invariant_of-self-in_err-push : goal.invariant_of-self-in_err-push
invariant_of-self-in_err-push c =
    let apart = rw (← c.self.view_is) at c.requires in
    let puts = rw c.as_str.ensures.value at c.in_ok-put.ensures.put in
    rw c.in_err-push.ensures.items
    (marks_kept c.self.inside.places c.put.new.self (map string_bytes c.self.inside.names.items) (string_bytes c.args.name) c.len.result c.self.invariant apart puts)

pub invariant_of-self-2 : goal.invariant_of-self-2
invariant_of-self-2 c =
    let apart = rw (← c.self.view_is) at c.requires in
    let puts = rw c.as_str.ensures.value at c.in_ok-put.ensures.put in
    let at : c.len.result ≡ length (map string_bytes c.self.inside.names.items) = simp length-map (omega arith) in
    rw (seen_snoc c.self.inside.names.items c.args.name c.push.new.self.items c.in_ok-push.ensures.items)
    (marks_more c.self.inside.places c.put.new.self (map string_bytes c.self.inside.names.items) (string_bytes c.args.name) c.len.result c.self.invariant apart at puts)
