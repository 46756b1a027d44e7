use Rattle.std.proofs.Common.{◌≡◌, false, [], ◌∷◌, ◌++◌, refl, sym, ap, ◌∙◌, append_assoc, arith}
use Rattle.fhir_cert_check.specs.PairSet.{has_pair}
use Rattle.fhir_derive_check.proofs.Found.{append_nil}
use Rattle.fhir_derive_check.proofs.Queued.{put-queue}
use Rattle.fhir_derive_check.proofs.queue.Queue.put.Goals as goal

pub returns-then-is_late-clause-queue : goal.returns-then-is_late-clause-queue
returns-then-is_late-clause-queue c =
    let soon = c.args.self.now.soon.items in
    let late = c.args.self.now.late.items in
    let fresh : has_pair c.args.self.now.waiting c.args.pair ≡ false = grind (arith, c.if-not-branch.false, c.in_ok-insert.ensures.new) in
    put-queue c.args.self.now _ c.args.pair c.in_ok-insert.ensures.pairs (soon ++ late) [] (sym (append_nil (soon ++ late)))
    (ap (λ l. soon ++ l) c.in_ok-push_back.ensures.items ∙ sym (append_assoc soon late (c.args.pair ∷ []))) fresh

pub returns-clause-queue : goal.returns-clause-queue
returns-clause-queue c =
    let soon = c.args.self.now.soon.items in
    let late = c.args.self.now.late.items in
    let fresh : has_pair c.args.self.now.waiting c.args.pair ≡ false = grind (arith, c.if-not-branch.false, c.in_ok-insert.ensures.new) in
    put-queue c.args.self.now _ c.args.pair c.in_ok-insert.ensures.pairs soon late refl
    (ap (λ l. l ++ late) c.in_ok-push_back-2.ensures.items ∙ append_assoc soon (c.args.pair ∷ []) late) fresh
