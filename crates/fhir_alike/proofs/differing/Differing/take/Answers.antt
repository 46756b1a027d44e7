use Rattle.std.proofs.Common.{◌≡◌, true, false, sym, ◌∙◌}
use Rattle.fhir_alike.specs.Differing.{is_same}
use Rattle.fhir_alike.proofs.Differs.{differ_same, differ_more}
use Rattle.fhir_alike.proofs.differing.Differing.take.Goals as goal

pub returns-then-branch : goal.returns-then-branch
returns-then-branch c =
    let same : is_same c.args.kind c.args.url.now c.args.old.now c.args.new.now ≡ true = sym c.in_ok-is_same.ensures ∙ c.if-branch.true in
    λ seen h. differ_same c.args.kind c.args.old.now c.args.new.now c.args.url.now seen c.args.self.now.urls same h

pub returns-in_ok-put : goal.returns-in_ok-put
returns-in_ok-put c =
    let differs : is_same c.args.kind c.args.url.now c.args.old.now c.args.new.now ≡ false = sym c.in_ok-is_same.ensures ∙ c.if-branch.false in
    λ seen h.
    differ_more c.args.kind c.args.old.now c.args.new.now c.args.url.now seen c.args.self.now.urls c.put.new.self differs c.in_ok-put.ensures.put h
