use Rattle.std.proofs.Common.{sym, ◌∙◌, ap, is_some}
use Rattle.fhir_names.proofs.Positions.{kept, added}
use Rattle.fhir_names.proofs.index.Index.add.Goals as goal

pub returns-then-is_some-clause-added : goal.returns-then-is_some-clause-added
returns-then-is_some-clause-added c = λ names h e.
    kept c.args.self.now names c.args.name.now (ap is_some (sym c.get.ensures) ∙ sym c.is_some.ensures ∙ c.if-is_some.true) h

pub returns-clause-added : goal.returns-clause-added
returns-clause-added c = λ names h e.
    added c.args.self.now c.put.new.self names c.args.name.now c.args.place
    (ap is_some (sym c.get.ensures) ∙ sym c.is_some.ensures ∙ c.if-is_some.false) c.in_ok-put.ensures.put e h
