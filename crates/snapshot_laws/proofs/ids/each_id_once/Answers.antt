use Rattle.snapshot_laws.proofs.Whole.{each_once, of_base, of_differential}
use Rattle.snapshot_laws.proofs.ids.each_id_once.Goals as goal

pub returns-clause-once : goal.returns-clause-once
returns-clause-once c = λ p url es whole made. each_once c.one_answer.ensures.one p url es whole made

pub returns-clause-of_base : goal.returns-clause-of_base
returns-clause-of_base c = λ p url base id below es whole rests under made stands.
    of_base c.one_answer.ensures.one p c.one_completion.ensures.snapshots url base id below es whole rests under made stands

pub returns-clause-of_differential : goal.returns-clause-of_differential
returns-clause-of_differential c = λ p url id s es whole at unwritten made stands.
    of_differential c.one_answer.ensures.one p whole url id s es at unwritten made stands
