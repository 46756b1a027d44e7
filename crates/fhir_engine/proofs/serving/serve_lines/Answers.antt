use Rattle.fhir_engine.proofs.serving.serve_lines.Goals as goal

pub returns-in-Done-clause-served : goal.returns-in-Done-clause-served
returns-in-Done-clause-served g c is =
    let told = c.in-Done.ensures in
    record {
      lines = told.0;
      are_all = told.3;
      answered = record { last = c.serve.new.service; written = told.1; served = told.2; appended = told.4 };
    }

pub returns-in-Unread-clause-partly : goal.returns-in-Unread-clause-partly
returns-in-Unread-clause-partly g c is =
    let told = c.in-Unread.ensures in
    record {
      lines = told.0;
      are_first = told.3;
      answered = record { last = c.serve.new.service; written = told.1; served = told.2; appended = told.4 };
    }
