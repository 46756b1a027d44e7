use Rattle.std.proofs.Common.{◌++◌, codes}
use Rattle.fhir_lines.specs.Lines.{escaped}
use Rattle.fhir_answers.proofs.OnALine.{line_clean}
use Rattle.fhir_answers.proofs.laws.fault_text_is_a_line.Goals as goal

pub returns : goal.returns
returns c = λ number subject is.
    let words = number ++ codes " " ++ subject in
    line_clean (escaped words) (c.escaped_texts.ensures.text words is) (c.escaped_texts.ensures.clean words is)
