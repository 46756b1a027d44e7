use Rattle.fhir_lines.specs.Lines.{escaped}
use Rattle.fhir_answers.specs.WrongText.{wrong_words}
use Rattle.fhir_answers.proofs.OnALine.{line_clean}
use Rattle.fhir_answers.proofs.laws.wrong_text_is_a_line.Goals as goal

pub returns : goal.returns
returns c = λ s pair rule is.
    let words = wrong_words s pair rule in
    line_clean (escaped words) (c.escaped_texts.ensures.text words is) (c.escaped_texts.ensures.clean words is)
