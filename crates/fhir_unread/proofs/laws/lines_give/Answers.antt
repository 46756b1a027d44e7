use Rattle.std.specs.Str.Lines.{lines}
use Rattle.fhir_json.specs.Reading.{text_behind_mark}
use Rattle.fhir_unread.proofs.ReadLines.{given_by_line, line_gives, same_meaning}
use Rattle.fhir_unread.proofs.laws.lines_give.Goals as goal

pub returns-clause-given : goal.returns-clause-given
returns-clause-given c = λ bytes text.
    (λ h. given_by_line text 1 (lines (text_behind_mark bytes)) h, λ w. line_gives text 1 (lines (text_behind_mark bytes)) w)

pub returns-clause-meaning : goal.returns-clause-meaning
returns-clause-meaning c = λ some others same reading u. same_meaning some others same reading u
