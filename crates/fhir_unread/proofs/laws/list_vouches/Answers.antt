use Rattle.std.proofs.Common.{List, None, ap, ◌∙◌}
use Rattle.std.specs.List.{list_any}
use Rattle.std.specs.Str.{bytes_eq}
use Rattle.fhir_json.specs.Tree.{Text}
use Rattle.fhir_facets.specs.Unread.{unread_text}
use Rattle.fhir_findings.specs.Carrying.{text_of, all_carriers}
use Rattle.fhir_findings.specs.Once.{told_once}
use Rattle.fhir_lines.specs.Lines.{escaped}
use Rattle.fhir_unread.specs.Unread.{unread_texts}
use Rattle.fhir_unread.proofs.Vouches.{given_where_carried, list_given, none_told}
use Rattle.fhir_unread.proofs.laws.list_vouches.Goals as goal

pub returns-clause-given : goal.returns-clause-given
returns-clause-given c = λ selection s survey u utf8.
    ap (λ (ts : List Text). list_any (bytes_eq (unread_text u)) ts)
    (list_given survey.definitions (told_once text_of (all_carriers selection s survey)) utf8)
    ∙ given_where_carried (all_carriers selection s survey) u

pub returns-clause-told : goal.returns-clause-told
returns-clause-told c = λ name s survey utf8.
    none_told (escaped name) survey.definitions (told_once text_of (all_carriers None s survey)) (unread_texts None s survey) utf8 (λ t there. there)
