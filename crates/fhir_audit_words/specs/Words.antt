-- A verdict in a few words.
use Rattle.std.specs.Prelude.{codes}
use Rattle.fhir_json.specs.Tree.{Text}
use Rattle.fhir_audit.specs.Verdicts.{VerdictValue, narrows, does_not_narrow, is_not_shown, cannot_be_used, has_no_base}

abbrev pub verdict_word : VerdictValue → Text
verdict_word (narrows c) = codes "narrows"
verdict_word (does_not_narrow pair rule resource) = codes "does not narrow"
verdict_word (is_not_shown pair rule) = codes "isn't shown to narrow"
verdict_word (cannot_be_used side) = codes "can't be used"
verdict_word has_no_base = codes "rests on a base that isn't here"
