use Rattle.std.proofs.Common.{◌≡◌, ◌∙◌, length, rules}
use Rattle.std.specs.Prelude.{IsUtf8}
use Rattle.std.specs.Str.Lossy.{utf8_valid_len}
use Rattle.fhir_json.proofs.Marks.{is_lent_from, placed_text, placed_other, refused_left}
use Rattle.fhir_json.proofs.Within.{left_within}
use Rattle.fhir_json.proofs.reading.read_or_place.Goals as goal

pub returns-in-Ok-clause-lent : goal.returns-in-Ok-clause-lent
returns-in-Ok-clause-lent c =
    let text : c.in-Ok.text.now ≡ c.args.bytes.now = search rules in
    is_lent_from c.args.bytes.now c.tree_of_text.result (rw (c.without_mark.ensures, text) at c.tree_of_text.ensures.lent)

pub returns-in-Ok-clause-exact : goal.returns-in-Ok-clause-exact
returns-in-Ok-clause-exact c =
    let u : IsUtf8 c.args.bytes.now = search rules in
    let text : c.in-Ok.text.now ≡ c.args.bytes.now = search rules in
    rw (placed_text c.args.bytes.now u) (rw (c.without_mark.ensures, text) at c.tree_of_text.ensures.value)

pub returns-in-Err-clause-exact : goal.returns-in-Err-clause-exact
returns-in-Err-clause-exact c =
    let left : c.valid_up_to.result ≡ utf8_valid_len c.args.bytes.now = search rules in
    placed_other c.args.bytes.now c.in-Err.ensures.cases.0 ∙ refused_left (length c.args.bytes.now) left

pub returns-in-Ok-clause-within : goal.returns-in-Ok-clause-within
returns-in-Ok-clause-within c = left_within c.args.bytes.now c.tree_of_text.result (returns-in-Ok-clause-exact c)
