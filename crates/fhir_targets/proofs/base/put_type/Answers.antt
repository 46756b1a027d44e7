use Rattle.std.proofs.Common.{sym, ◌∙◌, ap}
use Rattle.std.proofs.lemmas.Result.{on_ok_weaker}
use Rattle.fhir_json.specs.Views.{text_seen}
use Rattle.fhir_targets.proofs.Sets.{codes_more, codes_same}
use Rattle.fhir_targets.proofs.base.put_type.Goals as goal

pub returns-in-Some : goal.returns-in-Some
returns-in-Some c =
    on_ok_weaker c.put_text.result
    (λ puts targets h.
    codes_more c.args.schema.now targets c.args.target.now c.in-Some.code.now c.args.codes.now c.put_text.new.set
    (sym c.target_type.ensures ∙ ap text_seen c.in-Some.is) puts h)
    c.put_text.ensures

pub returns-in-None : goal.returns-in-None
returns-in-None c = λ targets h.
    codes_same c.args.schema.now targets c.args.target.now c.args.codes.now (sym c.target_type.ensures ∙ ap text_seen c.in-None.is) h
