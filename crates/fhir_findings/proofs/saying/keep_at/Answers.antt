use Rattle.std.proofs.Common.{arith}
use Rattle.std.proofs.lemmas.List.{length-map}
use Rattle.fhir_json.specs.Views.{text_seen}
use Rattle.fhir_findings.specs.Views.{wording_seen, texts_seen, firsts_seen, carrier_seen}
use Rattle.fhir_findings.specs.declared.once.Told.{Told as ToldOf}
use Rattle.fhir_findings.proofs.Wordings.{kept_set, past_found, past_told}
use Rattle.fhir_findings.proofs.saying.keep_at.Goals.{else-place-told-via-then-place-told+else-place-len, else-place-told-via-else-place-told}
use Rattle.fhir_findings.proofs.saying.keep_at.Goals as goal

pub returns-then-place-len : goal.returns-then-place-len
returns-then-place-len c =
    kept_set c.args.told.now c.args.found.now.items c.args.place (wording_seen c.args.wording.now) c.keep.new.kept c.index_mut-kept.result.now
    c.index-told-place.result c.if-place-told.true (omega (arith, c.if-place-len.true, c.len.ensures))
    c.index_mut-kept.ensures.value c.keep.ensures

pub returns-else-place-told : goal.returns-else-place-told
returns-else-place-told c =
    elim c.else-place-told.branch [
      | else-place-told-via-then-place-told+else-place-len w ↦
          let seen = length-map c.args.found.now.items text_seen in
          past_found (firsts_seen c.args.told.now) (texts_seen c.args.found.now.items) c.args.place (wording_seen c.args.wording.now)
          (omega (arith, seen, w.len.ensures, w.if-place-len.false))
      | else-place-told-via-else-place-told w ↦
          let seen = length-map c.args.told.now (λ (t : ToldOf). carrier_seen t.first) in
          past_told (firsts_seen c.args.told.now) (texts_seen c.args.found.now.items) c.args.place (wording_seen c.args.wording.now)
          (omega (arith, seen, w.if-place-told.false))
    ]
