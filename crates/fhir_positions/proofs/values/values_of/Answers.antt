use Rattle.std.proofs.Common.{◌≡◌, ◌+◌, ◌<◌, ◌≤◌, [], List, ℕ, take, drop, get_or, length, refl, sym, ap, ◌∙◌, arith}
use Rattle.std.proofs.lemmas.List.{take_more, drop_all}
use Rattle.fhir_json.specs.declared.position.Position.{Position}
use Rattle.fhir_json.specs.Reading.{text_behind_mark}
use Rattle.fhir_positions.specs.Positions.{behind_front}
use Rattle.fhir_positions.specs.Lexing.{Seen, seen, settled, passed, lexed, nothing_seen}
use Rattle.fhir_positions.proofs.Counting.{in_text}
use Rattle.fhir_positions.proofs.Lexed.{one_byte}
use Rattle.fhir_positions.proofs.Whole.{values_found}
use Rattle.fhir_positions.proofs.values.values_of.Goals as goal

pub bytes-init : goal.bytes-init
bytes-init c = record {
  lexed = ap (λ (s : Seen). lexed s [] c.behind_mark-text.result.now) c.new-values.ensures.seen;
  stand = c.new-values.ensures.stand c.args.bytes.now;
  at = refl;
  line = omega arith;
  column = omega arith;
}

pub bytes-preserved : goal.bytes-preserved
bytes-preserved c =
    let text = c.behind_mark-text.result.now in
    let i = c.bytes.b-index in
    let within : i < length text = omega arith in
    let at = c.bytes.invariant.at in
    let same : seen c.pass.new.self ≡ passed (behind_front (take i text)) (get_or text i 0) (seen c.bytes.values) =
    c.in_ok-pass.ensures.passed ∙ ap (λ (p : Position). passed p (get_or text i 0) (seen c.bytes.values)) at in
    record {
      lexed = ap (λ (s : Seen). lexed s (take (i + 1) text) (drop (i + 1) text)) same ∙ sym (one_byte (seen c.bytes.values) text i within) ∙ c.bytes.invariant.lexed;
      stand = c.in_ok-pass.ensures.stand c.args.bytes.now (in_text c.args.bytes.now text i c.bytes.at (omega arith) at c.behind_mark-text.ensures.within)
          c.bytes.invariant.stand;
      at = rw (take_more text i 0 within) (c.after-at.ensures.at (take i text) at);
      line = omega (arith, c.after-at.ensures.line);
      column = omega (arith, c.after-at.ensures.column);
    }

pub returns-clause-values : goal.returns-clause-values
returns-clause-values c = λ t reads.
    let text = c.behind_mark-text.result.now in
    let i = c.bytes.b-index in
    let past : length text ≤ i = omega arith in
    let end : seen c.bytes.values ≡ lexed nothing_seen [] (text_behind_mark c.args.bytes.now) =
    ap (λ (rest : List ℕ). lexed (seen c.bytes.values) (take i text) rest) (sym (drop_all i text past))
    ∙ c.bytes.invariant.lexed
    ∙ ap (λ (t : List ℕ). lexed nothing_seen [] t) c.behind_mark-text.ensures.text in
    values_found c.args.bytes.now t c.settle.new.self.found.items
    (ap (λ (z : Seen). z.found) c.in_ok-settle.ensures.settled ∙ ap (λ (z : Seen). settled z.found z.string) end) reads

pub returns-clause-within : goal.returns-clause-within
returns-clause-within c = (c.in_ok-settle.ensures.stand c.args.bytes.now c.bytes.invariant.stand).0
