-- Lines of what is told once, one after the other.
use Rattle.std.proofs.Common.{◌≡◌, ◌<◌, ℕ, zero, suc, ◌+◌, List, [], ◌∷◌, ◌++◌, map, take, get_or, length, Option, None, Some, Bor, refl, sym, ap, ap₂, ◌∙◌, arith}
use Rattle.std.proofs.lemmas.List.{map-append, take_more}
use Rattle.fhir_json.specs.Tree.{Text}
use Rattle.fhir_findings.specs.declared.once.Told.{Told as ToldOf}
use Rattle.fhir_findings.specs.Carrying.{Carrier}
use Rattle.fhir_findings.specs.Views.{carrier_seen, told_seen, all_told_seen, firsts_seen, texts_seen}
use Rattle.fhir_lines.specs.declared.line.Line.{Line}
use Rattle.fhir_lines.specs.Lines.{line_seen, lines_seen}
use Rattle.fhir_report.specs.CarrierLines.{carrier_line, said_line}

got : (says : Carrier → Option Text) (told : List ToldOf) (i : ℕ) (x : ToldOf) → i < length told → x ≡ get_or told i x
    → get_or (map says (firsts_seen told)) i None ≡ says (carrier_seen x.first)
got says [] i x h is = absurd (omega arith)
got says (t ∷ told) zero x h is = ap (λ (y : ToldOf). says (carrier_seen y.first)) (sym is)
got says (t ∷ told) (suc i) x h is = got says told i x (omega arith) is

-- a line more
pub next_told : (says : Carrier → Option Text) (told : List ToldOf) (sentences : List (Option (Bor Text))) (i : ℕ) (x : ToldOf) (now new : List Line) (l : Line)
    (sentence : Option Text) → i < length told → x ≡ get_or told i x → texts_seen sentences ≡ map says (firsts_seen told)
    → lines_seen now ≡ map (said_line says) (all_told_seen (take i told)) → new ≡ now ++ l ∷ []
    → line_seen l ≡ carrier_line (carrier_seen x.first) sentence (Some x.count) → sentence ≡ get_or (texts_seen sentences) i None
    → lines_seen new ≡ map (said_line says) (all_told_seen (take (i + 1) told))
next_told says told sentences i x now new l sentence h is said before pushed line at =
    let own : sentence ≡ says (carrier_seen x.first) = at ∙ ap (λ (ss : List (Option Text)). get_or ss i None) said ∙ got says told i x h is in
    ap lines_seen pushed
    ∙ map-append line_seen now (l ∷ [])
    ∙ ap₂ (λ (ls : List _) (v : _). ls ++ v ∷ []) before (line ∙ ap (λ (s : Option Text). carrier_line (carrier_seen x.first) s (Some x.count)) own)
    ∙ sym (map-append (said_line says) (all_told_seen (take i told)) (told_seen x ∷ []))
    ∙ ap (map (said_line says))
    (sym (map-append told_seen (take i told) (x ∷ [])) ∙ ap (map told_seen) (ap (λ (y : ToldOf). take i told ++ y ∷ []) is ∙ sym (take_more told i x h)))
