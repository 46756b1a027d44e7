use Rattle.std.proofs.Common.{◌++◌, ◌∷◌, List, ℕ, ap, sym, ◌∙◌, string_bytes}
use Rattle.std.specs.List.{flat_map}
use Rattle.fhir_json.specs.Bytes.{dot}
use Rattle.fhir_names.specs.Segments.{SegmentParts, segment_seen}
use Rattle.fhir_inheritance.specs.Keys.{names_joined}
use Rattle.fhir_inheritance.proofs.Paths.{joined-on}
use Rattle.fhir_inheritance.proofs.keys.names_joined.Goals as goal

pub loop-segment-init : goal.loop-segment-init
loop-segment-init c =
    let tail : List SegmentParts → List ℕ = λ ss. flat_map (λ (s : SegmentParts). dot ∷ s.0) ss in
    ap (λ ss. string_bytes c.in_ok-path.path ++ tail ss) c.into_iter-segment-iterator.ensures.into_iter_gives
    ∙ ap (λ (t : List ℕ). t ++ tail c.next.new.self) c.in_ok-path.ensures.ok
    ∙ sym (joined-on (segment_seen c.in-Some.first) c.next.new.self)
    ∙ ap names_joined (sym c.in-Some.ensures.steps ∙ c.segments-segments.ensures)
