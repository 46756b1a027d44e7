-- The definitions of more entries.
use Rattle.std.proofs.Common.{◌≡◌, ℕ, suc, ◌<◌, ◌+◌, List, [], ◌∷◌, ◌++◌, length, drop, ap, sym, ◌∙◌, Some, add-one, append_assoc}
use Rattle.std.specs.List.{slice_get}
use Rattle.std.proofs.lemmas.Option.{slice_get_within, get_or_from_slice_get}
use Rattle.std.proofs.Math.Seq.{drop-cons}
use Rattle.fhir_json.specs.Tree.{Tree}
use Rattle.fhir_definition.specs.Definition.{Definition, definition_of, definitions_from}

cons_at : (es : List (List ℕ × Tree)) (i : ℕ) (e : List ℕ × Tree) → slice_get es i ≡ Some e → drop i es ≡ e ∷ drop (suc i) es
cons_at es i e h =
    let w : i < length es = slice_get_within es i e h in
    drop-cons es i e w ∙ ap (λ x. x ∷ drop (suc i) es) (get_or_from_slice_get es i e e h)

pub definitions_step : (done : List Definition) (i : ℕ) (es : List (List ℕ × Tree)) (url : List ℕ) (t : Tree) (d : Definition) (s : List Definition)
    → slice_get es i ≡ Some (url, t) → d ≡ definition_of i url t → (done ++ definitions_from i (drop i es)) ≡ s
    → ((done ++ d ∷ []) ++ definitions_from (i + 1) (drop (i + 1) es)) ≡ s
definitions_step done i es url t d s at is e =
    let opened : definitions_from i (drop i es) ≡ d ∷ definitions_from (suc i) (drop (suc i) es) =
    ap (definitions_from i) (cons_at es i (url, t) at) ∙ ap (λ x. x ∷ definitions_from (suc i) (drop (suc i) es)) (sym is) in
    rw (add-one, append_assoc) (sym (ap (λ l. done ++ l) opened) ∙ e)

pub definitions_more : (all done : List Definition) (i : ℕ) (es : List (List ℕ × Tree)) (url : List ℕ) (t : Tree) (d : Definition) (s : List Definition)
    → all ≡ done ++ d ∷ [] → slice_get es i ≡ Some (url, t) → d ≡ definition_of i url t → (done ++ definitions_from i (drop i es)) ≡ s
    → (all ++ definitions_from (i + 1) (drop (i + 1) es)) ≡ s
definitions_more all done i es url t d s all_is at is e =
    ap (λ l. l ++ definitions_from (i + 1) (drop (i + 1) es)) all_is ∙ definitions_step done i es url t d s at is e
