-- Judgements that are made in turn.
use Rattle.std.proofs.Common.{◌≡◌, ◌<◌, ◌≤◌, ◌+◌, ◌++◌, ℕ, zero, suc, List, [], ◌∷◌, length, map, drop, drop-cons, get_or, refl, sym, ap, subst, ◌∙◌, append_assoc, append-nil, arith}
use Rattle.std.specs.Borrow.{Bor}
use Rattle.std.specs.List.{AllZip}
use Rattle.fhir_json.specs.Tree.{Text}
use Rattle.fhir_telling.specs.declared.judgement.Judgement.{Judgement}
use Rattle.fhir_telling.specs.Judgements.{JudgementValue}
use Rattle.fhir_telling.specs.Questions.{QuestionValue}
use Rattle.fhir_telling.specs.Telling.{IsJudgementOf}
use Rattle.fhir_telling.specs.Views.{judgement_seen}

abbrev texts : List (Bor Text) → List Text
texts urls = map (λ u. u.now) urls

-- what is made of those that are left leads to what is made of all
abbrev pub Leads : QuestionValue → Text → (all left : List (Bor Text)) → (front made : List Judgement) → Type 0
Leads q bytes all left front made =
    (rest : List JudgementValue) → AllZip (IsJudgementOf q bytes) (texts left) rest
    → (others : List JudgementValue) × AllZip (IsJudgementOf q bytes) (texts all) others
    × (map judgement_seen front ++ others ≡ map judgement_seen made ++ rest)

map_last : (items : List Judgement) (x : Judgement) → map judgement_seen (items ++ x ∷ []) ≡ map judgement_seen items ++ judgement_seen x ∷ []
map_last [] x = refl
map_last (y ∷ items) x = ap (λ l. judgement_seen y ∷ l) (map_last items x)

drop_all : (urls : List (Bor Text)) (place : ℕ) → length urls ≤ place → drop place urls ≡ []
drop_all [] zero less = refl
drop_all [] (suc place) less = refl
drop_all (n ∷ urls) zero less = absurd (grind arith)
drop_all (n ∷ urls) (suc place) less = drop_all urls place (omega arith)

pub one_more : (q : QuestionValue) (bytes : Text) (all : List (Bor Text)) (place : ℕ) (d : Bor Text) (front made new : List Judgement) (x : Judgement)
    → place < length all → new ≡ made ++ x ∷ [] → IsJudgementOf q bytes (get_or all place d).now (judgement_seen x)
    → Leads q bytes all (drop place all) front made → Leads q bytes all (drop (place + 1) all) front new
one_more q bytes all place d front made new x less is of leads rest so =
    let later : suc place ≡ place + 1 = omega arith in
    let left : texts (drop place all) ≡ (get_or all place d).now ∷ texts (drop (place + 1) all) =
    ap texts (drop-cons all place d less) ∙ ap (λ k. (get_or all place d).now ∷ texts (drop k all)) later in
    let found = leads (judgement_seen x ∷ rest) (subst (λ l. AllZip (IsJudgementOf q bytes) l (judgement_seen x ∷ rest)) (sym left) (of, so)) in (
      found.0,
      found.1,
      found.2 ∙ sym (append_assoc (map judgement_seen made) (judgement_seen x ∷ []) rest)
          ∙ ap (λ l. l ++ rest) (sym (map_last made x))
          ∙ ap (λ l. map judgement_seen l ++ rest) (sym is),
    )

pub ended : (q : QuestionValue) (bytes : Text) (all : List (Bor Text)) (place : ℕ) (front made : List Judgement) → length all ≤ place
    → Leads q bytes all (drop place all) front made
    → (others : List JudgementValue) × AllZip (IsJudgementOf q bytes) (texts all) others × (map judgement_seen made ≡ map judgement_seen front ++ others)
ended q bytes all place front made less leads =
    let none : texts (drop place all) ≡ [] = ap texts (drop_all all place less) in
    let found = leads [] (subst (λ l. AllZip (IsJudgementOf q bytes) l []) (sym none) tt) in
    (found.0, found.1, sym (append-nil (map judgement_seen made)) ∙ sym found.2)
