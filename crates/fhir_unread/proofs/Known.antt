-- Lines that give none of some texts.
use Rattle.std.proofs.Common.{◌≡◌, ℕ, Bool, true, false, cond, not, List, [], ◌∷◌, map, filter, Option, Some, None, refl, ap, ◌∙◌}
use Rattle.fhir_json.specs.Tree.{Text}
use Rattle.fhir_unread.specs.Given.{AreSame, is_known, unknown_lines}

same_known : (xs ys : List Text) → AreSame xs ys → (o : Option Text) → is_known xs o ≡ is_known ys o
same_known xs ys same None = refl
same_known xs ys same (Some t) = same t

-- they are the same lines where the same texts are among them
pub same_unknown : (xs ys : List Text) → AreSame xs ys → (ls : List (ℕ × Option Text)) → unknown_lines xs ls ≡ unknown_lines ys ls
same_unknown xs ys same [] = refl
same_unknown xs ys same (l ∷ ls) =
    ap (λ (b : Bool). map (λ m. m.0) (cond (not b) (l ∷ filter (λ m. not (is_known xs m.1)) ls) (filter (λ m. not (is_known xs m.1)) ls))) (same_known xs ys same l.1)
    ∙ by (is_known ys l.1) (same_unknown xs ys same ls)
  where
    by : (b : Bool) → unknown_lines xs ls ≡ unknown_lines ys ls
        → map (λ m. m.0) (cond (not b) (l ∷ filter (λ m. not (is_known xs m.1)) ls) (filter (λ m. not (is_known xs m.1)) ls))
        ≡ map (λ m. m.0) (cond (not b) (l ∷ filter (λ m. not (is_known ys m.1)) ls) (filter (λ m. not (is_known ys m.1)) ls))
    by true rest = rest
    by false rest = ap (λ (ns : List ℕ). l.0 ∷ ns) rest
