-- The lines on several things, one thing more at a time.
use Rattle.std.proofs.Common.{◌≡◌, ◌+◌, ◌<◌, ◌≤◌, ℕ, List, [], ◌∷◌, ◌++◌, map, drop, get_or, length, refl, sym, ap, subst, ◌∙◌, append_assoc}
use Rattle.std.proofs.lemmas.List.{append-nil, at_drop_more, at_drop_all}
use Rattle.fhir_json.specs.Tree.{Text}
use Rattle.fhir_lines.specs.Each.{AreOnEach}

module _ {A B : Type 0} (AreOn : A → List Text → Type 0) (seen : B → A) where
  -- the lines before are those on the things before a place: with those on the others behind them they are those on all
  abbrev pub SoFar : List B → ℕ → List Text → Type 0
  SoFar things i before = (rest : List Text) → AreOnEach AreOn (map seen (drop i things)) rest → AreOnEach AreOn (map seen things) (before ++ rest)

  -- one thing more
  pub one_more : (things : List B) (i : ℕ) (one : B) (before own after : List Text) → i < length things → get_or things i one ≡ one → AreOn (seen one) own
      → after ≡ before ++ own → SoFar things i before → SoFar things (i + 1) after
  one_more things i one before own after lt is are after_is so rest more =
      subst (λ l. AreOnEach AreOn (map seen things) l) (sym (ap (λ (l : List Text). l ++ rest) after_is ∙ append_assoc before own rest))
      (so (own ++ rest)
      (subst (λ l. AreOnEach AreOn l (own ++ rest))
      (sym (at_drop_more (λ l. map seen l) things i one lt ∙ ap (λ (x : B). seen x ∷ map seen (drop (i + 1) things)) is))
      (own, rest, refl, are, more)))

  -- where no thing is left, they are the lines on all
  pub all_on : (things : List B) (i : ℕ) (lines : List Text) → length things ≤ i → SoFar things i lines → AreOnEach AreOn (map seen things) lines
  all_on things i lines past so =
      subst (λ l. AreOnEach AreOn (map seen things) l) (append-nil lines)
      (so [] (subst (λ l. AreOnEach AreOn l []) (sym (at_drop_all (λ l. map seen l) things i past)) refl))
