-- What is said of OLD's profiles in turn, and how many marks there are.
use Rattle.std.proofs.Common.{◌≡◌, ℕ, zero, suc, ◌+◌, ◌<◌, Bool, List, [], ◌∷◌, ◌++◌, map, length, drop, get_or, Option, refl, sym, ap, ◌∙◌, append_assoc, add-one, arith}
use Rattle.std.specs.List.{enumerate_from}
use Rattle.std.proofs.lemmas.List.{append-nil, drop_all}
use Rattle.fhir_json.specs.Tree.{Text}
use Rattle.fhir_package.specs.Definitions.{ByUrl, Definitions}
use Rattle.fhir_compare.specs.declared.owning.Own.{Own}
use Rattle.fhir_compare.specs.Comparing.{Said, Direction, edges_from, edges}
use Rattle.fhir_compare.specs.Owns.{OwnValue, AreOwnsFrom, AreOwns, fails, all_fail, said_by, all_said_by}
use Rattle.fhir_compare.specs.Views.{own_seen, all_owns}

-- the number and the item at a place, among items that are numbered from a first number on
numbered : {A : Type 0} (first : ℕ) (xs : List A) (i : ℕ) (p : ℕ × A) → i < length (enumerate_from first xs)
    → p ≡ get_or (enumerate_from first xs) i p → (p.0 ≡ first + i) × (drop i xs ≡ p.1 ∷ drop (i + 1) xs)
numbered first [] i p lt is = absurd (omega arith)
numbered first (x ∷ xs) zero p lt is = (let here : p.0 ≡ first = ap (λ q. q.0) is in omega arith, ap (λ q. q.1 ∷ xs) (sym is))
numbered first (x ∷ xs) (suc i) p lt is =
    let rest = numbered (first + 1) xs i p (omega arith) is in
    (let number : p.0 ≡ first + 1 + i = rest.0 in omega arith, rw add-one (rw add-one at rest.1))

as_many : {A : Type 0} (first : ℕ) (xs : List A) → length (enumerate_from first xs) ≡ length xs
as_many first [] = refl
as_many first (x ∷ xs) = ap suc (as_many (first + 1) xs)

module _ (old : Definitions) (in_old in_new : List (Option ℕ)) where
  -- what is said of the one at a place is put behind what is said of those in front of it
  pub said_turn : (owns : List Own) (i : ℕ) (p : ℕ × Own) (acc next all : List Said) → i < length (enumerate_from 0 owns)
      → p ≡ get_or (enumerate_from 0 owns) i p → next ≡ acc ++ said_by old in_old in_new p.0 (own_seen p.1)
      → acc ++ all_said_by old in_old in_new i (all_owns (drop i owns)) ≡ all
      → next ++ all_said_by old in_old in_new (i + 1) (all_owns (drop (i + 1) owns)) ≡ all
  said_turn owns i p acc next all lt is now was =
      let at = numbered 0 owns i p lt is in
      let number : p.0 ≡ i = omega (arith, at.0) in
      let own : OwnValue = own_seen p.1 in
      let rest : List Said = all_said_by old in_old in_new (suc i) (all_owns (drop (i + 1) owns)) in
      ap (λ (k : ℕ). next ++ all_said_by old in_old in_new k (all_owns (drop (i + 1) owns))) (add-one i)
      ∙ ap (λ (ys : List Said). ys ++ rest) (now ∙ ap (λ (k : ℕ). acc ++ said_by old in_old in_new k own) number)
      ∙ append_assoc acc (said_by old in_old in_new i own) rest
      ∙ ap (λ (os : List Own). acc ++ all_said_by old in_old in_new i (all_owns os)) (sym at.1)
      ∙ was

  pub said_end : (owns : List Own) (i : ℕ) (acc all : List Said) → i ≡ length (enumerate_from 0 owns)
      → acc ++ all_said_by old in_old in_new i (all_owns (drop i owns)) ≡ all → acc ≡ all
  said_end owns i acc all end was =
      let none : drop i owns ≡ [] = drop_all i owns (omega (arith, as_many 0 owns)) in
      sym (ap (λ (os : List Own). acc ++ all_said_by old in_old in_new i (all_owns os)) none ∙ append-nil acc) ∙ was

-- ---- as many marks as edges

same_count : {A B : Type 0} (f : A → B) (xs : List A) → length (map f xs) ≡ length xs
same_count f [] = refl
same_count f (x ∷ xs) = ap suc (same_count f xs)

edges_count : (old : Definitions) (k : ℕ) (es : ByUrl) → length (edges_from old k es) ≡ length es
edges_count old k [] = refl
edges_count old k (e ∷ es) = ap suc (edges_count old (suc k) es)

owns_count : (old made : Definitions) (mark : Text) (k : ℕ) (es : ByUrl) (owns : List OwnValue) → AreOwnsFrom old made mark k es owns
    → length owns ≡ length es
owns_count old made mark k [] owns a = ap length a
owns_count old made mark k (e ∷ es) [] a = absurd a
owns_count old made mark k (e ∷ es) (own ∷ owns) a = ap suc (owns_count old made mark (suc k) es owns a.1)

pub marks_count : {A : Type 0} (old made : Definitions) (mark : Text) (way : Direction) (owns : List OwnValue) (marks : List Bool) (lists : List A)
    (seen : A → List ℕ) → AreOwns old made mark owns → marks ≡ all_fail way owns → map seen lists ≡ edges old → length marks ≡ length lists
marks_count old made mark way owns marks lists seen are is edged =
    ap length is
    ∙ same_count (fails way) owns
    ∙ owns_count old made mark 0 old.structure_definitions owns are
    ∙ sym (edges_count old 0 old.structure_definitions)
    ∙ sym (ap length edged)
    ∙ same_count seen lists
