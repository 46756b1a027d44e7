-- What lines give.
use Rattle.std.proofs.Common.{◌≡◌, ℕ, zero, suc, ◌+◌, ◌<◌, List, [], ◌∷◌, ◌++◌, Bool, true, false, length, drop, get_or, Option, refl, sym, ap, ◌∙◌, append_assoc, add-one, arith}
use Rattle.std.specs.List.{enumerate_from}
use Rattle.std.proofs.lemmas.List.{append-nil, drop_all}
use Rattle.fhir_json.specs.Tree.{Text}
use Rattle.fhir_vouching.specs.Given.{is_comment, given_from}

-- the number and the line at a place, among lines that are numbered from a first number on
pub numbered : (first : ℕ) (ls : List Text) (i : ℕ) (p : ℕ × Text) → i < length (enumerate_from first ls)
    → p ≡ get_or (enumerate_from first ls) i p → (p.0 ≡ first + i) × (drop i ls ≡ p.1 ∷ drop (i + 1) ls)
numbered first [] i p lt is = absurd (omega arith)
numbered first (l ∷ ls) zero p lt is = (let here : p.0 ≡ first = ap (λ q. q.0) is in omega arith, ap (λ q. q.1 ∷ ls) (sym is))
numbered first (l ∷ ls) (suc i) p lt is =
    let rest = numbered (first + 1) ls i p (omega arith) is in
    (let number : p.0 ≡ first + 1 + i = rest.0 in omega arith, rw add-one (rw add-one at rest.1))

-- lines give what the first gives, and then what the others give
first_line : (number : ℕ) (line : Text) (more : List Text)
    → given_from number (line ∷ more) ≡ given_from number (line ∷ []) ++ given_from (number + 1) more
first_line number line more = go (is_comment line) refl
  where
    go : (b : Bool) → is_comment line ≡ b → given_from number (line ∷ more) ≡ given_from number (line ∷ []) ++ given_from (number + 1) more
    go true e = rw e refl
    go false e = rw e refl

-- a turn: where what the line at a place gives is put behind what was given, what the lines behind it give is still to come
pub turn : (ls : List Text) (i : ℕ) (p : ℕ × Text) (done with all : List (ℕ × Option Text)) → i < length (enumerate_from 0 ls)
    → p ≡ get_or (enumerate_from 0 ls) i p → with ≡ done ++ given_from (p.0 + 1) (p.1 ∷ [])
    → done ++ given_from (i + 1) (drop i ls) ≡ all → with ++ given_from (i + 1 + 1) (drop (i + 1) ls) ≡ all
turn ls i p done with all lt is more h =
    let at = numbered 0 ls i p lt is in
    let number : p.0 ≡ i = omega (arith, at.0) in
    let rest : List (ℕ × Option Text) = given_from (i + 1 + 1) (drop (i + 1) ls) in
    ap (λ w. w ++ rest) (more ∙ ap (λ n. done ++ given_from (n + 1) (p.1 ∷ [])) number)
    ∙ append_assoc done (given_from (i + 1) (p.1 ∷ [])) rest
    ∙ ap (λ w. done ++ w) (sym (ap (given_from (i + 1)) at.1 ∙ first_line (i + 1) p.1 (drop (i + 1) ls)))
    ∙ h

-- numbering keeps the number of lines
as_many : (first : ℕ) (ls : List Text) → length (enumerate_from first ls) ≡ length ls
as_many first [] = refl
as_many first (l ∷ ls) = ap suc (as_many (first + 1) ls)

-- behind the last line, all was given
pub no_line : (ls : List Text) (i : ℕ) (done all : List (ℕ × Option Text)) → i ≡ length (enumerate_from 0 ls)
    → done ++ given_from (i + 1) (drop i ls) ≡ all → done ≡ all
no_line ls i done all end h =
    let none : drop i ls ≡ [] = drop_all i ls (omega (arith, as_many 0 ls)) in
    sym (ap (λ w. done ++ w) (ap (given_from (i + 1)) none) ∙ append-nil done) ∙ h
