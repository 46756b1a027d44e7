-- Where a text is cut: at its first tab or line feed, and at all of its line feeds.
use Rattle.std.proofs.Common.{◌≡◌, ◌≢◌, ℕ, suc, ◌<◌, ◌==◌, false, [], ◌∷◌, ◌++◌, length, get_or}
use Rattle.std.proofs.Common.{Option, Some, None, MatchOption, IfSome, Bor, refl, sym, ap, ◌∙◌, arith, eq-eqb, ne_eqb, lit<}
use Rattle.std.proofs.lemmas.Bool.{cond-true, cond-false}
use Rattle.std.proofs.lemmas.Str.Pattern.{IsSplitOnceResult, split_parts}
use Rattle.fhir_json.specs.Tree.{Text}
use Rattle.fhir_certificate.specs.Reading.{cut_at, lines_of, is_ended}
use Rattle.fhir_certificate.specs.Views.{parts_seen}

-- no byte of the text is c
abbrev pub Lacks : ℕ → Text → Type 0
Lacks c xs = (i : ℕ) → i < length xs → get_or xs i 0 ≢ c

head_lacks : (c x : ℕ) (xs : Text) → Lacks c (x ∷ xs) → (x == c) ≡ false
head_lacks c x xs none = ne_eqb x c (none 0 (omega arith))

pub tail_lacks : (c x : ℕ) (xs : Text) → Lacks c (x ∷ xs) → Lacks c xs
tail_lacks c x xs none i l = none (suc i) (omega arith)

-- ---- the first cut

pub cut_none : (c : ℕ) (xs : Text) → Lacks c xs → cut_at c xs ≡ None
cut_none c [] none = refl
cut_none c (x ∷ xs) none = rw (cut_none c xs (tail_lacks c x xs none)) (cond-false _ _ _ (head_lacks c x xs none))

pub cut_some : (c : ℕ) (xs ys : Text) → Lacks c xs → cut_at c (xs ++ c ∷ ys) ≡ Some (xs, ys)
cut_some c [] ys none = cond-true _ _ _ (eq-eqb c c refl)
cut_some c (x ∷ xs) ys none = rw (cut_some c xs ys (tail_lacks c x xs none)) (cond-false _ _ _ (head_lacks c x xs none))

-- ---- lines

pub lines_none : (xs : Text) → Lacks 10 xs → lines_of xs ≡ []
lines_none [] none = refl
lines_none (x ∷ xs) none = rw (lines_none xs (tail_lacks 10 x xs none)) (cond-false _ _ _ (head_lacks 10 x xs none))

pub lines_at : (xs ys : Text) → Lacks 10 xs → lines_of (xs ++ 10 ∷ ys) ≡ xs ∷ lines_of ys
lines_at [] ys none = refl
lines_at (x ∷ xs) ys none = rw (lines_at xs ys (tail_lacks 10 x xs none)) (cond-false _ _ _ (head_lacks 10 x xs none))

ended_behind : (ys : Text) → is_ended (10 ∷ ys) ≡ is_ended ys
ended_behind [] = refl
ended_behind (y ∷ ys) = refl

pub ended_at : (xs ys : Text) → is_ended (xs ++ 10 ∷ ys) ≡ is_ended ys
ended_at [] ys = ended_behind ys
ended_at (x ∷ []) ys = ended_behind ys
ended_at (x ∷ y ∷ xs) ys = ended_at (y ∷ xs) ys

-- ---- what `split_once` gives

pub first_cut : (c : ℕ) (text : Text) (r : Option (Bor Text × Bor Text)) → IsSplitOnceResult c text r → c < 128 → parts_seen r ≡ cut_at c text
first_cut c text None h low = sym (cut_none c text (split_parts c text None h low))
first_cut c text (Some x) h low =
    let parts = split_parts c text (Some x) h low in
    sym (ap (cut_at c) parts.0 ∙ cut_some c x.0.now x.1.now parts.1)

pub first_line : (text : Text) (r : Option (Bor Text × Bor Text)) → IsSplitOnceResult 10 text r
    → MatchOption r (lines_of text ≡ []) (λ p. lines_of text ≡ p.0.now ∷ lines_of p.1.now)
first_line text None h = lines_none text (split_parts 10 text None h (lit< tt))
first_line text (Some x) h =
    let parts = split_parts 10 text (Some x) h (lit< tt) in
    ap lines_of parts.0 ∙ lines_at x.0.now x.1.now parts.1

pub first_ended : (text : Text) (r : Option (Bor Text × Bor Text)) → IsSplitOnceResult 10 text r → IfSome r (λ p. is_ended text ≡ is_ended p.1.now)
first_ended text None h = tt
first_ended text (Some x) h =
    let parts = split_parts 10 text (Some x) h (lit< tt) in
    ap is_ended parts.0 ∙ ended_at x.0.now x.1.now
