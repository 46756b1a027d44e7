-- A mark that is grown begins no text.
use Rattle.std.proofs.Common.{◌≡◌, ℕ, zero, suc, ◌≤◌, ◌<◌, ◌+◌, Bool, true, false, nat_le, ◌&&◌, List, [], ◌∷◌, ◌++◌, length, drop, if◌then◌else◌, codes}
use Rattle.std.proofs.Common.{refl, ap, sym, ◌∙◌, subst, inl, inr, arith, length-append}
use Rattle.std.specs.Prelude.{nat_eq}
use Rattle.std.specs.List.{starts_with, Contains}
use Rattle.std.proofs.lemmas.Bool.Decides.{nat_tests}
use Rattle.std.proofs.lemmas.List.Concat.{flat_map-append}
use Rattle.std.proofs.lemmas.List.Elements.{Contains-push_cases, Contains-append_cases}
use Rattle.fhir_json.specs.Tree.{Text}
use Rattle.fhir_alike.specs.Mark.{tail_of, tails_of, fewer_behind, grown_in, grown, BeginsNone}

append_nothing : {A : Type 0} (xs : List A) → xs ++ [] ≡ xs
append_nothing [] = refl
append_nothing (x ∷ xs) = ap (λ ys. x ∷ ys) (append_nothing xs)

-- ---- one text

-- a stem is read byte by byte
tail_more : (n : ℕ) (stem : Text) (x : ℕ) (text : Text) → tail_of (n ∷ stem) (x ∷ text) ≡ (if nat_eq n x then tail_of stem text else [])
tail_more n stem x text = go (nat_eq n x)
  where
    go : (b : Bool) → (if (b && starts_with nat_eq text stem) then drop (length stem) text ∷ [] else []) ≡ (if b then tail_of stem text else [])
    go true = refl
    go false = refl

-- what stands behind a stem and more is what stands behind that more, behind the stem
tail_behind : (stem more text : Text) → tail_of (stem ++ more) text ≡ tails_of more (tail_of stem text)
tail_behind [] more text = sym (append_nothing (tail_of more text))
tail_behind (n ∷ stem) more [] = refl
tail_behind (n ∷ stem) more (x ∷ text) =
    tail_more n (stem ++ more) x text ∙ go (nat_eq n x) (tail_behind stem more text) ∙ sym (ap (tails_of more) (tail_more n stem x text))
  where
    go : (b : Bool) → tail_of (stem ++ more) text ≡ tails_of more (tail_of stem text)
        → (if b then tail_of (stem ++ more) text else []) ≡ tails_of more (if b then tail_of stem text else [])
    go true e = e
    go false e = refl

not_both : (x : ℕ) → nat_eq 48 x ≡ true → nat_eq 49 x ≡ true → ⊥
not_both x e f = grind (arith, nat_tests)

-- no text begins with both digits
one_digit : (text : Text) → length (tail_of (48 ∷ []) text) + length (tail_of (49 ∷ []) text) ≤ 1
one_digit [] = omega arith
one_digit (x ∷ text) = go (nat_eq 48 x) refl (nat_eq 49 x) refl
  where
    go : (a : Bool) → nat_eq 48 x ≡ a → (b : Bool) → nat_eq 49 x ≡ b
        → length (tail_of (48 ∷ []) (x ∷ text)) + length (tail_of (49 ∷ []) (x ∷ text)) ≤ 1
    go true e true f = absurd (not_both x e f)
    go true e false f =
        let none : tail_of (49 ∷ []) (x ∷ text) ≡ [] = tail_more 49 [] x text ∙ ap (λ c. if c then tail_of [] text else []) f in
        let one : tail_of (48 ∷ []) (x ∷ text) ≡ tail_of [] text = tail_more 48 [] x text ∙ ap (λ c. if c then tail_of [] text else []) e in
        omega (arith, ap length none, ap length one)
    go false e true f =
        let none : tail_of (48 ∷ []) (x ∷ text) ≡ [] = tail_more 48 [] x text ∙ ap (λ c. if c then tail_of [] text else []) e in
        let one : tail_of (49 ∷ []) (x ∷ text) ≡ tail_of [] text = tail_more 49 [] x text ∙ ap (λ c. if c then tail_of [] text else []) f in
        omega (arith, ap length none, ap length one)
    go false e false f =
        let none : tail_of (48 ∷ []) (x ∷ text) ≡ [] = tail_more 48 [] x text ∙ ap (λ c. if c then tail_of [] text else []) e in
        let no : tail_of (49 ∷ []) (x ∷ text) ≡ [] = tail_more 49 [] x text ∙ ap (λ c. if c then tail_of [] text else []) f in
        omega (arith, ap length none, ap length no)

-- ---- some texts

tails_behind : (stem more : Text) (texts : List Text) → tails_of (stem ++ more) texts ≡ tails_of more (tails_of stem texts)
tails_behind stem more [] = refl
tails_behind stem more (t ∷ ts) =
    ap (λ xs. xs ++ tails_of (stem ++ more) ts) (tail_behind stem more t)
    ∙ ap (λ xs. tails_of more (tail_of stem t) ++ xs) (tails_behind stem more ts)
    ∙ sym (flat_map-append (tail_of more) (tail_of stem t) (tails_of stem ts))

parts : (texts : List Text) → length (tails_of (48 ∷ []) texts) + length (tails_of (49 ∷ []) texts) ≤ length texts
parts [] = omega arith
parts (t ∷ ts) =
    omega (
      arith,
      one_digit t,
      parts ts,
      length-append (tail_of (48 ∷ []) t) (tails_of (48 ∷ []) ts),
      length-append (tail_of (49 ∷ []) t) (tails_of (49 ∷ []) ts),
    )

-- ---- the digit with which fewer texts begin

-- the digit that a test picks, with what stands behind it
picked : Bool → List Text → Text × List Text
picked b texts = if b then (codes "0", tails_of (codes "0") texts) else (codes "1", tails_of (codes "1") texts)

picked_is : (b : Bool) (texts : List Text) → (picked b texts).1 ≡ tails_of (picked b texts).0 texts
unfolding picked
picked_is true texts = refl
picked_is false texts = refl

picked_half : (b : Bool) (texts : List Text) → nat_le (length (tails_of (codes "0") texts)) (length (tails_of (codes "1") texts)) ≡ b
    → length (picked b texts).1 + length (picked b texts).1 ≤ length texts
unfolding picked
picked_half true texts e = let h = parts texts in grind (arith, nat_tests)
picked_half false texts e = let h = parts texts in grind (arith, nat_tests)

fewer_is : (texts : List Text) → (fewer_behind texts).1 ≡ tails_of (fewer_behind texts).0 texts
unfolding picked
fewer_is texts = picked_is (nat_le (length (tails_of (codes "0") texts)) (length (tails_of (codes "1") texts))) texts

fewer_half : (texts : List Text) → length (fewer_behind texts).1 + length (fewer_behind texts).1 ≤ length texts
unfolding picked
fewer_half texts = picked_half (nat_le (length (tails_of (codes "0") texts)) (length (tails_of (codes "1") texts))) texts refl

-- ---- the mark

grown_in_fresh : (n : ℕ) (all texts : List Text) (mark : Text) → length texts ≤ n → texts ≡ tails_of mark all
    → tails_of (grown_in n texts mark) all ≡ []
grown_in_fresh zero all [] mark h e = sym e
grown_in_fresh zero all (t ∷ ts) mark h e = absurd (omega arith)
grown_in_fresh (suc n) all [] mark h e = sym e
grown_in_fresh (suc n) all (t ∷ ts) mark h e =
    let half = fewer_half (t ∷ ts) in
    let fewer : length (fewer_behind (t ∷ ts)).1 ≤ n = omega arith in
    grown_in_fresh n all (fewer_behind (t ∷ ts)).1 (mark ++ (fewer_behind (t ∷ ts)).0) fewer
    (fewer_is (t ∷ ts)
    ∙ ap (tails_of (fewer_behind (t ∷ ts)).0) e
    ∙ sym (tails_behind mark (fewer_behind (t ∷ ts)).0 all))

-- ---- none begins with it

nothing_behind : (mark text : Text) → tail_of mark text ≡ [] → starts_with nat_eq text mark ≡ false
nothing_behind mark text e = go (starts_with nat_eq text mark) e
  where
    go : (b : Bool) → (if b then drop (length mark) text ∷ [] else []) ≡ [] → b ≡ false
    go true f = cc
    go false f = refl

no_front : {A : Type 0} (xs ys : List A) → xs ++ ys ≡ [] → (xs ≡ []) × (ys ≡ [])
no_front [] ys e = (refl, e)
no_front (x ∷ xs) ys e = cc

nothing_in : (text : Text) → Contains [] text → ⊥
nothing_in text h = omega (arith, h.1)

none_begins : (mark : Text) (texts : List Text) → tails_of mark texts ≡ [] → BeginsNone mark texts
none_begins mark [] e text there = absurd (nothing_in text there)
none_begins mark (t ∷ ts) e text there =
    let both = no_front (tail_of mark t) (tails_of mark ts) e in
    elim (Contains-append_cases (t ∷ []) ts text there) [
      | inl first ↦ elim (Contains-push_cases [] t text first) [
        | inl nowhere ↦ absurd (nothing_in text nowhere)
        | inr same ↦ subst (λ s. starts_with nat_eq s mark ≡ false) same (nothing_behind mark t both.0)
      ]
      | inr behind ↦ none_begins mark ts both.1 text behind
    ]

-- digits behind a stem, as long as some text begins with it
pub grown_fresh : (stem : Text) (texts : List Text) → BeginsNone (grown (tails_of stem texts) stem) texts
grown_fresh stem texts =
    none_begins (grown (tails_of stem texts) stem) texts
    (grown_in_fresh (length (tails_of stem texts)) texts (tails_of stem texts) stem (omega arith) refl)

-- ---- turns of its loop

-- the fuel is enough
enough : (n m : ℕ) (texts : List Text) (mark : Text) → length texts ≤ n → length texts ≤ m → grown_in n texts mark ≡ grown_in m texts mark
enough zero zero texts mark h k = refl
enough zero (suc m) [] mark h k = refl
enough zero (suc m) (t ∷ ts) mark h k = absurd (omega arith)
enough (suc n) zero [] mark h k = refl
enough (suc n) zero (t ∷ ts) mark h k = absurd (omega arith)
enough (suc n) (suc m) [] mark h k = refl
enough (suc n) (suc m) (t ∷ ts) mark h k =
    let half = fewer_half (t ∷ ts) in
    enough n m (fewer_behind (t ∷ ts)).1 (mark ++ (fewer_behind (t ∷ ts)).0) (omega arith) (omega arith)

grown_step : (texts : List Text) (mark : Text) → 0 < length texts
    → grown texts mark ≡ grown (fewer_behind texts).1 (mark ++ (fewer_behind texts).0)
grown_step [] mark h = absurd (omega arith)
grown_step (t ∷ ts) mark h =
    let half = fewer_half (t ∷ ts) in
    enough (length ts) (length (fewer_behind (t ∷ ts)).1) (fewer_behind (t ∷ ts)).1 (mark ++ (fewer_behind (t ∷ ts)).0) (omega arith) (omega arith)

digit_of : Text × List Text → Text
digit_of p = p.0

behind_of : Text × List Text → List Text
behind_of p = p.1

pub grown_turn : (texts behind : List Text) (digit mark next all : Text) → 0 < length texts → (digit, behind) ≡ fewer_behind texts
    → next ≡ mark ++ digit → grown texts mark ≡ all → grown behind next ≡ all
unfolding digit_of behind_of
grown_turn texts behind digit mark next all h e n was =
    let d : digit ≡ (fewer_behind texts).0 = ap digit_of e in
    let b : behind ≡ (fewer_behind texts).1 = ap behind_of e in
    ap (λ bs. grown bs next) b
    ∙ ap (grown (fewer_behind texts).1) (n ∙ ap (λ s. mark ++ s) d)
    ∙ sym (grown_step texts mark h)
    ∙ was

pub behind_less : (texts behind : List Text) (digit : Text) → 0 < length texts → (digit, behind) ≡ fewer_behind texts → length behind < length texts
unfolding behind_of
behind_less texts behind digit h e =
    let b : behind ≡ (fewer_behind texts).1 = ap behind_of e in
    let half = fewer_half texts in
    omega (arith, ap length b)
