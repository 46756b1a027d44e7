-- Reading from left to right, and the grammar.
use Rattle.std.proofs.Common.{◌≡◌, ℕ, Bool, true, false, not, ◌||◌, eqb, List, [], ◌∷◌, ◌++◌, Option, Some, None, MatchOption, option_map, option_and_then}
use Rattle.std.proofs.Common.{refl, sym, ap, ap₂, subst, ◌∙◌, inl, inr}
use Rattle.std.specs.List.{list_all}
use Rattle.std.proofs.lemmas.Bool.{cases_Bool, and_parts, and_from, eqb-true, ne_eqb, true≢false, false≢true}
use Rattle.std.proofs.lemmas.List.{append-nil}
use Rattle.std.specs.Char.{is_ascii_digit}
use Rattle.fhir_json.specs.Bytes.{is_empty}
use Rattle.fhir_decimal.specs.Text.{Parts, are_digits, is_whole, IsMinus, IsFraction, IsSign, IsExponent, IsDecimal}
use Rattle.fhir_decimal.specs.Reading.{digits_of, after_digits, is_negative, after_minus, digits_and_rest, cut_some_digits, cut_fraction, lowers, after_sign}
use Rattle.fhir_decimal.specs.Reading.{cut_exponent, parts_with, parts_behind, parts}
use Rattle.fhir_decimal.proofs.Steps.{some_is, no_some, some_then, chosen, Lacks, front_passes, front_again, rest_again, front_and_rest}

-- ---- what is read has these parts

minus_taken : (bs : List ℕ) → (m : List ℕ) × (bs ≡ m ++ after_minus bs) × IsMinus m (is_negative bs)
minus_taken [] = ([], refl, inr (refl, refl))
minus_taken (b ∷ bs) =
    elim (cases_Bool (eqb b 45)) [
      | inl is ↦ (b ∷ [], rw is refl, inl (ap (λ (c : ℕ). c ∷ []) (eqb-true b 45 is), is))
      | inr isnt ↦ ([], rw isnt refl, inr (refl, isnt))
    ]

sign_taken : (bs : List ℕ) → (s : List ℕ) × (bs ≡ s ++ after_sign bs) × IsSign s (lowers bs)
sign_taken [] = ([], refl, inr (inr refl, refl))
sign_taken (b ∷ bs) =
    elim (cases_Bool (eqb b 45)) [
      | inl minus ↦ (b ∷ [], rw minus refl, inl (ap (λ (c : ℕ). c ∷ []) (eqb-true b 45 minus), minus))
      | inr other ↦
          elim (cases_Bool (eqb b 43)) [
            | inl plus ↦ (b ∷ [], rw (other, plus) refl, inr (inl (ap (λ (c : ℕ). c ∷ []) (eqb-true b 43 plus)), other))
            | inr neither ↦ ([], rw (other, neither) refl, inr (inr refl, other))
          ]
    ]

some_digits_taken : (bs : List ℕ) (r : List ℕ × List ℕ) → cut_some_digits bs ≡ Some r → (bs ≡ r.0 ++ r.1) × (are_digits r.0 ≡ true)
some_digits_taken bs r e =
    elim (chosen (is_empty (digits_of bs)) _ _ _ e) [
      | inl is ↦ absurd (no_some r is.1)
      | inr isnt ↦
          let same = some_is _ r isnt.1 in
          let all : are_digits (digits_of bs) ≡ true = and_from _ _ (ap not isnt.0) (front_passes is_ascii_digit bs) in
          (front_and_rest is_ascii_digit bs ∙ ap (λ (w : List ℕ × List ℕ). w.0 ++ w.1) same, ap (λ (w : List ℕ × List ℕ). are_digits w.0) (sym same) ∙ all)
    ]

fraction_taken : (bs : List ℕ) (r : List ℕ × List ℕ) → cut_fraction bs ≡ Some r → (f : List ℕ) × (bs ≡ f ++ r.1) × IsFraction f r.0
fraction_taken [] r e =
    let same = some_is _ r e in
    ([], ap (λ (w : List ℕ × List ℕ). w.1) same, inr (refl, ap (λ (w : List ℕ × List ℕ). w.0) (sym same)))
fraction_taken (b ∷ bs) r e =
    elim (chosen (eqb b 46) _ _ _ e) [
      | inl is ↦
          let ds = some_digits_taken bs r is.1 in
          (46 ∷ r.0, ap₂ (λ (c : ℕ) (w : List ℕ). c ∷ w) (eqb-true b 46 is.0) ds.0, inl (refl, ds.1))
      | inr isnt ↦
          let same = some_is _ r isnt.1 in
          ([], ap (λ (w : List ℕ × List ℕ). w.1) same, inr (refl, ap (λ (w : List ℕ × List ℕ). w.0) (sym same)))
    ]

exponent_taken : (bs : List ℕ) (r : Bool × List ℕ) → cut_exponent bs ≡ Some r → IsExponent bs r.0 r.1
exponent_taken [] r e =
    let same = some_is _ r e in
    inr (refl, ap (λ (w : Bool × List ℕ). w.0) (sym same), ap (λ (w : Bool × List ℕ). w.1) (sym same))
exponent_taken (b ∷ bs) r e =
    elim (chosen (eqb b 101 || eqb b 69) _ _ _ e) [
      | inl is ↦
          elim (chosen (are_digits (after_sign bs)) _ _ _ is.1) [
            | inl all ↦ subst (λ (w : Bool × List ℕ). IsExponent (b ∷ bs) w.0 w.1) (some_is _ r all.1) (found is.0 all.0)
            | inr other ↦ absurd (no_some r other.1)
          ]
      | inr isnt ↦ absurd (no_some r isnt.1)
    ]
  where
    found : (eqb b 101 || eqb b 69) ≡ true → are_digits (after_sign bs) ≡ true → IsExponent (b ∷ bs) (lowers bs) (after_sign bs)
    found letter all =
        let s = sign_taken bs in
        inl (record { letter = b; sign = s.0; text = ap (λ (w : List ℕ). b ∷ w) s.1; is_letter = letter; is_sign = s.2; are_digits = all })

whole_filled : (ds : List ℕ) → is_whole ds ≡ true → not (is_empty ds) ≡ true
whole_filled [] h = absurd (false≢true h)
whole_filled (d ∷ ds) h = refl

pub parts_taken : (bs : List ℕ) (p : Parts) → parts bs ≡ Some p → IsDecimal bs p
unfolding parts
parts_taken bs p e =
    let unsigned = after_minus bs in
    let whole = digits_of unsigned in
    let f = some_then (cut_fraction (after_digits unsigned)) (parts_behind (is_negative bs) whole) p e in
    let x = some_then (cut_exponent f.0.1) (parts_with (is_negative bs) whole f.0.0) p f.2 in
    elim (chosen (is_whole whole) _ _ _ x.2) [
      | inl is ↦
          let m = minus_taken bs in
          let w = front_and_rest is_ascii_digit unsigned in
          let fraction = fraction_taken (after_digits unsigned) f.0 f.1 in
          let text : bs ≡ m.0 ++ (whole ++ (fraction.0 ++ f.0.1)) = m.1 ∙ ap (λ (v : List ℕ). m.0 ++ v) (w ∙ ap (λ (v : List ℕ). whole ++ v) fraction.1) in
          let all : are_digits whole ≡ true = and_from _ _ (whole_filled whole is.0) (front_passes is_ascii_digit unsigned) in
          subst (λ (q : Parts). IsDecimal bs q) (some_is _ p is.1) record {
            minus = m.0;
            fraction = fraction.0;
            exponent = f.0.1;
            text = text;
            is_minus = m.2;
            whole_digits = all;
            is_whole = is.0;
            is_fraction = fraction.2;
            is_exponent = exponent_taken f.0.1 x.0 x.1;
          }
      | inr isnt ↦ absurd (no_some p isnt.1)
    ]

-- ---- and a text with these parts is read so

digit_is_not : (b c : ℕ) → is_ascii_digit b ≡ true → is_ascii_digit c ≡ false → eqb b c ≡ false
digit_is_not b c h k = ne_eqb b c (λ (is : b ≡ c). true≢false (sym h ∙ ap is_ascii_digit is ∙ k))

digits_lack : (p : ℕ → Bool) (ds rest : List ℕ) → are_digits ds ≡ true → ((b : ℕ) → is_ascii_digit b ≡ true → p b ≡ false) → Lacks p (ds ++ rest)
digits_lack p [] rest h none = absurd (false≢true h)
digits_lack p (d ∷ ds) rest h none = none d (and_parts (is_ascii_digit d) (list_all is_ascii_digit ds) h).0

all_of : (ds : List ℕ) → are_digits ds ≡ true → list_all is_ascii_digit ds ≡ true
all_of ds h = (and_parts (not (is_empty ds)) (list_all is_ascii_digit ds) h).1

minus_again : (m rest : List ℕ) (n : Bool) → IsMinus m n → Lacks (λ b. eqb b 45) rest → (is_negative (m ++ rest) ≡ n) × (after_minus (m ++ rest) ≡ rest)
minus_again m rest n (inl e) stop = rw (e.0, e.1) (refl, refl)
minus_again m rest n (inr e) stop = rw (e.0, e.1) (none rest stop)
  where
    none : (bs : List ℕ) → Lacks (λ b. eqb b 45) bs → (is_negative bs ≡ false) × (after_minus bs ≡ bs)
    none [] h = (refl, refl)
    none (b ∷ bs) h = (h, rw h refl)

sign_again : (s rest : List ℕ) (n : Bool) → IsSign s n → Lacks (λ b. eqb b 45) rest → Lacks (λ b. eqb b 43) rest
    → (lowers (s ++ rest) ≡ n) × (after_sign (s ++ rest) ≡ rest)
sign_again s rest n (inl e) minus plus = rw (e.0, e.1) (refl, refl)
sign_again s rest n (inr (inl e, f)) minus plus = rw (e, f) (refl, refl)
sign_again s rest n (inr (inr e, f)) minus plus = rw (e, f) (none rest minus plus)
  where
    none : (bs : List ℕ) → Lacks (λ b. eqb b 45) bs → Lacks (λ b. eqb b 43) bs → (lowers bs ≡ false) × (after_sign bs ≡ bs)
    none [] h k = (refl, refl)
    none (b ∷ bs) h k = (h, rw (h, k) refl)

some_digits_again : (ds rest : List ℕ) → are_digits ds ≡ true → Lacks is_ascii_digit rest → cut_some_digits (ds ++ rest) ≡ Some (ds, rest)
some_digits_again [] rest h stop = absurd (false≢true h)
some_digits_again (d ∷ ds) rest h stop =
    let all = all_of (d ∷ ds) h in
    let front : digits_of ((d ∷ ds) ++ rest) ≡ d ∷ ds = front_again is_ascii_digit (d ∷ ds) rest all stop in
    let back : after_digits ((d ∷ ds) ++ rest) ≡ rest = rest_again is_ascii_digit (d ∷ ds) rest all stop in
    made (digits_of ((d ∷ ds) ++ rest)) (after_digits ((d ∷ ds) ++ rest)) front back
  where
    made : (f r : List ℕ) → f ≡ d ∷ ds → r ≡ rest → digits_and_rest f r ≡ Some (d ∷ ds, rest)
    made f r e k = rw (e, k) refl

exponent_begins : (p : ℕ → Bool) (x : List ℕ) (l : Bool) (ds : List ℕ) → IsExponent x l ds → p 101 ≡ false → p 69 ≡ false → Lacks p x
exponent_begins p x l ds (inr e) small large = subst (λ (v : List ℕ). Lacks p v) (sym e.0) tt
exponent_begins p x l ds (inl h) small large = subst (λ (v : List ℕ). Lacks p v) (sym h.text) (letter_is h.letter h.is_letter)
  where
    letter_is : (b : ℕ) → (eqb b 101 || eqb b 69) ≡ true → p b ≡ false
    letter_is b k =
        elim (cases_Bool (eqb b 101)) [
          | inl is ↦ subst (λ (c : ℕ). p c ≡ false) (sym (eqb-true b 101 is)) small
          | inr isnt ↦ let other : eqb b 69 ≡ true = rw isnt at k in subst (λ (c : ℕ). p c ≡ false) (sym (eqb-true b 69 other)) large
        ]

exponent_again : (x : List ℕ) (l : Bool) (ds : List ℕ) → IsExponent x l ds → cut_exponent x ≡ Some (l, ds)
exponent_again x l ds (inr e) = rw (e.0, e.1, e.2) refl
exponent_again x l ds (inl h) =
    let lack =
    λ (c : ℕ) (k : is_ascii_digit c ≡ false). subst (λ (w : List ℕ). Lacks (λ b. eqb b c) w) (append-nil ds)
    (digits_lack (λ b. eqb b c) ds [] h.are_digits (λ b d. digit_is_not b c d k)) in
    let s = sign_again h.sign ds l h.is_sign (lack 45 refl) (lack 43 refl) in
    ap cut_exponent h.text ∙ rw (h.is_letter, s.1, s.0, h.are_digits) refl

fraction_again : (f ds x : List ℕ) → IsFraction f ds → Lacks is_ascii_digit x → Lacks (λ b. eqb b 46) x → cut_fraction (f ++ x) ≡ Some (ds, x)
fraction_again f ds x (inl e) stop point = rw e.0 (some_digits_again ds x e.1 stop)
fraction_again f ds x (inr e) stop point = rw (e.0, e.1) (none x point)
  where
    none : (bs : List ℕ) → Lacks (λ b. eqb b 46) bs → cut_fraction bs ≡ Some ([], bs)
    none [] h = refl
    none (b ∷ bs) h = rw h refl

fraction_begins : (f ds x : List ℕ) → IsFraction f ds → Lacks is_ascii_digit x → Lacks is_ascii_digit (f ++ x)
fraction_begins f ds x (inl e) stop = subst (λ (v : List ℕ). Lacks is_ascii_digit (v ++ x)) (sym e.0) refl
fraction_begins f ds x (inr e) stop = subst (λ (v : List ℕ). Lacks is_ascii_digit (v ++ x)) (sym e.0) stop

pub parts_again : (bs : List ℕ) (p : Parts) → IsDecimal bs p → parts bs ≡ Some p
unfolding parts
parts_again bs p h =
    let end_digit : Lacks is_ascii_digit h.exponent = exponent_begins is_ascii_digit h.exponent p.lowers p.exponent h.is_exponent refl refl in
    let end_point : Lacks (λ b. eqb b 46) h.exponent = exponent_begins (λ b. eqb b 46) h.exponent p.lowers p.exponent h.is_exponent refl refl in
    let behind = h.fraction ++ h.exponent in
    let behind_digit : Lacks is_ascii_digit behind = fraction_begins h.fraction p.fraction h.exponent h.is_fraction end_digit in
    let whole_lacks : Lacks (λ b. eqb b 45) (p.whole ++ behind) = digits_lack (λ b. eqb b 45) p.whole behind h.whole_digits (λ b d. digit_is_not b 45 d refl) in
    let m = minus_again h.minus (p.whole ++ behind) p.negative h.is_minus whole_lacks in
    let negative : is_negative bs ≡ p.negative = ap is_negative h.text ∙ m.0 in
    let unsigned : after_minus bs ≡ p.whole ++ behind = ap after_minus h.text ∙ m.1 in
    let whole : digits_of (after_minus bs) ≡ p.whole =
    ap digits_of unsigned ∙ front_again is_ascii_digit p.whole behind (all_of p.whole h.whole_digits) behind_digit in
    let rest : after_digits (after_minus bs) ≡ behind =
    ap after_digits unsigned ∙ rest_again is_ascii_digit p.whole behind (all_of p.whole h.whole_digits) behind_digit in
    let fraction = ap cut_fraction rest ∙ fraction_again h.fraction p.fraction h.exponent h.is_fraction end_digit end_point in
    made (is_negative bs) (digits_of (after_minus bs)) (cut_fraction (after_digits (after_minus bs))) h.exponent negative whole fraction
    (exponent_again h.exponent p.lowers p.exponent h.is_exponent) h.is_whole
  where
    made : (n : Bool) (w : List ℕ) (f : Option (List ℕ × List ℕ)) (x : List ℕ) → n ≡ p.negative → w ≡ p.whole → f ≡ Some (p.fraction, x)
        → cut_exponent x ≡ Some (p.lowers, p.exponent) → is_whole p.whole ≡ true → option_and_then (parts_behind n w) f ≡ Some p
    made n w f x a b c d e = rw (a, b, c, d, e) refl

-- ---- what the program reads

pub read_right : {D : Type 0} (seen : D → Parts) (bs : List ℕ) (o : Option D) → option_map seen o ≡ parts bs
    → MatchOption o ((p : Parts) → ¬ IsDecimal bs p) (λ d. IsDecimal bs (seen d))
read_right seen bs (Some d) e = parts_taken bs (seen d) (sym e)
read_right seen bs None e = λ p h. no_some p (e ∙ parts_again bs p h)
