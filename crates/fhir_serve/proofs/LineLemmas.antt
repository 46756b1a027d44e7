-- Lines, one after the other.
use Rattle.std.proofs.Common.{◌≡◌, ◌≢◌, ℕ, suc, ◌-◌, ◌<◌, Bool, true, false, ◌&&◌, nat_lt, eqb, cond, List, [], ◌∷◌, ◌++◌, All, None, Some, Option, IfSome, length, take, slice_index, get_or, refl, sym, ap, subst, ◌∙◌, arith, ne_eqb, eq-eqb, eqb-true, ap₂}
use Rattle.std.proofs.lemmas.List.Elements.{All-head, All-tail}
use Rattle.std.proofs.lemmas.List.{get_or_default}
use Rattle.std.proofs.BufReadLemmas.{through_part, take_through_nonempty, drop_through-append}
use Rattle.std.proofs.Transfers.{All-of_StopsAt}
use Rattle.std.specs.Io.{StopsAt}
use Rattle.std.specs.Io.Iter.{u64_saturate}
use Rattle.std.specs.Io.BufRead.{take_through, drop_through, ends_with_byte, strip_last, DropsThrough}
use Rattle.std.specs.Io.KnownBytes.{Consumes, IsAtEnd}
use Rattle.fhir_serve.specs.Lines.{lines_of, begun_with}
use Rattle.fhir_serve.specs.Reading.{Takes}

-- a line before its line feed
pub lines_of-first : (line rest : List ℕ) → All (λ b. b ≢ 10) line → lines_of (line ++ (10 ∷ rest)) ≡ line ∷ lines_of rest
lines_of-first [] rest none = refl
lines_of-first (b ∷ bs) rest none =
    ap (λ e. cond e ([] ∷ lines_of (bs ++ (10 ∷ rest))) (begun_with b (lines_of (bs ++ (10 ∷ rest))))) (ne_eqb b 10 (All-head (λ y. y ≢ 10) b bs none))
    ∙ ap (begun_with b) (lines_of-first bs rest (All-tail (λ y. y ≢ 10) b bs none))

-- a line with none
last-line : (b : ℕ) (bs : List ℕ) → All (λ y. y ≢ 10) (b ∷ bs) → lines_of (b ∷ bs) ≡ (b ∷ bs) ∷ []
last-line b [] none = ap (λ e. cond e ([] ∷ []) ((b ∷ []) ∷ [])) (ne_eqb b 10 (All-head (λ y. y ≢ 10) b [] none))
last-line b (c ∷ cs) none =
    let rest = c ∷ cs in
    ap (λ e. cond e ([] ∷ lines_of rest) (begun_with b (lines_of rest))) (ne_eqb b 10 (All-head (λ y. y ≢ 10) b rest none))
    ∙ ap (begun_with b) (last-line c cs (All-tail (λ y. y ≢ 10) b rest none))

pub lines_of-last : (line : List ℕ) → line ≢ [] → All (λ b. b ≢ 10) line → lines_of line ≡ line ∷ []
lines_of-last [] some none = absurd (some refl)
lines_of-last (b ∷ bs) some none = last-line b bs none

-- what stands before the first line feed
abbrev pub before_feed : List ℕ → List ℕ
before_feed [] = []
before_feed (b ∷ bs) = cond (eqb b 10) [] (b ∷ before_feed bs)

begun : (e : Bool) (b : ℕ) (bs : List ℕ) → begun_with b (lines_of bs) ≡ (b ∷ before_feed bs) ∷ lines_of (drop_through 10 bs)
    → cond e ([] ∷ lines_of bs) (begun_with b (lines_of bs)) ≡ cond e [] (b ∷ before_feed bs) ∷ lines_of (cond e bs (drop_through 10 bs))
begun true b bs h = refl
begun false b bs h = h

-- the first line, and those behind it
pub lines_of-step : (b : ℕ) (bs : List ℕ) → lines_of (b ∷ bs) ≡ before_feed (b ∷ bs) ∷ lines_of (drop_through 10 (b ∷ bs))
lines_of-step b [] = begun (eqb b 10) b [] refl
lines_of-step b (c ∷ cs) = begun (eqb b 10) b (c ∷ cs) (ap (begun_with b) (lines_of-step c cs))

ends-at : (t : List ℕ) (k : ℕ) → length t ≡ suc k → ends_with_byte 10 t ≡ eqb (slice_index t k) 10
ends-at t k long =
    let last : length t - 1 ≡ k = omega arith in
    let some : nat_lt 0 (suc k) ≡ true = grind arith in
    ap₂ (λ n j. nat_lt 0 n && eqb (slice_index t j) 10) long last ∙ ap (λ e. e && eqb (slice_index t k) 10) some

strip-at : (t : List ℕ) (k : ℕ) → length t ≡ suc k → strip_last 10 t ≡ cond (eqb (slice_index t k) 10) (take k t) t
strip-at t k long =
    let last : length t - 1 ≡ k = omega arith in
    ap₂ (λ e j. cond e (take j t) t) (ends-at t k long) last

begun-cond : (e : Bool) (b : ℕ) (xs ys : List ℕ) → cond e (b ∷ xs) (b ∷ ys) ≡ b ∷ cond e xs ys
begun-cond true b xs ys = refl
begun-cond false b xs ys = refl

strip-cons : (b c : ℕ) (cs : List ℕ) → strip_last 10 (b ∷ c ∷ cs) ≡ b ∷ strip_last 10 (c ∷ cs)
strip-cons b c cs =
    let n = length cs in
    strip-at (b ∷ c ∷ cs) (suc n) refl
    ∙ begun-cond (eqb (slice_index (c ∷ cs) n) 10) b (take n (c ∷ cs)) (c ∷ cs)
    ∙ sym (ap (λ l. b ∷ l) (strip-at (c ∷ cs) n refl))

-- the line that was read, without its line feed
pub strip-through : (b : ℕ) (bs : List ℕ) → strip_last 10 (take_through 10 (b ∷ bs)) ≡ before_feed (b ∷ bs)
strip-through b [] = ap (strip_last 10) (begun-cond (eqb b 10) b [] []) ∙ ap (λ l. strip_last 10 (b ∷ l)) (same (eqb b 10)) ∙ strip-at (b ∷ []) 0 refl
  where
    same : (e : Bool) → cond e [] [] ≡ let t : List ℕ = [] in t
    same true = refl
    same false = refl
strip-through b (c ∷ cs) = at (strip-through c cs) (eqb b 10) refl
  where
    through-cons : take_through 10 (c ∷ cs) ≡ c ∷ cond (eqb c 10) [] (take_through 10 cs)
    through-cons = begun-cond (eqb c 10) c [] (take_through 10 cs)

    at : strip_last 10 (take_through 10 (c ∷ cs)) ≡ before_feed (c ∷ cs) → (e : Bool) → eqb b 10 ≡ e
        → strip_last 10 (cond e (b ∷ []) (b ∷ take_through 10 (c ∷ cs))) ≡ cond e [] (b ∷ before_feed (c ∷ cs))
    at rest true h = strip-at (b ∷ []) 0 refl ∙ ap (λ e. cond e [] (b ∷ [])) h
    at rest false h =
        ap (λ l. strip_last 10 (b ∷ l)) through-cons ∙ strip-cons b c (cond (eqb c 10) [] (take_through 10 cs))
        ∙ ap (λ l. b ∷ l) (ap (strip_last 10) (sym through-cons) ∙ rest)

-- a line that was read
pub Takes-held : (old new : Option (List ℕ)) (line read : List ℕ) → line ≡ strip_last 10 read → 0 < length read
    → IfSome old (λ xs. read ≡ take_through 10 xs) → DropsThrough old new 10 → Takes old (line ∷ []) new
Takes-held None new line read is some taken left = tt
Takes-held (Some []) new line read is some taken left = absurd (omega (arith, ap length taken))
Takes-held (Some (b ∷ bs)) new line read is some taken left =
    subst (λ n. Takes (Some (b ∷ bs)) (line ∷ []) n) (sym left)
    (lines_of-step b bs ∙ ap (λ l. l ∷ lines_of (drop_through 10 (b ∷ bs))) (sym (is ∙ ap (strip_last 10) taken ∙ strip-through b bs)))

-- a line of which the reader took a part that ends in the line feed
pub Takes-ended : (old new : Option (List ℕ)) (part : List ℕ) → ends_with_byte 10 part ≡ true → StopsAt part 10 → Consumes old new part
    → (line : List ℕ) × Takes old (line ∷ []) new
Takes-ended None new part ended stops taken = ([], tt)
Takes-ended (Some xs) None part ended stops taken = absurd taken
Takes-ended (Some xs) (Some rest) [] ended stops taken = absurd (cc)
Takes-ended (Some xs) (Some rest) (b ∷ bs) ended stops taken =
    let part = b ∷ bs in
    let k = length bs in
    let last : length part - 1 ≡ k = omega arith in
    let feed : slice_index part k ≡ 10 = eqb-true _ _ (sym (ends-at part k refl) ∙ ended) in
    let cut = through_part 10 part rest stops (λ _. ap (slice_index part) last ∙ feed) (λ h. absurd (omega arith)) in
    (before_feed (part ++ rest), ap lines_of taken ∙ lines_of-step b (bs ++ rest) ∙ ap (λ l. before_feed (part ++ rest) ∷ lines_of l) cut.1)

-- a part that doesn't end in a line feed has none
none-in : (part : List ℕ) → ends_with_byte 10 part ≡ false → StopsAt part 10 → All (λ b. b ≢ 10) part
none-in [] unended stops = stops
none-in (b ∷ bs) unended stops =
    let part = b ∷ bs in
    let k = length bs in
    let last : length part - 1 ≡ k = omega arith in
    let x = slice_index part k in
    let other : x ≢ 10 = λ e. absurd (cc (unended, ends-at part k refl, eq-eqb x 10 e)) in
    All-of_StopsAt part 10 (length part) x refl (λ e. omega arith) (get_or_default part k 0 x (omega arith) ∙ sym (ap (λ j. get_or part j x) last)) other stops

-- a line of which the reader took a part, and then passed over what was left
pub Takes-passed : (old mid new : Option (List ℕ)) (part : List ℕ) → ends_with_byte 10 part ≡ false → StopsAt part 10 → Consumes old mid part
    → DropsThrough mid new 10 → (length part ≡ 0 → IfSome mid (λ xs. 0 < length xs))
    → (line : List ℕ) × Takes old (line ∷ []) new
Takes-passed None mid new part unended stops taken left some = ([], tt)
Takes-passed (Some xs) None new part unended stops taken left some = absurd taken
Takes-passed (Some xs) (Some ys) new part unended stops taken left some =
    subst (λ n. (line : List ℕ) × Takes (Some xs) (line ∷ []) n) (sym left) (at part (none-in part unended stops) taken some)
  where
    at : (part : List ℕ) → All (λ b. b ≢ 10) part → xs ≡ part ++ ys → (length part ≡ 0 → 0 < length ys)
        → (line : List ℕ) × (lines_of xs ≡ line ∷ lines_of (drop_through 10 ys))
    at [] none is some = first ys (some refl) is
      where
        first : (bs : List ℕ) → 0 < length bs → xs ≡ bs → (line : List ℕ) × (lines_of xs ≡ line ∷ lines_of (drop_through 10 bs))
        first [] some is = absurd (omega arith)
        first (b ∷ bs) some is = (before_feed (b ∷ bs), ap lines_of is ∙ lines_of-step b bs)
    at (b ∷ bs) none is some = (
      before_feed (b ∷ bs ++ ys),
      ap lines_of is ∙ lines_of-step b (bs ++ ys)
          ∙ ap (λ l. before_feed (b ∷ bs ++ ys) ∷ lines_of l) (drop_through-append 10 (b ∷ bs) ys none),
    )

-- nothing was taken, and nothing was left
pub IsAtEnd-of_none : (old mid : Option (List ℕ)) (part : List ℕ) → length part ≡ 0 → Consumes old mid part → IsAtEnd mid → IsAtEnd old
IsAtEnd-of_none None mid part none taken ended = tt
IsAtEnd-of_none (Some xs) None part none taken ended = absurd taken
IsAtEnd-of_none (Some xs) (Some ys) [] none taken ended = taken ∙ ended
IsAtEnd-of_none (Some xs) (Some ys) (b ∷ bs) none taken ended = absurd (omega arith)

-- where a byte was passed over, one was left
pub some_left : (mid : Option (List ℕ)) (n : ℕ) → IfSome mid (λ xs. n ≡ u64_saturate (length (take_through 10 xs))) → 0 < n → IfSome mid (λ xs. 0 < length xs)
some_left None n count some = tt
some_left (Some xs) n count some = take_through_nonempty 10 xs (omega arith)
