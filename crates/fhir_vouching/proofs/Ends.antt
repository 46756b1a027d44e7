-- Where lines end.
use Rattle.std.proofs.Common.{◌≡◌, ℕ, ◌-◌, ◌<◌, List, [], ◌∷◌, ◌++◌, Bool, true, false, cond, ◌||◌, length, take, refl, sym, ap, ◌∙◌, append_assoc, ◌==◌, arith}
use Rattle.std.specs.Prelude.{slice_index}
use Rattle.std.specs.List.{slice_split, All}
use Rattle.std.specs.Str.Lines.{lines, lines_of_parts, strip_carriage_return}
use Rattle.std.proofs.lemmas.Bool.{eqb-true, ne_eqb, or_parts}
use Rattle.std.proofs.lemmas.List.{get_or_at, length_push, take_at}
use Rattle.std.proofs.lemmas.List.Folds.{list_any-append}
use Rattle.std.proofs.lemmas.List.Elements.{All-cons, All-nil}
use Rattle.std.proofs.lemmas.List.Splits.{slice_split_at, slice_split_none, length-slice_split}
use Rattle.fhir_json.specs.Tree.{Text}
use Rattle.fhir_vouching.specs.Given.{has_feed}

-- where there is no line feed, each byte is none
no_feeds : (line : Text) → has_feed line ≡ false → All (λ b. (b == 10) ≡ false) line
no_feeds [] h = All-nil (λ b. (b == 10) ≡ false)
no_feeds (b ∷ line) h = let both = or_parts (b == 10) (has_feed line) h in All-cons (λ b. (b == 10) ≡ false) b line both.0 (no_feeds line both.1)

-- bytes are those before the last, and the last
last_apart : (b : ℕ) (bs : Text) → b ∷ bs ≡ take (length bs) (b ∷ bs) ++ slice_index (b ∷ bs) (length bs) ∷ []
last_apart b [] = refl
last_apart b (c ∷ bs) = ap (λ w. b ∷ w) (last_apart c bs)

-- a line that doesn't end in a carriage return stays as it is
unstripped : (line : Text) → ((front : Text) → line ≡ front ++ 13 ∷ [] → ⊥) → strip_carriage_return line ≡ line
unstripped [] none = refl
unstripped (b ∷ bs) none = at (length (b ∷ bs) - 1) (omega arith)
  where
    go : (c : Bool) → (slice_index (b ∷ bs) (length bs) == 13) ≡ c → cond c (take (length bs) (b ∷ bs)) (b ∷ bs) ≡ b ∷ bs
    go true e =
        let last : slice_index (b ∷ bs) (length bs) ≡ 13 = eqb-true (slice_index (b ∷ bs) (length bs)) 13 e in
        absurd (none (take (length bs) (b ∷ bs)) (last_apart b bs ∙ ap (λ c. take (length bs) (b ∷ bs) ++ c ∷ []) last))
    go false e = refl

    at : (n : ℕ) → n ≡ length bs → cond (slice_index (b ∷ bs) n == 13) (take n (b ∷ bs)) (b ∷ bs) ≡ b ∷ bs
    at n e = rw e (go (slice_index (b ∷ bs) (length bs) == 13) refl)

-- one that does loses it
stripped : (line : Text) → strip_carriage_return (line ++ 13 ∷ []) ≡ line
stripped line = at (length (line ++ 13 ∷ []) - 1) (omega (arith, length_push line 13))
  where
    at : (n : ℕ) → length line ≡ n → cond (slice_index (line ++ 13 ∷ []) n == 13) (take n (line ++ 13 ∷ [])) (line ++ 13 ∷ []) ≡ line
    at n e = rw (get_or_at line 13 [] 0 n e) (take_at line (13 ∷ []) n e)

-- a part with others behind it is a line, and loses a carriage return
before_more : (line : Text) (parts : List Text) → 0 < length parts
    → lines_of_parts (line ∷ parts) ≡ strip_carriage_return line ∷ lines_of_parts parts
before_more line [] h = absurd (omega arith)
before_more line (part ∷ parts) h = refl

-- what stands before the first line feed is the first line, and loses a carriage return
before_feed : (line more : Text) → has_feed line ≡ false → lines (line ++ 10 ∷ more) ≡ strip_carriage_return line ∷ lines more
before_feed line more h =
    ap lines_of_parts (slice_split_at (λ b. b == 10) line 10 more (no_feeds line h) refl)
    ∙ before_more line (slice_split (λ b. b == 10) more) (omega (arith, length-slice_split (λ b. b == 10) more))

-- the first line, where a line feed alone ends it
pub ends_in_feed : (line more : Text) → has_feed line ≡ false → ((front : Text) → line ≡ front ++ 13 ∷ [] → ⊥)
    → lines (line ++ 10 ∷ more) ≡ line ∷ lines more
ends_in_feed line more h none = before_feed line more h ∙ ap (λ l. l ∷ lines more) (unstripped line none)

-- with a carriage return behind it, a line has no line feed still
still_none : (line : Text) → has_feed line ≡ false → has_feed (line ++ 13 ∷ []) ≡ false
still_none line h = list_any-append (λ b. b == 10) line (13 ∷ []) ∙ ap (λ b. b || false) h

-- the first line, where a carriage return and a line feed end it
pub ends_in_both : (line more : Text) → has_feed line ≡ false → lines (line ++ 13 ∷ 10 ∷ more) ≡ line ∷ lines more
ends_in_both line more h =
    ap lines (sym (append_assoc line (13 ∷ []) (10 ∷ more)))
    ∙ before_feed (line ++ 13 ∷ []) more (still_none line h)
    ∙ ap (λ l. l ∷ lines more) (stripped line)

-- the last line, which the text ends
pub ends_text : (b : ℕ) (line : Text) → has_feed (b ∷ line) ≡ false → lines (b ∷ line) ≡ (b ∷ line) ∷ []
ends_text b line h =
    ap lines_of_parts (slice_split_none (λ b. b == 10) (b ∷ line) (no_feeds (b ∷ line) h))
    ∙ ap (λ c. cond c [] ((b ∷ line) ∷ [])) (ne_eqb (length (b ∷ line)) 0 (λ e. omega (arith, e)))
