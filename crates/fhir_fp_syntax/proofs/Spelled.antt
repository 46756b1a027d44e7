-- What the lexer reads is spelled so.
use Rattle.std.proofs.Common.{◌≡◌, ℕ, zero, suc, ◌+◌, ◌<◌, ◌≤◌, Bool, true, false, not, eqb, ltb, ◌&&◌, ◌||◌, List, [], ◌∷◌, ◌++◌, length, take, drop, get_or, Option, Some, None, refl, sym, ap, ap₂, subst, ◌∙◌}
use Rattle.std.proofs.Common.{append_assoc, arith, inl, inr}
use Rattle.std.specs.List.{prefix_len}
use Rattle.std.specs.Prelude.{option_map}
use Rattle.std.specs.Char.{is_ascii_digit}
use Rattle.std.proofs.lemmas.Bool.{cases_Bool, and_parts, not-false, eqb-true, ltb-true, or_left}
use Rattle.std.proofs.lemmas.List.{take-append-drop, length-take, drop-drop}
use Rattle.std.proofs.lemmas.List.Sums.{prefix_len-le-length}
use Rattle.std.proofs.Math.Seq.{drop-cons, take-add}
use Rattle.std.proofs.Math.Numerals.{one-add}
use Rattle.fhir_json.specs.Bytes.{is_blank}
use Rattle.fhir_fp_syntax.specs.declared.token.Mark.{Mark}
use Rattle.fhir_fp_syntax.specs.Characters.{is_name_start, is_name_character, begins}
use Rattle.fhir_fp_syntax.specs.Words.{Word, named, quoted, counted, marked}
use Rattle.fhir_fp_syntax.specs.Tokens.{spelling, AllAre, is_no_backquote, is_in_line, is_slash, begins_fraction, IsLiteral, empty, plain, escaped}
use Rattle.fhir_fp_syntax.specs.Tokens.{IsToken, mark, identifier, delimited, string, whole, decimal, IsComment, closed, inside, IsSpelled, ended, blank, line, comment, token}
use Rattle.fhir_fp_syntax.specs.Lexing.{mark_named, word_or_name, front_len, name_at, special_at, fraction_len, number_at, delimited_at, literal_len, string_at, sign_at}
use Rattle.fhir_fp_syntax.specs.Lexing.{token_at, behind_line, behind_asterisk, behind_comment, piece_at, words_of_piece, words_at, words_in}
use Rattle.fhir_fp_syntax.proofs.Options.{bind_some, chosen, some_is, no_some}
use Rattle.fhir_fp_syntax.proofs.Runs.{run_all, run_stops}
use Rattle.fhir_fp_syntax.proofs.Marks.{mark_stands, word_goes_on, name_stands, sign_stands}

abbrev pub TokenStands : List ℕ → Word × List ℕ → Type 0
TokenStands s x = (v : List ℕ) × (s ≡ v ++ x.1) × IsToken x.0 v x.1

moved : (s : List ℕ) (x y : Word × List ℕ) → x ≡ y → TokenStands s x → TokenStands s y
moved s x y e h = subst (λ (q : Word × List ℕ). TokenStands s q) e h

-- ---- names and words

front_is : (s : List ℕ) → s ≡ take (front_len s) s ++ drop (front_len s) s
front_is s = sym (take-append-drop (front_len s) s)

front_start : (b : ℕ) (s : List ℕ) → take (front_len (b ∷ s)) (b ∷ s) ≡ b ∷ take (prefix_len is_name_character s) s
front_start b s = refl

front_all : (b : ℕ) (s : List ℕ) → is_name_start b ≡ true → AllAre is_name_character (take (front_len (b ∷ s)) (b ∷ s))
front_all b s is = (or_left (is_name_start b) (is_ascii_digit b) is, run_all is_name_character s)

front_stops : (b : ℕ) (s : List ℕ) → begins is_name_character (drop (front_len (b ∷ s)) (b ∷ s)) ≡ false
front_stops b s = run_stops is_name_character s

name_token : (v rest : List ℕ) → begins is_name_start v ≡ true → AllAre is_name_character v → begins is_name_character rest ≡ false → IsToken (word_or_name v (mark_named v)) v rest
name_token v rest start all stop = at (mark_named v) refl
  where
    at : (o : Option Mark) → mark_named v ≡ o → IsToken (word_or_name v o) v rest
    at (Some m) is = let k = mark_stands v m is in mark k.0 (word_goes_on m k.1 rest stop)
    at None is = identifier start all (name_stands v start is) stop

name_stands_at : (b : ℕ) (s : List ℕ) → is_name_start b ≡ true → TokenStands (b ∷ s) (name_at (b ∷ s))
unfolding name_at
name_stands_at b s is =
    (take (front_len (b ∷ s)) (b ∷ s), front_is (b ∷ s), name_token (take (front_len (b ∷ s)) (b ∷ s)) (drop (front_len (b ∷ s)) (b ∷ s)) is (front_all b s is) (front_stops b s))

special_stands : (b : ℕ) (s : List ℕ) (x : Word × List ℕ) → special_at (b ∷ s) ≡ Some x → TokenStands (b ∷ s) x
unfolding special_at
special_stands b s x h =
    let front = take (front_len (b ∷ s)) (b ∷ s) in
    let rest = drop (front_len (b ∷ s)) (b ∷ s) in
    let m = bind_some (mark_named front) _ x h in
    let k = mark_stands front m.0 m.1 in
    moved (b ∷ s) (marked m.0, rest) x (some_is (marked m.0, rest) x m.2) (front, front_is (b ∷ s), mark k.0 (word_goes_on m.0 k.1 rest (front_stops b s)))

-- ---- numbers

digit_some : (b : ℕ) (s : List ℕ) → is_ascii_digit b ≡ true → 0 < length (take (prefix_len is_ascii_digit (b ∷ s)) (b ∷ s))
digit_some b s is = rw (is, one-add) (omega arith)

run_is : (s : List ℕ) → s ≡ take (prefix_len is_ascii_digit s) s ++ drop (prefix_len is_ascii_digit s) s
run_is s = sym (take-append-drop (prefix_len is_ascii_digit s) s)

begins_some : (p : ℕ → Bool) (s : List ℕ) → begins p s ≡ true → 0 < length (take (prefix_len p s) s)
begins_some p [] h = absurd cc
begins_some p (b ∷ s) h = rw (h, one-add) (omega arith)

-- a whole number, or digits with a dot and digits behind them
number_parts : (s rest : List ℕ) (n : ℕ) → 0 < n → n ≤ length s → AllAre is_ascii_digit (take n s) → rest ≡ drop n s → begins is_ascii_digit rest ≡ false
    → TokenStands s (counted (take (n + fraction_len rest) s), drop (n + fraction_len rest) s)
number_parts s [] n some within all is stop =
    let plain_n : n + 0 ≡ n = omega arith in
    rw plain_n (take n s, sym (take-append-drop n s), whole {s = take n s} (omega (arith, length-take n s), all) (ap (begins is_ascii_digit) (sym is) ∙ stop) (ap begins_fraction (sym is) ∙ refl))
number_parts s (c ∷ more) n some within all is stop =
    elim (cases_Bool (eqb c 46 && begins is_ascii_digit more)) [
      | inl fraction ↦
          let both = and_parts (eqb c 46) (begins is_ascii_digit more) fraction in
          let k = prefix_len is_ascii_digit more in
          let is_dot : c ≡ 46 = eqb-true c 46 both.0 in
          let front : take (n + suc k) s ≡ take n s ++ 46 ∷ take k more = taken s n (c ∷ more) (suc k) (sym is) ∙ ap (λ (x : ℕ). take n s ++ x ∷ take k more) is_dot in
          let behind : drop (n + suc k) s ≡ drop k more = dropped s n (c ∷ more) (suc k) (sym is) in
          rw fraction (
            take (n + suc k) s,
            sym (take-append-drop (n + suc k) s),
            subst (λ (v : List ℕ). IsToken (counted v) v (drop (n + suc k) s)) (sym front)
                (subst (λ (v : List ℕ). IsToken (counted (take n s ++ 46 ∷ take k more)) (take n s ++ 46 ∷ take k more) v) (sym behind)
                (decimal (take n s) (take k more) (omega (arith, length-take n s), all) (begins_some is_ascii_digit more both.1, run_all is_ascii_digit more) refl (run_stops is_ascii_digit more))),
          )
      | inr none ↦
          let plain_n : n + 0 ≡ n = omega arith in
          rw (none, plain_n) (take n s, sym (take-append-drop n s), whole {s = take n s} (omega (arith, length-take n s), all) (ap (begins is_ascii_digit) (sym is) ∙ stop) (ap begins_fraction (sym is) ∙ none))
    ]
  where
    taken : (s : List ℕ) (n : ℕ) (r : List ℕ) (k : ℕ) → drop n s ≡ r → take (n + k) s ≡ take n s ++ take k r
    taken s n r k e = take-add n k s ∙ ap (λ (w : List ℕ). take n s ++ take k w) e

    dropped : (s : List ℕ) (n : ℕ) (r : List ℕ) (k : ℕ) → drop n s ≡ r → drop (n + k) s ≡ drop k r
    dropped s n r k e = sym (drop-drop k n s) ∙ ap (drop k) e

number_stands : (b : ℕ) (s : List ℕ) → is_ascii_digit b ≡ true → TokenStands (b ∷ s) (number_at (b ∷ s))
unfolding number_at
number_stands b s is =
    let n = prefix_len is_ascii_digit (b ∷ s) in
    number_parts (b ∷ s) (drop n (b ∷ s)) n (rw (is, one-add) (omega arith)) (prefix_len-le-length is_ascii_digit (b ∷ s)) (run_all is_ascii_digit (b ∷ s)) refl (run_stops is_ascii_digit (b ∷ s))

-- ---- between quotes

-- what stands before and behind a byte
quoted_is : (s : List ℕ) (n b : ℕ) → drop n s ≡ b ∷ drop (suc n) s → s ≡ (take n s ++ b ∷ []) ++ drop (suc n) s
quoted_is s n b e = sym (take-append-drop n s) ∙ ap (λ (w : List ℕ). take n s ++ w) e ∙ sym (append_assoc (take n s) (b ∷ []) (drop (suc n) s))

delimited_stands : (s : List ℕ) (x : Word × List ℕ) → delimited_at s ≡ Some x → TokenStands (96 ∷ s) x
unfolding delimited_at
delimited_stands s x h =
    let n = prefix_len is_no_backquote s in
    elim (chosen (ltb n (length s)) _ _ _ h) [
      | inl less ↦
          let next = drop-cons s n 0 (ltb-true n (length s) less.0) in
          let quote : get_or s n 0 ≡ 96 = closes (get_or s n 0) (drop (suc n) s) (ap (begins is_no_backquote) (sym next) ∙ run_stops is_no_backquote s) in
          moved (96 ∷ s) (named (take n s), drop (suc n) s) x (some_is (named (take n s), drop (suc n) s) x less.1) (
            96 ∷ (take n s ++ 96 ∷ []),
            ap (λ (w : List ℕ). 96 ∷ w) (quoted_is s n 96 (next ∙ ap (λ (b : ℕ). b ∷ drop (suc n) s) quote)),
            delimited (run_all is_no_backquote s) refl,
          )
      | inr many ↦ absurd (no_some x many.1)
    ]
  where
    closes : (b : ℕ) (s : List ℕ) → begins is_no_backquote (b ∷ s) ≡ false → b ≡ 96
    closes b s h = eqb-true b 96 (not-false (eqb b 96) h)

-- how far a quote is, behind a backslash or not
abbrev pub LiteralStands : Bool → List ℕ → ℕ → Type 0
LiteralStands false s n = IsLiteral (take n s) × (s ≡ (take n s ++ 39 ∷ []) ++ drop (suc n) s)
LiteralStands true s n = ((a : ℕ) → a ≡ 92 → IsLiteral (a ∷ take n s)) × (s ≡ (take n s ++ 39 ∷ []) ++ drop (suc n) s)

suc_some : (o : Option ℕ) (n : ℕ) → option_map suc o ≡ Some n → (m : ℕ) × (o ≡ Some m) × (suc m ≡ n)
suc_some (Some m) n h = (m, refl, some_is (suc m) n h)
suc_some None n h = absurd (no_some n h)

is_plain_from : (x y : Bool) → x ≡ false → y ≡ false → (not x && not y) ≡ true
is_plain_from x y p q = rw (p, q) refl

literal_stands : (is_escaped : Bool) (s : List ℕ) (n : ℕ) → literal_len is_escaped s ≡ Some n → LiteralStands is_escaped s n
literal_stands false [] n h = absurd (no_some n h)
literal_stands true [] n h = absurd (no_some n h)
literal_stands true (b ∷ s) n h =
    let k = suc_some _ n h in
    let later = literal_stands false s k.0 k.1 in
    subst (λ (i : ℕ). LiteralStands true (b ∷ s) i) k.2 (λ a is. escaped is later.0, ap (λ (w : List ℕ). b ∷ w) later.1)
literal_stands false (b ∷ s) n h =
    elim (chosen (eqb b 39) _ _ _ h) [
      | inl is ↦
          subst (λ (i : ℕ). LiteralStands false (b ∷ s) i) (some_is 0 n is.1) (empty, ap (λ (c : ℕ). c ∷ s) (eqb-true b 39 is.0))
      | inr isnt ↦
          let k = suc_some _ n isnt.1 in
          subst (λ (i : ℕ). LiteralStands false (b ∷ s) i) k.2 (
          elim (cases_Bool (eqb b 92)) [
            | inl slash ↦
                let later = literal_stands true s k.0 (ap (λ (e : Bool). literal_len e s) (sym slash) ∙ k.1) in
                (later.0 b (eqb-true b 92 slash), ap (λ (w : List ℕ). b ∷ w) later.1)
            | inr other ↦
                let later = literal_stands false s k.0 (ap (λ (e : Bool). literal_len e s) (sym other) ∙ k.1) in
                (plain (is_plain_from (eqb b 39) (eqb b 92) isnt.0 other) later.0, ap (λ (w : List ℕ). b ∷ w) later.1)
          ])
    ]

string_stands : (s : List ℕ) (x : Word × List ℕ) → string_at s ≡ Some x → TokenStands (39 ∷ s) x
unfolding string_at
string_stands s x h =
    let n = bind_some (literal_len false s) _ x h in
    let k = literal_stands false s n.0 n.1 in
    moved (39 ∷ s) (quoted (take n.0 s), drop (suc n.0) s) x (some_is (quoted (take n.0 s), drop (suc n.0) s) x n.2) (
      39 ∷ (take n.0 s ++ 39 ∷ []),
      ap (λ (w : List ℕ). 39 ∷ w) k.1,
      string k.0 refl,
    )

-- ---- a token

sign_token : (s : List ℕ) (x : Word × List ℕ) → sign_at s ≡ Some x → TokenStands s x
sign_token s x h =
    let k = sign_stands s x h in (spelling k.0, k.2, subst (λ (t : Word). IsToken t (spelling k.0) x.1) (sym k.1) (mark refl k.3))

pub token_stands : (s : List ℕ) (x : Word × List ℕ) → token_at s ≡ Some x → TokenStands s x
unfolding token_at
token_stands [] x h = absurd (no_some x h)
token_stands (b ∷ s) x h =
    elim (chosen (is_name_start b) _ _ _ h) [
      | inl is ↦ moved (b ∷ s) (name_at (b ∷ s)) x (some_is (name_at (b ∷ s)) x is.1) (name_stands_at b s is.0)
      | inr no0 ↦
          elim (chosen (eqb b 36 || eqb b 37) _ _ _ no0.1) [
            | inl is ↦ special_stands b s x is.1
            | inr no1 ↦
                elim (chosen (is_ascii_digit b) _ _ _ no1.1) [
                  | inl is ↦ moved (b ∷ s) (number_at (b ∷ s)) x (some_is (number_at (b ∷ s)) x is.1) (number_stands b s is.0)
                  | inr no2 ↦
                      elim (chosen (eqb b 96) _ _ _ no2.1) [
                        | inl is ↦ subst (λ (c : ℕ). TokenStands (c ∷ s) x) (sym (eqb-true b 96 is.0)) (delimited_stands s x is.1)
                        | inr no3 ↦
                            elim (chosen (eqb b 39) _ _ _ no3.1) [
                              | inl is ↦ subst (λ (c : ℕ). TokenStands (c ∷ s) x) (sym (eqb-true b 39 is.0)) (string_stands s x is.1)
                              | inr no4 ↦ sign_token (b ∷ s) x no4.1
                            ]
                      ]
                ]
          ]
    ]

-- ---- comments

comment_stands : (s rest : List ℕ) → behind_asterisk s ≡ Some rest → (v : List ℕ) × (s ≡ v ++ rest) × IsComment v
comment_stands [] rest h = absurd (no_some rest h)
comment_stands (b ∷ s) rest h =
    elim (chosen (eqb b 42 && begins is_slash s) _ _ _ h) [
      | inl is ↦
          let both = and_parts (eqb b 42) (begins is_slash s) is.0 in
          let slash = slashed s both.1 in
          (42 ∷ 47 ∷ [], ap₂ (λ (c : ℕ) (w : List ℕ). c ∷ w) (eqb-true b 42 both.0) (slash ∙ ap (λ (w : List ℕ). 47 ∷ w) (some_is (drop 1 s) rest is.1)), closed refl)
      | inr isnt ↦
          let later = comment_stands s rest isnt.1 in
          (b ∷ later.0, ap (λ (w : List ℕ). b ∷ w) later.1, inside (shorter b s later.0 rest later.1 later.2 isnt.0) later.2)
    ]
  where
    slashed : (s : List ℕ) → begins is_slash s ≡ true → s ≡ 47 ∷ drop 1 s
    slashed [] h = absurd cc
    slashed (c ∷ s) h = ap (λ (x : ℕ). x ∷ s) (eqb-true c 47 h)

    shorter : (b : ℕ) (s v rest : List ℕ) → s ≡ v ++ rest → IsComment v → (eqb b 42 && begins is_slash s) ≡ false → (eqb b 42 && begins is_slash v) ≡ false
    shorter b s [] rest is (closed e) h = absurd cc
    shorter b s (c ∷ v) rest is k h = ap (λ (w : List ℕ). eqb b 42 && begins is_slash w) (sym is) ∙ h

-- ---- pieces

abbrev pub PieceStands : List ℕ → Option Word × List ℕ → Type 0
PieceStands s x = (ts : List Word) → IsSpelled ts x.1 → IsSpelled (words_of_piece x.0 ++ ts) s

behind_stands : (s rest : List ℕ) → behind_comment s ≡ Some rest → (ts : List Word) → IsSpelled ts rest → IsSpelled ts (47 ∷ s)
unfolding behind_comment
behind_stands [] rest h ts spelled = absurd (no_some rest h)
behind_stands (b ∷ s) rest h ts spelled =
    elim (chosen (eqb b 47) _ _ _ h) [
      | inl is ↦
          let n = prefix_len is_in_line s in
          let same = some_is (behind_line s) rest is.1 in
          line (take n s) rest (run_all is_in_line s) (ap (begins is_in_line) (sym same) ∙ run_stops is_in_line s)
          (ap₂ (λ (c : ℕ) (w : List ℕ). 47 ∷ c ∷ w) (eqb-true b 47 is.0) (sym (take-append-drop n s) ∙ ap (λ (w : List ℕ). take n s ++ w) same)) spelled
      | inr isnt ↦
          elim (chosen (eqb b 42) _ _ _ isnt.1) [
            | inl is ↦
                let k = comment_stands s rest is.1 in
                comment k.0 rest k.2 (ap₂ (λ (c : ℕ) (w : List ℕ). 47 ∷ c ∷ w) (eqb-true b 42 is.0) k.1) spelled
            | inr other ↦ absurd (no_some rest other.1)
          ]
    ]

piece_moved : (s : List ℕ) (x y : Option Word × List ℕ) → x ≡ y → PieceStands s x → PieceStands s y
piece_moved s x y e h = subst (λ (q : Option Word × List ℕ). PieceStands s q) e h

piece_stands : (s : List ℕ) (x : Option Word × List ℕ) → piece_at s ≡ Some x → PieceStands s x
unfolding piece_at
piece_stands [] x h = absurd (no_some x h)
piece_stands (b ∷ s) x h =
    elim (chosen (is_blank b) _ _ _ h) [
      | inl is ↦ piece_moved (b ∷ s) (None, s) x (some_is (None, s) x is.1) (λ ts spelled. blank is.0 spelled)
      | inr isnt ↦
          elim (chosen (eqb b 47) _ _ _ isnt.1) [
            | inl is ↦
                let k = bind_some (behind_comment s) _ x is.1 in
                piece_moved (b ∷ s) (None, k.0) x (some_is (None, k.0) x k.2)
                (λ ts spelled. subst (λ (c : ℕ). IsSpelled ts (c ∷ s)) (sym (eqb-true b 47 is.0)) (behind_stands s k.0 k.1 ts spelled))
            | inr other ↦
                let k = bind_some (token_at (b ∷ s)) _ x other.1 in
                let t = token_stands (b ∷ s) k.0 k.1 in
                piece_moved (b ∷ s) (Some k.0.0, k.0.1) x (some_is (Some k.0.0, k.0.1) x k.2) (λ ts spelled. token t.2 t.1 spelled)
          ]
    ]

words_stand : (n : ℕ) (s : List ℕ) (ts : List Word) → words_at n s ≡ Some ts → IsSpelled ts s
unfolding words_at
words_stand zero s ts h = absurd (no_some ts h)
words_stand (suc n) [] ts h = subst (λ (w : List Word). IsSpelled w []) (some_is [] ts h) ended
words_stand (suc n) (b ∷ s) ts h =
    let p = bind_some (piece_at (b ∷ s)) _ ts h in
    let later = bind_some (words_at n p.0.1) _ ts p.2 in
    subst (λ (w : List Word). IsSpelled w (b ∷ s)) (some_is (words_of_piece p.0.0 ++ later.0) ts later.2)
    (piece_stands (b ∷ s) p.0 p.1 later.0 (words_stand n p.0.1 later.0 later.1))

pub spelled_in : (s : List ℕ) (ts : List Word) → words_in s ≡ Some ts → IsSpelled ts s
unfolding words_in
spelled_in s ts h = words_stand (suc (length s)) s ts h
