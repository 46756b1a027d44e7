-- What is spelled is read by the lexer.
use Rattle.std.proofs.Common.{◌≡◌, ℕ, zero, suc, ◌+◌, ◌<◌, ◌≤◌, Bool, true, false, not, eqb, ltb, ◌&&◌, ◌||◌, List, [], ◌∷◌, ◌++◌, length, take, drop, Option, Some, None, refl, sym, ap, ap₂, subst, ◌∙◌}
use Rattle.std.proofs.Common.{append_assoc, arith}
use Rattle.std.specs.List.{prefix_len, list_all}
use Rattle.std.specs.Prelude.{codes}
use Rattle.std.specs.Char.{is_ascii_digit}
use Rattle.std.proofs.lemmas.Bool.{and_parts, not-true, ne_eqb, lt-ltb, or_from, or_parts, true≢false}
use Rattle.std.proofs.lemmas.List.{take_at, drop_at, length-append, append-nil}
use Rattle.fhir_json.specs.Bytes.{is_blank}
use Rattle.fhir_fp_syntax.specs.declared.token.Mark.{Mark}
use Rattle.fhir_fp_syntax.specs.declared.token.Mark.TheVariants as marks
use Rattle.fhir_fp_syntax.specs.Characters.{is_name_start, is_name_character, begins}
use Rattle.fhir_fp_syntax.specs.Words.{Word, named, quoted, counted, marked}
use Rattle.fhir_fp_syntax.specs.Tokens.{spelling, goes_on, AllAre, is_no_backquote, is_in_line, is_slash, begins_fraction, AreDigits, IsLiteral, empty, plain, escaped}
use Rattle.fhir_fp_syntax.specs.Tokens.{IsToken, mark, identifier, delimited, string, whole, decimal, IsComment, closed, inside, IsSpelled, ended, blank, line, comment, token}
use Rattle.fhir_fp_syntax.specs.Lexing.{mark_named, word_or_name, front_len, name_at, special_at, fraction_len, number_len, number_at, delimited_at, literal_len, string_at, sign_at}
use Rattle.fhir_fp_syntax.specs.Lexing.{token_at, behind_line, behind_asterisk, behind_comment, piece_at, words_of_piece, words_at, words_in}
use Rattle.fhir_fp_syntax.proofs.Runs.{run_again, all_from}
use Rattle.fhir_fp_syntax.proofs.Marks.{is_word, mark_again, name_again}

-- the byte begins no blank and no comment
abbrev pub is_gap : ℕ → Bool
is_gap b = is_blank b || eqb b 47

abbrev pub TokenAgain : Word → List ℕ → List ℕ → Type 0
TokenAgain t v rest = (b : ℕ) × (more : List ℕ) × (v ≡ b ∷ more) × (is_gap b ≡ false) × (token_at (v ++ rest) ≡ Some (t, rest))

-- what passes where these fail is none of them
unlike : (p : ℕ → Bool) (b c : ℕ) → p b ≡ true → p c ≡ false → eqb b c ≡ false
unlike p b c h k = ne_eqb b c (λ (is : b ≡ c). true≢false (sym h ∙ subst (λ (x : ℕ). p x ≡ false) (sym is) k))

no_gap : (p : ℕ → Bool) (b : ℕ) → p b ≡ true → p 32 ≡ false → p 9 ≡ false → p 10 ≡ false → p 13 ≡ false → p 47 ≡ false → is_gap b ≡ false
no_gap p b h s t l c d =
    or_from _ _ (or_from _ _ (or_from _ _ (or_from _ _ (unlike p b 32 h s) (unlike p b 9 h t)) (unlike p b 10 h l)) (unlike p b 13 h c)) (unlike p b 47 h d)

-- ---- names and words

front_again : (b : ℕ) (v rest : List ℕ) → AllAre is_name_character v → begins is_name_character rest ≡ false
    → (take (front_len (b ∷ (v ++ rest))) (b ∷ (v ++ rest)) ≡ b ∷ v) × (drop (front_len (b ∷ (v ++ rest))) (b ∷ (v ++ rest)) ≡ rest)
front_again b v rest all stop =
    let n = run_again is_name_character v rest all stop in
    (ap (λ (w : List ℕ). b ∷ w) (take_at v rest _ (sym n)), drop_at v rest _ (sym n))

name_token : (b : ℕ) (v rest : List ℕ) (o : Option Mark) → is_name_start b ≡ true → AllAre is_name_character v → mark_named (b ∷ v) ≡ o
    → begins is_name_character rest ≡ false → token_at (b ∷ (v ++ rest)) ≡ Some (word_or_name (b ∷ v) o, rest)
unfolding token_at name_at
name_token b v rest o start all is stop =
    let f = front_again b v rest all stop in
    rw (start, f.0, f.1, is) refl

special_token : (b : ℕ) (v rest : List ℕ) (m : Mark) → AllAre is_name_character v → mark_named (b ∷ v) ≡ Some m → begins is_name_character rest ≡ false
    → special_at (b ∷ (v ++ rest)) ≡ Some (marked m, rest)
unfolding special_at
special_token b v rest m all is stop =
    let f = front_again b v rest all stop in
    rw (f.0, f.1, is) refl

word_token : (m : Mark) (b : ℕ) (v rest : List ℕ) → is_name_start b ≡ true → list_all is_name_character v ≡ true → mark_named (b ∷ v) ≡ Some m
    → begins is_name_character rest ≡ false → token_at (b ∷ (v ++ rest)) ≡ Some (marked m, rest)
word_token m b v rest start all is stop = name_token b v rest (Some m) start (all_from is_name_character v all) is stop

-- ---- marks

-- what ends a mark of letters ends a name
stops : (m : Mark) (rest : List ℕ) → is_word m ≡ true → begins (goes_on m) rest ≡ false → begins is_name_character rest ≡ false
stops m [] is h = refl
stops marks.Open (b ∷ rest) is h = absurd cc
stops marks.Close (b ∷ rest) is h = absurd cc
stops marks.OpenBracket (b ∷ rest) is h = absurd cc
stops marks.CloseBracket (b ∷ rest) is h = absurd cc
stops marks.Dot (b ∷ rest) is h = absurd cc
stops marks.Bar (b ∷ rest) is h = absurd cc
stops marks.Less (b ∷ rest) is h = absurd cc
stops marks.LessOrEqual (b ∷ rest) is h = absurd cc
stops marks.Greater (b ∷ rest) is h = absurd cc
stops marks.GreaterOrEqual (b ∷ rest) is h = absurd cc
stops marks.Equal (b ∷ rest) is h = absurd cc
stops marks.NotEqual (b ∷ rest) is h = absurd cc
stops marks.Braces (b ∷ rest) is h = absurd cc
stops m (b ∷ rest) is h = h

mark_token : (m : Mark) (rest : List ℕ) → begins (goes_on m) rest ≡ false → TokenAgain (marked m) (spelling m) rest
unfolding token_at sign_at
mark_token marks.And rest stop = (97, codes "nd", refl, refl, word_token marks.And 97 (codes "nd") rest refl refl (mark_again marks.And refl) (stops marks.And rest refl stop))
mark_token marks.Or rest stop = (111, codes "r", refl, refl, word_token marks.Or 111 (codes "r") rest refl refl (mark_again marks.Or refl) (stops marks.Or rest refl stop))
mark_token marks.Xor rest stop = (120, codes "or", refl, refl, word_token marks.Xor 120 (codes "or") rest refl refl (mark_again marks.Xor refl) (stops marks.Xor rest refl stop))
mark_token marks.Implies rest stop = (105, codes "mplies", refl, refl, word_token marks.Implies 105 (codes "mplies") rest refl refl (mark_again marks.Implies refl) (stops marks.Implies rest refl stop))
mark_token marks.In rest stop = (105, codes "n", refl, refl, word_token marks.In 105 (codes "n") rest refl refl (mark_again marks.In refl) (stops marks.In rest refl stop))
mark_token marks.Contains rest stop = (99, codes "ontains", refl, refl, word_token marks.Contains 99 (codes "ontains") rest refl refl (mark_again marks.Contains refl) (stops marks.Contains rest refl stop))
mark_token marks.Is rest stop = (105, codes "s", refl, refl, word_token marks.Is 105 (codes "s") rest refl refl (mark_again marks.Is refl) (stops marks.Is rest refl stop))
mark_token marks.As rest stop = (97, codes "s", refl, refl, word_token marks.As 97 (codes "s") rest refl refl (mark_again marks.As refl) (stops marks.As rest refl stop))
mark_token marks.True rest stop = (116, codes "rue", refl, refl, word_token marks.True 116 (codes "rue") rest refl refl (mark_again marks.True refl) (stops marks.True rest refl stop))
mark_token marks.False rest stop = (102, codes "alse", refl, refl, word_token marks.False 102 (codes "alse") rest refl refl (mark_again marks.False refl) (stops marks.False rest refl stop))
mark_token marks.Div rest stop = (100, codes "iv", refl, refl, word_token marks.Div 100 (codes "iv") rest refl refl (mark_again marks.Div refl) (stops marks.Div rest refl stop))
mark_token marks.Mod rest stop = (109, codes "od", refl, refl, word_token marks.Mod 109 (codes "od") rest refl refl (mark_again marks.Mod refl) (stops marks.Mod rest refl stop))
mark_token marks.This rest stop = (36, codes "this", refl, refl, special_token 36 (codes "this") rest marks.This (all_from is_name_character (codes "this") refl) (mark_again marks.This refl) (stops marks.This rest refl stop))
mark_token marks.Resource rest stop = (37, codes "resource", refl, refl, special_token 37 (codes "resource") rest marks.Resource (all_from is_name_character (codes "resource") refl) (mark_again marks.Resource refl) (stops marks.Resource rest refl stop))
mark_token marks.Context rest stop = (37, codes "context", refl, refl, special_token 37 (codes "context") rest marks.Context (all_from is_name_character (codes "context") refl) (mark_again marks.Context refl) (stops marks.Context rest refl stop))
mark_token marks.Open [] stop = (40, [], refl, refl, refl)
mark_token marks.Open (c ∷ rest) stop = (40, [], refl, refl, refl)
mark_token marks.Close [] stop = (41, [], refl, refl, refl)
mark_token marks.Close (c ∷ rest) stop = (41, [], refl, refl, refl)
mark_token marks.OpenBracket [] stop = (91, [], refl, refl, refl)
mark_token marks.OpenBracket (c ∷ rest) stop = (91, [], refl, refl, refl)
mark_token marks.CloseBracket [] stop = (93, [], refl, refl, refl)
mark_token marks.CloseBracket (c ∷ rest) stop = (93, [], refl, refl, refl)
mark_token marks.Dot [] stop = (46, [], refl, refl, refl)
mark_token marks.Dot (c ∷ rest) stop = (46, [], refl, refl, refl)
mark_token marks.Bar [] stop = (124, [], refl, refl, refl)
mark_token marks.Bar (c ∷ rest) stop = (124, [], refl, refl, refl)
mark_token marks.Equal [] stop = (61, [], refl, refl, refl)
mark_token marks.Equal (c ∷ rest) stop = (61, [], refl, refl, refl)
mark_token marks.Less [] stop = (60, [], refl, refl, refl)
mark_token marks.Less (c ∷ rest) stop = (60, [], refl, refl, rw stop refl)
mark_token marks.Greater [] stop = (62, [], refl, refl, refl)
mark_token marks.Greater (c ∷ rest) stop = (62, [], refl, refl, rw stop refl)
mark_token marks.LessOrEqual rest stop = (60, 61 ∷ [], refl, refl, refl)
mark_token marks.GreaterOrEqual rest stop = (62, 61 ∷ [], refl, refl, refl)
mark_token marks.NotEqual rest stop = (33, 61 ∷ [], refl, refl, refl)
mark_token marks.Braces rest stop = (123, 125 ∷ [], refl, refl, refl)

-- ---- numbers

no_fraction : (rest : List ℕ) → begins_fraction rest ≡ false → fraction_len rest ≡ 0
no_fraction [] h = refl
no_fraction (b ∷ rest) h = rw h refl

digit_begins : (s rest : List ℕ) → AreDigits s → begins is_ascii_digit (s ++ rest) ≡ true
digit_begins [] rest h = absurd (omega (arith, h.0))
digit_begins (b ∷ s) rest h = h.1.0

whole_len : (s rest : List ℕ) → AreDigits s → begins is_ascii_digit rest ≡ false → begins_fraction rest ≡ false → number_len (s ++ rest) ≡ length s
whole_len s rest digits stop none =
    let n = run_again is_ascii_digit s rest digits.1 stop in
    let f : fraction_len (drop (prefix_len is_ascii_digit (s ++ rest)) (s ++ rest)) ≡ 0 = ap fraction_len (drop_at s rest _ (sym n)) ∙ no_fraction rest none in
    omega (arith, n, f)

decimal_len : (a b rest : List ℕ) → AreDigits a → AreDigits b → begins is_ascii_digit rest ≡ false → number_len (a ++ 46 ∷ (b ++ rest)) ≡ length a + suc (length b)
decimal_len a b rest first second stop =
    let n = run_again is_ascii_digit a (46 ∷ (b ++ rest)) first.1 refl in
    let k = run_again is_ascii_digit b rest second.1 stop in
    let f : fraction_len (drop (prefix_len is_ascii_digit (a ++ 46 ∷ (b ++ rest))) (a ++ 46 ∷ (b ++ rest))) ≡ suc (length b) =
    ap fraction_len (drop_at a (46 ∷ (b ++ rest)) _ (sym n)) ∙ rw (digit_begins b rest second, k) refl in
    omega (arith, n, f)

digit_no_name : (b : ℕ) → is_ascii_digit b ≡ true → is_name_start b ≡ false
digit_no_name b h = grind arith

number_read : (s rest : List ℕ) → number_len (s ++ rest) ≡ length s → number_at (s ++ rest) ≡ (counted s, rest)
unfolding number_at
number_read s rest n = ap₂ (λ (v w : List ℕ). (counted v, w)) (take_at s rest _ (sym n)) (drop_at s rest _ (sym n))

number_token : (s rest : List ℕ) → AreDigits (take 1 s) → number_len (s ++ rest) ≡ length s → TokenAgain (counted s) s rest
unfolding token_at
number_token [] rest h n = absurd (omega (arith, h.0))
number_token (b ∷ s) rest h n =
    let is = h.1.0 in (
      b,
      s,
      refl,
      no_gap is_ascii_digit b is refl refl refl refl refl,
      rw (digit_no_name b is, unlike is_ascii_digit b 36 is refl, unlike is_ascii_digit b 37 is refl, is)
          (ap (λ (x : Word × List ℕ). Some x) (number_read (b ∷ s) rest n)),
    )

one_digit : (s more : List ℕ) → AreDigits s → AreDigits (take 1 (s ++ more))
one_digit [] more h = absurd (omega (arith, h.0))
one_digit (b ∷ s) more h = (omega arith, (h.1.0, tt))

-- ---- between quotes

around_again : (v : List ℕ) (b : ℕ) (rest : List ℕ) → (take (length v) (v ++ b ∷ rest) ≡ v) × (drop (suc (length v)) (v ++ b ∷ rest) ≡ rest)
around_again [] b rest = (refl, refl)
around_again (c ∷ v) b rest = let later = around_again v b rest in (ap (λ (w : List ℕ). c ∷ w) later.0, later.1)

delimited_token : (v rest : List ℕ) → AllAre is_no_backquote v → delimited_at (v ++ 96 ∷ rest) ≡ Some (named v, rest)
unfolding delimited_at
delimited_token v rest all =
    let n = run_again is_no_backquote v (96 ∷ rest) all refl in
    let k = around_again v 96 rest in
    let room : ltb (length v) (length (v ++ 96 ∷ rest)) ≡ true = lt-ltb (length v) (length (v ++ 96 ∷ rest)) (omega (arith, length-append v (96 ∷ rest))) in
    rw (n, room, k.0, k.1) refl

literal_again : {v : List ℕ} → IsLiteral v → (rest : List ℕ) → literal_len false (v ++ 39 ∷ rest) ≡ Some (length v)
literal_again empty rest = refl
literal_again (plain {b = b} is k) rest =
    let both = and_parts (not (eqb b 39)) (not (eqb b 92)) is in
    rw (not-true _ both.0, not-true _ both.1, literal_again k rest) refl
literal_again (escaped {a = a} {b = b} {v = v} is k) rest =
    subst (λ (c : ℕ). literal_len false (c ∷ b ∷ (v ++ 39 ∷ rest)) ≡ Some (suc (suc (length v)))) (sym is) (rw (literal_again k rest) refl)

string_token : {v : List ℕ} → IsLiteral v → (rest : List ℕ) → string_at (v ++ 39 ∷ rest) ≡ Some (quoted v, rest)
unfolding string_at
string_token {v} k rest =
    let a = around_again v 39 rest in
    rw (literal_again k rest, a.0, a.1) refl

-- ---- a token

moved : (t : Word) (v w rest : List ℕ) → w ≡ v → TokenAgain t v rest → TokenAgain t w rest
moved t v w rest is h = subst (λ (x : List ℕ). TokenAgain t x rest) (sym is) h

token_again : {t : Word} {v rest : List ℕ} → IsToken t v rest → TokenAgain t v rest
unfolding token_at
token_again {t} {v} {rest} (mark {m = m} is stop) = moved _ (spelling m) v rest is (mark_token m rest stop)
token_again {t} {v} {rest} (identifier start all never stop) = names v start all never
  where
    names : (s : List ℕ) → begins is_name_start s ≡ true → AllAre is_name_character s → ((m : Mark) → spelling m ≡ s → ⊥) → TokenAgain (named s) s rest
    names [] start all never = absurd cc
    names (b ∷ s) start all never =
        (b, s, refl, no_gap is_name_start b start refl refl refl refl refl, name_token b s rest None start all.1 (name_again (b ∷ s) never) stop)
token_again {t} {v} {rest} (delimited {v = w} all is) =
    moved _ (96 ∷ (w ++ 96 ∷ [])) v rest is (96, w ++ 96 ∷ [], refl, refl, ap delimited_at (append_assoc w (96 ∷ []) rest) ∙ delimited_token w rest all)
token_again {t} {v} {rest} (string {v = w} k is) =
    moved _ (39 ∷ (w ++ 39 ∷ [])) v rest is (39, w ++ 39 ∷ [], refl, refl, ap string_at (append_assoc w (39 ∷ []) rest) ∙ string_token k rest)
token_again {t} {v} {rest} (whole digits stop none) =
    number_token v rest (subst (λ (w : List ℕ). AreDigits (take 1 w)) (append-nil v) (one_digit v [] digits)) (whole_len v rest digits stop none)
token_again {t} {v} {rest} (decimal a b first second is stop) =
    number_token v rest (subst (λ (w : List ℕ). AreDigits (take 1 w)) (sym is) (one_digit a (46 ∷ b) first))
    (ap (λ (w : List ℕ). number_len (w ++ rest)) is ∙ ap number_len (append_assoc a (46 ∷ b) rest) ∙ decimal_len a b rest first second stop
    ∙ sym (ap length is ∙ length-append a (46 ∷ b)))

-- ---- comments

comment_again : {v : List ℕ} → IsComment v → (rest : List ℕ) → behind_asterisk (v ++ rest) ≡ Some rest
comment_again {v} (closed is) rest = subst (λ (w : List ℕ). behind_asterisk (w ++ rest) ≡ Some rest) (sym is) refl
comment_again (inside {b = b} {s = s} open_still k) rest = rw (longer b s k open_still) (comment_again k rest)
  where
    longer : (b : ℕ) (s : List ℕ) → IsComment s → (eqb b 42 && begins is_slash s) ≡ false → (eqb b 42 && begins is_slash (s ++ rest)) ≡ false
    longer b [] (closed e) h = absurd cc
    longer b (c ∷ s) k h = h

line_again : (v rest : List ℕ) → AllAre is_in_line v → begins is_in_line rest ≡ false → behind_line (v ++ rest) ≡ rest
line_again v rest all stop = drop_at v rest _ (sym (run_again is_in_line v rest all stop))

-- ---- words

abbrev pub WordsAgain : List Word → List ℕ → Type 0
WordsAgain ts s = (n : ℕ) → length s < n → words_at n s ≡ Some ts

words_moved : (ts : List Word) (v s : List ℕ) → s ≡ v → WordsAgain ts v → WordsAgain ts s
words_moved ts v s is h = subst (λ (w : List ℕ). WordsAgain ts w) (sym is) h

-- behind a piece
behind_piece : (b : ℕ) (more rest : List ℕ) (p : Option Word) (ts : List Word) → piece_at (b ∷ more) ≡ Some (p, rest) → length rest ≤ length more → WordsAgain ts rest
    → WordsAgain (words_of_piece p ++ ts) (b ∷ more)
unfolding words_at
behind_piece b more rest p ts is shorter later zero h = absurd (omega arith)
behind_piece b more rest p ts is shorter later (suc n) h = rw (is, later n (omega arith)) refl

words_again : {ts : List Word} {s : List ℕ} → IsSpelled ts s → WordsAgain ts s
unfolding words_at piece_at behind_comment
words_again ended zero h = absurd (omega arith)
words_again ended (suc n) h = refl
words_again {ts} (blank {b = b} {s = s} is k) n h = behind_piece b s s None ts (rw is refl) (omega arith) (words_again k) n h
words_again {ts} {s} (line v rest all stop is k) n h =
    words_moved ts (47 ∷ 47 ∷ (v ++ rest)) s is
    (behind_piece 47 (47 ∷ (v ++ rest)) rest None ts (ap (λ (w : List ℕ). Some (None, w)) (line_again v rest all stop)) (omega (arith, length-append v rest)) (words_again k)) n h
words_again {ts} {s} (comment v rest c is k) n h =
    words_moved ts (47 ∷ 42 ∷ (v ++ rest)) s is
    (behind_piece 47 (42 ∷ (v ++ rest)) rest None ts (rw (comment_again c rest) refl) (omega (arith, length-append v rest)) (words_again k)) n h
words_again {s = s} (token {t = t} {v = v} {rest = rest} {ts = us} c is k) n h =
    let a = token_again c in
    let text : v ++ rest ≡ a.0 ∷ (a.1 ++ rest) = ap (λ (w : List ℕ). w ++ rest) a.2 in
    let both = or_parts (is_blank a.0) (eqb a.0 47) a.3 in
    let read : piece_at (a.0 ∷ (a.1 ++ rest)) ≡ Some (Some t, rest) =
    rw (both.0, both.1, sym (ap token_at text) ∙ a.4) refl in
    words_moved (t ∷ us) (a.0 ∷ (a.1 ++ rest)) s (is ∙ text) (behind_piece a.0 (a.1 ++ rest) rest (Some t) us read (omega (arith, length-append a.1 rest)) (words_again k)) n h

pub spelled_again : (s : List ℕ) (ts : List Word) → IsSpelled ts s → words_in s ≡ Some ts
unfolding words_in
spelled_again s ts h = words_again h (suc (length s)) (omega arith)
