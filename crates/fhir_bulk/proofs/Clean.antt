-- The rows on a line by their characters.
use Rattle.std.proofs.Common.{◌≡◌, ◌<◌, ◌≤◌, ◌+◌, ◌/◌, ◌%◌, ◌^◌, ℕ, suc, List, [], ◌∷◌, ◌++◌, length, filter, map, flat_map, zip, replicate, get_or, Bool, true, false, cond, ◌&&◌, All, IsUtf8, nat_lt, codes, Option, None, Some, append_assoc, refl, sym, ap, ap₂, subst, ◌∙◌, append-nil, arith}
use Rattle.std.proofs.lemmas.Bool.Decides.{nat_tests}
use Rattle.std.proofs.lemmas.Fmt.{decimal_by_steps}
use Rattle.std.proofs.lemmas.List.{length-append, replicate-append-replicate}
use Rattle.std.proofs.lemmas.List.Elements.{filter-append, All-head, All-tail}
use Rattle.std.proofs.lemmas.Str.{IsUtf8-append, IsUtf8-nil, chars-nil, chars-append, chars-encodes, encode_ascii, inside_one}
use Rattle.std.specs.Char.{is_control}
use Rattle.std.specs.Fmt.{decimal}
use Rattle.std.specs.List.{list_all}
use Rattle.std.specs.Str.{chars}
use lib.Utf8.{scalar, scalars, encode, encodes, low_scalar}
use Rattle.fhir_json.specs.Bytes.{is_empty}
use Rattle.fhir_json.specs.Compact.{compact, letter, hex_digit, escape_as, escape_byte, escape_text}
use Rattle.fhir_json.specs.Tree.{Text, Tree, string}
use Rattle.fhir_json.specs.declared.position.Position.{Position}
use Rattle.fhir_lines.specs.Lines.{escaped}
use Rattle.fhir_words.specs.declared.request.Format.{Format}
use Rattle.fhir_words.specs.declared.request.Format.TheVariants.{Text as AsText, Json as AsJson}
use Rattle.fhir_telling.specs.declared.verdict.LineVerdict.{LineVerdict}
use Rattle.fhir_telling.specs.declared.verdict.LineVerdict.TheVariants.{Conforms, Violates, Open, Fault, NoMemory, Empty}
use Rattle.fhir_telling.specs.Verdicts.{verdict_of}
use Rattle.fhir_telling.specs.Judgements.{NoteValue, JudgementValue, ToldValue, issues_of, place_of, diagnostics_of}
use Rattle.fhir_bulk.specs.Rows.{verdict_word, heading, place_text, words_text, issue_text, line_of, issue_row, is_told, row_if_told, judgement_rows}
use Rattle.fhir_bulk.specs.Rows.{profile_start, verdict_start, outcome_start, at_start, outcomes_start, separated, position_json, profile_json, verdict_json, at_json, judgement_json, tail, rows}
use Rattle.fhir_bulk.specs.Texts.{told_issues, rows_in, IsIssueText, IsNoteText, IsJudgementText, AreTexts, IsSmallPosition, AreSmall}

-- a text of UTF-8 whose control characters are so many line feeds
record Clean (n : ℕ) (text : Text) : Type 0 where
  pub utf8 : IsUtf8 text
  pub feeds : filter is_control (chars text) ≡ replicate n 10

join : (m n : ℕ) (xs ys : Text) → Clean m xs → Clean n ys → Clean (m + n) (xs ++ ys)
join m n xs ys a b = record {
  utf8 = IsUtf8-append xs ys a.utf8 b.utf8;
  feeds =
      ap (filter is_control) (chars-append xs ys a.utf8)
      ∙ filter-append is_control (chars xs) (chars ys)
      ∙ ap₂ (λ (us vs : List ℕ). us ++ vs) a.feeds b.feeds
      ∙ replicate-append-replicate m n 10;
}

-- of no line feeds
join_none : (xs ys : Text) → Clean 0 xs → Clean 0 ys → Clean 0 (xs ++ ys)
join_none xs ys a b = join 0 0 xs ys a b

as_many : (m n : ℕ) (text : Text) → m ≡ n → Clean m text → Clean n text
as_many m n text same is = subst (λ k. Clean k text) same is

nothing : Clean 0 []
nothing = record { utf8 = IsUtf8-nil; feeds = ap (filter is_control) chars-nil }

-- ---- ASCII

one_text : (c : ℕ) → c < 128 → IsUtf8 (c ∷ [])
one_text c small = (c ∷ [], (ap (λ (b : Bool). b && true) (low_scalar c (omega arith)), ap (λ (xs : List ℕ). xs ++ []) (encode_ascii c small)))

one_character : (c : ℕ) → c < 128 → chars (c ∷ []) ≡ c ∷ []
one_character c small =
    ap (λ (xs : List ℕ). chars (xs ++ [])) (sym (encode_ascii c small))
    ∙ chars-encodes (c ∷ []) (ap (λ (b : Bool). b && true) (low_scalar c (omega arith)))

-- a printed character of ASCII
abbrev is_printed : ℕ → Bool
is_printed c = nat_lt 31 c && nat_lt c 127

printed_small : (c : ℕ) → is_printed c ≡ true → c < 128
printed_small c is = grind (arith, nat_tests)

printed_clean : (c : ℕ) → is_printed c ≡ true → is_control c ≡ false
printed_clean c is = grind (arith, nat_tests)

one_printed : (c : ℕ) → is_printed c ≡ true → Clean 0 (c ∷ [])
one_printed c is = record {
  utf8 = one_text c (printed_small c is);
  feeds = ap (filter is_control) (one_character c (printed_small c is)) ∙ ap (λ (b : Bool). cond b (c ∷ []) []) (printed_clean c is);
}

both_left : (a b : Bool) → (a && b) ≡ true → a ≡ true
both_left true b is = refl
both_left false b is = cc

both_right : (a b : Bool) → (a && b) ≡ true → b ≡ true
both_right true b is = is
both_right false b is = cc

printed : (text : Text) → list_all is_printed text ≡ true → Clean 0 text
printed [] is = nothing
printed (c ∷ cs) is =
    join_none (c ∷ []) cs (one_printed c (both_left (is_printed c) (list_all is_printed cs) is))
    (printed cs (both_right (is_printed c) (list_all is_printed cs) is))

line_end : Clean 1 (codes "\n")
line_end = record { utf8 = one_text 10 (omega arith); feeds = ap (filter is_control) (one_character 10 (omega arith)) }

digit_printed : (d : ℕ) → d < 10 → is_printed (48 + d) ≡ true
digit_printed d small = grind (arith, nat_tests)

decimal_clean : (n : ℕ) → n < 2 ^ 64 → Clean 0 (decimal n)
decimal_clean =
    decimal_by_steps (λ m ds. Clean 0 ds) (λ m small. one_printed (48 + m) (digit_printed m small))
    (λ m ds large front. join_none ds ((48 + m % 10) ∷ []) front (one_printed (48 + m % 10) (digit_printed (m % 10) (omega arith))))

-- ---- a JSON string

high_as_it_is : (b : ℕ) → 128 ≤ b → escape_byte b ≡ b ∷ []
high_as_it_is b high = grind (arith, nat_tests)

high_text : (bs : List ℕ) → ((k : ℕ) → k < length bs → 128 ≤ get_or bs k 0) → escape_text bs ≡ bs
unfolding escape_text
high_text [] high = refl
high_text (b ∷ bs) high =
    ap₂ (λ (xs ys : List ℕ). xs ++ ys) (high_as_it_is b (high 0 (omega arith))) (high_text bs (λ k less. high (suc k) (omega (arith, less))))

escape_append : (xs ys : List ℕ) → escape_text (xs ++ ys) ≡ escape_text xs ++ escape_text ys
unfolding escape_text
escape_append [] ys = refl
escape_append (x ∷ xs) ys =
    ap (λ (l : List ℕ). escape_byte x ++ l) (escape_append xs ys) ∙ sym (append_assoc (escape_byte x) (escape_text xs) (escape_text ys))

abbrev is_small : ℕ → Bool
is_small b = nat_lt b 128

small_text : (text : Text) → list_all is_small text ≡ true → IsUtf8 text
small_text [] is = IsUtf8-nil
small_text (c ∷ cs) is =
    let first : is_small c ≡ true = both_left (is_small c) (list_all is_small cs) is in
    IsUtf8-append (c ∷ []) cs (one_text c (grind (arith, nat_tests))) (small_text cs (both_right (is_small c) (list_all is_small cs) is))

letter_small : (c e : ℕ) → letter c ≡ Some e → is_small e ≡ true
letter_small c e is = grind (arith, nat_tests)

hex_small : (d : ℕ) → d < 16 → is_small (hex_digit d) ≡ true
hex_small d less = grind (arith, nat_tests)

by_code : (b : Bool) (c : ℕ) → c < 128
    → list_all is_small (cond b (92 ∷ 117 ∷ 48 ∷ 48 ∷ hex_digit (c / 16) ∷ hex_digit (c % 16) ∷ []) (c ∷ [])) ≡ true
by_code true c small =
    ap₂ (λ (p q : Bool). p && (q && true)) (hex_small (c / 16) (omega arith)) (hex_small (c % 16) (omega arith))
by_code false c small =
    let is : is_small c ≡ true = grind (arith, nat_tests) in
    ap (λ (p : Bool). p && true) is

small_as : (o : Option ℕ) (c : ℕ) → c < 128 → ((e : ℕ) → o ≡ Some e → is_small e ≡ true) → list_all is_small (escape_as o c) ≡ true
small_as (Some e) c small so = ap (λ (p : Bool). p && true) (so e refl)
small_as None c small so = by_code (nat_lt c 32) c small

-- no byte of a character that isn't ASCII is
high_by : (b : Bool) (c k : ℕ) → nat_lt (get_or (encode c) k 0) 128 ≡ b → 128 ≤ c → k < length (encode c) → 128 ≤ get_or (encode c) k 0
high_by true c k is large less =
    let low : get_or (encode c) k 0 < 128 = grind (arith, nat_tests) in
    absurd (omega (arith, inside_one c [] (encode c) k (sym (append-nil (encode c))) less low))
high_by false c k is large less = grind (arith, nat_tests)

one_escaped : (b : Bool) (c : ℕ) → nat_lt c 128 ≡ b → scalar c ≡ true → IsUtf8 (escape_text (encode c))
unfolding escape_text
one_escaped true c is of_c =
    let small : c < 128 = grind (arith, nat_tests) in
    subst IsUtf8 (sym (ap escape_text (encode_ascii c small) ∙ append-nil (escape_byte c)))
    (small_text (escape_byte c) (small_as (letter c) c small (letter_small c)))
one_escaped false c is of_c =
    let large : 128 ≤ c = grind (arith, nat_tests) in
    subst IsUtf8 (sym (high_text (encode c) (λ k less. high_by (nat_lt (get_or (encode c) k 0) 128) c k refl large less)))
    (c ∷ [], (ap (λ (p : Bool). p && true) of_c, append-nil (encode c)))

all_escaped : (cs : List ℕ) → scalars cs ≡ true → IsUtf8 (escape_text (encodes cs))
unfolding escape_text
all_escaped [] all = IsUtf8-nil
all_escaped (c ∷ cs) all =
    subst IsUtf8 (sym (escape_append (encode c) (encodes cs)))
    (IsUtf8-append (escape_text (encode c)) (escape_text (encodes cs)) (one_escaped (nat_lt c 128) c refl (both_left (scalar c) (scalars cs) all))
    (all_escaped cs (both_right (scalar c) (scalars cs) all)))

string_text : (text : Text) → IsUtf8 text → IsUtf8 (compact (string text))
string_text text is =
    let inner : IsUtf8 (escape_text text) = subst (λ l. IsUtf8 (escape_text l)) is.1.1 (all_escaped is.0 is.1.0) in
    IsUtf8-append (34 ∷ []) (escape_text text ++ 34 ∷ []) (one_text 34 (omega arith))
    (IsUtf8-append (escape_text text) (34 ∷ []) inner (one_text 34 (omega arith)))

-- ---- lists

none_of : {X : Type 0} (f : X → Text) (xs : List X) → All (λ x. Clean 0 (f x)) xs → Clean 0 (flat_map f xs)
none_of f [] all = nothing
none_of f (x ∷ xs) all =
    join_none (f x) (flat_map f xs) (All-head (λ y. Clean 0 (f y)) x xs all) (none_of f xs (All-tail (λ y. Clean 0 (f y)) x xs all))

separated_of : {X : Type 0} (f : X → Text) (xs : List X) → All (λ x. Clean 0 (f x)) xs → Clean 0 (separated (map f xs))
separated_of f [] all = nothing
separated_of {X} f (x ∷ xs) all =
    join_none (f x) (flat_map (λ u. codes "," ++ u) (map f xs)) (All-head (λ y. Clean 0 (f y)) x xs all)
    (others xs (All-tail (λ y. Clean 0 (f y)) x xs all))
  where
    others : (ys : List X) → All (λ y. Clean 0 (f y)) ys → Clean 0 (flat_map (λ u. codes "," ++ u) (map f ys))
    others [] all = nothing
    others (y ∷ ys) all =
        join_none (codes "," ++ f y) (flat_map (λ u. codes "," ++ u) (map f ys))
        (join_none (codes ",") (f y) (printed (codes ",") refl) (All-head (λ z. Clean 0 (f z)) y ys all))
        (others ys (All-tail (λ z. Clean 0 (f z)) y ys all))

-- what holds of each element, of each holds what follows from it
each : {X : Type 0} {P Q : X → Type 0} → ((x : X) → P x → Q x) → (xs : List X) → All P xs → All Q xs
each so xs all k d less = so (get_or xs k d) (all k d less)

one_each : {X : Type 0} (f : X → Text) (xs : List X) → All (λ x. Clean 1 (f x)) xs → Clean (length xs) (flat_map f xs)
one_each f [] all = nothing
one_each f (x ∷ xs) all =
    as_many (1 + length xs) (suc (length xs)) (f x ++ flat_map f xs) (omega arith)
    (join 1 (length xs) (f x) (flat_map f xs) (All-head (λ y. Clean 1 (f y)) x xs all) (one_each f xs (All-tail (λ y. Clean 1 (f y)) x xs all)))

-- ---- the rows

abbrev Escapes : Type 0
Escapes = (text : Text) → IsUtf8 text → Clean 0 (escaped text)

line_small : (number : ℕ) (at : Position) → number < 2 ^ 64 → at.line < 2 ^ 64 → line_of number at < 2 ^ 64
line_small number at small of_at = grind (arith, nat_tests)

word_clean : (format : Format) (v : LineVerdict) → Clean 0 (verdict_word format v)
word_clean AsText Conforms = printed (verdict_word AsText Conforms) refl
word_clean AsText Violates = printed (verdict_word AsText Violates) refl
word_clean AsText Open = printed (verdict_word AsText Open) refl
word_clean AsText Fault = printed (verdict_word AsText Fault) refl
word_clean AsText NoMemory = printed (verdict_word AsText NoMemory) refl
word_clean AsText Empty = printed (verdict_word AsText Empty) refl
word_clean AsJson Conforms = printed (verdict_word AsJson Conforms) refl
word_clean AsJson Violates = printed (verdict_word AsJson Violates) refl
word_clean AsJson Open = printed (verdict_word AsJson Open) refl
word_clean AsJson Fault = printed (verdict_word AsJson Fault) refl
word_clean AsJson NoMemory = printed (verdict_word AsJson NoMemory) refl
word_clean AsJson Empty = printed (verdict_word AsJson Empty) refl

heading_clean : Escapes → (format : Format) (file : Text) → IsUtf8 file → Clean 0 (heading format file)
heading_clean esc AsText file is = join_none (escaped file) (codes ":") (esc file is) (printed (codes ":") refl)
heading_clean esc AsJson file is =
    let name = escaped (compact (string file)) in
    join_none (codes "{\"file\":" ++ name) (codes ",\"line\":")
    (join_none (codes "{\"file\":") name (printed (codes "{\"file\":") refl) (esc (compact (string file)) (string_text file is)))
    (printed (codes ",\"line\":") refl)

place_clean : Escapes → (b : Bool) (place : Text) → IsUtf8 place → Clean 0 (cond b [] (escaped place ++ codes ": "))
place_clean esc true place is = nothing
place_clean esc false place is = join_none (escaped place) (codes ": ") (esc place is) (printed (codes ": ") refl)

words_clean : Escapes → (b : Bool) (words : Text) → IsUtf8 words → Clean 0 (cond b [] (codes ": " ++ escaped words))
words_clean esc true words is = nothing
words_clean esc false words is = join_none (codes ": ") (escaped words) (printed (codes ": ") refl) (esc words is)

issue_clean : Escapes → (issue : Tree) (note : NoteValue) → IsIssueText issue → IsNoteText note → Clean 0 (issue_text issue note)
issue_clean esc issue note is of_note =
    let place = place_text (place_of issue) in
    let wrong = escaped (diagnostics_of issue) in
    join_none (place ++ wrong) (words_text note.words)
    (join_none place wrong (place_clean esc (is_empty (place_of issue)) (place_of issue) is.0) (esc (diagnostics_of issue) is.1))
    (words_clean esc (is_empty note.words) note.words of_note)

row_clean : Escapes → (head : Text) (number : ℕ) → Clean 0 head → number < 2 ^ 64 → (issue : Tree) (note : NoteValue) → IsIssueText issue
    → IsNoteText note → IsSmallPosition note → Clean 1 (issue_row head number (issue, note))
row_clean esc head number of_head small issue note is of_note of_at =
    let line = decimal (line_of number note.at) in
    let column = decimal note.at.column in
    let text = issue_text issue note in
    let c1 = join_none head line of_head (decimal_clean (line_of number note.at) (line_small number note.at small of_at.0)) in
    let c2 = join_none (head ++ line) (codes ":") c1 (printed (codes ":") refl) in
    let c3 = join_none (head ++ line ++ codes ":") column c2 (decimal_clean note.at.column of_at.1) in
    let c4 = join_none (head ++ line ++ codes ":" ++ column) (codes ": ") c3 (printed (codes ": ") refl) in
    let c5 = join_none (head ++ line ++ codes ":" ++ column ++ codes ": ") text c4 (issue_clean esc issue note is of_note) in
    join 0 1 (head ++ line ++ codes ":" ++ column ++ codes ": " ++ text) (codes "\n") c5 line_end

-- an issue in front of others, if it has a row
one_more : (b : Bool) {X : Type 0} (x : X) (xs : List X) (row rest : Text) → Clean 1 row → Clean (length xs) rest
    → Clean (length (cond b (x ∷ xs) xs)) (cond b row [] ++ rest)
one_more true x xs row rest of_row of_rest = as_many (1 + length xs) (suc (length xs)) (row ++ rest) (omega arith) (join 1 (length xs) row rest of_row of_rest)
one_more false x xs row rest of_row of_rest = of_rest

issues_clean : Escapes → (head : Text) (number : ℕ) → Clean 0 head → number < 2 ^ 64 → (issues : List Tree) (notes : List NoteValue) → All IsIssueText issues
    → All IsNoteText notes → All IsSmallPosition notes
    → Clean (length (filter (λ p. is_told p.0) (zip issues notes))) (flat_map (row_if_told head number) (zip issues notes))
issues_clean esc head number of_head small [] notes is of_notes of_at = nothing
issues_clean esc head number of_head small (x ∷ xs) [] is of_notes of_at = nothing
issues_clean esc head number of_head small (x ∷ xs) (n ∷ ns) is of_notes of_at =
    one_more (is_told x) (x, n) (filter (λ p. is_told p.0) (zip xs ns)) (issue_row head number (x, n)) (flat_map (row_if_told head number) (zip xs ns))
    (row_clean esc head number of_head small x n (All-head IsIssueText x xs is) (All-head IsNoteText n ns of_notes) (All-head IsSmallPosition n ns of_at))
    (issues_clean esc head number of_head small xs ns (All-tail IsIssueText x xs is) (All-tail IsNoteText n ns of_notes) (All-tail IsSmallPosition n ns of_at))

abbrev OfPositions : JudgementValue → Type 0
OfPositions j = All IsSmallPosition j.notes

judgements_clean : Escapes → (head : Text) (number : ℕ) → Clean 0 head → number < 2 ^ 64 → (js : List JudgementValue) → All (IsJudgementText AsText) js
    → All OfPositions js → Clean (length (flat_map told_issues js)) (flat_map (judgement_rows head number) js)
judgements_clean esc head number of_head small [] is of_at = nothing
judgements_clean esc head number of_head small (j ∷ js) is of_at =
    let texts = All-head (IsJudgementText AsText) j js is in
    let first = issues_clean esc head number of_head small (issues_of j.outcome) j.notes texts.0 texts.1 (All-head OfPositions j js of_at) in
    let rest = judgements_clean esc head number of_head small js (All-tail (IsJudgementText AsText) j js is) (All-tail OfPositions j js of_at) in
    as_many (length (told_issues j) + length (flat_map told_issues js)) (length (told_issues j ++ flat_map told_issues js))
    (judgement_rows head number j ++ flat_map (judgement_rows head number) js)
    (sym (length-append (told_issues j) (flat_map told_issues js)))
    (join (length (told_issues j)) (length (flat_map told_issues js)) (judgement_rows head number j) (flat_map (judgement_rows head number) js) first rest)

verdict_start_clean : Clean 0 verdict_start
unfolding verdict_start
verdict_start_clean = printed verdict_start refl

verdict_clean : (v : LineVerdict) (next : Text) → Clean 0 next → Clean 0 (verdict_json v next)
verdict_clean v next is =
    join_none (verdict_start ++ verdict_word AsJson v) next (join_none verdict_start (verdict_word AsJson v) verdict_start_clean (word_clean AsJson v)) is

profile_start_clean : Clean 0 profile_start
unfolding profile_start
profile_start_clean = printed profile_start refl

profile_clean : Escapes → (profile : Text) → IsUtf8 profile → Clean 0 (profile_json profile)
profile_clean esc profile is = join_none profile_start (escaped (compact (string profile))) profile_start_clean (esc (compact (string profile)) (string_text profile is))

position_clean : (number : ℕ) → number < 2 ^ 64 → (note : NoteValue) → IsSmallPosition note → Clean 0 (position_json number note.at)
position_clean number small note of_at =
    let line = decimal (line_of number note.at) in
    let column = decimal note.at.column in
    let c1 = join_none (codes "[") line (printed (codes "[") refl) (decimal_clean (line_of number note.at) (line_small number note.at small of_at.0)) in
    let c2 = join_none (codes "[" ++ line) (codes ",") c1 (printed (codes ",") refl) in
    let c3 = join_none (codes "[" ++ line ++ codes ",") column c2 (decimal_clean note.at.column of_at.1) in
    join_none (codes "[" ++ line ++ codes "," ++ column) (codes "]") c3 (printed (codes "]") refl)

at_start_clean : Clean 0 at_start
unfolding at_start
at_start_clean = printed at_start refl

at_clean : (number : ℕ) → number < 2 ^ 64 → (notes : List NoteValue) → All IsSmallPosition notes → Clean 0 (at_json number notes)
at_clean number small notes of_at =
    let all = separated (map (λ note. position_json number note.at) notes) in
    let inner = separated_of (λ note. position_json number note.at) notes (each (position_clean number small) notes of_at) in
    join_none (at_start ++ all) (codes "]}") (join_none at_start all at_start_clean inner) (printed (codes "]}") refl)

outcome_start_clean : Clean 0 outcome_start
unfolding outcome_start
outcome_start_clean = printed outcome_start refl

outcomes_start_clean : Clean 0 outcomes_start
unfolding outcomes_start
outcomes_start_clean = printed outcomes_start refl

judgement_clean : Escapes → (number : ℕ) → number < 2 ^ 64 → (j : JudgementValue) → IsJudgementText AsJson j → OfPositions j
    → Clean 0 (judgement_json number j)
judgement_clean esc number small j is of_at =
    let p = profile_json j.profile in
    let v = verdict_json (verdict_of j.standing) outcome_start in
    let o = escaped (compact j.outcome) in
    let c1 = join_none p v (profile_clean esc j.profile is.0) (verdict_clean (verdict_of j.standing) outcome_start outcome_start_clean) in
    let c2 = join_none (p ++ v) o c1 (esc (compact j.outcome) is.1) in
    join_none (p ++ v ++ o) (at_json number j.notes) c2 (at_clean number small j.notes of_at)

each_judgement : Escapes → (number : ℕ) → number < 2 ^ 64 → (js : List JudgementValue) → All (IsJudgementText AsJson) js → All OfPositions js
    → All (λ j. Clean 0 (judgement_json number j)) js
each_judgement esc number small js is of_at k d less =
    judgement_clean esc number small (get_or js k d) (is k d less) (of_at k d less)

tail_clean : Escapes → (format : Format) (head : Text) (number : ℕ) (told : ToldValue) → Clean 0 head → AreTexts format told → AreSmall number told
    → Clean (rows_in format told) (tail format head number told)
tail_clean esc AsText head number told of_head is small =
    let js = told.judgements in
    let word = verdict_word AsText told.verdict in
    let n = length (flat_map told_issues js) in
    let c1 = join_none (codes ": ") word (printed (codes ": ") refl) (word_clean AsText told.verdict) in
    let c2 = join 0 1 (codes ": " ++ word) (codes "\n") c1 line_end in
    as_many (1 + n) (suc n) (codes ": " ++ word ++ codes "\n" ++ flat_map (judgement_rows head number) js) (omega arith)
    (join 1 n (codes ": " ++ word ++ codes "\n") (flat_map (judgement_rows head number) js) c2
    (judgements_clean esc head number of_head small.0 js is small.1))
tail_clean esc AsJson head number told of_head is small =
    let js = told.judgements in
    let v = verdict_json told.verdict outcomes_start in
    let all = separated (map (judgement_json number) js) in
    let c1 = join_none v all (verdict_clean told.verdict outcomes_start outcomes_start_clean)
    (separated_of (judgement_json number) js (each_judgement esc number small.0 js is small.1)) in
    join 0 1 (v ++ all) (codes "]}\n") c1 (join 0 1 (codes "]}") (codes "\n") (printed (codes "]}") refl) line_end)

told_clean : Escapes → (format : Format) (file : Text) (number : ℕ) (told : ToldValue) → IsUtf8 file → AreTexts format told → AreSmall number told
    → Clean (rows_in format told) (rows format (heading format file) number told)
told_clean esc format file number told of_file is small =
    let head = heading format file in
    let of_head = heading_clean esc format file of_file in
    let n = rows_in format told in
    as_many (0 + n) n (head ++ decimal number ++ tail format head number told) (omega arith)
    (join 0 n (head ++ decimal number) (tail format head number told) (join_none head (decimal number) of_head (decimal_clean number small.0))
    (tail_clean esc format head number told of_head is small))

pub rows_clean : ((text : Text) → IsUtf8 text → IsUtf8 (escaped text)) → ((text : Text) → IsUtf8 text → filter is_control (chars (escaped text)) ≡ [])
    → (format : Format) (file : Text) (number : ℕ) (told : ToldValue) → IsUtf8 file → AreTexts format told → AreSmall number told
    → filter is_control (chars (rows format (heading format file) number told)) ≡ replicate (rows_in format told) 10
rows_clean of_text clean format file number told of_file is small =
    (told_clean (λ text of_it. record { utf8 = of_text text of_it; feeds = clean text of_it }) format file number told of_file is small).feeds
