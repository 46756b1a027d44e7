-- What the list of unread rules gives.
use Rattle.std.proofs.Common.{◌≡◌, ℕ, ◌+◌, ◌<◌, Bool, true, false, cond, not, ◌==◌, List, [], ◌∷◌, ◌++◌, map, filter, Option, Some, refl, sym, ap, ◌∙◌, append_assoc, arith}
use Rattle.std.specs.Prelude.{IsUtf8, codes, encode_utf8, is_some, All}
use Rattle.std.specs.Option.{option_map_or}
use Rattle.std.specs.List.{list_any, flat_map}
use Rattle.std.specs.Str.{chars}
use Rattle.std.specs.Str.Lines.{lines}
use Rattle.std.proofs.lemmas.Bool.{or_parts, or_from, false≢true, true≢false}
use Rattle.std.proofs.lemmas.List.Elements.{All-head, All-tail}
use Rattle.std.proofs.lemmas.List.Folds.{list_any-append}
use Rattle.std.proofs.lemmas.Str.{encode_ascii, chars_past_char}
use Rattle.fhir_json.specs.Tree.{Text}
use Rattle.fhir_json.specs.Reading.{text_behind_mark}
use Rattle.fhir_package.specs.Definitions.{Definitions}
use Rattle.fhir_vouching.specs.Given.{has_feed, is_comment, line_text, given_from, given_lines}
use Rattle.fhir_vouching.proofs.Ends.{ends_in_feed}
use Rattle.fhir_vouching.proofs.Strings.{strings}
use Rattle.fhir_facets.specs.Unread.{Unread, range, target, profile, binding, expression, constraint, unread_text}
use Rattle.fhir_findings.specs.Carrying.{Carried, rule, base, Carrier}
use Rattle.fhir_findings.specs.Once.{Told}
use Rattle.fhir_lines.specs.Lines.{escaped}
use Rattle.fhir_unread.specs.Unread.{rule_in, is_rule, given_text}
use Rattle.fhir_unread.specs.Sayings.{Saying}
use Rattle.fhir_unread.specs.Listing.{inside_character, inside, comment, given_line, heading, saying_text, sayings_for, sentence_shown, entry}
use Rattle.fhir_unread.proofs.InsideTexts.{text_inside, is_end, HasNoEnd, comment_no_end, inside_no_end}

-- the texts of lines that are no comments
abbrev pub texts_of : List Text → List (Option Text)
texts_of ls = map line_text (filter (λ l. not (is_comment l)) ls)

pub texts_given : (number : ℕ) (ls : List Text) → map (λ l. l.1) (given_from number ls) ≡ texts_of ls
texts_given number [] = refl
texts_given number (l ∷ ls) = by (is_comment l) refl (texts_given (number + 1) ls)
  where
    by : (b : Bool) → is_comment l ≡ b → map (λ m. m.1) (given_from (number + 1) ls) ≡ texts_of ls
        → map (λ m. m.1) (given_from number (l ∷ ls)) ≡ texts_of (l ∷ ls)
    by true is rest = rw is rest
    by false is rest = rw is (ap (λ (ts : List (Option Text)). line_text l ∷ ts) rest)

-- ---- a line

no_feed : (line : Text) → HasNoEnd line → has_feed line ≡ false
no_feed [] h = refl
no_feed (b ∷ line) h =
    let both = or_parts (is_end b) (list_any is_end line) h in
    or_from (b == 10) (has_feed line) (or_parts (b == 10) (b == 13) both.0).0 (no_feed line both.1)

no_return : (line : Text) → HasNoEnd line → (front : Text) → line ≡ front ++ 13 ∷ [] → ⊥
no_return line h front is =
    let both = or_parts (list_any is_end front) (list_any is_end (13 ∷ [])) (sym (list_any-append is_end front (13 ∷ [])) ∙ ap (list_any is_end) (sym is) ∙ h) in
    true≢false both.1

pub line_ends : (line more : Text) → HasNoEnd line → lines (line ++ 10 ∷ more) ≡ line ∷ lines more
line_ends line more h = ends_in_feed line more (no_feed line h) (no_return line h)

comment_gives : (t more : Text) → texts_of (lines (comment t ++ more)) ≡ texts_of (lines more)
comment_gives t more =
    let line : Text = codes "# " ++ escaped t in
    ap (λ w. texts_of (lines w)) (append_assoc line (10 ∷ []) more) ∙ ap texts_of (line_ends line more (comment_no_end t))

comments_give : (ys : List Saying) (more : Text) → texts_of (lines (flat_map (λ y. comment (saying_text y)) ys ++ more)) ≡ texts_of (lines more)
comments_give [] more = refl
comments_give (y ∷ ys) more =
    let rest : Text = flat_map (λ z. comment (saying_text z)) ys in
    ap (λ w. texts_of (lines w)) (append_assoc (comment (saying_text y)) rest more)
    ∙ comment_gives (saying_text y) (rest ++ more)
    ∙ comments_give ys more

given_gives : (t more : Text) → IsUtf8 t → is_comment (inside t) ≡ false → texts_of (lines (given_line t ++ more)) ≡ Some t ∷ texts_of (lines more)
given_gives t more u text =
    ap (λ w. texts_of (lines w)) (append_assoc (inside t) (10 ∷ []) more)
    ∙ ap texts_of (line_ends (inside t) more (inside_no_end t))
    ∙ ap (λ (b : Bool). map line_text (cond (not b) (inside t ∷ filter (λ l. not (is_comment l)) (lines more)) (filter (λ l. not (is_comment l)) (lines more)))) text
    ∙ ap (λ (o : Option Text). o ∷ texts_of (lines more)) ((strings (inside t) t).1 (text_inside t u))

-- ---- the text of a rule

begins : (b : ℕ) (rest : Text) → IsUtf8 (b ∷ rest) → b < 128 → ((w : Text) → is_comment (inside_character b ++ w) ≡ false) → is_comment (inside (b ∷ rest)) ≡ false
begins b rest u h none =
    let first : b ∷ rest ≡ encode_utf8 b ++ rest = sym (ap (λ (w : Text). w ++ rest) (encode_ascii b h)) in
    ap (λ (cs : List ℕ). is_comment (flat_map inside_character cs)) (chars_past_char (b ∷ rest) rest b u first)
    ∙ none (flat_map inside_character (chars rest))

no_comment : (u : Unread) → IsUtf8 (unread_text u) → is_comment (inside (unread_text u)) ≡ false
no_comment (range property value) u = begins 114 _ u (omega arith) (λ w. refl)
no_comment (target canonical) u = begins 116 _ u (omega arith) (λ w. refl)
no_comment (profile canonical) u = begins 112 _ u (omega arith) (λ w. refl)
no_comment (binding canonical) u = begins 98 _ u (omega arith) (λ w. refl)
no_comment (expression text) u = begins 101 _ u (omega arith) (λ w. refl)
no_comment (constraint key) u = begins 99 _ u (omega arith) (λ w. refl)

pub no_comment_given : (c : Carried) → is_some (rule_in c) ≡ true → IsUtf8 (option_map_or unread_text (rule_in c) [])
    → is_comment (inside (option_map_or unread_text (rule_in c) [])) ≡ false
no_comment_given (rule u) is h = no_comment u h
no_comment_given (base canonical) is h = absurd (false≢true is)

-- ---- the list

module _ (p : Definitions) where
  entry_gives : (t : Told Carrier) (more : Text) → IsUtf8 (given_text t.first) → is_comment (inside (given_text t.first)) ≡ false
      → texts_of (lines (entry p t ++ more)) ≡ Some (given_text t.first) ∷ texts_of (lines more)
  entry_gives t more u text =
      let head : Text = comment (heading t.first (sentence_shown p t.first (rule_in t.first.carried)) t.count) in
      let said : Text = flat_map (λ y. comment (saying_text y)) (sayings_for p (rule_in t.first.carried)) in
      let given : Text = given_line (given_text t.first) in
      ap (λ w. texts_of (lines w)) (append_assoc (head ++ said) given more ∙ append_assoc head said (given ++ more))
      ∙ comment_gives (heading t.first (sentence_shown p t.first (rule_in t.first.carried)) t.count) (said ++ (given ++ more))
      ∙ comments_give (sayings_for p (rule_in t.first.carried)) (given ++ more)
      ∙ given_gives (given_text t.first) more u text

  -- what a list of entries gives, each of which is a rule
  rules_give : (ts : List (Told Carrier)) → All IsUtf8 (map (λ t. given_text t.first) (filter (λ t. is_rule t.first) ts))
      → texts_of (lines (flat_map (entry p) (filter (λ t. is_rule t.first) ts))) ≡ map (λ text. Some text) (map (λ t. given_text t.first) (filter (λ t. is_rule t.first) ts))
  rules_give [] h = refl
  rules_give (t ∷ ts) h = by (is_rule t.first) refl h (rules_give ts)
    where
      rules : List (Told Carrier)
      rules = filter (λ t. is_rule t.first) ts

      by : (b : Bool) → is_rule t.first ≡ b → All IsUtf8 (map (λ t. given_text t.first) (cond b (t ∷ rules) rules))
          → (All IsUtf8 (map (λ t. given_text t.first) rules) → texts_of (lines (flat_map (entry p) rules)) ≡ map (λ text. Some text) (map (λ t. given_text t.first) rules))
          → texts_of (lines (flat_map (entry p) (cond b (t ∷ rules) rules))) ≡ map (λ text. Some text) (map (λ t. given_text t.first) (cond b (t ∷ rules) rules))
      by true is h rest =
          let u : IsUtf8 (given_text t.first) = All-head IsUtf8 (given_text t.first) (map (λ t. given_text t.first) rules) h in
          entry_gives t (flat_map (entry p) rules) u (no_comment_given t.first.carried is u)
          ∙ ap (λ (os : List (Option Text)). Some (given_text t.first) ∷ os) (rest (All-tail IsUtf8 (given_text t.first) (map (λ t. given_text t.first) rules) h))
      by false is h rest = rest h

  no_mark : (ts : List (Told Carrier)) → text_behind_mark (flat_map (entry p) ts) ≡ flat_map (entry p) ts
  no_mark [] = refl
  no_mark (t ∷ ts) = refl

  pub listing_gives : (ts : List (Told Carrier)) → All IsUtf8 (map (λ t. given_text t.first) (filter (λ t. is_rule t.first) ts))
      → map (λ l. l.1) (given_lines (flat_map (entry p) (filter (λ t. is_rule t.first) ts)))
      ≡ map (λ text. Some text) (map (λ t. given_text t.first) (filter (λ t. is_rule t.first) ts))
  listing_gives ts h =
      texts_given 1 (lines (text_behind_mark (flat_map (entry p) (filter (λ t. is_rule t.first) ts))))
      ∙ ap (λ (w : Text). texts_of (lines w)) (no_mark (filter (λ t. is_rule t.first) ts))
      ∙ rules_give ts h
