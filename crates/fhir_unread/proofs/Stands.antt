-- Each rule that is carried stands in the list.
use Rattle.std.proofs.Common.{◌≡◌, ℕ, Bool, true, false, cond, ◌&&◌, ◌||◌, ◌==◌, List, [], ◌∷◌, ◌++◌, map, take, drop, get_or, Some, refl, sym, ap, ap₂, subst, ◌∙◌, append_assoc, arith}
use Rattle.std.specs.Prelude.{IsUtf8, codes, is_some, count_by}
use Rattle.std.specs.Option.{option_map_or}
use Rattle.std.specs.List.{list_any, list_all, flat_map, Contains}
use Rattle.std.specs.Str.{bytes_eq}
use Rattle.std.specs.Str.Lines.{lines}
use Rattle.std.proofs.lemmas.Bool.{and_parts, and_from, eqb-true, eq-eqb, false≢true}
use Rattle.std.proofs.lemmas.List.{get_or-map, length-map}
use Rattle.std.proofs.lemmas.List.Folds.{list_any_at}
use Rattle.std.proofs.lemmas.Slice.Eq.{bytes_eq-Decides}
use Rattle.fhir_json.specs.Tree.{Text}
use Rattle.fhir_package.specs.Definitions.{Definitions}
use Rattle.fhir_vouching.specs.Given.{is_comment}
use Rattle.fhir_vouching.proofs.Strings.{strings}
use Rattle.fhir_facets.specs.Unread.{Unread, range, target, profile, binding, expression, constraint, unread_text}
use Rattle.fhir_findings.specs.Carrying.{Carried, rule, base, Carrier, text_of, carried_text}
use Rattle.fhir_findings.specs.Firsts.{have_one_text, firsts}
use Rattle.fhir_findings.specs.Once.{Told, told_once}
use Rattle.fhir_lines.specs.Lines.{parts_of, constraint_text, lacks_text, count_text}
use Rattle.fhir_unread.specs.Listing.{inside, comment, given_line, heading, saying_text, sayings_for, sentence_shown, entry}
use Rattle.fhir_unread.specs.Sayings.{Saying, all_sayings, said_under}
use Rattle.fhir_unread.specs.Standing.{comment_line, IsListed}
use Rattle.fhir_unread.specs.Unread.{rule_in, is_rule, given_text}
use Rattle.fhir_unread.proofs.Covered.{any_passing}
use Rattle.fhir_unread.proofs.Entries.{rules_in}
use Rattle.fhir_unread.proofs.Gives.{line_ends, no_comment_given}
use Rattle.fhir_unread.proofs.InsideTexts.{text_inside, comment_no_end, inside_no_end}
use Rattle.fhir_unread.proofs.Once.{gives, same_given, any_first}

-- ---- lines of an entry

lines_comment : (t more : Text) → lines (comment t ++ more) ≡ comment_line t ∷ lines more
lines_comment t more = ap lines (append_assoc (comment_line t) (10 ∷ []) more) ∙ line_ends (comment_line t) more (comment_no_end t)

abbrev said_line : Saying → Text
said_line y = comment_line (saying_text y)

lines_comments : (ys : List Saying) (more : Text) → lines (flat_map (λ y. comment (saying_text y)) ys ++ more) ≡ map said_line ys ++ lines more
lines_comments [] more = refl
lines_comments (y ∷ ys) more =
    let rest : Text = flat_map (λ z. comment (saying_text z)) ys in
    ap lines (append_assoc (comment (saying_text y)) rest more)
    ∙ lines_comment (saying_text y) (rest ++ more)
    ∙ ap (λ (ls : List Text). said_line y ∷ ls) (lines_comments ys more)

lines_given : (t more : Text) → lines (given_line t ++ more) ≡ inside t ∷ lines more
lines_given t more = ap lines (append_assoc (inside t) (10 ∷ []) more) ∙ line_ends (inside t) more (inside_no_end t)

all_comments : (ys : List Saying) → list_all is_comment (map said_line ys) ≡ true
all_comments [] = refl
all_comments (y ∷ ys) = all_comments ys

contains_map : {X Y : Type 0} (f : X → Y) (xs : List X) (x : X) → Contains xs x → Contains (map f xs) (f x)
contains_map f xs x h = (h.0, omega (arith, h.1, length-map xs f), get_or-map f xs h.0 x (f x) h.1 ∙ ap f h.2)

module _ (p : Definitions) where
  -- what is said of a rule, by its text
  abbrev said_by_text : Text → List Saying
  said_by_text t = cond (bytes_eq (take 11 t) (codes "constraint ")) (said_under (drop 11 t) (all_sayings p)) []

  said_as_text : (c : Carried) → sayings_for p (rule_in c) ≡ said_by_text (option_map_or unread_text (rule_in c) [])
  said_as_text (rule (range property value)) = refl
  said_as_text (rule (target canonical)) = refl
  said_as_text (rule (profile canonical)) = refl
  said_as_text (rule (binding canonical)) = refl
  said_as_text (rule (expression text)) = refl
  said_as_text (rule (constraint key)) = refl
  said_as_text (base canonical) = refl

  abbrev head_said : Carrier → Text
  head_said c =
      flat_map (λ part. part ++ codes "; ") (parts_of (constraint_text c.key (sentence_shown p c (rule_in c.carried))) ++ parts_of (lacks_text c.lacks))

  abbrev sayings_at : Told Carrier → List Saying
  sayings_at t = sayings_for p (rule_in t.first.carried)

  abbrev comments_at : Told Carrier → List Text
  comments_at t = map said_line (sayings_at t)

  lines_entry : (t : Told Carrier) (more : Text)
      → lines (entry p t ++ more) ≡ (comment_line (head_said t.first ++ count_text t.count) ∷ comments_at t) ++ (inside (given_text t.first) ∷ lines more)
  lines_entry t more =
      let head : Text = heading t.first (sentence_shown p t.first (rule_in t.first.carried)) t.count in
      let said : Text = flat_map (λ y. comment (saying_text y)) (sayings_at t) in
      let given : Text = given_line (given_text t.first) in
      ap lines (append_assoc (comment head ++ said) given more ∙ append_assoc (comment head) said (given ++ more))
      ∙ lines_comment head (said ++ (given ++ more))
      ∙ ap (λ (ls : List Text). comment_line head ∷ ls)
      (lines_comments (sayings_at t) (given ++ more) ∙ ap (λ (ls : List Text). comments_at t ++ ls) (lines_given (given_text t.first) more))

  -- ---- the entry of a rule

  module _ (u : Unread) (n : ℕ) where
    abbrev tells : Told Carrier → Bool
    tells o = gives (unread_text u) o.first && (o.count == n)

    abbrev Listed : List (Told Carrier) → Type 0
    Listed ts = IsListed p (flat_map (entry p) ts) (unread_text u) n (sayings_for p (Some u))

    here : (t : Told Carrier) (ts : List (Told Carrier)) → is_rule t.first ≡ true → unread_text u ≡ given_text t.first → t.count ≡ n → Listed (t ∷ ts)
    here t ts is e many = record {
      first = t.first;
      carries = sym e;
      heads = refl;
      before = [];
      said = head_said t.first;
      comments = comments_at t;
      line = inside (given_text t.first);
      after = lines (flat_map (entry p) ts);
      stands =
          lines_entry t (flat_map (entry p) ts)
          ∙ ap (λ (m : ℕ). (comment_line (head_said t.first ++ count_text m) ∷ comments_at t) ++ (inside (given_text t.first) ∷ lines (flat_map (entry p) ts))) many;
      are_comments = all_comments (sayings_at t);
      tells = λ y there.
          contains_map said_line (sayings_at t) y
          (subst (λ (ys : List Saying). Contains ys y) (said_as_text (rule u) ∙ ap said_by_text e ∙ sym (said_as_text t.first.carried)) there);
      is_given = λ utf8. no_comment_given t.first.carried is (subst IsUtf8 e utf8);
      gives = λ utf8. (strings (inside (given_text t.first)) (given_text t.first)).1 (text_inside (given_text t.first) (subst IsUtf8 e utf8)) ∙ ap (λ (w : Text). Some w) (sym e);
    }

    later : (t : Told Carrier) (ts : List (Told Carrier)) → Listed ts → Listed (t ∷ ts)
    later t ts r =
        let front : List Text = comment_line (head_said t.first ++ count_text t.count) ∷ comments_at t in
        let line : Text = inside (given_text t.first) in
        let rest : List Text = (comment_line (r.said ++ count_text n) ∷ r.comments) ++ (r.line ∷ r.after) in
        record {
          first = r.first;
          carries = r.carries;
          heads = r.heads;
          before = front ++ (line ∷ r.before);
          said = r.said;
          comments = r.comments;
          line = r.line;
          after = r.after;
          stands =
              lines_entry t (flat_map (entry p) ts)
              ∙ ap (λ (ls : List Text). front ++ (line ∷ ls)) r.stands
              ∙ sym (append_assoc front (line ∷ r.before) rest);
          are_comments = r.are_comments;
          tells = r.tells;
          is_given = r.is_given;
          gives = r.gives;
        }

    listed_in : (ts : List (Told Carrier)) → list_any tells ts ≡ true → Listed ts
    listed_in [] is = absurd (false≢true is)
    listed_in (t ∷ ts) is = by (tells t) refl is (listed_in ts)
      where
        by : (b : Bool) → tells t ≡ b → (b || list_any tells ts) ≡ true → (list_any tells ts ≡ true → Listed ts) → Listed (t ∷ ts)
        by true q is rest =
            let parts = and_parts (gives (unread_text u) t.first) (t.count == n) q in
            let own = and_parts (is_rule t.first) (bytes_eq (unread_text u) (given_text t.first)) parts.0 in
            here t ts own.0 ((bytes_eq-Decides (unread_text u) (given_text t.first)).0 own.1) (eqb-true t.count n parts.1)
        by false q is rest = later t ts (rest is)

-- ---- what is carried is told

any_made : {A : Type 0} (q : Told A → Bool) (count : A → ℕ) (xs : List A)
    → list_any q (map (λ x. let told : Told A = record { first = x; count = count x } in told) xs)
    ≡ list_any (λ x. let told : Told A = record { first = x; count = count x } in q told) xs
any_made q count [] = refl
any_made {A} q count (x ∷ xs) = ap (λ (b : Bool). (let told : Told A = record { first = x; count = count x } in q told) || b) (any_made q count xs)

same_rule : (x y : Carried) → carried_text x ≡ carried_text y → is_some (rule_in x) ≡ is_some (rule_in y)
same_rule (rule u) (rule v) e = refl
same_rule (rule u) (base canonical) e = absurd (omega (arith, ap (λ (w : Text). get_or w 0 0) e))
same_rule (base canonical) (rule v) e = absurd (omega (arith, ap (λ (w : Text). get_or w 0 0) e))
same_rule (base one) (base other) e = refl

module _ (cs : List Carrier) (u : Unread) (n : ℕ) where
  abbrev many : Carrier → ℕ
  many x = count_by (have_one_text text_of x) cs

  abbrev is_it : Carrier → Bool
  is_it x = is_rule x && (gives (unread_text u) x && (many x == n))

  same_it : (x y : Carrier) → text_of x ≡ text_of y → is_it x ≡ is_it y
  same_it x y e =
      ap₂ (λ (a b : Bool). a && b) (same_rule x.carried y.carried e)
      (ap₂ (λ (a b : Bool). a && b) (same_given (unread_text u) x.carried y.carried e)
      (ap (λ (w : Text). count_by (λ z. bytes_eq w (text_of z)) cs == n) e))

  found : (c : Carrier) → Contains cs c → is_it c ≡ true → list_any (λ o. gives (unread_text u) o.first && (o.count == n)) (rules_in (told_once text_of cs)) ≡ true
  found c there is =
      any_passing (λ (o : Told Carrier). is_rule o.first) (λ (o : Told Carrier). gives (unread_text u) o.first && (o.count == n)) (told_once text_of cs)
      ∙ any_made (λ (o : Told Carrier). is_rule o.first && (gives (unread_text u) o.first && (o.count == n))) many (firsts text_of cs)
      ∙ any_first text_of is_it same_it cs
      ∙ list_any_at is_it cs there.0 c there.1 (ap is_it there.2 ∙ is)

pub listed : (p : Definitions) (cs : List Carrier) (c : Carrier) (u : Unread) → Contains cs c → c.carried ≡ rule u
    → IsListed p (flat_map (entry p) (rules_in (told_once text_of cs))) (unread_text u) (count_by (have_one_text text_of c) cs) (sayings_for p (Some u))
listed p cs c u there e =
    let n : ℕ = count_by (have_one_text text_of c) cs in
    let is : is_rule c ≡ true = ap (λ (d : Carried). is_some (rule_in d)) e in
    let text : given_text c ≡ unread_text u = ap (λ (d : Carried). option_map_or unread_text (rule_in d) []) e in
    let same : bytes_eq (unread_text u) (given_text c) ≡ true = (bytes_eq-Decides (unread_text u) (given_text c)).1 (sym text) in
    listed_in p u n (rules_in (told_once text_of cs))
    (found cs u n c there
    (and_from (is_rule c) (gives (unread_text u) c && (n == n)) is
    (and_from (gives (unread_text u) c) (n == n) (and_from (is_rule c) (bytes_eq (unread_text u) (given_text c)) is same) (eq-eqb n n refl))))
