-- What a user vouches for who gives a whole list of unread rules.
use Rattle.std.proofs.Common.{◌≡◌, ◌&&◌, false, ◌+◌, sym, arith, ℕ, Bool, true, cond, not, ◌||◌, List, [], ◌∷◌, map, filter, Option, Some, None, refl, ap, ap₂, ◌∙◌, ◌++◌}
use Rattle.std.specs.Prelude.{IsUtf8, All, count_by}
use Rattle.std.proofs.lemmas.List.Sums.{sum_by-cons}
use Rattle.fhir_findings.proofs.Counted.{told_by_one}
use Rattle.std.specs.List.{list_any, flat_map}
use Rattle.std.specs.Str.{bytes_eq}
use Rattle.std.proofs.lemmas.Bool.{or_right}
use Rattle.std.proofs.lemmas.Slice.Eq.{bytes_eq-Decides}
use Rattle.fhir_json.specs.Tree.{Text}
use Rattle.fhir_package.specs.Definitions.{Definitions}
use Rattle.fhir_vouching.specs.Given.{given_lines}
use Rattle.fhir_facets.specs.Unread.{Unread, unread_text}
use Rattle.fhir_findings.specs.Carrying.{Carried, rule, base, Carrier, text_of, carried_text}
use Rattle.fhir_findings.specs.Once.{Told, told_once}
use Rattle.fhir_unread.specs.Given.{text_given, texts_given, is_known, unknown_lines, note}
use Rattle.fhir_unread.specs.Listing.{entry}
use Rattle.fhir_unread.specs.Unread.{is_rule, given_text}
use Rattle.fhir_unread.proofs.Entries.{rules_in}
use Rattle.fhir_unread.proofs.Gives.{listing_gives}
use Rattle.fhir_unread.proofs.Once.{gives, once}

-- ---- a rule is given where it is carried

given_as_printed : (u : Unread) (c : Carried) (k : Option Text) (file url id : Text) (lacks : Bool)
    → gives (unread_text u) (record { file = file; url = url; id = id; carried = c; key = k; lacks = lacks }) ≡ bytes_eq (carried_text (rule u)) (carried_text c)
given_as_printed u (rule v) k file url id lacks = refl
given_as_printed u (base canonical) k file url id lacks = refl

any_printed : (u : Unread) (cs : List Carrier) → list_any (gives (unread_text u)) cs ≡ list_any (λ c. bytes_eq (carried_text (rule u)) (text_of c)) cs
any_printed u [] = refl
any_printed u (c ∷ cs) = ap₂ (λ (a b : Bool). a || b) (given_as_printed u c.carried c.key c.file c.url c.id c.lacks) (any_printed u cs)

pub given_where_carried : (cs : List Carrier) (u : Unread)
    → list_any (bytes_eq (unread_text u)) (map (λ o. given_text o.first) (rules_in (told_once text_of cs)))
    ≡ list_any (λ c. bytes_eq (carried_text (rule u)) (text_of c)) cs
given_where_carried cs u = once cs (unread_text u) ∙ any_printed u cs

-- ---- and is listed once

count_given : (u : Unread) (ts : List (Told Carrier))
    → count_by (bytes_eq (unread_text u)) (map (λ o. given_text o.first) (rules_in ts))
    ≡ count_by (λ o. bytes_eq (carried_text (rule u)) (text_of o.first)) ts
count_given u [] = refl
count_given u (t ∷ ts) =
    by (is_rule t.first) refl (given_as_printed u t.first.carried t.first.key t.first.file t.first.url t.first.id t.first.lacks) (count_given u ts)
  where
    by : (b : Bool) → is_rule t.first ≡ b → (b && bytes_eq (unread_text u) (given_text t.first)) ≡ bytes_eq (carried_text (rule u)) (text_of t.first)
        → count_by (bytes_eq (unread_text u)) (map (λ o. given_text o.first) (rules_in ts)) ≡ count_by (λ o. bytes_eq (carried_text (rule u)) (text_of o.first)) ts
        → count_by (bytes_eq (unread_text u)) (map (λ o. given_text o.first) (cond b (t ∷ rules_in ts) (rules_in ts)))
        ≡ count_by (λ o. bytes_eq (carried_text (rule u)) (text_of o.first)) (t ∷ ts)
    by true is e rest =
        sum_by-cons (λ w. cond (bytes_eq (unread_text u) w) 1 0) (given_text t.first) (map (λ o. given_text o.first) (rules_in ts))
        ∙ ap₂ (λ (b : Bool) (n : ℕ). cond b 1 0 + n) e rest
        ∙ sym (sum_by-cons (λ (o : Told Carrier). cond (bytes_eq (carried_text (rule u)) (text_of o.first)) 1 0) t ts)
    by false is e rest =
        let more = sum_by-cons (λ (o : Told Carrier). cond (bytes_eq (carried_text (rule u)) (text_of o.first)) 1 0) t ts in
        rest
        ∙ sym (more ∙ ap (λ (b : Bool). cond b 1 0 + count_by (λ (o : Told Carrier). bytes_eq (carried_text (rule u)) (text_of o.first)) ts) (sym e) ∙ omega arith)

pub given_once : (cs : List Carrier) (u : Unread)
    → count_by (bytes_eq (unread_text u)) (map (λ o. given_text o.first) (rules_in (told_once text_of cs)))
    ≡ cond (list_any (λ c. bytes_eq (carried_text (rule u)) (text_of c)) cs) 1 0
given_once cs u =
    count_given u (told_once text_of cs)
    ∙ told_by_one text_of cs (record { file = []; url = []; id = []; carried = rule u; key = None; lacks = false })

-- ---- the whole list is given

all_given : (ts : List Text) → flat_map text_given (map (λ t. Some t) ts) ≡ ts
all_given [] = refl
all_given (t ∷ ts) = ap (λ (us : List Text). t ∷ us) (all_given ts)

pub list_given : (p : Definitions) (ts : List (Told Carrier)) → All IsUtf8 (map (λ t. given_text t.first) (rules_in ts))
    → texts_given (flat_map (entry p) (rules_in ts)) ≡ map (λ t. given_text t.first) (rules_in ts)
list_given p ts h =
    sym_map (given_lines (flat_map (entry p) (rules_in ts)))
    ∙ ap (flat_map text_given) (listing_gives p ts h)
    ∙ all_given (map (λ t. given_text t.first) (rules_in ts))
  where
    sym_map : (ls : List (ℕ × Option Text)) → flat_map (λ l. text_given l.1) ls ≡ flat_map text_given (map (λ l. l.1) ls)
    sym_map [] = refl
    sym_map (l ∷ ls) = ap (λ (us : List Text). text_given l.1 ++ us) (sym_map ls)

-- ---- and no line of it is told of

no_unknown : (texts : List Text) (ts : List Text) (ls : List (ℕ × Option Text)) → map (λ l. l.1) ls ≡ map (λ t. Some t) ts
    → ((t : Text) → list_any (bytes_eq t) ts ≡ true → list_any (bytes_eq t) texts ≡ true) → unknown_lines texts ls ≡ []
no_unknown texts [] [] is among = refl
no_unknown texts [] (l ∷ ls) is among = cc
no_unknown texts (t ∷ ts) [] is among = cc
no_unknown texts (t ∷ ts) (l ∷ ls) is among =
    let head : l.1 ≡ Some t = cc in
    let tail : map (λ m. m.1) ls ≡ map (λ t. Some t) ts = cc in
    let known : is_known texts l.1 ≡ true =
    ap (is_known texts) head ∙ among t (ap (λ (b : Bool). b || list_any (bytes_eq t) ts) ((bytes_eq-Decides t t).1 refl)) in
    ap (λ (b : Bool). map (λ m. m.0) (cond (not b) (l ∷ filter (λ m. not (is_known texts m.1)) ls) (filter (λ m. not (is_known texts m.1)) ls))) known
    ∙ no_unknown texts ts ls tail (λ s there. among s (or_right (bytes_eq s t) (list_any (bytes_eq s) ts) there))

pub none_told : (name : Text) (p : Definitions) (ts : List (Told Carrier)) (texts : List Text) → All IsUtf8 (map (λ t. given_text t.first) (rules_in ts))
    → ((t : Text) → list_any (bytes_eq t) (map (λ t. given_text t.first) (rules_in ts)) ≡ true → list_any (bytes_eq t) texts ≡ true)
    → flat_map (note name) (unknown_lines texts (given_lines (flat_map (entry p) (rules_in ts)))) ≡ []
none_told name p ts texts h among =
    ap (flat_map (note name))
    (no_unknown texts (map (λ t. given_text t.first) (rules_in ts)) (given_lines (flat_map (entry p) (rules_in ts))) (listing_gives p ts h) among)
