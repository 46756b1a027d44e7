-- The headings of inputs, which are made in turn.
use Rattle.std.proofs.Common.{◌≡◌, ◌<◌, ◌≤◌, ◌+◌, ℕ, zero, suc, List, [], ◌∷◌, ◌++◌, length, map, drop, drop-cons, get_or, string_bytes, refl, sym, ap, ap₂, subst, ◌∙◌, append_assoc, append-nil, arith}
use Rattle.std.specs.Borrow.{Bor}
use Rattle.fhir_json.specs.Tree.{Text}
use Rattle.fhir_inputs.specs.Inputs.{InputValue, kind_at}
use Rattle.fhir_inputs.specs.declared.input.Kind.{Kind}
use Rattle.fhir_words.specs.declared.request.Format.{Format}
use Rattle.fhir_bulk.specs.declared.heading.Heading.{Heading}
use Rattle.fhir_bulk.specs.Rows.{heading}
use Rattle.fhir_bulk.specs.Running.{HeadingValue, heading_seen, headings_from}

abbrev texts : List (Bor Text) → List Text
texts names = map (λ n. n.now) names

-- the first of those that are left
first : (place : ℕ) (format : Format) (inputs : List InputValue) (names : List (Bor Text)) (d : Bor Text) → place < length names
    → headings_from place format (texts (drop place names)) inputs
    ≡ record { text = heading format (get_or names place d).now; kind = kind_at inputs place } ∷ headings_from (suc place) format (texts (drop (suc place) names)) inputs
unfolding headings_from
first place format inputs names d less = ap (λ l. headings_from place format (texts l) inputs) (drop-cons names place d less)

map_last : (items : List Heading) (x : Heading) → map heading_seen (items ++ x ∷ []) ≡ map heading_seen items ++ heading_seen x ∷ []
map_last [] x = refl
map_last (y ∷ items) x = ap (λ l. heading_seen y ∷ l) (map_last items x)

by_parts : {t u : Text} {k l : Kind} → t ≡ u → k ≡ l → ◌≡◌ {A = HeadingValue} (record { text = t; kind = k }) (record { text = u; kind = l })
by_parts p q = ap₂ (λ (t : Text) (k : Kind). mk t k) p q
  where
    mk : Text → Kind → HeadingValue
    mk t k = record { text = t; kind = k }

drop_all : (names : List (Bor Text)) (place : ℕ) → length names ≤ place → drop place names ≡ []
drop_all [] zero less = refl
drop_all [] (suc place) less = refl
drop_all (n ∷ names) zero less = absurd (grind arith)
drop_all (n ∷ names) (suc place) less = drop_all names place (omega arith)

pub one_more : (new items : List Heading) (x : Heading) (place : ℕ) (format : Format) (inputs : List InputValue) (names : List (Bor Text)) (d : Bor Text)
    (target : List HeadingValue) → place < length names → new ≡ items ++ x ∷ []
    → string_bytes x.text ≡ heading format (get_or names place d).now → x.kind ≡ kind_at inputs place
    → map heading_seen items ++ headings_from place format (texts (drop place names)) inputs ≡ target
    → map heading_seen new ++ headings_from (place + 1) format (texts (drop (place + 1) names)) inputs ≡ target
one_more new items x place format inputs names d target less is text kind so =
    let later : suc place ≡ place + 1 = omega arith in
    let one : HeadingValue = record { text = heading format (get_or names place d).now; kind = kind_at inputs place } in
    let seen : heading_seen x ≡ one =
    by_parts text kind in
    let rest = headings_from (suc place) format (texts (drop (suc place) names)) inputs in
    subst (λ k. map heading_seen new ++ headings_from k format (texts (drop k names)) inputs ≡ target) later
    (ap (λ l. map heading_seen l ++ rest) is
    ∙ ap (λ l. l ++ rest) (map_last items x)
    ∙ append_assoc (map heading_seen items) (heading_seen x ∷ []) rest
    ∙ ap (λ h. map heading_seen items ++ h ∷ rest) seen
    ∙ ap (λ l. map heading_seen items ++ l) (sym (first place format inputs names d less))
    ∙ so)

pub all : (items : List Heading) (place : ℕ) (format : Format) (inputs : List InputValue) (names : List (Bor Text)) (target : List HeadingValue)
    → length names ≤ place → map heading_seen items ++ headings_from place format (texts (drop place names)) inputs ≡ target → map heading_seen items ≡ target
unfolding headings_from
all items place format inputs names target less so =
    let none = drop_all names place less in
    sym (append-nil (map heading_seen items)) ∙ ap (λ l. map heading_seen items ++ headings_from place format (texts l) inputs) (sym none) ∙ so
