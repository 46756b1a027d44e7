-- No two names of files are equal.
use Rattle.std.proofs.Common.{◌≡◌, ◌<◌, ◌≤◌, ◌+◌, ◌^◌, ℕ, Bool, true, false, cond, List, [], ◌∷◌, ◌++◌, length, map, take, sym, ap, refl, subst, ◌∙◌, arith, append_assoc, length-append}
use Rattle.std.specs.Prelude.{codes}
use Rattle.std.specs.Fmt.{decimal}
use Rattle.std.specs.List.{IsDistinct, AllByRecursion}
use Rattle.std.specs.Str.{bytes_eq}
use Rattle.std.proofs.lemmas.Bool.{false≢true}
use Rattle.std.proofs.lemmas.Fmt.{decimal_injective}
use Rattle.std.proofs.lemmas.List.Sums.{count_by-le-length, sum_by-append}
use Rattle.std.proofs.lemmas.Slice.Eq.{bytes_eq-Decides}
use Rattle.fhir_json.specs.Tree.{Text}
use Rattle.fhir_audit_lines.specs.Naming.{is_name_byte, name_byte, front_of, with_front, name_behind, names_behind, file_names}

-- ---- a name is cut at its one `~`

no_tilde : (b : ℕ) → name_byte b ≡ 126 → ⊥
no_tilde b e = by (is_name_byte b) refl e
  where
    by : (t : Bool) → is_name_byte b ≡ t → cond t b 95 ≡ 126 → ⊥
    by true is e = false≢true (subst (λ n. is_name_byte n ≡ true) e is)
    by false is e = absurd (omega arith)

-- two fronts that are followed by `~`, and what follows that
record AreCut (xs ys p q : List ℕ) : Type 0 where
  fronts : xs ≡ ys
  rests : p ≡ q

cut : (us vs p q : List ℕ) → map name_byte us ++ 126 ∷ p ≡ map name_byte vs ++ 126 ∷ q → AreCut (map name_byte us) (map name_byte vs) p q
cut [] [] p q e = record { fronts = refl; rests = cc }
cut [] (v ∷ vs) p q e = let is : name_byte v ≡ 126 = cc in absurd (no_tilde v is)
cut (u ∷ us) [] p q e = let is : name_byte u ≡ 126 = cc in absurd (no_tilde u is)
cut (u ∷ us) (v ∷ vs) p q e =
    let here : name_byte u ≡ name_byte v = cc in
    let there : map name_byte us ++ 126 ∷ p ≡ map name_byte vs ++ 126 ∷ q = cc in
    let rest = cut us vs p q there in
    record { fronts = (let fronts = rest.fronts in cc); rests = rest.rests }

-- ---- how many urls have a front

with_more : (front : List ℕ) (before : List Text) (url : List ℕ) → with_front front before ≤ with_front front (before ++ url ∷ [])
with_more front before url = omega (arith, sum_by-append (λ u. cond (bytes_eq front (front_of u)) 1 0) before (url ∷ []))

with_own : (before : List Text) (url : List ℕ) → with_front (front_of url) (before ++ url ∷ []) ≡ with_front (front_of url) before + 1
with_own before url =
    let own : bytes_eq (front_of url) (front_of url) ≡ true = (bytes_eq-Decides (front_of url) (front_of url)).1 refl in
    let joined : with_front (front_of url) (before ++ url ∷ []) ≡ with_front (front_of url) before + with_front (front_of url) (url ∷ []) =
    sum_by-append (λ u. cond (bytes_eq (front_of url) (front_of u)) 1 0) before (url ∷ []) in
    let one : with_front (front_of url) (url ∷ []) ≡ 1 = ap (λ (b : Bool). 0 + cond b 1 0) own in
    omega arith

-- ---- a name differs from those behind it

-- the name of a front that had fewer urls before
differs : (url : List ℕ) (k : ℕ) (before urls : List Text) → k < with_front (front_of url) before + 1 → length (before ++ urls) < 2 ^ 63
    → AllByRecursion (λ name. bytes_eq (front_of url ++ codes "~" ++ decimal k) name ≡ false) (names_behind before urls)
differs url k before [] lt short = tt
differs url k before (other ∷ urls) lt short = (
  here (bytes_eq (front_of url ++ codes "~" ++ decimal k) (name_behind before other)) refl,
  differs url k (before ++ other ∷ []) urls (let more = with_more (front_of url) before other in omega arith)
      (subst (λ l. length l < 2 ^ 63) (sym (append_assoc before (other ∷ []) urls)) short),
)
  where
    few : with_front (front_of other) before < 2 ^ 63
    few = omega (arith, count_by-le-length (λ u. bytes_eq (front_of other) (front_of u)) before, length-append before (other ∷ urls))

    here : (b : Bool) → bytes_eq (front_of url ++ codes "~" ++ decimal k) (name_behind before other) ≡ b → b ≡ false
    here false is = refl
    here true is =
        let parts = cut (take 150 url) (take 150 other) (decimal k) (decimal (with_front (front_of other) before + 1))
        (sym (append_assoc (front_of url) (126 ∷ []) (decimal k)) ∙ (bytes_eq-Decides (front_of url ++ codes "~" ++ decimal k) (name_behind before other)).0 is
        ∙ append_assoc (front_of other) (126 ∷ []) (decimal (with_front (front_of other) before + 1))) in
        let fronts : front_of url ≡ front_of other = parts.fronts in
        let counts : with_front (front_of url) before ≡ with_front (front_of other) before = ap (λ f. with_front f before) fronts in
        let small : with_front (front_of other) before < 2 ^ 63 = few in
        let same : k ≡ with_front (front_of other) before + 1 =
        decimal_injective k (with_front (front_of other) before + 1) (omega arith) (omega arith) parts.rests in
        absurd (omega arith)

distinct_behind : (before urls : List Text) → length (before ++ urls) < 2 ^ 63 → IsDistinct bytes_eq (names_behind before urls)
unfolding IsDistinct
distinct_behind before [] short = tt
distinct_behind before (url ∷ urls) short =
    let shorter : length ((before ++ url ∷ []) ++ urls) < 2 ^ 63 = subst (λ l. length l < 2 ^ 63) (sym (append_assoc before (url ∷ []) urls)) short in (
      differs url (with_front (front_of url) before + 1) (before ++ url ∷ []) urls (let own = with_own before url in omega arith) shorter,
      distinct_behind (before ++ url ∷ []) urls shorter,
    )

pub distinct : (urls : List Text) → length urls < 2 ^ 63 → IsDistinct bytes_eq (file_names urls)
distinct urls short = distinct_behind [] urls short
