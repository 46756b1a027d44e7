-- Tables by their numbers: one more table, and one more number.
use Rattle.std.proofs.Common.{◌≡◌, ℕ, zero, suc, ◌<◌, List, [], ◌∷◌, ◌++◌, map, length, set, true, Option, None, Some, is_none, unwrap_or, refl, sym, ◌∙◌, ap, arith}
use mathlib.Core.Bool.{false≢true}
use Rattle.std.specs.List.{slice_get, list_all}
use Rattle.std.specs.Option.{option_and_then}
use Rattle.std.specs.FinSet as sets
use Rattle.std.proofs.lemmas.Bool.{and_parts, and_from, ltb-true, lt-ltb}
use Rattle.std.proofs.lemmas.List.{map-set, map-append, length-map, length-append}
use Rattle.fhir_package.specs.Definitions.{Definitions}
use Rattle.fhir_codes.specs.Concepts.{Concepts, common}
use Rattle.fhir_codes.specs.Placing.{Found, found_at}
use Rattle.fhir_codes.specs.Filled.{AreFilled}
use Rattle.fhir_codes.specs.Tables.{table_at, in_tables, is_number, AreNumbers, SameSets}
use Rattle.fhir_codes.proofs.Finding.{none_filled}
use Rattle.fhir_codes.proofs.SameSets.{common_same, one_more_set, last_first}

abbrev pub found_of : List Concepts → List (Option ℕ) → Found
found_of tables numbers = map (option_and_then (slice_get tables)) numbers

-- ---- one more table

get_within : (xs : List Concepts) (y : Concepts) (k : ℕ) → k < length xs → slice_get (xs ++ y ∷ []) k ≡ slice_get xs k
get_within [] y k lt = absurd (omega arith)
get_within (x ∷ xs) y zero lt = refl
get_within (x ∷ xs) y (suc k) lt = get_within xs y k (omega arith)

one_found : (tables : List Concepts) (s : Concepts) (o : Option ℕ) → is_number tables o ≡ true → option_and_then (slice_get (tables ++ s ∷ [])) o ≡ option_and_then (slice_get tables) o
one_found tables s None is = refl
one_found tables s (Some n) is = get_within tables s n (ltb-true n (length tables) is)

pub found_pushed : (tables : List Concepts) (s : Concepts) (numbers : List (Option ℕ)) → AreNumbers tables numbers → found_of (tables ++ s ∷ []) numbers ≡ found_of tables numbers
found_pushed tables s [] are = refl
found_pushed tables s (o ∷ numbers) are =
    let parts = and_parts (is_number tables o) (list_all (is_number tables) numbers) are in
    ap (λ x. x ∷ found_of (tables ++ s ∷ []) numbers) (one_found tables s o parts.0) ∙ ap (λ xs. option_and_then (slice_get tables) o ∷ xs) (found_pushed tables s numbers parts.1)

one_still : (tables : List Concepts) (s : Concepts) (o : Option ℕ) → is_number tables o ≡ true → is_number (tables ++ s ∷ []) o ≡ true
one_still tables s None is = refl
one_still tables s (Some n) is =
    let below = ltb-true n (length tables) is in
    let longer = length-append tables (s ∷ []) in
    lt-ltb n (length (tables ++ s ∷ [])) (omega (arith, below, longer))

pub numbers_pushed : (tables : List Concepts) (s : Concepts) (numbers : List (Option ℕ)) → AreNumbers tables numbers → AreNumbers (tables ++ s ∷ []) numbers
numbers_pushed tables s [] are = refl
numbers_pushed tables s (o ∷ numbers) are =
    let parts = and_parts (is_number tables o) (list_all (is_number tables) numbers) are in
    and_from (is_number (tables ++ s ∷ []) o) (list_all (is_number (tables ++ s ∷ [])) numbers) (one_still tables s o parts.0) (numbers_pushed tables s numbers parts.1)

-- ---- one more number

pub numbers_set : (tables : List Concepts) (numbers : List (Option ℕ)) (place n : ℕ) → n < length tables → AreNumbers tables numbers → AreNumbers tables (set numbers place (Some n))
numbers_set tables [] place n lt are = refl
numbers_set tables (o ∷ numbers) zero n lt are =
    let parts = and_parts (is_number tables o) (list_all (is_number tables) numbers) are in
    and_from (is_number tables (Some n)) (list_all (is_number tables) numbers) (lt-ltb n (length tables) lt) parts.1
numbers_set tables (o ∷ numbers) (suc place) n lt are =
    let parts = and_parts (is_number tables o) (list_all (is_number tables) numbers) are in
    and_from (is_number tables o) (list_all (is_number tables) (set numbers place (Some n))) parts.0 (numbers_set tables numbers place n lt parts.1)

pub found_set_number : (tables : List Concepts) (numbers : List (Option ℕ)) (place n : ℕ) → found_of tables (set numbers place (Some n)) ≡ set (found_of tables numbers) place (slice_get tables n)
found_set_number tables numbers place n = map-set (option_and_then (slice_get tables)) numbers place (Some n)

-- ---- no numbers

none_found : (tables : List Concepts) (numbers : List (Option ℕ)) → list_all is_none numbers ≡ true → (k : ℕ) → found_at (found_of tables numbers) k ≡ None
none_found tables [] none k = refl
none_found tables (None ∷ numbers) none zero = refl
none_found tables (None ∷ numbers) none (suc k) = none_found tables numbers none k
none_found tables (Some n ∷ numbers) none k = absurd (false≢true none)

pub no_numbers_filled : (p : Definitions) (tables : List Concepts) (numbers : List (Option ℕ)) → length numbers ≡ length p.value_sets → list_all is_none numbers ≡ true → AreFilled p (found_of tables numbers)
no_numbers_filled p tables numbers same none =
    none_filled p (found_of tables numbers) (length-map numbers (option_and_then (slice_get tables)) ∙ same) (none_found tables numbers none)

-- ---- what is in all of some tables

pub with_number : (tables : List Concepts) (numbers : List ℕ) (n : ℕ) (s : Concepts) → slice_get tables n ≡ Some s → in_tables tables (numbers ++ n ∷ []) ≡ common (s ∷ map (table_at tables) numbers)
with_number tables numbers n s at =
    ap common (map-append (table_at tables) numbers (n ∷ []))
    ∙ common_same (map (table_at tables) numbers ++ table_at tables n ∷ []) (table_at tables n ∷ map (table_at tables) numbers) (last_first (table_at tables n) (map (table_at tables) numbers))
    ∙ ap (λ (o : Option Concepts). common (unwrap_or o sets.empty ∷ map (table_at tables) numbers)) at

pub set_within : (tables : List Concepts) (s : Concepts) (none first all : List Concepts) (numbers kept : List ℕ) → none ≡ [] → first ≡ none ++ s ∷ [] → all ≡ first ++ map (table_at tables) kept
    → SameSets (map (table_at tables) numbers) (map (table_at tables) kept) → common all ≡ common (s ∷ map (table_at tables) numbers)
set_within tables s none first all numbers kept nothing one more same =
    ap common (more ∙ ap (λ xs. xs ++ map (table_at tables) kept) (one ∙ ap (λ xs. xs ++ s ∷ []) nothing))
    ∙ sym (common_same (s ∷ map (table_at tables) numbers) (s ∷ map (table_at tables) kept) (one_more_set s (map (table_at tables) numbers) (map (table_at tables) kept) same))
