-- Whether a text has parts says whether it is a decimal by the grammar.
use Rattle.std.proofs.Common.{◌≡◌, ◌↔◌, ℕ, true, true≢false, List, Option, Some, None, refl, sym, ap}
use Rattle.std.specs.Prelude.{is_some}
use Rattle.fhir_decimal.specs.Text.{Parts, IsDecimal}
use Rattle.fhir_decimal.specs.Reading.{parts}

-- a text has parts exactly where the grammar has it
some_parts : {P : Parts → Type 0} (r : Option Parts) → ((p : Parts) → r ≡ Some p → P p) → is_some r ≡ true → (p : Parts) × P p
some_parts None found some = absurd (true≢false (sym some))
some_parts (Some p) found some = (p, found p refl)

pub by_grammar : (bs : List ℕ) → ((p : Parts) → parts bs ≡ Some p → IsDecimal bs p) → ((p : Parts) → IsDecimal bs p → parts bs ≡ Some p)
    → (is_some (parts bs) ≡ true) ↔ ((p : Parts) × IsDecimal bs p)
by_grammar bs found only = (some_parts {P = λ p. IsDecimal bs p} (parts bs) found, λ (p, is). ap is_some (only p is))
