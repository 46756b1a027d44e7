-- What is behind the last slash of a text is an end of it.
use Rattle.std.proofs.Common.{◌≡◌, ◌≤◌, ◌+◌, ℕ, take, drop, length, Option, Some, None, MatchOption, IfSome, Bor}
use Rattle.std.specs.Str.Pattern.{RFindsChar}
use Rattle.fhir_json.specs.Tree.{Text}
use Rattle.fhir_page_frame.specs.Frame.{IsEnd}

abbrev IsSplit : Text → Option (Bor Text × Bor Text) → Type 0
IsSplit s r =
    MatchOption r (RFindsChar 47 s None)
    (λ x. (i : ℕ) × (j : ℕ) × RFindsChar 47 s (Some (i, j)) × (x.0.now ≡ take i s) × (x.1.now ≡ drop j s) × (i ≤ j) × (length x.0.now ≡ i)
    × (length x.1.now + j ≡ length s))

pub end_behind : (s : Text) (r : Option (Bor Text × Bor Text)) → IsSplit s r → IfSome r (λ x. IsEnd s x.1.now)
end_behind s None h = tt
end_behind s (Some x) h = (h.1, h.4)
