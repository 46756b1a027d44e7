-- A name without the underscore in front of it.
use Rattle.std.proofs.Common.{◌≡◌, ◌≢◌, ℕ, ◌==◌, Bool, true, false, cond, [], ◌∷◌, Option, Some, None, Bor, refl, sym, ap, arith}
use Rattle.std.specs.Option.{MatchOption, unwrap_or}
use Rattle.std.proofs.lemmas.Bool.Decides.{nat_tests}
use Rattle.fhir_json.specs.Tree.{Text}
use Rattle.fhir_unrecognized.specs.Members.{underscore, without_underscore}

same_byte : (b : ℕ) → (b == underscore) ≡ true → b ≡ 95
same_byte b e = grind (arith, nat_tests)

pub stripped : (name : Text) (r : Option (Bor Text)) (whole : Bor Text) → whole.now ≡ name
    → MatchOption r ((rest : Text) → name ≢ 95 ∷ rest) (λ x. name ≡ 95 ∷ x.now)
    → (unwrap_or r whole).now ≡ without_underscore name
stripped [] None whole is none = is
stripped (b ∷ bs) None whole is none = go (b == underscore) refl
  where
    go : (t : Bool) → (b == underscore) ≡ t → whole.now ≡ cond t bs (b ∷ bs)
    go true e = absurd (none bs (ap (λ c. c ∷ bs) (same_byte b e)))
    go false e = is
stripped name (Some x) whole is found = sym (ap without_underscore found)
