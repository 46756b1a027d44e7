-- A byte order mark at the front of a text.
use Rattle.std.proofs.Common.{◌≡◌, ℕ, ◌+◌, Bool, true, false, cond, length, drop, Option, Some, None, Bor, refl, sym, ap, ◌∙◌}
use Rattle.std.specs.Prelude.{nat_eq}
use Rattle.std.specs.Option.{MatchOption, unwrap_or}
use Rattle.std.specs.List.{starts_with}
use Rattle.std.specs.Str.Pattern.{FindsCharPrefix}
use Rattle.fhir_json.specs.Tree.{Text}
use Rattle.fhir_json.specs.Grammar.{mark}
use Rattle.fhir_json.specs.Reading.{text_behind_mark}
use Rattle.fhir_json.proofs.Takes.{starts}

-- what is left of a text where the character of the mark is stripped from its front, if it's there
pub behind_mark : (bs : Text) (r : Option (Bor Text)) (whole : Bor Text) → whole.now ≡ bs
    → MatchOption r (FindsCharPrefix 0xfeff bs None)
    (λ x. (n : ℕ) × FindsCharPrefix 0xfeff bs (Some n) × (x.now ≡ drop n bs) × (length x.now + n ≡ length bs))
    → (unwrap_or r whole).now ≡ text_behind_mark bs
unfolding lib.Utf8.encode
behind_mark bs None whole is none = go (starts_with nat_eq bs mark) refl
  where
    go : (b : Bool) → starts_with nat_eq bs mark ≡ b → whole.now ≡ cond b (drop 3 bs) bs
    go true e = absurd (none (drop 3 bs) (starts bs mark e))
    go false e = is
behind_mark bs (Some x) whole is found =
    let at = found.1 in
    let begins : starts_with nat_eq bs mark ≡ true = ap (λ w. starts_with nat_eq w mark) at.split in
    found.2 ∙ ap (λ n. drop n bs) at.ends ∙ sym (ap (λ b. cond b (drop 3 bs) bs) begins)
