-- Codes that are seen from the last type to the first.
use Rattle.std.proofs.Common.{◌≡◌, ℕ, ◌+◌, ◌<◌, zero, suc, Bool, true, false, not, ◌&&◌, List, [], ◌∷◌, length, drop, get_or, refl, ap, sym, ◌∙◌, add-one}
use Rattle.std.proofs.Common.{subst}
use Rattle.std.proofs.Math.Seq.{drop-cons}
use Rattle.fhir_json.specs.declared.json.Json.{Json}
use Rattle.fhir_json.specs.Tree.{Tree}
use Rattle.fhir_json.specs.Views.{tree_of, trees_of}
use Rattle.fhir_names.specs.Places.{Places}
use Rattle.fhir_elements.specs.TypeEntry.{has_code, codes_differ}
use Rattle.fhir_elements.specs.CodesSeen.{HaveCodes}

-- one more at the front
pub before : (xs : List Json) (n i : ℕ) (x : Json) → i + 1 ≡ n → i < length xs → x ≡ get_or xs i x → tree_of x ∷ trees_of (drop n xs) ≡ trees_of (drop i xs)
before xs n i x e h is =
    ap (λ (k : ℕ). tree_of x ∷ trees_of (drop k xs)) (sym e ∙ add-one i)
    ∙ ap (λ (y : Json). tree_of y ∷ trees_of (drop (suc i) xs)) is
    ∙ sym (ap trees_of (drop-cons xs i x h))

pub differ-front : (t : Tree) (ts : List Tree) (new : Bool) → new ≡ not (has_code t ts) → codes_differ ts ≡ true → codes_differ (t ∷ ts) ≡ new
differ-front t ts true is h = ap (λ (b : Bool). b && codes_differ ts) (sym is) ∙ h
differ-front t ts false is h = ap (λ (b : Bool). b && codes_differ ts) (sym is)

-- where those behind a place don't differ, not all do
and-false : (a : Bool) → (a && false) ≡ false
and-false true = refl
and-false false = refl

pub differ-drop : (i : ℕ) (xs : List Json) → codes_differ (trees_of (drop i xs)) ≡ false → codes_differ (trees_of xs) ≡ false
differ-drop zero xs h = h
differ-drop (suc i) [] h = h
differ-drop (suc i) (x ∷ xs) h =
    ap (λ (b : Bool). not (has_code (tree_of x) (trees_of xs)) && b) (differ-drop i xs h) ∙ and-false _

pub seen-before : (places : Places) (ts us : List Tree) → ts ≡ us → HaveCodes places ts → HaveCodes places us
seen-before places ts us e h = subst (HaveCodes places) e h
