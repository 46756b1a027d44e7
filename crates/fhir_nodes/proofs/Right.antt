-- What has been read stays right where one more text is read.
use Rattle.std.proofs.Common.{◌≡◌, ℕ, zero, suc, List, [], ◌∷◌, ◌++◌, length, Bool, true, false, if◌then◌else◌, Some, None, Option, IfSome, subst, sym, ◌∙◌, refl, ap, arith, map}
use Rattle.std.specs.List.{slice_get}
use Rattle.std.specs.Str.{bytes_eq}
use Rattle.std.proofs.lemmas.Option.{slice_get_within}
use Rattle.std.proofs.lemmas.Slice.Eq.{bytes_eq-Decides}
use Rattle.fhir_json.specs.Tree.{Text}
use Rattle.fhir_names.specs.Places.{Places, place_of, Puts}
use Rattle.fhir_fp_syntax.specs.Expression.{Expression}
use Rattle.fhir_fp_syntax.specs.Reading.{expression_in}
use Rattle.fhir_fp_syntax.specs.declared.parsing.Parsed.{Parsed}
use Rattle.std.specs.declared.rc.Rc.{Rc}
use Rattle.fhir_nodes.specs.Readings.{AreRight, reading_seen, readings_seen}

appended : {X : Type 0} (xs ys : List X) (i : ℕ) (x : X) → slice_get xs i ≡ Some x → slice_get (xs ++ ys) i ≡ Some x
appended [] ys i x at = absurd (omega (arith, slice_get_within [] i x at))
appended (y ∷ xs) ys zero x at = at
appended (y ∷ xs) ys (suc i) x at = appended xs ys i x at

last : {X : Type 0} (xs : List X) (x : X) → slice_get (xs ++ x ∷ []) (length xs) ≡ Some x
last [] x = refl
last (y ∷ xs) x = last xs x

kept_at : {X : Type 0} (place : Option ℕ) (xs ys : List X) (x : X) → IfSome place (λ p. slice_get xs p ≡ Some x)
    → IfSome place (λ p. slice_get (xs ++ ys) p ≡ Some x)
kept_at None xs ys x at = at
kept_at (Some p) xs ys x at = appended xs ys p x at

mapped_end : {X Y : Type 0} (f : X → Y) (xs : List X) (x : X) → map f (xs ++ x ∷ []) ≡ map f xs ++ f x ∷ []
mapped_end f [] x = refl
mapped_end f (y ∷ xs) x = ap (λ l. f y ∷ l) (mapped_end f xs x)

counted : {X Y : Type 0} (f : X → Y) (xs : List X) → length (map f xs) ≡ length xs
counted f [] = refl
counted f (x ∷ xs) = ap suc (counted f xs)

kept_end : (places : Places) (read : List (Option Expression)) (e : Option Expression) → AreRight places read → AreRight places (read ++ e ∷ [])
kept_end places read e right text = kept_at (place_of places text) read (e ∷ []) (expression_in text) (right text)

put_at : (b : Bool) (other text : Text) (old : Option ℕ) (read : List (Option Expression)) (e : Option Expression) → bytes_eq other text ≡ b
    → e ≡ expression_in text → IfSome old (λ p. slice_get (read ++ e ∷ []) p ≡ Some (expression_in other))
    → IfSome (if b then Some (length read) else old) (λ p. slice_get (read ++ e ∷ []) p ≡ Some (expression_in other))
put_at true other text old read e same is at = last read e ∙ ap Some is ∙ ap (λ (t : Text). Some (expression_in t)) (sym ((bytes_eq-Decides other text).0 same))
put_at false other text old read e same is at = at

put_end : (old new : Places) (read : List (Option Expression)) (text : Text) (e : Option Expression) → AreRight old (read ++ e ∷ [])
    → e ≡ expression_in text → Puts old new text (length read) → AreRight new (read ++ e ∷ [])
put_end old new read text e right is puts other =
    subst (λ (place : Option ℕ). IfSome place (λ p. slice_get (read ++ e ∷ []) p ≡ Some (expression_in other))) (sym (puts other))
    (put_at (bytes_eq other text) other text (place_of old other) read e refl is (right other))

module _ {Z : Type 0} where
  -- of what is read now and was read before, with one more at the end
  seen_end : (old new : List (Rc Parsed Z)) (r : Rc Parsed Z) → new ≡ old ++ r ∷ [] → readings_seen old ++ reading_seen r ∷ [] ≡ readings_seen new
  seen_end old new r is = sym (mapped_end reading_seen old r) ∙ ap readings_seen (sym is)

  pub kept : (places : Places) (old new : List (Rc Parsed Z)) (r : Rc Parsed Z) → new ≡ old ++ r ∷ [] → AreRight places (readings_seen old)
      → AreRight places (readings_seen new)
  kept places old new r is right =
      subst (AreRight places) (seen_end old new r is) (kept_end places (readings_seen old) (reading_seen r) right)

  pub put : (before after : Places) (old new : List (Rc Parsed Z)) (r : Rc Parsed Z) (text : Text) → new ≡ old ++ r ∷ []
      → reading_seen r ≡ expression_in text → AreRight before (readings_seen old) → Puts before after text (length old)
      → AreRight after (readings_seen new)
  put before after old new r text is read right puts =
      subst (AreRight after) (seen_end old new r is)
      (put_end before after (readings_seen old) text (reading_seen r) (kept_end before (readings_seen old) (reading_seen r) right) read
      (subst (λ (n : ℕ). Puts before after text n) (sym (counted reading_seen old)) puts))
