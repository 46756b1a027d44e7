-- Covering is transitive.
use Rattle.std.proofs.Common.{◌≡◌, ℕ, zero, suc, Bool, false, List, length, Option, Some, None, refl, sym, subst, inl, inr, ◌&&◌, IsTrue, nat_eq, ◌∙◌}
use Rattle.std.specs.Option.{option_map_or}
use Rattle.std.specs.Str.{bytes_eq}
use Rattle.std.specs.Cmp.Lexicographic.{bytes_decides}
use Rattle.std.proofs.lemmas.Bool.{and_parts, and_from, or_cases, or_left, or_right, eqb-true, false≢true}
use Rattle.fhir_json.specs.Tree.{Text}
use Rattle.fhir_definition.specs.Definition.{Definition}
use Rattle.fhir_nodes.specs.Types.{type_place, names_resource}
use Rattle.fhir_schema.specs.Settling.{base_of_place, ends_within}
use Rattle.fhir_schema.specs.Covers.{meets_within, reaches, reaches_type, covers_in}

same_text : (a b : Text) → IsTrue (bytes_eq a b) → a ≡ b
same_text a b h = (bytes_decides a b).0 h

module _ (ds : List Definition) where
  -- a chain that ends within k places meets nothing behind them
  meets_sooner : (goal k n : ℕ) (o : Option ℕ) → IsTrue (ends_within ds k o) → IsTrue (meets_within ds goal n o) → IsTrue (meets_within ds goal k o)
  meets_sooner goal k n None ends meets = absurd (false≢true meets)
  meets_sooner goal zero n (Some p) ends meets = absurd (false≢true ends)
  meets_sooner goal (suc k) zero (Some p) ends meets = absurd (false≢true meets)
  meets_sooner goal (suc k) (suc n) (Some p) ends meets =
      elim (or_cases (nat_eq goal p) (meets_within ds goal n (base_of_place ds p)) meets) [
        | inl here ↦ or_left (nat_eq goal p) (meets_within ds goal k (base_of_place ds p)) here
        | inr there ↦ or_right (nat_eq goal p) (meets_within ds goal k (base_of_place ds p)) (meets_sooner goal k n (base_of_place ds p) ends there)
      ]

  -- what a place on the chain meets, the chain meets
  meets_beyond : (middle goal n m : ℕ) (o : Option ℕ) → IsTrue (ends_within ds n o) → IsTrue (meets_within ds middle n o)
      → IsTrue (meets_within ds goal m (Some middle)) → IsTrue (meets_within ds goal n o)
  meets_beyond middle goal n m None ends meets beyond = absurd (false≢true meets)
  meets_beyond middle goal zero m (Some p) ends meets beyond = absurd (false≢true meets)
  meets_beyond middle goal (suc n) m (Some p) ends meets beyond =
      elim (or_cases (nat_eq middle p) (meets_within ds middle n (base_of_place ds p)) meets) [
        | inl here ↦ meets_sooner goal (suc n) m (Some p) ends (subst (λ q. IsTrue (meets_within ds goal m (Some q))) (eqb-true middle p here) beyond)
        | inr there ↦ or_right (nat_eq goal p) (meets_within ds goal n (base_of_place ds p))
            (meets_beyond middle goal n m (base_of_place ds p) ends there beyond)
      ]

  reaches_on : (start middle goal : ℕ) → IsTrue (reaches ds start middle) → IsTrue (reaches ds middle goal) → IsTrue (reaches ds start goal)
  reaches_on start middle goal first second =
      let p = and_parts (ends_within ds (length ds) (Some start)) (meets_within ds middle (length ds) (Some start)) first in
      let q = and_parts (ends_within ds (length ds) (Some middle)) (meets_within ds goal (length ds) (Some middle)) second in
      and_from (ends_within ds (length ds) (Some start)) (meets_within ds goal (length ds) (Some start)) p.0
      (meets_beyond middle goal (length ds) (length ds) (Some start) p.0 p.1 q.1)

  reaches_type_on : (c b a : Text) → IsTrue (reaches_type ds c b) → IsTrue (reaches_type ds b a) → IsTrue (reaches_type ds c a)
  reaches_type_on c b a = go (type_place ds c) (type_place ds b) (type_place ds a)
    where
      at : Option ℕ → Option ℕ → Bool
      at from to = option_map_or (λ start. option_map_or (reaches ds start) to false) from false

      go : (from middle to : Option ℕ) → IsTrue (at from middle) → IsTrue (at middle to) → IsTrue (at from to)
      go None middle to first second = first
      go (Some start) None to first second = absurd (false≢true first)
      go (Some start) (Some middle) None first second = second
      go (Some start) (Some middle) (Some goal) first second = reaches_on start middle goal first second

  pub covers_on : (a b c : Text) → IsTrue (covers_in ds a b) → IsTrue (covers_in ds b c) → IsTrue (covers_in ds a c)
  covers_on a b c first second =
      elim (or_cases (bytes_eq a b) (names_resource ds a && reaches_type ds b a) first) [
        | inl same ↦ subst (λ x. IsTrue (covers_in ds x c)) (sym (same_text a b same)) second
        | inr above ↦ elim (or_cases (bytes_eq b c) (names_resource ds b && reaches_type ds c b) second) [
          | inl same ↦ subst (λ x. IsTrue (covers_in ds a x)) (same_text b c same) first
          | inr under ↦
              let p = and_parts (names_resource ds a) (reaches_type ds b a) above in
              let q = and_parts (names_resource ds b) (reaches_type ds c b) under in
              or_right (bytes_eq a c) (names_resource ds a && reaches_type ds c a)
              (and_from (names_resource ds a) (reaches_type ds c a) p.0 (reaches_type_on c b a q.1 p.1))
        ]
      ]

  pub covers_itself : (a : Text) → IsTrue (covers_in ds a a)
  covers_itself a = or_left (bytes_eq a a) (names_resource ds a && reaches_type ds a a) ((bytes_decides a a).1 refl)

  pub covers_alone : (a b : Text) → names_resource ds a ≡ false → IsTrue (covers_in ds a b) → a ≡ b
  covers_alone a b other h =
      elim (or_cases (bytes_eq a b) (names_resource ds a && reaches_type ds b a) h) [
        | inl same ↦ same_text a b same
        | inr above ↦ absurd (false≢true (sym other ∙ (and_parts (names_resource ds a) (reaches_type ds b a) above).0))
      ]
