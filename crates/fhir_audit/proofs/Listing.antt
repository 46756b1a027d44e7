-- Profiles that are told one after the other.
use Rattle.std.proofs.Common.{◌≡◌, ℕ, ◌+◌, ◌<◌, ◌≤◌, List, [], ◌∷◌, ◌++◌, Bool, ◌&&◌, Option, map, drop, get_or, length, refl, sym, ap, subst, append_assoc}
use Rattle.std.specs.List.{list_all}
use Rattle.std.proofs.lemmas.List.{append-nil, at_drop_more, at_drop_all}
use Rattle.fhir_json.specs.Tree.{Text}
use Rattle.fhir_package.specs.Surveying.{Surveyed}
use Rattle.fhir_schema.specs.Schemas.{SchemaValue}
use Rattle.fhir_audit.specs.declared.auditing.Profile.{Profile}
use Rattle.fhir_audit.specs.Auditing.{AuditedValue, IsAudited, AreAudited}
use Rattle.fhir_audit.specs.Placing.{placed, all_placed}

module _ (given : Option (List Text)) (s : SchemaValue) (survey : Surveyed) where
  -- what is told of the profiles up to a place, with what is told of the rest behind it
  pub next_audited : (ps : List Profile) (i : ℕ) (d : Profile) (all : List AuditedValue) (a : AuditedValue) → i < length ps
      → IsAudited given s survey (placed (get_or ps i d)) a
      → ((rest : List AuditedValue) → AreAudited given s survey (all_placed (drop i ps)) rest → AreAudited given s survey (all_placed ps) (all ++ rest))
      → (rest : List AuditedValue) → AreAudited given s survey (all_placed (drop (i + 1) ps)) rest
      → AreAudited given s survey (all_placed ps) ((all ++ a ∷ []) ++ rest)
  next_audited ps i d all a lt is before rest more =
      subst (λ l. AreAudited given s survey (all_placed ps) l) (sym (append_assoc all (a ∷ []) rest))
      (before (a ∷ rest) (subst (λ l. AreAudited given s survey l (a ∷ rest)) (sym (at_drop_more (λ l. all_placed l) ps i d lt)) (is, more)))

-- where all of them are told, nothing is behind them
pub all_told : (given : Option (List Text)) (s : SchemaValue) (survey : Surveyed) (ps : List Profile) (i : ℕ) (all : List AuditedValue) → length ps ≤ i
    → ((rest : List AuditedValue) → AreAudited given s survey (all_placed (drop i ps)) rest → AreAudited given s survey (all_placed ps) (all ++ rest))
    → AreAudited given s survey (all_placed ps) all
all_told given s survey ps i all past so =
    subst (λ l. AreAudited given s survey (all_placed ps) l) (append-nil all)
    (so [] (subst (λ l. AreAudited given s survey l []) (sym (at_drop_all (λ l. all_placed l) ps i past)) tt))

-- a test of what is seen of each
pub all_map : {A B : Type 0} (p : B → Bool) (f : A → B) (xs : List A) → list_all (λ x. p (f x)) xs ≡ list_all p (map f xs)
all_map p f [] = refl
all_map p f (x ∷ xs) = ap (λ (b : Bool). p (f x) && b) (all_map p f xs)
