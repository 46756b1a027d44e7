-- What is told of value sets tells of each canonical whether it means the same in both packages.
use Rattle.std.proofs.Common.{◌≡◌, ℕ, Bool, true, false, List, ◌++◌, ◌∷◌, ◌<◌, ◌+◌, length, get_or, drop, Option, None, Some, is_none, append_assoc, refl, ap, sym, ◌∙◌, subst, IsTrue, arith, rules, ◌&&◌}
use Rattle.std.specs.Option.{option_map_or}
use Rattle.std.specs.List.{filter_map, flat_map}
use Rattle.std.proofs.lemmas.List.{drop_more}
use Rattle.std.proofs.lemmas.List.Elements.{filter_map-append}
use Rattle.fhir_json.specs.Views.{tree_of, trees_of}
use Rattle.fhir_json.specs.declared.json.Json.{Json}
use Rattle.fhir_codes.specs.ValueSets.{sets_named}
use Rattle.fhir_package.specs.declared.kind.Kind.TheVariants.{ValueSet}
use Rattle.fhir_package.specs.Definitions.{Definitions}
use Rattle.fhir_alike.specs.Naming.{place_named, name_stays}
use Rattle.fhir_alike.specs.Spreading.{Edges, Reaches, is_marked, told_at, IsSpread}
use Rattle.fhir_alike.specs.ValueSets.{set_edges, set_marks, AreChanges, TellsKept, kept_by, places_in}

-- a marked place is reached
MarkedFrom : Edges → List Bool → ℕ → Type 0
MarkedFrom edges marks place = (other : ℕ) × Reaches edges place other × (is_marked marks other ≡ true)

untold : (edges : Edges) (marks : List Bool) (told : List (Option ℕ)) → IsSpread edges marks told → (place : ℕ) (o : Option ℕ)
    → told_at told place ≡ o → IsTrue (is_none o) → MarkedFrom edges marks place → ⊥
unfolding MarkedFrom
untold edges marks told s place None e h m = let not_marked = s.none place m.0 e m.1 in let wrong : ⊥ = cc in wrong
untold edges marks told s place (Some x) e h m = absurd (grind arith)

unmarked : (edges : Edges) (marks : List Bool) (told : List (Option ℕ)) → IsSpread edges marks told → (place : ℕ) (o : Option ℕ)
    → told_at told place ≡ o → (MarkedFrom edges marks place → ⊥) → is_none o ≡ true
unfolding MarkedFrom
unmarked edges marks told s place None e h = refl
unmarked edges marks told s place (Some x) e h = let f = s.found place x e in absurd (h (x, f.0, f.1))

module _ (edges : Edges) (marks : List Bool) (told : List (Option ℕ)) (s : IsSpread edges marks told) where
  Stays : Bool → Option ℕ → Type 0
  Stays stays named = IsTrue stays × ((place : ℕ) → named ≡ Some place → MarkedFrom edges marks place → ⊥)

  there : (stays : Bool) (named : Option ℕ) → IsTrue (stays && option_map_or (λ place. is_none (told_at told place)) named true)
      → Stays stays named
  unfolding Stays
  there true None h = (h, λ place e m. let wrong : ⊥ = cc in wrong)
  there true (Some q) h = (
    search rules,
    λ place e m.
        let same : q ≡ place = cc in
        untold edges marks told s place (told_at told place) refl (subst (λ k. IsTrue (is_none (told_at told k))) same h) m,
  )
  there false named h = absurd (grind arith)

  back : (stays : Bool) (named : Option ℕ) → Stays stays named
      → IsTrue (stays && option_map_or (λ place. is_none (told_at told place)) named true)
  unfolding Stays
  back true None h = h.0
  back true (Some q) h =
      let e : is_none (told_at told q) ≡ true = unmarked edges marks told s q (told_at told q) refl (h.1 q refl) in
      grind arith
  back false named h = absurd (grind arith)

pub changes_tell : (old new : Definitions) (told : List (Option ℕ)) → AreChanges old new told → TellsKept old new (kept_by old new told)
unfolding MarkedFrom Stays
changes_tell old new told s canonical = (
  there (set_edges old) (set_marks old new) told s (name_stays ValueSet old new canonical) (place_named ValueSet old canonical),
  back (set_edges old) (set_marks old new) told s (name_stays ValueSet old new canonical) (place_named ValueSet old canonical),
)

-- ---- turns of loops

pub places_turn : (old : Definitions) (xs : List Json) (i : ℕ) (x : Json) (acc next all : List ℕ) → i < length xs → x ≡ get_or xs i x
    → acc ++ places_in old (trees_of (drop i xs)) ≡ all
    → next ≡ acc ++ filter_map (place_named ValueSet old) (sets_named (tree_of x))
    → next ++ places_in old (trees_of (drop (i + 1) xs)) ≡ all
places_turn old xs i x acc next all h is was now =
    let named : List ℕ = filter_map (place_named ValueSet old) (sets_named (tree_of x)) in
    let rest : List ℕ = places_in old (trees_of (drop (i + 1) xs)) in
    ap (λ ys. ys ++ rest) now
    ∙ append_assoc acc named rest
    ∙ ap (λ ys. acc ++ ys)
    (sym (filter_map-append (place_named ValueSet old) (sets_named (tree_of x)) (flat_map sets_named (trees_of (drop (i + 1) xs)))))
    ∙ ap (λ y. acc ++ places_in old (tree_of y ∷ trees_of (drop (i + 1) xs))) is
    ∙ sym (ap (λ ys. acc ++ places_in old (trees_of ys)) (drop_more xs i x h))
    ∙ was
