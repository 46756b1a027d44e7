-- Where what was read of a constraint stands in the lists of all.
use Rattle.std.proofs.Common.{◌≡◌, ℕ, List, [], ◌∷◌, map, None, Some, Option, Vec, ap, refl, ◌∙◌}
use Rattle.std.specs.Option.{option_map, option_and_then}
use Rattle.std.specs.List.{slice_get}
use Rattle.std.specs.declared.rc.Rc.{Rc}
use Rattle.std.proofs.lemmas.Option.{slice_get-map}
use Rattle.fhir_fp_syntax.specs.Views.{parsed_seen}
use Rattle.fhir_fp_syntax.specs.declared.parsing.Parsed.{Parsed}
use Rattle.fhir_nodes.specs.Readings.{shared_shown, shared_seen, lists_shown, lists_read, lists_seen, parsed_in, parsed_under, parsed_at, shared_at, listed_at, found_at}

of_reading : (r : Option (Option Parsed)) → option_and_then (λ e. e) (option_map (option_and_then parsed_seen) r)
    ≡ option_and_then parsed_seen (option_and_then (λ r. r) r)
of_reading None = refl
of_reading (Some r) = refl

of_readings : (rs : Option (List (Option Parsed))) (i : ℕ)
    → option_and_then (λ es. shared_at es i) (option_map (map (option_and_then parsed_seen)) rs)
    ≡ option_and_then parsed_seen (option_and_then (λ rs. parsed_in rs i) rs)
of_readings None i = refl
of_readings (Some rs) i =
    ap (option_and_then (λ e. e)) (slice_get-map (option_and_then parsed_seen) rs i) ∙ of_reading (slice_get rs i)

of_lists : (ls : Option (List (List (Option Parsed)))) (element i : ℕ)
    → option_and_then (λ es. listed_at es element i) (option_map (map (map (option_and_then parsed_seen))) ls)
    ≡ option_and_then parsed_seen (option_and_then (λ ls. parsed_under ls element i) ls)
of_lists None element i = refl
of_lists (Some ls) element i =
    ap (option_and_then (λ es. shared_at es i)) (slice_get-map (map (option_and_then parsed_seen)) ls element) ∙ of_readings (slice_get ls element) i

pub seen_there : (lists : List (List (List (Option Parsed)))) (definition element i : ℕ)
    → found_at (lists_seen lists) definition element i ≡ option_and_then parsed_seen (parsed_at lists definition element i)
seen_there lists definition element i =
    ap (option_and_then (λ ls. listed_at ls element i)) (slice_get-map (map (map (option_and_then parsed_seen))) lists definition)
    ∙ of_lists (slice_get lists definition) element i

-- ---- what the lists show

map_twice : {A B C : Type 0} (f : A → B) (g : B → C) (h : A → C) → ((x : A) → h x ≡ g (f x)) → (xs : List A) → map h xs ≡ map g (map f xs)
map_twice f g h same [] = refl
map_twice f g h same (x ∷ xs) = ap (λ y. y ∷ map h xs) (same x) ∙ ap (λ ys. g (f x) ∷ ys) (map_twice f g h same xs)

module _ {Z : Type 0} where
  pub read_shown : (lists : List (Vec (Vec (Option (Rc Parsed Z)) Z) Z)) → lists_read lists ≡ lists_seen (lists_shown lists)
  read_shown lists =
      map_twice (λ v. map (λ w. map shared_shown w.items) v.items) (map (map (option_and_then parsed_seen))) (λ v. map (λ w. map shared_seen w.items) v.items)
      (λ v. map_twice (λ w. map shared_shown w.items) (map (option_and_then parsed_seen)) (λ w. map shared_seen w.items)
      (λ w. map_twice shared_shown (option_and_then parsed_seen) shared_seen (λ x. refl) w.items) v.items) lists
