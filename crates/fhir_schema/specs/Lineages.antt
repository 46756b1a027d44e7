-- Powers of the step from a definition to its base, by which chains of bases are compared (used by private contracts alone).
use Rattle.std.specs.Prelude.{◌≡◌, ◌<◌, ◌≤◌, ℕ, zero, suc, ◌+◌, ◌-◌, ◌*◌, ◌/◌, ◌%◌, ◌^◌, List, [], ◌∷◌, length, get_or}
use Rattle.std.specs.Prelude.{Bool, ◌&&◌, nat_eq, nat_le, Option, None, Some, if◌then◌else◌}
use Rattle.std.specs.Option.{option_map_or, option_and_then}
use Rattle.fhir_definition.specs.Snapshot.{is_at}
use Rattle.fhir_definition.specs.Definition.{Definition}
use Rattle.fhir_schema.specs.Chains.{bases_after}

-- where so many steps lead from each definition, twice as many, four times as many and so on, starting with `suc n`
abbrev pub powers_from : List Definition → ℕ → ℕ → List (List (Option ℕ))
powers_from ds zero n = []
powers_from ds (suc count) n = bases_after ds n ∷ powers_from ds count (n + suc n)

-- The lists are those of one step, two, four and so on. Together they lead on by more steps than there are definitions, and
-- the steps are counted within a word.
abbrev pub IsLineage : List Definition → List (List (Option ℕ)) → Type 0
IsLineage ds powers =
    (powers ≡ powers_from ds (length powers) 0) × (length ds < 2 ^ length powers) × (2 ^ length powers ≤ 2 ^ 64)

-- where the steps of one list lead from a place
abbrev pub step_by : List (Option ℕ) → Option ℕ → Option ℕ
step_by power place = option_and_then (λ p. get_or power p None) place

-- where so many steps lead from a place
abbrev pub after : List (List (Option ℕ)) → ℕ → Option ℕ → Option ℕ
after [] steps place = place
after (power ∷ powers) steps place =
    after powers (steps / 2) (if nat_eq (steps % 2) 1 then step_by power place else place)

-- a place and its steps, counted twice as finely, with one more step where it leads on
abbrev pub climb_once : List (Option ℕ) → ℕ × ℕ → ℕ × ℕ
climb_once power last = option_map_or (λ base. (base, last.1 * 2 + 1)) (step_by power (Some last.0)) (last.0, last.1 * 2)

-- the last place of a chain that ends, and how many steps lead to it
abbrev pub climb : List (List (Option ℕ)) → ℕ → ℕ × ℕ
climb [] start = (start, 0)
climb (power ∷ powers) start = climb_once power (climb powers start)

-- the place is so many steps on, less those of its own chain
abbrev pub is_between : List (List (Option ℕ)) → ℕ → ℕ → ℕ → ℕ → Bool
is_between powers start goal steps rest = nat_le rest steps && is_at goal (after powers (steps - rest) (Some start))

-- a chain that ends comes by a place
abbrev pub comes_by : List (List (Option ℕ)) → ℕ → ℕ → Bool
comes_by powers start goal = is_between powers start goal (climb powers start).1 (climb powers goal).1
