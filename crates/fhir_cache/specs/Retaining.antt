-- Words that the contracts of private functions alone cite: a cache that is turned, one entry at a time.
use Rattle.std.specs.Prelude.{ℕ, zero, suc, ◌-◌, Bool, List, ◌∷◌, length, take, if◌then◌else◌}
use Rattle.std.specs.Option.{option_map_or}
use Rattle.lru.specs.LruCache.{last_entry}

-- the last pair becomes the first if it may stay, and goes if not
abbrev pub turned : {K V : Type 0} → (K × V → Bool) → List (K × V) → List (K × V)
turned keep es =
    option_map_or (λ e. if keep e then e ∷ take (length es - 1) es else take (length es - 1) es) (last_entry es) es

abbrev pub turns : {K V : Type 0} → (K × V → Bool) → ℕ → List (K × V) → List (K × V)
turns keep zero es = es
turns keep (suc n) es = turned keep (turns keep n es)
