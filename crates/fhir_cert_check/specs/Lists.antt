-- Lists of which each element answers to one of the other list.
use Rattle.std.specs.Prelude.{List, Bool}
use Rattle.std.specs.List.{list_all, list_any}

-- each of the first list answers one of the second
abbrev pub each_answers : {A B : Type 0} → (A → B → Bool) → List A → List B → Bool
each_answers answers xs ys = list_all (λ x. list_any (λ y. answers x y) ys) xs
