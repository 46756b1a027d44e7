-- Lists whose elements are among others.
use Rattle.std.specs.Prelude.{List, All}
use Rattle.std.specs.List.{Contains}

-- each is one of the others
abbrev pub AreAmong : {X : Type 0} → List X → List X → Type 0
AreAmong xs ys = All (λ x. Contains ys x) xs
