-- Rounds one after another.
use Rattle.std.proofs.Common.{◌≡◌, ℕ, zero, suc, List, refl, ap, ◌∙◌}
use Rattle.fhir_definition.specs.Definition.{Definition}
use Rattle.fhir_schema.specs.Settling.{Reasons, round, rounds}

pub rounds_fixed : (ds : List Definition) (n : ℕ) (reasons : Reasons) → round ds reasons ≡ reasons → rounds ds n reasons ≡ reasons
rounds_fixed ds zero reasons e = refl
rounds_fixed ds (suc n) reasons e = ap (rounds ds n) e ∙ rounds_fixed ds n reasons e

-- a round behind others
pub one_more : (ds : List Definition) (n : ℕ) (reasons : Reasons) → rounds ds (suc n) reasons ≡ round ds (rounds ds n reasons)
one_more ds zero reasons = refl
one_more ds (suc n) reasons = one_more ds n (round ds reasons)
