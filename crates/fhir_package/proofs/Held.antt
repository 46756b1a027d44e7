-- What a tree holds, by whether it is a Bundle.
use Rattle.std.proofs.Common.{◌≡◌, ℕ, suc, true, false, List, [], ◌∷◌, refl}
use Rattle.std.specs.Prelude.{codes}
use Rattle.std.specs.List.{flat_map}
use Rattle.std.specs.Option.{option_map_or}
use Rattle.fhir_json.specs.Tree.{Tree}
use Rattle.fhir_json.specs.Fields.{items_in}
use Rattle.fhir_package.specs.Packing.{held_within, in_entry, is_bundle, definition_of}

pub held_none : (n : ℕ) (t : Tree) → n ≡ 0 → held_within n t ≡ []
unfolding held_within
held_none n t e = rw e refl

held_bundle : (n : ℕ) (t : Tree) → is_bundle t ≡ true → held_within (suc n) t ≡ flat_map (in_entry n) (items_in (codes "entry") t)
unfolding held_within
held_bundle n t is = rw is refl

held_itself : (n : ℕ) (t : Tree) → is_bundle t ≡ false → held_within (suc n) t ≡ option_map_or (λ d. d ∷ []) (definition_of t) []
unfolding held_within
held_itself n t isnt = rw isnt refl

pub held_entries : (n m : ℕ) (t : Tree) (ts : List Tree) → n ≡ suc m → is_bundle t ≡ true → ts ≡ items_in (codes "entry") t
    → held_within n t ≡ flat_map (in_entry m) ts
held_entries n m t ts e is es = rw (e, es) (held_bundle m t is)

pub held_other : (n m : ℕ) (t : Tree) → n ≡ suc m → is_bundle t ≡ false → held_within n t ≡ option_map_or (λ d. d ∷ []) (definition_of t) []
held_other n m t e isnt = rw e (held_itself m t isnt)
