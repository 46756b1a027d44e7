-- A folder in the making: what stands under its name, and under that of the part that is to become it.
use Rattle.std.specs.Prelude.{◌≡◌, ◌++◌, [], ◌∷◌, ℕ, List, Option, None, Some}
use Rattle.fhir_json.specs.Tree.{Text}
use Rattle.fhir_package.specs.Folder.{Files}

-- a file is put behind those of a part, which is there
abbrev pub Puts : Option Files → Option Files → Text → List ℕ → Type 0
Puts None new name bytes = ⊥
Puts (Some files) new name bytes = new ≡ Some (files ++ (name, bytes) ∷ [])

-- what stands under the two names
pub record Standing : Type 0 where
  pub whole : Option Files
  pub part : Option Files

abbrev pub whole_of : Standing → Option Files
whole_of s = s.whole

abbrev pub part_of : Standing → Option Files
part_of s = s.part
