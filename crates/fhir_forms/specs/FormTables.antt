-- What a table of forms keeps beside them (used by private contracts alone).
use Rattle.std.specs.Prelude.{◌≡◌, ℕ, List, [], ◌∷◌, Bool, true, false, Option, map, IsTrue, if◌then◌else◌}
use Rattle.fhir_json.specs.Tree.{Text}
use Rattle.fhir_json.specs.Sound.{differ}
use Rattle.fhir_elements.specs.declared.cause.Blame.{Blame}
use Rattle.fhir_names.specs.Places.{Places, Finds}
use Rattle.fhir_forms.specs.declared.form.Property.{Property}
use Rattle.fhir_forms.specs.Forms.{Form, is_primitive, companion_name, spellings, are_apart}

-- each name that the forms spell is found, with what it means, and no two forms spell one
pub record IsTable (meanings : List Property) (names : Places) (fs : List Form) : Type 0 where
  pub means : meanings ≡ map (λ x. x.1) (spellings fs)
  pub finds : Finds names (map (λ x. x.0) (spellings fs))
  pub apart : IsTrue (are_apart fs)

-- a name with what it means
abbrev pub Meant : Type 0
Meant = Text × Property

-- the same of names, as far as they are added: each is found, and no two are the same
pub record Keeps (meanings : List Property) (names : Places) (xs : List Meant) : Type 0 where
  pub means : meanings ≡ map (λ x. x.1) xs
  pub finds : Finds names (map (λ x. x.0) xs)
  pub apart : IsTrue (differ (map (λ x. x.0) xs))

-- they are kept, or two of them are the same
abbrev pub KeepsIf : Bool → List Property → Places → List Meant → Type 0
KeepsIf true meanings names xs = Keeps meanings names xs
KeepsIf false meanings names xs = differ (map (λ x. x.0) xs) ≡ false

-- the name of a form's companion, if it has one
abbrev pub companions_of : ℕ → Form → List Meant
companions_of place f =
    if is_primitive f.content then (companion_name f, record { form = place; is_companion = true }) ∷ [] else []

-- the forms of the children of each element of each definition, and of each definition what is to blame where they aren't apart
pub record NodeForms : Type 0 where
  pub forms : List (List (List Form))
  pub blames : List (Option Blame)
