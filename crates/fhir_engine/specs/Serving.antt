-- How the definitions in a folder are served.
use Rattle.std.specs.Prelude.{◌≡◌, ℕ, List, Option, None, Some, Ok, IfSome, option_map}
use Rattle.std.specs.Io.KnownBytes.{Appends}
use Rattle.fhir_json.specs.Tree.{Text}
use Rattle.fhir_package.specs.Folder.{Files}
use Rattle.fhir_package.specs.Packing.{pack}
use Rattle.fhir_serve.specs.Lines.{lines_of, AreFirst}
use Rattle.fhir_serve.specs.Serving.{Serves}
use Rattle.fhir_registry.specs.Keeping.{RegistryValue}
use Rattle.fhir_registry.specs.Lines.{AnswersLine}
use Rattle.fhir_unread.specs.Given.{texts_given, AreSame}
use Rattle.fhir_answers.specs.declared.given.NamedFile.{NamedFile}
use Rattle.fhir_answers.specs.Views.{bytes_seen}

module _ {V : Type 0} (Answers : V → List ℕ → V → List ℕ → Type 0) where
  -- Beginning with what a service holds the lines were answered in turn, and the output has grown by the answers.
  pub record WereAnswered (v : V) (lines : List (List ℕ)) (old new : Option (List ℕ)) : Type 0 where
    pub last : V
    pub written : List ℕ
    pub served : Serves Answers v lines last written
    pub appended : Appends old new written

  -- So were all lines of the input, where that is known.
  pub record AllWereAnswered (v : V) (input old new : Option (List ℕ)) : Type 0 where
    pub lines : List (List ℕ)
    pub are_all : IfSome input (λ bytes. lines ≡ lines_of bytes)
    pub answered : WereAnswered v lines old new

  -- So were its first lines.
  pub record SomeWereAnswered (v : V) (input old new : Option (List ℕ)) : Type 0 where
    pub lines : List (List ℕ)
    pub are_first : IfSome input (λ bytes. AreFirst lines (lines_of bytes))
    pub answered : WereAnswered v lines old new

-- The definitions are those of the folder's package, and nobody vouches for an unread rule.
abbrev pub IsOpened : Files → RegistryValue → Type 0
IsOpened files r = (pack files ≡ Ok r.definitions) × (r.texts ≡ None)

-- The folder's files are a package, and by it all lines of the input were answered.
abbrev pub IsServed : Files → (input old new : Option (List ℕ)) → Type 0
IsServed files input old new = (r : RegistryValue) × IsOpened files r × AllWereAnswered AnswersLine r input old new

-- The same of the first lines of the input.
abbrev pub IsPartlyServed : Files → (input old new : Option (List ℕ)) → Type 0
IsPartlyServed files input old new = (r : RegistryValue) × IsOpened files r × SomeWereAnswered AnswersLine r input old new

-- ---- where a user vouches for unread rules

-- the file was read, and the texts are those that its lines give
abbrev pub AreTexts : Option Text → List Text → Type 0
AreTexts given texts = (bytes : Text) × (given ≡ Some bytes) × AreSame texts (texts_given bytes)

-- the bytes of a file that is named, where it can be read
abbrev pub file_seen : Option NamedFile → Option (Option Text)
file_seen file = option_map (λ f. bytes_seen f.bytes) file

-- Nobody vouches for a text where no file is named, and else a user does for the texts of the file that is.
abbrev pub AreTextsIf : Option (Option Text) → Option (List Text) → Type 0
AreTextsIf None texts = texts ≡ None
AreTextsIf (Some file) texts = (given : List Text) × (texts ≡ Some given) × AreTexts file given

-- A user vouches for the texts that the lines of the file give.
pub record AreVouched (given : Option Text) (vouched : Option (List Text)) : Type 0 where
  pub texts : List Text
  pub are_vouched : vouched ≡ Some texts
  pub are_given : AreTexts given texts

-- the definitions are those of the folder's package, and the texts those of the file
abbrev pub AreHeld : Files → Option Text → RegistryValue → Type 0
AreHeld files given r = (pack files ≡ Ok r.definitions) × AreVouched given r.texts

abbrev pub IsServedAsGiven : Files → Option Text → (input old new : Option (List ℕ)) → Type 0
IsServedAsGiven files given input old new = (r : RegistryValue) × AreHeld files given r × AllWereAnswered AnswersLine r input old new

abbrev pub IsPartlyServedAsGiven : Files → Option Text → (input old new : Option (List ℕ)) → Type 0
IsPartlyServedAsGiven files given input old new = (r : RegistryValue) × AreHeld files given r × SomeWereAnswered AnswersLine r input old new
