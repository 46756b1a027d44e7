-- What is asked, and what words ask for.
use Rattle.std.specs.Prelude.{ℕ, List, [], ◌∷◌, Bool, Option, None, Some}
use Rattle.fhir_json.specs.Tree.{Text}
use Rattle.fhir_words.specs.declared.request.Audience.{Audience}
use Rattle.fhir_words.specs.declared.request.Detail.{Detail}
use Rattle.fhir_words.specs.declared.request.Format.{Format}
use Rattle.fhir_words.specs.declared.request.Manner.{Manner}

pub data RequestValue : Type 0 where
  -- whether the certificate in a file is right, over the definitions in a folder
  certify : (folder file : List ℕ) → RequestValue
  -- the certificate in a file, in the newest format, over the definitions in a folder
  migrate : (folder file : List ℕ) → RequestValue
  -- whether the resource in a file conforms to the profile at a url, over the definitions in a folder
  validate : (folder profile file : List ℕ) → RequestValue
  -- the same where the unread rules hold whose texts another file gives
  validate_given : (folder profile file given : List ℕ) → RequestValue
  -- the snapshot of the definition at a url, among those in a folder
  snapshot : (folder url : List ℕ) → RequestValue
  -- the certificate that the profile at a url narrows that at another, over the definitions in a folder
  derive : (folder derived base : List ℕ) → RequestValue
  -- a resource that conforms to the profile at a url and not to that at another, where the one doesn't narrow the other
  counter : (folder derived base : List ℕ) → RequestValue
  -- the same where the unread rules hold whose texts a file gives
  counter_given : (folder derived base given : List ℕ) → RequestValue
  -- What is wrong with the files of a folder, and with the certificate in a file, if there is one. Where there are prefixes, it is asked of
  -- the definitions whose urls begin with one of them, and of those that they reach.
  check : (folder : List ℕ) → (certificate : Option (List ℕ)) → (prefixes : List (List ℕ)) → Manner → RequestValue
  -- the texts of the unread rules of the definitions in a folder, or of the profile at a url and of what it reaches
  unread : (folder : List ℕ) → (profile : Option (List ℕ)) → RequestValue

abbrev pub folder_of : RequestValue → Text
folder_of (certify folder file) = folder
folder_of (migrate folder file) = folder
folder_of (validate folder profile file) = folder
folder_of (validate_given folder profile file given) = folder
folder_of (snapshot folder url) = folder
folder_of (derive folder derived base) = folder
folder_of (counter folder derived base) = folder
folder_of (counter_given folder derived base given) = folder
folder_of (check folder certificate prefixes manner) = folder
folder_of (unread folder profile) = folder

-- a file, if there is one
abbrev pub one_file : Option Text → List Text
one_file None = []
one_file (Some file) = file ∷ []

-- the files that are asked about, in the order of the words
abbrev pub files_of : RequestValue → List Text
files_of (certify folder file) = file ∷ []
files_of (migrate folder file) = file ∷ []
files_of (validate folder profile file) = file ∷ []
files_of (validate_given folder profile file given) = file ∷ given ∷ []
files_of (snapshot folder url) = []
files_of (derive folder derived base) = []
files_of (counter folder derived base) = []
files_of (counter_given folder derived base given) = given ∷ []
files_of (check folder certificate prefixes manner) = one_file certificate
files_of (unread folder profile) = []

-- what words ask for that is answered once
pub data InvocationValue : Type 0 where
  request : RequestValue → InvocationValue
  version : InvocationValue

-- that all resources of some inputs are validated
pub record BulkValue : Type 0 where
  pub folder : List ℕ
  -- the url of the profile; or each resource is judged by the definition of its type, and by the profiles that it names itself
  pub profile : Option (List ℕ)
  -- the inputs, in turn, by their names; none in place of one is standard input
  pub inputs : List (Option (List ℕ))
  -- the file that gives the texts of unread rules which hold, if one does
  pub given : Option (List ℕ)
  pub format : Format
  -- it isn't told that a resource conforms
  pub only_bad : Bool
  -- a profile that a resource names, and that isn't there, is passed over
  pub skip_unknown : Bool

-- that each profile of a package is told, and whether it narrows its base
pub record AuditValue : Type 0 where
  pub folder : List ℕ
  -- where there are some, those profiles whose urls begin with one of them, and the profiles that these rest on
  pub prefixes : List (List ℕ)
  -- the file that gives the texts of unread rules which hold, if one does
  pub given : Option (List ℕ)
  -- the file to which all is written as a page, if it is
  pub page : Option (List ℕ)
  -- the new folder to which the certificates are written, if they are
  pub certificates : Option (List ℕ)
  -- the folder of certificates of which it is told whether they hold still, if there is one
  pub against : Option (List ℕ)
  pub format : Format

-- that the profiles of two packages are compared
pub record CompareValue : Type 0 where
  pub old : List ℕ
  pub new : List ℕ
  pub audience : Audience
  pub format : Format

-- what words ask for: an answer; that the definitions in a folder are served, where the unread rules may hold whose texts a file gives; that
-- those in folders are gathered into a new one; that all resources of some inputs are validated; that each profile of a package is told; or
-- that those of two packages are compared
pub data TaskValue : Type 0 where
  answer : InvocationValue → TaskValue
  serve : (folder : List ℕ) → (given : Option (List ℕ)) → TaskValue
  gather : (out : List ℕ) → (folders : List (List ℕ)) → Detail → TaskValue
  validate_all : BulkValue → TaskValue
  audit : AuditValue → TaskValue
  compare : CompareValue → TaskValue
