-- What the answer of a loading says: the package that a folder is, or its refusal. A failure of the device and want of
-- memory decide nothing.
use Rattle.std.specs.Prelude.{◌≡◌, ◌+◌, ◌<◌, ◌≤◌, ℕ, Option, None, Some, Result, Ok, Err, codes, string_bytes}
use Rattle.std.specs.Option.{option_and_then}
use Rattle.fhir_json.specs.Tree.{Text}
use Rattle.fhir_package.specs.declared.fault.LoadFault.{LoadFault}
use Rattle.fhir_package.specs.declared.fault.LoadFault.TheVariants.{Unlisted, Unreadable, NotJson, Clash, NoMemory}
use Rattle.fhir_package.specs.Definitions.{Definitions}
use Rattle.fhir_package.specs.Packing.{Refusal, not_json, clash}
use Rattle.fhir_package.specs.Surveying.{FileFault, unreadable, not_json as not_text, clash as two_of, Surveyed, refusal, refusal_of}

-- ---- numbers

-- the number that is printed of a file's fault
abbrev pub fault_number : FileFault → Text
fault_number (unreadable file) = codes "P1"
fault_number (not_text file expected position) = codes "P2"
fault_number (two_of kind url file first) = codes "P3"

-- the file's name, or of a clash the url
abbrev pub fault_subject : FileFault → Text
fault_subject (unreadable file) = file
fault_subject (not_text file expected position) = file
fault_subject (two_of kind url file first) = url

-- the number that is printed of a loading's
abbrev pub load_number : LoadFault → Text
load_number Unlisted = codes "P1"
load_number (Unreadable name) = codes "P1"
load_number (NotJson name) = codes "P2"
load_number (Clash url) = codes "P3"
load_number NoMemory = codes "P4"

-- ---- what is answered

-- the fault is the answer's refusal, or decides nothing
abbrev pub IsRefused : LoadFault → Result Definitions Refusal → Type 0
IsRefused Unlisted answer = Unit {0}
IsRefused (Unreadable name) answer = Unit {0}
IsRefused (NotJson name) answer = answer ≡ Err (not_json (string_bytes name))
IsRefused (Clash url) answer = answer ≡ Err (clash (string_bytes url))
IsRefused NoMemory answer = Unit {0}

-- the package is the answer's, or the refusal is
abbrev pub IsPacked : Result Definitions LoadFault → Result Definitions Refusal → Type 0
IsPacked (Ok p) answer = answer ≡ Ok p
IsPacked (Err fault) answer = IsRefused fault answer

-- How often the device has failed behind a loading, from how often it had before it: it is blamed exactly where it failed. Where
-- memory ran out, no failure is forgotten.
abbrev pub CountsLoading : {X : Type 0} → ℕ → ℕ → Result X LoadFault → Type 0
CountsLoading old new (Ok x) = new ≡ old
CountsLoading old new (Err Unlisted) = new ≡ old + 1
CountsLoading old new (Err (Unreadable name)) = old < new
CountsLoading old new (Err (NotJson name)) = new ≡ old
CountsLoading old new (Err (Clash url)) = new ≡ old
CountsLoading old new (Err NoMemory) = old ≤ new

-- ---- the same by a survey

-- A loading's fault tells the one for which files are no package, if there is one. Want of memory tells nothing.
abbrev pub Tells : LoadFault → Option FileFault → Type 0
Tells Unlisted refusal = ⊥
Tells (Unreadable name) refusal = refusal ≡ Some (unreadable (string_bytes name))
Tells (NotJson name) refusal = option_and_then refusal_of refusal ≡ Some (not_json (string_bytes name))
Tells (Clash url) refusal = option_and_then refusal_of refusal ≡ Some (clash (string_bytes url))
Tells NoMemory refusal = Unit {0}

-- of files with this survey the package, or the fault for which they are none
abbrev pub IsLoaded : Result Definitions LoadFault → Surveyed → Type 0
IsLoaded (Ok p) s = (refusal s ≡ None) × (p ≡ s.definitions)
IsLoaded (Err fault) s = Tells fault (refusal s)
