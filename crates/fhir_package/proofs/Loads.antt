-- What a loading says of a folder, by what was read of it.
use Rattle.std.proofs.Common.{◌≡◌, ◌+◌, ℕ, Option, None, Some, Result, Ok, Err, refl, sym, ap, ◌∙◌, arith}
use Rattle.std.specs.Prelude.{All, length}
use Rattle.std.specs.Option.{option_map, option_and_then}
use Rattle.std.specs.Map.{keys_of}
use Rattle.fhir_package.specs.declared.fault.LoadFault.{LoadFault}
use Rattle.fhir_package.specs.declared.fault.LoadFault.TheVariants.{Unlisted, Unreadable, NotJson, Clash, NoMemory}
use Rattle.fhir_package.specs.Definitions.{Definitions}
use Rattle.fhir_package.specs.Folder.{Files}
use Rattle.fhir_package.specs.Packing.{Refusal, json_names, pack_files, pack}
use Rattle.fhir_package.specs.ReadFiles.{ReadFiles, IsFrom, unreadable_names, all_given}
use Rattle.fhir_package.specs.Surveying.{FileFault, Surveyed, survey, refusal, refusal_of, told_by, packed_by}
use Rattle.fhir_package.specs.Faults.{IsPacked, CountsLoading, IsLoaded}
use Rattle.fhir_package.proofs.Given.{none_unread, some_unread, folder_given}
use Rattle.fhir_package.proofs.Surveyings.{survey_packs}

-- ---- by a survey

refused_by : (r : Option FileFault) (why : Refusal) (p : Definitions) → option_and_then refusal_of r ≡ Some why → told_by r p ≡ Some (Err why)
refused_by None why p e = absurd cc
refused_by (Some fault) why p e = ap (λ (o : Option Refusal). option_map Err o) e

packed_as : (s : Surveyed) (p : Definitions) → refusal s ≡ None → p ≡ s.definitions → packed_by s ≡ Some (Ok p)
packed_as s p none is = ap (λ (r : Option FileFault). told_by r s.definitions) none ∙ ap (λ (d : Definitions). Some (Ok d)) (sym is)

-- ---- by the files

same : (r answer : Result Definitions Refusal) → ◌≡◌ {A = Option (Result Definitions Refusal)} (Some r) (Some answer) → r ≡ answer
same r answer e = cc

module _ (read : ReadFiles) where
  all_there : (answer : Result Definitions Refusal) → packed_by (survey read) ≡ Some answer
      → (gs : Files) × (all_given read ≡ Some gs) × (pack_files gs ≡ answer)
  all_there answer e = by (all_given read) refl (sym (survey_packs read) ∙ e)
    where
      by : (all : Option Files) → all_given read ≡ all → option_map pack_files all ≡ Some answer
          → (gs : Files) × (all_given read ≡ Some gs) × (pack_files gs ≡ answer)
      by None is e = absurd cc
      by (Some gs) is e = (gs, is, same (pack_files gs) answer e)

  not_there : packed_by (survey read) ≡ None → all_given read ≡ None
  not_there e = by (all_given read) refl (sym (survey_packs read) ∙ e)
    where
      by : (all : Option Files) → all_given read ≡ all → option_map pack_files all ≡ None → all_given read ≡ None
      by None is e = is
      by (Some gs) is e = absurd cc

  module _ (files : Files) (names : keys_of read ≡ json_names (keys_of files)) (from : All (IsFrom files) read) where
    answered : (answer : Result Definitions Refusal) → packed_by (survey read) ≡ Some answer → pack files ≡ answer
    answered answer e =
        let there = all_there answer e in
        ap pack_files (sym (folder_given files read there.0 names from there.1)) ∙ there.2

    pub loaded : (r : Result Definitions LoadFault) → IsLoaded r (survey read) → IsPacked r (pack files)
    loaded (Ok p) is = answered (Ok p) (packed_as (survey read) p is.0 is.1)
    loaded (Err Unlisted) is = tt
    loaded (Err (Unreadable name)) is = tt
    loaded (Err (NotJson name)) is = answered _ (refused_by (refusal (survey read)) _ (survey read).definitions is)
    loaded (Err (Clash url)) is = answered _ (refused_by (refusal (survey read)) _ (survey read).definitions is)
    loaded (Err NoMemory) is = tt

  module _ (old new : ℕ) (counts : new ≡ old + length (unreadable_names read)) where
    none_more : (answer : Result Definitions Refusal) → packed_by (survey read) ≡ Some answer → new ≡ old
    none_more answer e =
        let there = all_there answer e in
        let none = none_unread read there.0 there.1 in
        omega (arith, counts, none)

    pub counted : (r : Result Definitions LoadFault) → IsLoaded r (survey read) → CountsLoading old new r
    counted (Ok p) is = none_more (Ok p) (packed_as (survey read) p is.0 is.1)
    counted (Err Unlisted) is = absurd is
    counted (Err (Unreadable name)) is =
        let some = some_unread read (not_there (ap (λ (r : Option FileFault). told_by r (survey read).definitions) is)) in
        omega (arith, counts, some)
    counted (Err (NotJson name)) is = none_more _ (refused_by (refusal (survey read)) _ (survey read).definitions is)
    counted (Err (Clash url)) is = none_more _ (refused_by (refusal (survey read)) _ (survey read).definitions is)
    counted (Err NoMemory) is = omega (arith, counts)
