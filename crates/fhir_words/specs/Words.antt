-- Words that ask for something as they stand. What other words ask, `clap` says.
use Rattle.std.specs.Prelude.{List, [], ◌∷◌, Bool, false, not, ◌&&◌, map, nat_eq, Option, None, Some, if◌then◌else◌, codes, option_map}
use Rattle.std.specs.List.{starts_with, list_any}
use Rattle.std.specs.Str.{bytes_eq}
use Rattle.fhir_json.specs.Tree.{Text}
use Rattle.fhir_words.specs.declared.request.Audience.TheVariants.{Readers}
use Rattle.fhir_words.specs.declared.request.Format.TheVariants.{Text as AsText}
use Rattle.fhir_words.specs.declared.request.Detail.TheVariants.{Once}
use Rattle.fhir_words.specs.declared.request.Manner.{Manner}
use Rattle.fhir_words.specs.Requests.{RequestValue, certify, migrate, validate, validate_given, snapshot, derive, counter, counter_given, check, unread, InvocationValue, request, BulkValue, TaskValue, answer, serve, gather, validate_all, audit, compare}

abbrev pub is_option : Text → Bool
is_option word = starts_with nat_eq word (codes "-")

-- neither is an option
abbrev pub are_plain : Text → Text → Bool
are_plain first second = not (is_option first) && not (is_option second)

-- a command, and the words that it wants
abbrev pub certify_request : Text → Text → Text → Option RequestValue
certify_request command first second =
    if bytes_eq command (codes "certify") && are_plain first second then Some (certify first second) else None

abbrev pub migrate_request : Text → Text → Text → Option RequestValue
migrate_request command first second =
    if bytes_eq command (codes "migrate") && are_plain first second then Some (migrate first second) else None

abbrev pub validate_request : Text → Text → Text → Text → Option RequestValue
validate_request command first second third =
    if bytes_eq command (codes "validate") && not (is_option first) && are_plain second third
    then Some (validate first second third) else None

abbrev pub validate_given_request : Text → Text → Text → Text → Text → Option RequestValue
validate_given_request command first second third fourth =
    if bytes_eq command (codes "validate-given") && are_plain first second && are_plain third fourth
    then Some (validate_given first second third fourth) else None

abbrev pub snapshot_request : Text → Text → Text → Option RequestValue
snapshot_request command first second =
    if bytes_eq command (codes "snapshot") && are_plain first second then Some (snapshot first second) else None

abbrev pub derive_request : Text → Text → Text → Text → Option RequestValue
derive_request command first second third =
    if bytes_eq command (codes "derive") && not (is_option first) && are_plain second third
    then Some (derive first second third) else None

abbrev pub counter_request : Text → Text → Text → Text → Option RequestValue
counter_request command first second third =
    if bytes_eq command (codes "counter") && not (is_option first) && are_plain second third
    then Some (counter first second third) else None

abbrev pub counter_given_request : Text → Text → Text → Text → Text → Option RequestValue
counter_given_request command first second third fourth =
    if bytes_eq command (codes "counter-given") && are_plain first second && are_plain third fourth
    then Some (counter_given first second third fourth) else None

-- a report in texts, in which what several elements carry is told once
abbrev pub plain_manner : Manner
plain_manner = record { format = AsText; detail = Once }

-- the check of a folder, and the same with a certificate
abbrev pub check_request : Text → Text → Option RequestValue
check_request command folder =
    if bytes_eq command (codes "check") && not (is_option folder) then Some (check folder None [] plain_manner) else None

abbrev pub check_beside : Text → Text → Text → Option RequestValue
check_beside command folder certificate =
    if bytes_eq command (codes "check") && are_plain folder certificate then Some (check folder (Some certificate) [] plain_manner) else None

-- the unread rules of a folder, and the same of a profile
abbrev pub unread_request : Text → Text → Option RequestValue
unread_request command folder =
    if bytes_eq command (codes "unread") && not (is_option folder) then Some (unread folder None) else None

abbrev pub unread_of_profile : Text → Text → Text → Option RequestValue
unread_of_profile command folder profile =
    if bytes_eq command (codes "unread") && are_plain folder profile then Some (unread folder (Some profile)) else None

abbrev pub first_some : {A : Type 0} → Option A → Option A → Option A
first_some (Some x) other = Some x
first_some None other = other

abbrev pub command_request : Text → List Text → Option RequestValue
command_request command (first ∷ []) = first_some (check_request command first) (unread_request command first)
command_request command (first ∷ second ∷ []) =
    first_some (first_some (certify_request command first second) (migrate_request command first second))
    (first_some (snapshot_request command first second)
    (first_some (check_beside command first second) (unread_of_profile command first second)))
command_request command (first ∷ second ∷ third ∷ []) =
    first_some (validate_request command first second third)
    (first_some (derive_request command first second third) (counter_request command first second third))
command_request command (first ∷ second ∷ third ∷ fourth ∷ []) =
    first_some (validate_given_request command first second third fourth) (counter_given_request command first second third fourth)
command_request command _ = None

-- the same behind the program's name
abbrev pub plain_request : List Text → Option RequestValue
plain_request (program ∷ command ∷ words) = command_request command words
plain_request _ = None

abbrev pub plain_invocation : List Text → Option InvocationValue
plain_invocation words = option_map request (plain_request words)

-- that a folder is to be served, and the same with a file
abbrev pub serve_task : Text → Text → Option TaskValue
serve_task command folder = if bytes_eq command (codes "serve") && not (is_option folder) then Some (serve folder None) else None

abbrev pub serve_given_task : Text → Text → Text → Option TaskValue
serve_given_task command folder file =
    if bytes_eq command (codes "serve-given") && are_plain folder file then Some (serve folder (Some file)) else None

-- the same behind the program's name
abbrev pub plain_serving : List Text → Option TaskValue
plain_serving (program ∷ command ∷ folder ∷ []) = serve_task command folder
plain_serving (program ∷ command ∷ folder ∷ file ∷ []) = serve_given_task command folder file
plain_serving _ = None

-- that definitions are gathered into a new folder from others, of which there is one at least
abbrev pub gather_task : Text → Text → Text → List Text → Option TaskValue
gather_task command out first others =
    if bytes_eq command (codes "gather") && not (list_any is_option (out ∷ first ∷ others)) then Some (gather out (first ∷ others) Once) else None

-- the same behind the program's name
abbrev pub plain_gathering : List Text → Option TaskValue
plain_gathering (program ∷ command ∷ out ∷ first ∷ others) = gather_task command out first others
plain_gathering _ = None

-- an option; a dash alone is none
abbrev pub is_flag : Text → Bool
is_flag word = is_option word && not (bytes_eq word (codes "-"))

-- what a word names; a dash names nothing
abbrev pub named : Text → Option Text
named word = if bytes_eq word (codes "-") then None else Some word

-- that all resources of inputs are validated, and all is told in texts
abbrev pub plain_bulk_of : (folder profile : Text) → (inputs : List Text) → BulkValue
plain_bulk_of folder profile inputs = record {
  folder = folder;
  profile = named profile;
  inputs = map named inputs;
  given = None;
  format = AsText;
  only_bad = false;
  skip_unknown = false;
}

-- the same where there is one input at least
abbrev pub bulk_task : Text → Text → Text → Text → List Text → Option TaskValue
bulk_task command folder profile first others =
    if bytes_eq command (codes "validate-all") && not (list_any is_flag (folder ∷ profile ∷ first ∷ others))
    then Some (validate_all (plain_bulk_of folder profile (first ∷ others))) else None

-- the same of the words behind the command, and behind the program's name
abbrev pub command_bulk : Text → List Text → Option TaskValue
command_bulk command (folder ∷ profile ∷ first ∷ others) = bulk_task command folder profile first others
command_bulk command _ = None

abbrev pub plain_bulk : List Text → Option TaskValue
plain_bulk (program ∷ command ∷ others) = command_bulk command others
plain_bulk _ = None

-- that each profile of a package is told, in texts and by nothing but the package
abbrev pub audit_task : Text → Text → Option TaskValue
audit_task command folder =
    if bytes_eq command (codes "audit") && not (is_option folder)
    then Some (audit (record { folder = folder; prefixes = []; given = None; page = None; certificates = None; against = None; format = AsText }))
    else None

-- that the profiles of two packages are compared, for those who read what conforms
abbrev pub compare_task : Text → Text → Text → Option TaskValue
compare_task command old new =
    if bytes_eq command (codes "compare") && are_plain old new
    then Some (compare (record { old = old; new = new; audience = Readers; format = AsText })) else None

-- the same behind the program's name
abbrev pub plain_release : List Text → Option TaskValue
plain_release (program ∷ command ∷ folder ∷ []) = audit_task command folder
plain_release (program ∷ command ∷ old ∷ new ∷ []) = compare_task command old new
plain_release _ = None

abbrev pub plain_task : List Text → Option TaskValue
plain_task words =
    first_some (plain_gathering words)
    (first_some (plain_bulk words)
    (first_some (option_map answer (plain_invocation words))
    (first_some (plain_serving words) (plain_release words))))
