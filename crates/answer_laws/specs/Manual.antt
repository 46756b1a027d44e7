-- What the manual promises of statuses (docs/USAGE.md, What it answers).
use Rattle.std.specs.Prelude.{ℕ, List, [], ◌∷◌, Bool, true, false, nat_eq, codes, if◌then◌else◌}
use Rattle.std.specs.List.{list_any}
use Rattle.fhir_json.specs.Tree.{Text}
use Rattle.fhir_words.specs.Requests.{RequestValue, certify, migrate, validate, validate_given, snapshot, derive, counter, counter_given, check, unread}
use Rattle.fhir_answers.specs.declared.reply.Status.{Status}
use Rattle.fhir_answers.specs.declared.reply.Status.TheVariants.{Yes, No, Open, Fault, Unwritten, Usage, NoMemory}
use Rattle.fhir_answers.specs.Replying.{ReplyValue, status_of}

-- the statuses of the answers to each request, and 3 where the input is at fault
abbrev pub statuses : RequestValue → List ℕ
statuses (certify folder name) = 0 ∷ 1 ∷ 3 ∷ []
statuses (migrate folder name) = 0 ∷ 3 ∷ []
statuses (validate folder profile name) = 0 ∷ 1 ∷ 2 ∷ 3 ∷ []
statuses (validate_given folder profile name given) = 0 ∷ 1 ∷ 2 ∷ 3 ∷ []
statuses (snapshot folder url) = 0 ∷ 3 ∷ []
statuses (derive folder derived base) = 0 ∷ 1 ∷ 3 ∷ []
statuses (counter folder derived base) = 0 ∷ 1 ∷ 2 ∷ 3 ∷ []
statuses (counter_given folder derived base given) = 0 ∷ 1 ∷ 2 ∷ 3 ∷ []
statuses (check folder certificate prefixes manner) = 0 ∷ 1 ∷ 3 ∷ []
statuses (unread folder profile) = 0 ∷ 3 ∷ []

abbrev pub is_one_of : List ℕ → ReplyValue → Bool
is_one_of numbers reply = list_any (nat_eq (status_of reply)) numbers

-- a request to which an outcome is answered, which stands on standard output also where it tells of a fault
abbrev pub asks_for_outcome : RequestValue → Bool
asks_for_outcome (certify folder name) = false
asks_for_outcome (migrate folder name) = false
asks_for_outcome (validate folder profile name) = true
asks_for_outcome (validate_given folder profile name given) = true
asks_for_outcome (snapshot folder url) = false
asks_for_outcome (derive folder derived base) = false
asks_for_outcome (counter folder derived base) = false
asks_for_outcome (counter_given folder derived base given) = false
asks_for_outcome (check folder certificate prefixes manner) = false
asks_for_outcome (unread folder profile) = false

-- the severity of the issues of an outcome, by the status (FHIR R4, OperationOutcome, issue.severity)
abbrev pub severity : ℕ → Text
severity status =
    if nat_eq status 0 then codes "information" else
    (if nat_eq status 1 then codes "error" else (if nat_eq status 2 then codes "warning" else codes "fatal"))

-- the output didn't fail, and memory didn't run out
abbrev pub is_decided : Status → Bool
is_decided Yes = true
is_decided No = true
is_decided Open = true
is_decided Fault = true
is_decided Unwritten = false
is_decided Usage = true
is_decided NoMemory = false

-- what is wrong in the files of the folder is listed, in place of being the one thing that is told
abbrev pub lists_faults : RequestValue → Bool
lists_faults (certify folder name) = false
lists_faults (migrate folder name) = false
lists_faults (validate folder profile name) = false
lists_faults (validate_given folder profile name given) = false
lists_faults (snapshot folder url) = false
lists_faults (derive folder derived base) = false
lists_faults (counter folder derived base) = false
lists_faults (counter_given folder derived base given) = false
lists_faults (check folder certificate prefixes manner) = true
lists_faults (unread folder profile) = false
