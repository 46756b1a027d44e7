-- Replies to commands, and how one is written on a line: as a JSON object, in which the name of the command says what came of it.
use Rattle.std.specs.Prelude.{ℕ, List, [], ◌∷◌, ◌++◌, Bool, true, false, codes, string_bytes}
use Rattle.std.specs.Fmt.{decimal}
use Rattle.fhir_json.specs.Tree.{Text, Tree, number, string, object, members_of, Property}
use Rattle.fhir_json.specs.Views.{tree_of}
use Rattle.fhir_json.specs.Compact.{compact}
use Rattle.fhir_commands.specs.declared.reply.PutAnswer.{PutAnswer}
use Rattle.fhir_commands.specs.declared.reply.PutAnswer.TheVariants as puts
use Rattle.fhir_commands.specs.declared.reply.RemoveAnswer.{RemoveAnswer}
use Rattle.fhir_commands.specs.declared.reply.RemoveAnswer.TheVariants as removes
use Rattle.fhir_commands.specs.declared.reply.Standing.{Standing}
use Rattle.fhir_commands.specs.declared.reply.Standing.TheVariants.{Conforms, Violates, Open, Fault}
use Rattle.fhir_commands.specs.declared.reply.DeriveAnswer.{DeriveAnswer}
use Rattle.fhir_commands.specs.declared.reply.DeriveAnswer.TheVariants.{Derived, Refuted, Missing, Unusable}
use Rattle.fhir_commands.specs.declared.reply.Reply.{Reply}
use Rattle.fhir_commands.specs.declared.reply.Reply.TheVariants.{Put, Remove, Validate, Derive}
use Rattle.fhir_commands.specs.declared.line.Line.{Line}
use Rattle.fhir_commands.specs.declared.line.Line.TheVariants.{Fixed, Made}

-- what comes of two profiles of which a certificate is to be derived
pub data DeriveValue : Type 0 where
  -- the certificate's bytes, and how many pairs it has
  derived : (certificate : List ℕ) → (pairs : ℕ) → DeriveValue
  -- there is none: a pair that fails a rule, and that rule
  refuted : (at rule : List ℕ) → DeriveValue
  -- no definition of one of the urls is there, or one can't be used
  missing unusable : DeriveValue

pub data ReplyValue : Type 0 where
  put : PutAnswer → ReplyValue
  remove : RemoveAnswer → ReplyValue
  -- how the resource stands, and the outcome of its validation
  validate : Standing → Tree → ReplyValue
  derive : DeriveValue → ReplyValue

abbrev pub derive_seen : DeriveAnswer → DeriveValue
derive_seen (Derived certificate pairs) = derived certificate.items pairs
derive_seen (Refuted at rule) = refuted (string_bytes at) (string_bytes rule)
derive_seen Missing = missing
derive_seen Unusable = unusable

abbrev pub reply_seen : Reply → ReplyValue
reply_seen (Put answer) = put answer
reply_seen (Remove answer) = remove answer
reply_seen (Validate standing outcome) = validate standing (tree_of outcome)
reply_seen (Derive answer) = derive (derive_seen answer)

-- ---- words

abbrev pub put_text : PutAnswer → Text
put_text puts.Done = codes "done"
put_text puts.NoDefinition = codes "G1"
put_text puts.Twice = codes "G2"

abbrev pub remove_text : RemoveAnswer → Text
remove_text removes.Done = codes "done"
remove_text removes.Absent = codes "absent"

abbrev pub standing_text : Standing → Text
standing_text Conforms = codes "conforms"
standing_text Violates = codes "violates"
standing_text Open = codes "open"
standing_text Fault = codes "fault"

-- `yes` or `no`, or the number of the refusal
abbrev pub derive_text : DeriveValue → Text
derive_text (derived certificate pairs) = codes "yes"
derive_text (refuted at rule) = codes "no"
derive_text missing = codes "D1"
derive_text unusable = codes "D2"

-- ---- lines

abbrev pub fields : List Property → Tree
fields ps = object (members_of ps)

-- what is told besides: of a certificate how many pairs it has, and where there is none the pair that fails a rule, and that rule
abbrev pub derive_details : DeriveValue → List Property
derive_details (derived certificate pairs) = (codes "pairs", number (decimal pairs)) ∷ []
derive_details (refuted at rule) = (codes "at", string at) ∷ (codes "rule", string rule) ∷ []
derive_details missing = []
derive_details unusable = []

abbrev pub reply_tree : ReplyValue → Tree
reply_tree (put answer) = fields ((codes "put", string (put_text answer)) ∷ [])
reply_tree (remove answer) = fields ((codes "remove", string (remove_text answer)) ∷ [])
reply_tree (validate standing outcome) = fields ((codes "validate", string (standing_text standing)) ∷ (codes "outcome", outcome) ∷ [])
reply_tree (derive answer) = fields ((codes "derive", string (derive_text answer)) ∷ derive_details answer)

abbrev pub line_of : Tree → List ℕ
line_of t = compact t ++ codes "\n"

-- what stands before the outcome on the line of a validation
abbrev pub judgement_front : Standing → Text
judgement_front Conforms = codes "{\"validate\":\"conforms\",\"outcome\":"
judgement_front Violates = codes "{\"validate\":\"violates\",\"outcome\":"
judgement_front Open = codes "{\"validate\":\"open\",\"outcome\":"
judgement_front Fault = codes "{\"validate\":\"fault\",\"outcome\":"

-- where a line is no command, or memory ran out
abbrev pub fault_tree : Text → Tree
fault_tree word = fields ((codes "fault", string word) ∷ [])

-- ---- as they are kept

abbrev pub line_seen : Line → List ℕ
line_seen (Fixed text) = text.now
line_seen (Made bytes) = bytes.items

-- nothing is told besides
abbrev pub is_refusal : DeriveValue → Bool
is_refusal (derived certificate pairs) = false
is_refusal (refuted at rule) = false
is_refusal missing = true
is_refusal unusable = true

-- definitions weren't put in, a resource can't be judged, or two profiles can't be compared
abbrev pub refuses : ReplyValue → Bool
refuses (put puts.Done) = false
refuses (put _) = true
refuses (remove answer) = false
refuses (validate Fault outcome) = true
refuses (validate _ outcome) = false
refuses (derive answer) = is_refusal answer

-- the reply to a command that changes definitions, or the refusal of one that derives
abbrev pub is_short : ReplyValue → Bool
is_short (put answer) = true
is_short (remove answer) = true
is_short (validate standing outcome) = false
is_short (derive answer) = is_refusal answer
