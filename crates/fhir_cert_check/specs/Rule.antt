-- The rules of a certificate's pairs by name, and their texts. What each rule asks stands in `Rules`.
use Rattle.std.specs.Prelude.{ℕ, List, ◌++◌, Option, None, Some, codes}
use Rattle.std.specs.Option.{option_map_or}
use Rattle.fhir_json.specs.Tree.{Text}

-- a rule, with the name of the slot, or the key of the constraint, that it is about; and behind it that of a slice
pub data RuleName : Type 0 where
  root type fixed pattern range length_limit binding children : RuleName
  constraint slot cardinality entry closed ordered at_end : List ℕ → RuleName
  slice criteria bounds : (name of_slice : List ℕ) → RuleName

abbrev pub word_of : RuleName → Text
word_of root = codes "root"
word_of type = codes "type"
word_of fixed = codes "fixed"
word_of pattern = codes "pattern"
word_of range = codes "range"
word_of length_limit = codes "length"
word_of binding = codes "binding"
word_of (constraint key) = codes "constraint"
word_of children = codes "children"
word_of (slot name) = codes "slot"
word_of (cardinality name) = codes "cardinality"
word_of (entry name) = codes "entry"
word_of (closed name) = codes "closed"
word_of (ordered name) = codes "ordered"
word_of (at_end name) = codes "end"
word_of (slice name of_slice) = codes "slice"
word_of (criteria name of_slice) = codes "criteria"
word_of (bounds name of_slice) = codes "bounds"

-- the key of the constraint, or the name of the slot, that the rule is about
abbrev pub about : RuleName → Option Text
about (constraint key) = Some key
about (slot name) = Some name
about (cardinality name) = Some name
about (entry name) = Some name
about (closed name) = Some name
about (ordered name) = Some name
about (at_end name) = Some name
about (slice name of_slice) = Some name
about (criteria name of_slice) = Some name
about (bounds name of_slice) = Some name
about root = None
about type = None
about fixed = None
about pattern = None
about range = None
about length_limit = None
about binding = None
about children = None

-- the name of the slice that the rule is about
abbrev pub slice_of : RuleName → Option Text
slice_of (slice name of_slice) = Some of_slice
slice_of (criteria name of_slice) = Some of_slice
slice_of (bounds name of_slice) = Some of_slice
slice_of root = None
slice_of type = None
slice_of fixed = None
slice_of pattern = None
slice_of range = None
slice_of length_limit = None
slice_of binding = None
slice_of children = None
slice_of (constraint key) = None
slice_of (slot name) = None
slice_of (cardinality name) = None
slice_of (entry name) = None
slice_of (closed name) = None
slice_of (ordered name) = None
slice_of (at_end name) = None

-- the name, and behind a colon that of the slice
abbrev pub subject : RuleName → Text → Text
subject rule name = option_map_or (λ of_slice. name ++ codes ":" ++ of_slice) (slice_of rule) name

-- the rule's word, and behind a blank what it is about, if anything
abbrev pub rule_text : RuleName → Text
rule_text rule = option_map_or (λ name. word_of rule ++ codes " " ++ subject rule name) (about rule) (word_of rule)
