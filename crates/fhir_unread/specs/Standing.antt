-- How a text stands in a list that people review.
use Rattle.std.specs.Prelude.{◌≡◌, ℕ, List, ◌∷◌, ◌++◌, true, false, Some, IsUtf8, codes}
use Rattle.std.specs.List.{list_all, Contains}
use Rattle.std.specs.Str.Lines.{lines}
use Rattle.fhir_json.specs.Tree.{Text}
use Rattle.fhir_package.specs.Definitions.{Definitions}
use Rattle.fhir_vouching.specs.Given.{is_comment, line_text}
use Rattle.fhir_findings.specs.Carrying.{Carrier}
use Rattle.fhir_lines.specs.Lines.{count_text, escaped}
use Rattle.fhir_unread.specs.Listing.{heading, saying_text, sentence_shown}
use Rattle.fhir_unread.specs.Sayings.{Saying}
use Rattle.fhir_unread.specs.Unread.{rule_in, given_text}

-- the line of a comment
abbrev pub comment_line : Text → Text
comment_line text = codes "# " ++ escaped text

-- Some line of the list gives the text. Nothing but comments stands between it and one that ends with a number of elements, and among them is each
-- of some sentences with its element. That one is what is said of an element with the text.
pub record IsListed (p : Definitions) (list text : Text) (count : ℕ) (sayings : List Saying) : Type 0 where
  pub first : Carrier
  pub before : List Text
  pub said : Text
  pub comments : List Text
  pub line : Text
  pub after : List Text
  pub stands : lines list ≡ before ++ ((comment_line (said ++ count_text count) ∷ comments) ++ (line ∷ after))
  pub carries : given_text first ≡ text
  pub heads : heading first (sentence_shown p first (rule_in first.carried)) count ≡ said ++ count_text count
  pub are_comments : list_all is_comment comments ≡ true
  pub tells : (y : Saying) → Contains sayings y → Contains comments (comment_line (saying_text y))
  pub is_given : IsUtf8 text → is_comment line ≡ false
  pub gives : IsUtf8 text → line_text line ≡ Some text
