-- What the reader's values are, without where they lie in memory.
use Rattle.std.specs.Prelude.{Option, Some, None, List, map}
use Rattle.fhir_fp_syntax.specs.declared.parsing.Parsed.{Parsed}
use Rattle.fhir_fp_syntax.specs.declared.parsing.Parsed.TheVariants as parsed
use Rattle.fhir_fp_syntax.specs.Expression.{Expression, expression_of}
use Rattle.fhir_fp_syntax.specs.declared.token.Token.{Token}
use Rattle.fhir_fp_syntax.specs.declared.token.Token.TheVariants as tokens
use Rattle.fhir_json.specs.Tree.{Text}
use Rattle.fhir_fp_syntax.specs.Tokens.{IsWritten}
use Rattle.fhir_fp_syntax.specs.Words.{Word, named, quoted, counted, marked}

abbrev pub parsed_seen : Parsed → Option Expression
parsed_seen (parsed.Read e) = Some (expression_of e)
parsed_seen parsed.Unread = None

-- what was read is what the text is written for
abbrev pub IsRead : Parsed → Text → Type 0
IsRead (parsed.Read e) s = IsWritten (expression_of e) s
IsRead parsed.Unread s = Unit {0}

abbrev pub word_of : Token → Word
word_of (tokens.Name s) = named s.now
word_of (tokens.Text s) = quoted s.now
word_of (tokens.Number s) = counted s.now
word_of (tokens.Mark m) = marked m

abbrev pub words_of : List Token → List Word
words_of ts = map word_of ts
