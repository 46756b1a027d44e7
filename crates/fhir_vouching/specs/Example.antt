-- A small file.
use Rattle.std.specs.Prelude.{[], ◌∷◌, ◌++◌, codes}
use Rattle.fhir_json.specs.Bytes.{backslash, carriage_return, line_feed, quote}
use Rattle.fhir_json.specs.Grammar.{mark}
use Rattle.fhir_json.specs.Tree.{Text}
use Rattle.fhir_vouching.specs.Given.{number_sign}

-- a mark, a comment, an empty line, a line with an escape that ends in a carriage return and a line feed, one with a bare
-- quote, and one that the file ends
abbrev pub example : Text
example =
    mark
    ++ (number_sign ∷ line_feed ∷ line_feed ∷ (codes "a " ++ backslash ∷ (codes "u0062" ++ carriage_return ∷ line_feed
    ∷ (codes "c" ++ quote ∷ line_feed ∷ (codes "d" ++ number_sign ∷ [])))))
