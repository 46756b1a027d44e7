-- Numbers as texts, and the texts that stand for definitions by their numbers.
use Rattle.std.specs.Prelude.{ℕ, zero, suc, ◌+◌, ◌/◌, ◌%◌, List, [], ◌∷◌, ◌++◌, nat_lt, Option, None, Some, if◌then◌else◌}
use Rattle.std.specs.Option.{option_map_or}
use Rattle.std.specs.List.{position_from}
use Rattle.std.specs.Str.{bytes_eq}
use Rattle.fhir_json.specs.Tree.{Text}

-- the last digits of a number, as many as are asked for at the most
abbrev pub last_digits : ℕ → ℕ → Text
last_digits zero n = []
last_digits (suc k) n = if nat_lt n 10 then (48 + n) ∷ [] else last_digits k (n / 10) ++ (48 + n % 10) ∷ []

-- a number in decimal digits, without zeros in front
unfoldable pub number_text : ℕ → Text
number_text n = last_digits (suc n) n

-- the urls of a text's definitions by their numbers, from 0; or none, where a text names each definition by its url
abbrev pub Numbering : Type 0
Numbering = Option (List Text)

-- how a text names the definition at a url
abbrev pub url_text : Numbering → Text → Text
url_text None url = url
url_text (Some urls) url = option_map_or number_text (position_from (bytes_eq url) 0 urls) []

-- the url whose number is written, where the first has that number
abbrev pub url_numbered : ℕ → List Text → Text → Option Text
url_numbered n [] text = None
url_numbered n (url ∷ urls) text = if bytes_eq text (number_text n) then Some url else url_numbered (n + 1) urls text

-- the url of the definition that a text names so, where it has one
abbrev pub url_named : Numbering → Text → Option Text
url_named None text = Some text
url_named (Some urls) text = url_numbered 0 urls text

-- the numbers of a list's members, of which the first has that number
abbrev pub number_texts : {A : Type 0} → ℕ → List A → List Text
number_texts n [] = []
number_texts n (x ∷ xs) = number_text n ∷ number_texts (n + 1) xs
