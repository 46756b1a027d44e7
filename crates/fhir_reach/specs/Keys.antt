-- Keys: what stands for definitions. Lists in which each key stands once.
use Rattle.std.specs.Prelude.{List, [], ◌∷◌, ◌++◌, map, Bool, false, ◌&&◌, string_bytes, if◌then◌else◌}
use Rattle.std.specs.List.{list_any, list_all}
use Rattle.std.specs.Str.{bytes_eq}
use Rattle.fhir_json.specs.Tree.{Text}
use Rattle.fhir_reach.specs.declared.key.Key.{Key}
use Rattle.fhir_reach.specs.declared.key.Key.TheVariants.{Url, Code}

-- a url, which stands for the definitions of that url, or the code of a type, which stands for its type definitions
pub data KeyValue : Type 0 where
  of_url of_code : Text → KeyValue

abbrev pub key_seen : Key → KeyValue
key_seen (Url text) = of_url (string_bytes text)
key_seen (Code text) = of_code (string_bytes text)

abbrev pub keys_seen : List Key → List KeyValue
keys_seen keys = map key_seen keys

abbrev pub key_eq : KeyValue → KeyValue → Bool
key_eq (of_url a) (of_url b) = bytes_eq a b
key_eq (of_url a) (of_code b) = false
key_eq (of_code a) (of_url b) = false
key_eq (of_code a) (of_code b) = bytes_eq a b

-- the key is one of them
abbrev pub has_key : List KeyValue → KeyValue → Bool
has_key keys k = list_any (key_eq k) keys

-- each of the one list is one of the other
abbrev pub same_keys : List KeyValue → List KeyValue → Bool
same_keys keys others = list_all (has_key keys) others && list_all (has_key others) keys

-- a key behind others, unless it is one of them
abbrev pub with_key : List KeyValue → KeyValue → List KeyValue
with_key keys k = if has_key keys k then keys else keys ++ k ∷ []

-- the others behind them, each unless it is one of those before it
abbrev pub with_keys : List KeyValue → List KeyValue → List KeyValue
with_keys keys [] = keys
with_keys keys (k ∷ ks) = with_keys (with_key keys k) ks
