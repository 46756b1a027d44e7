-- The names of the files of certificates.
use Rattle.std.specs.Prelude.{ℕ, ◌+◌, List, [], ◌∷◌, ◌++◌, map, take, Bool, ◌||◌, ◌&&◌, nat_eq, nat_le, if◌then◌else◌, codes}
use Rattle.std.specs.Fmt.{decimal}
use Rattle.std.specs.List.{count_by}
use Rattle.std.specs.Str.{bytes_eq}
use Rattle.fhir_json.specs.Tree.{Text}

-- a letter, a digit, or one of `-`, `.` and `_`
abbrev pub is_name_byte : ℕ → Bool
is_name_byte b =
    (nat_le 97 b && nat_le b 122) || (nat_le 65 b && nat_le b 90) || (nat_le 48 b && nat_le b 57) || nat_eq b 45 || nat_eq b 46 || nat_eq b 95

-- what stands for a byte of a url
abbrev pub name_byte : ℕ → ℕ
name_byte b = if is_name_byte b then b else 95

-- what a name has of a url
abbrev pub front_of : Text → Text
front_of url = map name_byte (take 150 url)

-- how many urls have this front
abbrev pub with_front : Text → List Text → ℕ
with_front front urls = count_by (λ url. bytes_eq front (front_of url)) urls

-- the name of a url that stands behind others
abbrev pub name_behind : List Text → Text → Text
name_behind before url = front_of url ++ codes "~" ++ decimal (with_front (front_of url) before + 1)

-- those of urls that stand behind others, in order
abbrev pub names_behind : List Text → List Text → List Text
names_behind before [] = []
names_behind before (url ∷ urls) = name_behind before url ∷ names_behind (before ++ url ∷ []) urls

abbrev pub file_names : List Text → List Text
file_names urls = names_behind [] urls
