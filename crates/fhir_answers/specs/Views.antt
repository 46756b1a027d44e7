-- What contracts see of the bytes of files.
use Rattle.std.specs.Prelude.{ℕ, List, map, get_or, Option, None, Vec}
use Rattle.std.specs.declared.alloc.Global.{Global}
use Rattle.std.specs.Borrow.{Bor}
use Rattle.std.specs.Option.{option_map}
use Rattle.fhir_json.specs.Tree.{Text}

-- the bytes of a file, or none where it can't be read
abbrev pub bytes_seen : Option (Bor Text) → Option Text
bytes_seen file = option_map (λ bytes. bytes.now) file

-- the same of files that words name, in their order
abbrev pub files_seen : List (Option (Vec ℕ Global)) → List (Option Text)
files_seen files = map (λ file. option_map (λ bytes. bytes.items) file) files

-- the bytes of the file at a place among them; none where there is no such place
abbrev pub file_at : List (Option Text) → ℕ → Option Text
file_at files place = get_or files place None
