-- An example: three names of which each but the first asks for the one before it, and two that ask for each other.
use Rattle.std.specs.Prelude.{Bool, true, not, Option, Some, None, if◌then◌else◌, codes}
use Rattle.std.specs.Option.{option_map}
use Rattle.std.specs.Str.{bytes_eq}
use Rattle.fhir_json.specs.Tree.{Text}
use Rattle.fhir_asking.specs.Asking.{Asking, given, asks}

-- it is odd where the other isn't
abbrev pub turned : Option Bool → Asking Bool
turned thing = given (option_map not thing)

-- whether a name is odd: the first is, the second where the first isn't, and the third where the second isn't; the hen
-- is where the egg isn't, and the egg where the hen isn't
abbrev pub is_odd : Text → Asking Bool
is_odd name =
    if bytes_eq name (codes "first") then given (Some true)
    else (if bytes_eq name (codes "second") then asks (codes "first") turned
    else (if bytes_eq name (codes "third") then asks (codes "second") turned
    else (if bytes_eq name (codes "hen") then asks (codes "egg") turned
    else (if bytes_eq name (codes "egg") then asks (codes "hen") turned
    else given None))))
