-- Which form each property of an object belongs to (used by private contracts alone).
use Rattle.std.specs.Prelude.{ℕ, suc, List, [], ◌∷◌, ◌++◌, Bool, not, nat_eq, Option, None, Some, if◌then◌else◌}
use Rattle.std.specs.Option.{option_map, option_and_then}
use Rattle.std.specs.List.{list_all, filter, find, slice_get}
use Rattle.std.specs.Str.{bytes_eq}
use Rattle.fhir_json.specs.Tree.{Text}
use Rattle.fhir_forms.specs.declared.form.Property.{Property}
use Rattle.fhir_forms.specs.Forms.{Form, is_primitive, companion_name}
use Rattle.fhir_schema.specs.Schemas.{SchemaValue, forms, property}
use Rattle.fhir_instance.specs.Typing.{Frame, is_of_role, is_known, where_true}
use Rattle.fhir_instance.specs.declared.role.ObjectRole.{ObjectRole}
use Rattle.fhir_instance.specs.declared.spelled.Spelled.{Spelled}
use Rattle.fhir_instance.specs.declared.spelled.Places.{Places}

-- ---- by the names of the properties

-- what the name means where its form is one of the frame's
abbrev pub where_of_role : ObjectRole → List Form → Property → Option Property
where_of_role role fs p = option_and_then (λ f. where_true (is_of_role role f) p) (slice_get fs p.form)

abbrev pub property_meant : SchemaValue → Frame → Text → Option Property
property_meant s frame name = option_and_then (where_of_role frame.role (forms s frame.node)) (property s frame.node name)

-- a property at a place among the others
abbrev pub spelled_at : ℕ → Option Property → List Spelled
spelled_at at None = []
spelled_at at (Some p) = record { form = p.form; is_companion = p.is_companion; at = at } ∷ []

-- the properties that are a form's, of those whose places begin at a number
abbrev pub spelled_from : SchemaValue → Frame → ℕ → List Text → List Spelled
spelled_from s frame at [] = []
spelled_from s frame at (name ∷ names) = spelled_at at (property_meant s frame name) ++ spelled_from s frame (suc at) names

abbrev pub are_known : SchemaValue → Frame → List Text → Bool
are_known s frame names = list_all (is_known s frame) names

-- ---- by the forms

-- those of the form at a place
abbrev pub of_form : ℕ → List Spelled → List Spelled
of_form form all = filter (λ e. nat_eq form e.form) all

-- how many at the front are of the form
abbrev pub count_front : ℕ → List Spelled → ℕ
count_front form [] = 0
count_front form (e ∷ es) = if nat_eq form e.form then suc (count_front form es) else 0

abbrev pub first_form : List Spelled → ℕ
first_form [] = 0
first_form (e ∷ es) = e.form

-- the first of them that is a value, and the first that is a companion
abbrev pub value_among : List Spelled → Option ℕ
value_among es = option_map (λ e. e.at) (find (λ e. not e.is_companion) es)

abbrev pub companion_among : List Spelled → Option ℕ
companion_among es = option_map (λ e. e.at) (find (λ e. e.is_companion) es)

abbrev pub places_among : List Spelled → Places
places_among es = record { value = value_among es; companion = companion_among es }

-- ---- where the properties of one form are

-- where the first of a name is, among names whose places begin at a number
abbrev pub place_from : ℕ → Text → List Text → Option ℕ
place_from n name [] = None
place_from n name (other ∷ others) = if bytes_eq name other then Some n else place_from (suc n) name others

abbrev pub places_from : ℕ → List Text → Form → Places
places_from n names f = record {
  value = place_from n f.property names;
  companion = (if is_primitive f.content then place_from n (companion_name f) names else None);
}
