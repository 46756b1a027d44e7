-- When two slices are told apart by the same (FHIR R4, ElementDefinition, slicing.discriminator): their criteria are the same, one
-- by one.
use Rattle.std.specs.Prelude.{List, [], ◌∷◌, Bool, true, false, ◌&&◌}
use Rattle.std.specs.Str.{bytes_eq}
use Rattle.fhir_json.specs.Tree.{Tree}
use Rattle.fhir_elements.specs.declared.slicing.DiscriminatorType.{DiscriminatorType}
use Rattle.fhir_elements.specs.declared.slicing.DiscriminatorType.TheVariants.{Value, Exists, Pattern, TypeCode, Profile}
use Rattle.fhir_matching.specs.Equality.{equal}
use Rattle.fhir_nodes.specs.declared.node.NodeRef.{NodeRef}
use Rattle.fhir_forms.specs.Criteria.{Sought, fixed, pattern, present, absent, typed, Criterion}
use Rattle.fhir_schema.specs.Schemas.{SchemaValue, criteria}

-- each is equal to the other, which is one thing where names don't stand twice
abbrev pub same_value : Tree → Tree → Bool
same_value t u = equal t u && equal u t

-- two lists are the same, one by one
abbrev pub same_lists : {A : Type 0} → (A → A → Bool) → List A → List A → Bool
same_lists same [] [] = true
same_lists same [] (y ∷ ys) = false
same_lists same (x ∷ xs) [] = false
same_lists same (x ∷ xs) (y ∷ ys) = same x y && same_lists same xs ys

abbrev pub same_sought : Sought → Sought → Bool
same_sought (fixed t) (fixed u) = same_value t u
same_sought (pattern t) (pattern u) = same_value t u
same_sought present present = true
same_sought absent absent = true
same_sought (typed codes) (typed others) = same_lists bytes_eq codes others
same_sought _ _ = false

abbrev pub same_by : DiscriminatorType → DiscriminatorType → Bool
same_by Value Value = true
same_by Exists Exists = true
same_by Pattern Pattern = true
same_by TypeCode TypeCode = true
same_by Profile Profile = true
same_by _ _ = false

abbrev pub same_criterion : Criterion → Criterion → Bool
same_criterion c d = same_by c.by d.by && bytes_eq c.path d.path && same_lists bytes_eq c.names d.names && same_sought c.sought d.sought

abbrev pub same_criteria : SchemaValue → NodeRef → NodeRef → Bool
same_criteria s n m = same_lists same_criterion (criteria s n) (criteria s m)
