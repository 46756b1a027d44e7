-- The parts of an element that are written are read again.
use Rattle.std.proofs.Common.{◌≡◌, ℕ, ℤ, List, [], ◌∷◌, map, Bool, true, Option, None, Some, IsTrue, is_some, refl, ap, ◌∙◌}
use Rattle.std.specs.Prelude.{codes, ◌&&◌}
use Rattle.std.specs.Fmt.{decimal, signed_decimal}
use Rattle.std.specs.List.{list_all}
use Rattle.std.specs.Option.{option_map, option_map_or, option_and_then}
use Rattle.fhir_json.specs.Tree.{Text, Tree, boolean, string, number, items_of, list_of}
use Rattle.fhir_json.specs.Fields.{field, as_text, as_number, as_flag, as_items, is_array, count_of, text_in, texts_in, items_in, flag_in, text_or_empty}
use Rattle.fhir_elements.specs.declared.binding.Strength.{Strength}
use Rattle.fhir_elements.specs.declared.binding.Strength.TheVariants as strengths
use Rattle.fhir_elements.specs.declared.constraint.Severity.{Severity}
use Rattle.fhir_elements.specs.declared.constraint.Severity.TheVariants as severities
use Rattle.fhir_elements.specs.declared.slicing.DiscriminatorType.{DiscriminatorType}
use Rattle.fhir_elements.specs.declared.slicing.DiscriminatorType.TheVariants as discriminators
use Rattle.fhir_elements.specs.declared.slicing.SlicingRules.{SlicingRules}
use Rattle.fhir_elements.specs.declared.slicing.SlicingRules.TheVariants as slicings
use Rattle.fhir_elements.specs.Integers.{as_integer}
use Rattle.fhir_elements.specs.Binding.{Binding, strength_of, is_binding, binding_of}
use Rattle.fhir_elements.specs.Codes.{code_in}
use Rattle.fhir_elements.specs.Constraint.{Constraint, severity_of, is_constraint, constraint_of}
use Rattle.fhir_elements.specs.Slicing.{Discriminator, Slicing, discriminator_type_of, slicing_rules_of, is_discriminator, discriminator_of, is_slicing, slicing_of}
use Rattle.fhir_elements.specs.TypeEntry.{TypeEntry, is_type_entry, type_entry_of}
use Rattle.fhir_overlay.specs.Json.{filled_array, strength_code, severity_code, discriminator_code, rules_code, type_entry_tree, constraint_tree, binding_tree, discriminator_tree, slicing_tree}
use Rattle.fhir_overlay.specs.Writable.{is_count, is_integer}
use Rattle.fhir_overlay.proofs.Lookups.{field-more, taken-named, or_none}
use Rattle.fhir_overlay.proofs.Numbers.{count_again, integer_again}
use Rattle.fhir_overlay.proofs.Truths.{both, all_three, all_four}

-- ---- values

pub text_again : (o : Option Text) → option_and_then as_text (option_map string o) ≡ o
text_again None = refl
text_again (Some s) = refl

pub text_allowed : (o : Option Text) → option_map_or (λ v. is_some (as_text v)) (option_map string o) true ≡ true
text_allowed None = refl
text_allowed (Some s) = refl

pub flag_again : (o : Option Bool) → option_and_then as_flag (option_map boolean o) ≡ o
flag_again None = refl
flag_again (Some b) = refl

pub flag_allowed : (o : Option Bool) → option_map_or (λ v. is_some (as_flag v)) (option_map boolean o) true ≡ true
flag_allowed None = refl
flag_allowed (Some b) = refl

pub code_again : {A : Type 0} (read : Text → Option A) (write : A → Text) (keeps : A → Bool)
    → ((x : A) → IsTrue (keeps x) → read (write x) ≡ Some x) → (o : Option A) → IsTrue (option_map_or keeps o true)
    → option_and_then read (option_and_then as_text (option_map string (option_map write o))) ≡ o
code_again read write keeps back None h = refl
code_again read write keeps back (Some x) h = back x h

pub code_allowed : {A : Type 0} (read : Text → Option A) (write : A → Text) (keeps : A → Bool)
    → ((x : A) → IsTrue (keeps x) → read (write x) ≡ Some x) → (o : Option A) → IsTrue (option_map_or keeps o true)
    → option_map_or (λ v. is_some (option_and_then read (as_text v))) (option_map string (option_map write o)) true ≡ true
code_allowed read write keeps back None h = refl
code_allowed read write keeps back (Some x) h = ap is_some (back x h)

any : {A : Type 0} (o : Option A) → IsTrue (option_map_or (λ x. true) o true)
any None = refl
any (Some x) = refl

pub min_again : (o : Option ℕ) → IsTrue (option_map_or is_count o true)
    → option_and_then count_of (option_and_then as_number (option_map (λ n. number (decimal n)) o)) ≡ o
min_again None h = refl
min_again (Some n) h = count_again n h

pub min_allowed : (o : Option ℕ) → IsTrue (option_map_or is_count o true)
    → option_map_or (λ v. is_some (option_and_then count_of (as_number v))) (option_map (λ n. number (decimal n)) o) true ≡ true
min_allowed None h = refl
min_allowed (Some n) h = ap is_some (count_again n h)

pub length_again : (o : Option ℤ) → IsTrue (option_map_or is_integer o true)
    → option_and_then as_integer (option_map (λ n. number (signed_decimal n)) o) ≡ o
length_again None h = refl
length_again (Some z) h = integer_again z h

pub length_allowed : (o : Option ℤ) → IsTrue (option_map_or is_integer o true)
    → option_map_or (λ v. is_some (as_integer v)) (option_map (λ n. number (signed_decimal n)) o) true ≡ true
length_allowed None h = refl
length_allowed (Some z) h = ap is_some (integer_again z h)

-- ---- lists

listed : (ts : List Tree) → list_of (items_of ts) ≡ ts
listed [] = refl
listed (t ∷ ts) = ap (λ us. t ∷ us) (listed ts)

pub items_again : (ts : List Tree) → option_map_or (λ v. list_of (as_items v)) (filled_array ts) [] ≡ ts
items_again [] = refl
items_again (t ∷ ts) = listed (t ∷ ts)

pub items_allowed : (ts : List Tree) → option_map_or is_array (filled_array ts) true ≡ true
items_allowed [] = refl
items_allowed (t ∷ ts) = refl

pub map_again : {A : Type 0} (read : Tree → A) (write : A → Tree) → ((x : A) → read (write x) ≡ x) → (xs : List A) → map read (map write xs) ≡ xs
map_again read write back [] = refl
map_again read write back (x ∷ xs) = rw (back x, map_again read write back xs) refl

pub map_allowed : {A : Type 0} (fits : Tree → Bool) (write : A → Tree) → ((x : A) → IsTrue (fits (write x))) → (xs : List A)
    → IsTrue (list_all fits (map write xs))
map_allowed fits write good [] = refl
map_allowed fits write good (x ∷ xs) = both (fits (write x)) _ (good x) (map_allowed fits write good xs)

-- ---- codes

strength_back : (s : Strength) → IsTrue true → strength_of (strength_code s) ≡ Some s
strength_back strengths.Required h = refl
strength_back strengths.Extensible h = refl
strength_back strengths.Preferred h = refl
strength_back strengths.Example h = refl

severity_back : (s : Severity) → IsTrue true → severity_of (severity_code s) ≡ Some s
severity_back severities.Error h = refl
severity_back severities.Warning h = refl

discriminator_back : (d : DiscriminatorType) → IsTrue true → discriminator_type_of (discriminator_code d) ≡ Some d
discriminator_back discriminators.Value h = refl
discriminator_back discriminators.Exists h = refl
discriminator_back discriminators.Pattern h = refl
discriminator_back discriminators.TypeCode h = refl
discriminator_back discriminators.Profile h = refl

rules_back : (r : SlicingRules) → IsTrue true → slicing_rules_of (rules_code r) ≡ Some r
rules_back slicings.Closed h = refl
rules_back slicings.Open h = refl
rules_back slicings.OpenAtEnd h = refl

-- ---- types

profiles : (x : TypeEntry) → field (codes "profile") (type_entry_tree x) ≡ filled_array (map string x.profiles)
profiles x = simp (field-more, taken-named, or_none)

targets : (x : TypeEntry) → field (codes "targetProfile") (type_entry_tree x) ≡ filled_array (map string x.targets)
targets x = simp (field-more, taken-named, or_none)

texts_again : (o : Option Tree) (xs : List Text) → o ≡ filled_array (map string xs)
    → map text_or_empty (option_map_or (λ v. list_of (as_items v)) o []) ≡ xs
texts_again o xs is =
    ap (λ p. map text_or_empty (option_map_or (λ v. list_of (as_items v)) p [])) is ∙ ap (map text_or_empty) (items_again (map string xs))
    ∙ map_again text_or_empty string (λ x. refl) xs

texts_allowed : (o : Option Tree) (xs : List Text) → o ≡ filled_array (map string xs)
    → IsTrue (option_map_or is_array o true && list_all (λ v. is_some (as_text v)) (option_map_or (λ v. list_of (as_items v)) o []))
texts_allowed o xs is =
    both _ _ (ap (λ p. option_map_or is_array p true) is ∙ items_allowed (map string xs))
    (ap (λ p. list_all (λ v. is_some (as_text v)) (option_map_or (λ v. list_of (as_items v)) p [])) is
    ∙ ap (list_all (λ v. is_some (as_text v))) (items_again (map string xs)) ∙ map_allowed (λ v. is_some (as_text v)) string (λ x. refl) xs)

pub type_again : (x : TypeEntry) → type_entry_of (type_entry_tree x) ≡ x
type_again x =
    let ps : texts_in (codes "profile") (type_entry_tree x) ≡ x.profiles = texts_again _ x.profiles (profiles x) in
    let ts : texts_in (codes "targetProfile") (type_entry_tree x) ≡ x.targets = texts_again _ x.targets (targets x) in
    rw (ps, ts) refl

pub type_fits : (x : TypeEntry) → IsTrue (is_type_entry (type_entry_tree x))
type_fits x = all_four true true _ _ refl refl (texts_allowed _ x.profiles (profiles x)) (texts_allowed _ x.targets (targets x))

-- ---- constraints

severity : (c : Constraint) → field (codes "severity") (constraint_tree c) ≡ option_map string (option_map severity_code c.severity)
severity c = simp (field-more, taken-named, or_none)

expression : (c : Constraint) → field (codes "expression") (constraint_tree c) ≡ option_map string c.expression
expression c = simp (field-more, taken-named, or_none)

pub constraint_again : (c : Constraint) → constraint_of (constraint_tree c) ≡ c
constraint_again c =
    let s : code_in severity_of (codes "severity") (constraint_tree c) ≡ c.severity =
    ap (λ f. option_and_then severity_of (option_and_then as_text f)) (severity c)
    ∙ code_again severity_of severity_code (λ x. true) severity_back c.severity (any c.severity) in
    let x : text_in (codes "expression") (constraint_tree c) ≡ c.expression = ap (option_and_then as_text) (expression c) ∙ text_again c.expression in
    rw (s, x) refl

pub constraint_fits : (c : Constraint) → IsTrue (is_constraint (constraint_tree c))
constraint_fits c =
    all_four true true _ _ refl refl
    (ap (λ f. option_map_or (λ v. is_some (option_and_then severity_of (as_text v))) f true) (severity c)
    ∙ code_allowed severity_of severity_code (λ x. true) severity_back c.severity (any c.severity))
    (ap (λ f. option_map_or (λ v. is_some (as_text v)) f true) (expression c) ∙ text_allowed c.expression)

-- ---- bindings

strength : (b : Binding) → field (codes "strength") (binding_tree b) ≡ option_map string (option_map strength_code b.strength)
strength b = simp (field-more, taken-named, or_none)

value_set : (b : Binding) → field (codes "valueSet") (binding_tree b) ≡ option_map string b.value_set
value_set b = simp (field-more, taken-named, or_none)

pub binding_again : (b : Binding) → binding_of (binding_tree b) ≡ b
binding_again b =
    let s : code_in strength_of (codes "strength") (binding_tree b) ≡ b.strength =
    ap (λ f. option_and_then strength_of (option_and_then as_text f)) (strength b)
    ∙ code_again strength_of strength_code (λ x. true) strength_back b.strength (any b.strength) in
    let v : text_in (codes "valueSet") (binding_tree b) ≡ b.value_set = ap (option_and_then as_text) (value_set b) ∙ text_again b.value_set in
    rw (s, v) refl

pub binding_fits : (b : Binding) → IsTrue (is_binding (binding_tree b))
binding_fits b =
    all_three true _ _ refl
    (ap (λ f. option_map_or (λ v. is_some (option_and_then strength_of (as_text v))) f true) (strength b)
    ∙ code_allowed strength_of strength_code (λ x. true) strength_back b.strength (any b.strength))
    (ap (λ f. option_map_or (λ v. is_some (as_text v)) f true) (value_set b) ∙ text_allowed b.value_set)

-- ---- slicings

by : (d : Discriminator) → field (codes "type") (discriminator_tree d) ≡ option_map string (option_map discriminator_code d.by)
by d = simp (field-more, taken-named, or_none)

path : (d : Discriminator) → field (codes "path") (discriminator_tree d) ≡ option_map string d.path
path d = simp (field-more, taken-named, or_none)

discriminator_again : (d : Discriminator) → discriminator_of (discriminator_tree d) ≡ d
discriminator_again d =
    let b : code_in discriminator_type_of (codes "type") (discriminator_tree d) ≡ d.by =
    ap (λ f. option_and_then discriminator_type_of (option_and_then as_text f)) (by d)
    ∙ code_again discriminator_type_of discriminator_code (λ x. true) discriminator_back d.by (any d.by) in
    let p : text_in (codes "path") (discriminator_tree d) ≡ d.path = ap (option_and_then as_text) (path d) ∙ text_again d.path in
    rw (b, p) refl

discriminator_fits : (d : Discriminator) → IsTrue (is_discriminator (discriminator_tree d))
discriminator_fits d =
    all_three true _ _ refl
    (ap (λ f. option_map_or (λ v. is_some (option_and_then discriminator_type_of (as_text v))) f true) (by d)
    ∙ code_allowed discriminator_type_of discriminator_code (λ x. true) discriminator_back d.by (any d.by))
    (ap (λ f. option_map_or (λ v. is_some (as_text v)) f true) (path d) ∙ text_allowed d.path)

discriminator_field : (s : Slicing) → field (codes "discriminator") (slicing_tree s) ≡ filled_array (map discriminator_tree s.discriminators)
discriminator_field s = simp (field-more, taken-named, or_none)

ordered : (s : Slicing) → field (codes "ordered") (slicing_tree s) ≡ option_map boolean s.ordered
ordered s = simp (field-more, taken-named, or_none)

rules_field : (s : Slicing) → field (codes "rules") (slicing_tree s) ≡ option_map string (option_map rules_code s.rules)
rules_field s = simp (field-more, taken-named, or_none)

discriminator_items : (s : Slicing) → items_in (codes "discriminator") (slicing_tree s) ≡ map discriminator_tree s.discriminators
discriminator_items s =
    ap (λ f. option_map_or (λ v. list_of (as_items v)) f []) (discriminator_field s) ∙ items_again (map discriminator_tree s.discriminators)

pub slicing_again : (s : Slicing) → slicing_of (slicing_tree s) ≡ s
slicing_again s =
    let d : map discriminator_of (items_in (codes "discriminator") (slicing_tree s)) ≡ s.discriminators =
    ap (map discriminator_of) (discriminator_items s) ∙ map_again discriminator_of discriminator_tree discriminator_again s.discriminators in
    let o : flag_in (codes "ordered") (slicing_tree s) ≡ s.ordered = ap (option_and_then as_flag) (ordered s) ∙ flag_again s.ordered in
    let r : code_in slicing_rules_of (codes "rules") (slicing_tree s) ≡ s.rules =
    ap (λ f. option_and_then slicing_rules_of (option_and_then as_text f)) (rules_field s)
    ∙ code_again slicing_rules_of rules_code (λ x. true) rules_back s.rules (any s.rules) in
    rw (d, o, r) refl

pub slicing_fits : (s : Slicing) → IsTrue (is_slicing (slicing_tree s))
slicing_fits s =
    both _ _
    (all_four true _ _ _ refl
    (ap (λ f. option_map_or is_array f true) (discriminator_field s) ∙ items_allowed (map discriminator_tree s.discriminators))
    (ap (list_all is_discriminator) (discriminator_items s) ∙ map_allowed is_discriminator discriminator_tree discriminator_fits s.discriminators)
    (ap (λ f. option_map_or (λ v. is_some (as_flag v)) f true) (ordered s) ∙ flag_allowed s.ordered))
    (ap (λ f. option_map_or (λ v. is_some (option_and_then slicing_rules_of (as_text v))) f true) (rules_field s)
    ∙ code_allowed slicing_rules_of rules_code (λ x. true) rules_back s.rules (any s.rules))
