-- A text is that of one unread rule at most: its first letter tells of which kind, and the rest what it names.
use Rattle.std.proofs.Common.{◌≡◌, ℕ, [], ◌∷◌, false, nat_eq, drop, refl, ap, sym, ◌∙◌}
use Rattle.std.proofs.lemmas.Bool.{false≢true, eq-eqb}
use Rattle.fhir_json.specs.Tree.{Text}
use Rattle.fhir_facets.specs.Unread.{Unread, unread_text, range, target, profile, binding, expression, constraint}

abbrev head : Text → ℕ
head [] = 0
head (x ∷ xs) = x

apart : (xs ys : Text) → xs ≡ ys → nat_eq (head xs) (head ys) ≡ false → ⊥
apart xs ys e differ = false≢true (sym differ ∙ ap (λ t. nat_eq (head xs) (head t)) (sym e) ∙ eq-eqb (head xs) (head xs) refl)

pub of_target : (rule : Unread) (named : Text) → unread_text rule ≡ unread_text (target named) → rule ≡ target named
of_target (range property value) named e = absurd (apart (unread_text (range property value)) (unread_text (target named)) e refl)
of_target (target other) named e = ap (λ t. target (drop 7 t)) e
of_target (profile other) named e = absurd (apart (unread_text (profile other)) (unread_text (target named)) e refl)
of_target (binding other) named e = absurd (apart (unread_text (binding other)) (unread_text (target named)) e refl)
of_target (expression other) named e = absurd (apart (unread_text (expression other)) (unread_text (target named)) e refl)
of_target (constraint other) named e = absurd (apart (unread_text (constraint other)) (unread_text (target named)) e refl)

pub of_profile : (rule : Unread) (named : Text) → unread_text rule ≡ unread_text (profile named) → rule ≡ profile named
of_profile (range property value) named e = absurd (apart (unread_text (range property value)) (unread_text (profile named)) e refl)
of_profile (target other) named e = absurd (apart (unread_text (target other)) (unread_text (profile named)) e refl)
of_profile (profile other) named e = ap (λ t. profile (drop 8 t)) e
of_profile (binding other) named e = absurd (apart (unread_text (binding other)) (unread_text (profile named)) e refl)
of_profile (expression other) named e = absurd (apart (unread_text (expression other)) (unread_text (profile named)) e refl)
of_profile (constraint other) named e = absurd (apart (unread_text (constraint other)) (unread_text (profile named)) e refl)

pub of_binding : (rule : Unread) (named : Text) → unread_text rule ≡ unread_text (binding named) → rule ≡ binding named
of_binding (range property value) named e = absurd (apart (unread_text (range property value)) (unread_text (binding named)) e refl)
of_binding (target other) named e = absurd (apart (unread_text (target other)) (unread_text (binding named)) e refl)
of_binding (profile other) named e = absurd (apart (unread_text (profile other)) (unread_text (binding named)) e refl)
of_binding (binding other) named e = ap (λ t. binding (drop 8 t)) e
of_binding (expression other) named e = absurd (apart (unread_text (expression other)) (unread_text (binding named)) e refl)
of_binding (constraint other) named e = absurd (apart (unread_text (constraint other)) (unread_text (binding named)) e refl)

pub of_expression : (rule : Unread) (named : Text) → unread_text rule ≡ unread_text (expression named) → rule ≡ expression named
of_expression (range property value) named e = absurd (apart (unread_text (range property value)) (unread_text (expression named)) e refl)
of_expression (target other) named e = absurd (apart (unread_text (target other)) (unread_text (expression named)) e refl)
of_expression (profile other) named e = absurd (apart (unread_text (profile other)) (unread_text (expression named)) e refl)
of_expression (binding other) named e = absurd (apart (unread_text (binding other)) (unread_text (expression named)) e refl)
of_expression (expression other) named e = ap (λ t. expression (drop 11 t)) e
of_expression (constraint other) named e = absurd (apart (unread_text (constraint other)) (unread_text (expression named)) e refl)

pub of_constraint : (rule : Unread) (named : Text) → unread_text rule ≡ unread_text (constraint named) → rule ≡ constraint named
of_constraint (range property value) named e = absurd (apart (unread_text (range property value)) (unread_text (constraint named)) e refl)
of_constraint (target other) named e = absurd (apart (unread_text (target other)) (unread_text (constraint named)) e refl)
of_constraint (profile other) named e = absurd (apart (unread_text (profile other)) (unread_text (constraint named)) e refl)
of_constraint (binding other) named e = absurd (apart (unread_text (binding other)) (unread_text (constraint named)) e refl)
of_constraint (expression other) named e = absurd (apart (unread_text (expression other)) (unread_text (constraint named)) e refl)
of_constraint (constraint other) named e = ap (λ t. constraint (drop 11 t)) e
