-- The order of identities, by which a set finds them, answers `Equal` exactly where the constraints are the same.
use Rattle.std.proofs.Common.{◌≡◌, Bool, true, false, List, [], ◌∷◌, ◌++◌, Option, None, Some, arith, append_assoc, refl, sym, ap, subst, cond, ◌&&◌, ◌||◌, ◌∙◌, Bor}
use Rattle.std.specs.List.{list_any}
use Rattle.std.specs.Option.{option_eq, option_cmp}
use Rattle.std.specs.Str.{bytes_eq}
use Rattle.std.specs.Ordering.{is_eq, nat_cmp}
use Rattle.std.specs.BTreeMap.{is_at}
use Rattle.std.specs.BTreeSet.{BTreeSet, contains}
use Rattle.std.specs.Cmp.{both_tied}
use Rattle.std.specs.Cmp.Lexicographic.{slice_cmp, texts_ties}
use Rattle.std.proofs.lemmas.List.Folds.{list_any-append}
use Rattle.fhir_json.specs.Tree.{Text}
use Rattle.fhir_json.specs.Views.{text_seen}
use Rattle.fhir_elements.specs.declared.constraint.Severity.{Severity}
use Rattle.fhir_elements.specs.declared.constraint.Severity.TheVariants.{Error, Warning}
use Rattle.fhir_elements.specs.contracts.constraint.SeverityOrd.TheImpl as severities
use Rattle.fhir_elements.specs.Constraint.{Constraint}
use Rattle.fhir_overlay.specs.declared.constraints.Identity.{Identity}
use Rattle.fhir_overlay.specs.contracts.constraints.IdentityOrd.TheImpl.{cmp-value}
use Rattle.fhir_overlay.specs.Overlay.{same_severity, same_constraint}
use Rattle.fhir_overlay.specs.Noted.{identified, AreNoted}

severity_tied : (s t : Severity) → same_severity s t ≡ is_eq (severities.cmp-value.it s t)
severity_tied Error Error = refl
severity_tied Error Warning = refl
severity_tied Warning Error = refl
severity_tied Warning Warning = refl

severities_tied : (s t : Option Severity) → option_eq same_severity s t ≡ is_eq (option_cmp severities.cmp-value.it s t)
severities_tied None None = refl
severities_tied None (Some t) = refl
severities_tied (Some s) None = refl
severities_tied (Some s) (Some t) = severity_tied s t

expressions_tied : (s t : Option (Bor Text)) → option_eq bytes_eq (text_seen s) (text_seen t)
    ≡ is_eq (option_cmp (λ s t. slice_cmp nat_cmp s.now t.now) s t)
expressions_tied None None = refl
expressions_tied None (Some t) = refl
expressions_tied (Some s) None = refl
expressions_tied (Some s) (Some t) = texts_ties s.now t.now

grouped : (a b c : Bool) → (a && (b && c)) ≡ (a && b && c)
grouped true b c = refl
grouped false b c = refl

is_at_identity : (i j : Identity) → is_at (cmp-value.it i) j ≡ same_constraint (identified i) (identified j)
is_at_identity i j =
    sym (both_tied _ _ _ _ (texts_ties i.key.now j.key.now)
    (both_tied _ _ _ _ (severities_tied i.severity j.severity) (expressions_tied i.expression j.expression)))
    ∙ grouped (bytes_eq i.key.now j.key.now) (option_eq same_severity i.severity j.severity)
    (option_eq bytes_eq (text_seen i.expression) (text_seen j.expression))

-- ---- that one is the same as the other goes both ways

text_back : (s t : Text) → bytes_eq s t ≡ bytes_eq t s
text_back [] [] = refl
text_back [] (y ∷ ys) = refl
text_back (x ∷ xs) [] = refl
text_back (x ∷ xs) (y ∷ ys) = grind (arith, text_back xs ys)

text_of_both : (s t : Option Text) → option_eq bytes_eq s t ≡ option_eq bytes_eq t s
text_of_both None None = refl
text_of_both None (Some t) = refl
text_of_both (Some s) None = refl
text_of_both (Some s) (Some t) = text_back s t

severity_back : (s t : Severity) → same_severity s t ≡ same_severity t s
severity_back Error Error = refl
severity_back Error Warning = refl
severity_back Warning Error = refl
severity_back Warning Warning = refl

severities_back : (s t : Option Severity) → option_eq same_severity s t ≡ option_eq same_severity t s
severities_back None None = refl
severities_back None (Some t) = refl
severities_back (Some s) None = refl
severities_back (Some s) (Some t) = severity_back s t

pub same_back : (c d : Constraint) → same_constraint c d ≡ same_constraint d c
same_back c d = λ i. text_back c.key d.key i && severities_back c.severity d.severity i && text_of_both c.expression d.expression i

-- ---- a constraint is noted

behind : (a b : Bool) → cond a true b ≡ (b || (a || false))
behind true true = refl
behind true false = refl
behind false true = refl
behind false false = refl

pub noted_behind : (old new : BTreeSet Identity) (one : Identity) (c : Constraint) → identified one ≡ c
    → ((i : Identity) → contains cmp-value.it new i ≡ cond (is_at (cmp-value.it one) i) true (contains cmp-value.it old i))
    → (cs : List Constraint) → AreNoted old cs → AreNoted new (cs ++ c ∷ [])
noted_behind old new one c is updates cs h i =
    updates i
    ∙ (λ j. cond ((is_at_identity one i ∙ ap (λ d. same_constraint d (identified i)) is ∙ same_back c (identified i)) j) true (h i j))
    ∙ behind (same_constraint (identified i) c) (list_any (same_constraint (identified i)) cs)
    ∙ sym (list_any-append (same_constraint (identified i)) cs (c ∷ []))

-- a copy of it is put behind those that were added
pub put_behind : (noted : BTreeSet Identity) (cs added new : List Constraint) (c d : Constraint) → d ≡ c → new ≡ added ++ d ∷ []
    → AreNoted noted ((cs ++ added) ++ c ∷ []) → AreNoted noted (cs ++ new)
put_behind noted cs added new c d is put h =
    subst (AreNoted noted) (append_assoc cs added (c ∷ []) ∙ ap (λ xs. cs ++ xs) (sym (put ∙ ap (λ x. added ++ x ∷ []) is))) h
