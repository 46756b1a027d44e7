-- The constraints that lie under others stay, of each that lies over them the same is there, no other comes, and none comes twice.
use Rattle.std.proofs.Common.{not, ◌&&◌, ◌||◌, subst, ◌≡◌, List, [], ◌∷◌, ◌++◌, Bool, true, false, Option, None, Some, IsTrue, refl, sym, ap, ◌∙◌, arith, append_assoc, append-nil, if◌then◌else◌}
use Rattle.std.specs.List.{list_all, list_any}
use Rattle.std.specs.Option.{option_eq}
use Rattle.std.specs.Str.{bytes_eq}
use Rattle.std.proofs.lemmas.Bool.{and_parts}
use Rattle.std.proofs.lemmas.List.Folds.{list_any-append}
use Rattle.std.proofs.lemmas.Slice.Eq.{bytes_eq-Decides}
use Rattle.fhir_json.specs.Tree.{Text}
use Rattle.fhir_elements.specs.declared.constraint.Severity.{Severity}
use Rattle.fhir_elements.specs.declared.constraint.Severity.TheVariants.{Error, Warning}
use Rattle.fhir_elements.specs.Constraint.{Constraint}
use Rattle.fhir_overlay.specs.Overlay.{same_severity, same_constraint, with_constraint, with_constraints, all_differ}
use Rattle.fhir_overlay.proofs.Truths.{both, all_three}
use Rattle.fhir_overlay.proofs.Noting.{same_back}

added_if : (b : Bool) (cs : List Constraint) (c : Constraint)
    → (added : List Constraint) × ((if b then cs else cs ++ c ∷ []) ≡ cs ++ added)
added_if true cs c = ([], sym (append-nil cs))
added_if false cs c = (c ∷ [], refl)

pub stay : (old more : List Constraint) → (added : List Constraint) × (with_constraints old more ≡ old ++ added)
stay old [] = ([], sym (append-nil old))
stay old (c ∷ cs) =
    let one = added_if (list_any (same_constraint c) old) old c in
    let more = stay (with_constraint old c) cs in
    (one.0 ++ more.0, more.1 ∙ ap (λ xs. xs ++ more.0) one.1 ∙ append_assoc old one.0 more.0)

same_text : (s : Text) → bytes_eq s s ≡ true
same_text s = (bytes_eq-Decides s s).1 refl

severity_same : (s : Option Severity) → option_eq same_severity s s ≡ true
severity_same None = refl
severity_same (Some Error) = refl
severity_same (Some Warning) = refl

text_same : (s : Option Text) → option_eq bytes_eq s s ≡ true
text_same None = refl
text_same (Some s) = same_text s

same : (c : Constraint) → IsTrue (same_constraint c c)
same c =
    all_three (bytes_eq c.key c.key) (option_eq same_severity c.severity c.severity) (option_eq bytes_eq c.expression c.expression)
    (same_text c.key) (severity_same c.severity) (text_same c.expression)

any_behind : (p : Constraint → Bool) (cs : List Constraint) (c : Constraint) → IsTrue (p c) → IsTrue (list_any p (cs ++ c ∷ []))
any_behind p [] c is = grind arith
any_behind p (d ∷ ds) c is = let rest = any_behind p ds c is in grind arith

any_before : (p : Constraint → Bool) (cs : List Constraint) (c : Constraint) → IsTrue (list_any p cs) → IsTrue (list_any p (cs ++ c ∷ []))
any_before p (d ∷ ds) c any = grind (arith, any_before p ds c)
any_before p [] c any = grind arith

there_if : (b : Bool) (cs : List Constraint) (c : Constraint) → list_any (same_constraint c) cs ≡ b
    → IsTrue (list_any (same_constraint c) (if b then cs else cs ++ c ∷ []))
there_if true cs c is = is
there_if false cs c is = any_behind (same_constraint c) cs c (same c)

kept_if : (p : Constraint → Bool) (b : Bool) (cs : List Constraint) (c : Constraint) → IsTrue (list_any p cs)
    → IsTrue (list_any p (if b then cs else cs ++ c ∷ []))
kept_if p true cs c any = any
kept_if p false cs c any = any_before p cs c any

kept : (p : Constraint → Bool) (old more : List Constraint) → IsTrue (list_any p old) → IsTrue (list_any p (with_constraints old more))
kept p old [] any = any
kept p old (c ∷ cs) any =
    kept p (with_constraint old c) cs (kept_if p (list_any (same_constraint c) old) old c any)

pub there : (old more : List Constraint) → IsTrue (list_all (λ c. list_any (same_constraint c) (with_constraints old more)) more)
there old [] = refl
there old (c ∷ cs) =
    both (list_any (same_constraint c) (with_constraints (with_constraint old c) cs)) _
    (kept (same_constraint c) (with_constraint old c) cs (there_if (list_any (same_constraint c) old) old c refl))
    (there (with_constraint old c) cs)

only_if : (p : Constraint → Bool) (b : Bool) (cs : List Constraint) (c : Constraint) → IsTrue (list_any p (if b then cs else cs ++ c ∷ []))
    → IsTrue (list_any p cs || p c)
only_if p true cs c any = grind (arith, any)
only_if p false cs c any = last (list_any p cs) (p c) (subst IsTrue (list_any-append p cs (c ∷ [])) any)
  where
    last : (a b : Bool) → IsTrue (a || (b || false)) → IsTrue (a || b)
    last a b h = grind (arith, h)

grouped : (a b c : Bool) → IsTrue ((a || b) || c) → IsTrue (a || (b || c))
grouped a b c h = grind (arith, h)

widened : (a b c : Bool) → (IsTrue a → IsTrue b) → IsTrue (a || c) → IsTrue (b || c)
widened true b c f h = grind (arith, f refl)
widened false b c f h = grind (arith, h)

pub only : (p : Constraint → Bool) (old more : List Constraint) → IsTrue (list_any p (with_constraints old more))
    → IsTrue (list_any p old || list_any p more)
only p old [] any = grind (arith, any)
only p old (c ∷ cs) any =
    grouped (list_any p old) (p c) (list_any p cs)
    (widened (list_any p (with_constraint old c)) (list_any p old || p c) (list_any p cs) (only_if p (list_any (same_constraint c) old) old c)
    (only p (with_constraint old c) cs any))

-- ---- none comes twice

neither : (a b : Bool) → (a || b) ≡ false → (a ≡ false) × (b ≡ false)
neither false false h = (refl, refl)
neither true b h = absurd cc
neither false true h = absurd cc

joined : (a b c d : Bool) → IsTrue (not a && b) → c ≡ false → IsTrue d → IsTrue (not (a || (c || false)) && d)
joined a b c d h e i = grind (arith, h, e, i)

differ_more : (cs : List Constraint) (c : Constraint) → IsTrue (all_differ cs) → list_any (same_constraint c) cs ≡ false
    → IsTrue (all_differ (cs ++ c ∷ []))
differ_more [] c h new = refl
differ_more (d ∷ ds) c h new =
    let parts = neither (same_constraint c d) (list_any (same_constraint c) ds) new in
    let own = and_parts (not (list_any (same_constraint d) ds)) (all_differ ds) h in
    subst (λ any. IsTrue (not any && all_differ (ds ++ c ∷ []))) (sym (list_any-append (same_constraint d) ds (c ∷ [])))
    (joined (list_any (same_constraint d) ds) (all_differ ds) (same_constraint d c) (all_differ (ds ++ c ∷ [])) h
    (same_back d c ∙ parts.0) (differ_more ds c own.1 parts.1))

differ_if : (b : Bool) (cs : List Constraint) (c : Constraint) → list_any (same_constraint c) cs ≡ b → IsTrue (all_differ cs)
    → IsTrue (all_differ (if b then cs else cs ++ c ∷ []))
differ_if true cs c is h = h
differ_if false cs c is h = differ_more cs c h is

pub once : (old more : List Constraint) → IsTrue (all_differ old) → IsTrue (all_differ (with_constraints old more))
once old [] h = h
once old (c ∷ cs) h = once (with_constraint old c) cs (differ_if (list_any (same_constraint c) old) old c refl h)
