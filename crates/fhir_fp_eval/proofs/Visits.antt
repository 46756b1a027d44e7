-- What paths give, child by child.
use Rattle.std.proofs.Common.{◌≡◌, ℕ, ◌+◌, ◌<◌, ◌≤◌, Bool, true, false, cond, List, [], ◌∷◌, ◌++◌, length, map, get_or, drop, Option, Some, None, Ok, Err, refl, sym, ap, ◌∙◌, append_assoc, length-append, arith}
use Rattle.std.specs.Prelude.{IfSome}
use Rattle.std.specs.Borrow.{Bor}
use Rattle.std.specs.Option.{option_or, option_map}
use Rattle.std.proofs.lemmas.List.{drop_more, drop_all, append-nil}
use Rattle.fhir_json.specs.Tree.{Text}
use Rattle.fhir_instance.specs.Items.{Item, Kids, no_kids, kid, kids_of, kids_in}
use Rattle.fhir_instance.specs.declared.typed.Kid.{Kid}
use Rattle.fhir_instance.specs.View.{named_of, named_in}
use Rattle.fhir_fp_syntax.specs.Expression.{Expression, child, binary}
use Rattle.fhir_fp_syntax.specs.declared.expr.Operator.{Operator}
use Rattle.fhir_fp_values.specs.declared.value.Value.{Value}
use Rattle.fhir_fp_values.specs.Views.{plain_of}
use Rattle.fhir_fp_eval.specs.declared.step.Step.{Step}
use Rattle.fhir_fp_eval.specs.declared.step.Step.TheVariants as steps
use Rattle.fhir_fp_values.specs.Values.{Plain, node, truth, number, text}
use Rattle.fhir_fp_eval.specs.Worlds.{World}
use Rattle.fhir_fp_values.specs.Equality.{Kleene, kleene_and, alike, pairs, is_yes}
use Rattle.fhir_fp_eval.specs.Meaning.{Found, below, den, criteria_hold, verdict, is_true}
use Rattle.fhir_fp_eval.specs.Paths.{takes, taken, step_from, onward, then_step, then_steps, then_operator, first_in, at_most_one, truth_said}

below_append : (f : Item → List Item) (us vs : List Plain) → below f (us ++ vs) ≡ below f us ++ below f vs
below_append f [] vs = refl
below_append f (node x ∷ us) vs = ap (λ (ws : List Plain). map node (f x) ++ ws) (below_append f us vs) ∙ sym (append_assoc (map node (f x)) (below f us) (below f vs))
below_append f (truth b ∷ us) vs = below_append f us vs
below_append f (number v ∷ us) vs = below_append f us vs
below_append f (text s ∷ us) vs = below_append f us vs

onward_append : (ss : List Step) (us vs : List Plain) → onward ss (us ++ vs) ≡ onward ss us ++ onward ss vs
onward_append [] us vs = refl
onward_append (s ∷ ss) us vs = ap (onward ss) (below_append (λ x. taken s (kids_of x)) us vs) ∙ onward_append ss (step_from s us) (step_from s vs)

pub one_step : (s : Step) (ss : List Step) (x : Item) → onward (s ∷ ss) (node x ∷ []) ≡ onward ss (map node (taken s (kids_of x)))
one_step s ss x = ap (onward ss) (append-nil (map node (taken s (kids_of x))))

onward_none : (ss : List Step) → onward ss [] ≡ []
onward_none [] = refl
onward_none (s ∷ ss) = onward_none ss

taken_next : (s : Step) (m : Text) (x : Item) (ks : Kids) → taken s (kid m x ks) ≡ cond (takes s m) (x ∷ taken s ks) (taken s ks)
taken_next (steps.Named n) m x ks = refl
taken_next steps.Children m x ks = refl

taken_none : (s : Step) → taken s no_kids ≡ []
taken_none (steps.Named n) = refl
taken_none steps.Children = refl

-- ---- paths, step by step

pub child_step : (w : World) (x : Plain) (e a : Expression) (s : Bor Text) → e ≡ child a s.now → den w e x ≡ then_step (steps.Named s) (den w a x)
unfolding den
child_step w x e a s is = ap (λ (d : Expression). den w d x) is

pub operated_told : (w : World) (x : Plain) (e a b : Expression) (op : Operator) (r : Option (Option Value)) → e ≡ binary op a b
    → IfSome r (λ v. then_operator w.schema op (den w a x) (den w b x) ≡ Ok (at_most_one (option_map plain_of v)))
    → IfSome r (λ v. den w e x ≡ Ok (at_most_one (option_map plain_of v)))
unfolding den
operated_told w x e a b op None is h = tt
operated_told w x e a b op (Some v) is h = ap (λ (d : Expression). den w d x) is ∙ h

pub step_put : (ss ts : List Step) (s : Step) (r q whole : Found) → ts ≡ s ∷ ss → r ≡ then_step s q → then_steps ss r ≡ whole → then_steps ts q ≡ whole
step_put ss ts s r (Ok vs) whole is down h = ap (λ (us : List Step). then_steps us (Ok vs)) is ∙ (ap (then_steps ss) (sym down) ∙ h)
step_put ss ts s r (Err e) whole is down h = ap (then_steps ss) (sym down) ∙ h

-- ---- how many

abbrev pub counted : List Step → Step → List Kid → ℕ
counted ss s ks = length (onward ss (map node (taken s (kids_in (named_in ks)))))

count_front : (b : Bool) (ss : List Step) (x : Item) (xs : List Item) → length (onward ss (map node (cond b (x ∷ xs) xs)))
    ≡ cond b (length (onward ss (node x ∷ []))) 0 + length (onward ss (map node xs))
count_front true ss x xs = ap length (onward_append ss (node x ∷ []) (map node xs)) ∙ length-append (onward ss (node x ∷ [])) (onward ss (map node xs))
count_front false ss x xs = omega arith

count_next : (ss : List Step) (s : Step) (k : Kid) (ks : List Kid) → counted ss s (k ∷ ks)
    ≡ cond (takes s (named_of k).0) (length (onward ss (node (named_of k).1 ∷ []))) 0 + counted ss s ks
count_next ss s k ks =
    ap (λ (xs : List Item). length (onward ss (map node xs))) (taken_next s (named_of k).0 (named_of k).1 (kids_in (named_in ks)))
    ∙ count_front (takes s (named_of k).0) ss (named_of k).1 (taken s (kids_in (named_in ks)))

pub count_goes : (ss : List Step) (s : Step) (ks : List Kid) (i : ℕ) (k : Kid) (so_far more after whole : ℕ) → i < length ks → k ≡ get_or ks i k
    → more ≡ cond (takes s (named_of k).0) (length (onward ss (node (named_of k).1 ∷ []))) 0 → after ≡ so_far + more
    → so_far + counted ss s (drop i ks) ≡ whole → after + counted ss s (drop (i + 1) ks) ≡ whole
count_goes ss s ks i k so_far more after whole below is one next h =
    let e : counted ss s (drop i ks) ≡ counted ss s (k ∷ drop (i + 1) ks) =
    ap (counted ss s) (drop_more ks i k below ∙ ap (λ (y : Kid). y ∷ drop (i + 1) ks) (sym is)) in
    let f : counted ss s (k ∷ drop (i + 1) ks) ≡ more + counted ss s (drop (i + 1) ks) =
    count_next ss s k (drop (i + 1) ks) ∙ ap (λ (n : ℕ). n + counted ss s (drop (i + 1) ks)) (sym one) in
    omega (arith, e, f, h, next)

pub count_ends : (ss : List Step) (s : Step) (ks : List Kid) (i n whole : ℕ) → length ks ≤ i → n + counted ss s (drop i ks) ≡ whole → n ≡ whole
count_ends ss s ks i n whole over h =
    let e : counted ss s (drop i ks) ≡ 0 =
    ap (counted ss s) (drop_all i ks over) ∙ (ap (λ (xs : List Item). length (onward ss (map node xs))) (taken_none s) ∙ ap length (onward_none ss)) in
    omega (arith, e, h)

-- ---- the first

abbrev pub first_from : List Step → Step → List Kid → Option Plain
first_from ss s ks = first_in (onward ss (map node (taken s (kids_in (named_in ks)))))

first_append : (us vs : List Plain) → first_in (us ++ vs) ≡ option_or (first_in us) (first_in vs)
first_append [] vs = refl
first_append (u ∷ us) vs = refl

first_front : (b : Bool) (ss : List Step) (x : Item) (xs : List Item) → first_in (onward ss (map node (cond b (x ∷ xs) xs)))
    ≡ option_or (cond b (first_in (onward ss (node x ∷ []))) None) (first_in (onward ss (map node xs)))
first_front true ss x xs = ap first_in (onward_append ss (node x ∷ []) (map node xs)) ∙ first_append (onward ss (node x ∷ [])) (onward ss (map node xs))
first_front false ss x xs = refl

first_next : (ss : List Step) (s : Step) (ks : List Kid) (i : ℕ) (k : Kid) (here : Option Plain) → i < length ks → k ≡ get_or ks i k
    → here ≡ cond (takes s (named_of k).0) (first_in (onward ss (node (named_of k).1 ∷ []))) None
    → first_from ss s (drop i ks) ≡ option_or here (first_from ss s (drop (i + 1) ks))
first_next ss s ks i k here below is one =
    ap (first_from ss s) (drop_more ks i k below ∙ ap (λ (y : Kid). y ∷ drop (i + 1) ks) (sym is))
    ∙ (ap (λ (xs : List Item). first_in (onward ss (map node xs))) (taken_next s (named_of k).0 (named_of k).1 (kids_in (named_in (drop (i + 1) ks))))
    ∙ (first_front (takes s (named_of k).0) ss (named_of k).1 (taken s (kids_in (named_in (drop (i + 1) ks))))
    ∙ ap (λ (o : Option Plain). option_or o (first_from ss s (drop (i + 1) ks))) (sym one)))

pub first_goes : (ss : List Step) (s : Step) (ks : List Kid) (i : ℕ) (k : Kid) (here whole : Option Plain) → i < length ks → k ≡ get_or ks i k
    → here ≡ cond (takes s (named_of k).0) (first_in (onward ss (node (named_of k).1 ∷ []))) None → here ≡ None
    → first_from ss s (drop i ks) ≡ whole → first_from ss s (drop (i + 1) ks) ≡ whole
first_goes ss s ks i k here whole below is one none h =
    ap (λ (o : Option Plain). option_or o (first_from ss s (drop (i + 1) ks))) (sym none) ∙ (sym (first_next ss s ks i k here below is one) ∙ h)

pub first_found : (ss : List Step) (s : Step) (ks : List Kid) (i : ℕ) (k : Kid) (here whole : Option Plain) (x : Plain) → i < length ks → k ≡ get_or ks i k
    → here ≡ cond (takes s (named_of k).0) (first_in (onward ss (node (named_of k).1 ∷ []))) None → here ≡ Some x
    → first_from ss s (drop i ks) ≡ whole → Some x ≡ whole
first_found ss s ks i k here whole x below is one found h =
    ap (λ (o : Option Plain). option_or o (first_from ss s (drop (i + 1) ks))) (sym found) ∙ (sym (first_next ss s ks i k here below is one) ∙ h)

pub first_ends : (ss : List Step) (s : Step) (ks : List Kid) (i : ℕ) (whole : Option Plain) → length ks ≤ i → first_from ss s (drop i ks) ≡ whole → None ≡ whole
first_ends ss s ks i whole over h =
    sym (ap (first_from ss s) (drop_all i ks over) ∙ (ap (λ (xs : List Item). first_in (onward ss (map node xs))) (taken_none s) ∙ ap first_in (onward_none ss))) ∙ h

-- ---- at most one

pub few_in : (vs : List Plain) → length vs ≤ 1 → vs ≡ at_most_one (first_in vs)
few_in [] h = refl
few_in (v ∷ []) h = refl
few_in (v ∷ w ∷ vs) h = absurd (omega arith)

and_true : (p : Kleene) → kleene_and p (Some true) ≡ p
and_true None = refl
and_true (Some true) = refl
and_true (Some false) = refl

pub one_pair : (v w : Plain) → pairs (v ∷ []) (w ∷ []) ≡ alike v w
unfolding pairs
one_pair v w = and_true (alike v w)

truth_told : (v : Option Plain) → verdict (criteria_hold (λ _. Ok (at_most_one v)) (truth true)) ≡ is_yes (truth_said v)
truth_told None = refl
truth_told (Some v) = refl

pub told_true : (w : World) (e : Expression) (x : Item) (v : Option Plain) → den w e (node x) ≡ Ok (at_most_one v) → is_true w e x ≡ is_yes (truth_said v)
unfolding is_true
told_true w e x v h = ap (λ (r : Found). verdict (criteria_hold (λ _. r) (node x))) h ∙ truth_told v
