-- Laws of what a package is to be completed with.
use Rattle.std.proofs.Common.{◌≡◌, ℕ, zero, suc, ◌+◌, ◌≤◌, List, [], ◌∷◌, ◌++◌, length, take, drop, slice_get, slice_set, Bool, true, false, Option, Some, None, refl, ap, sym, ◌∙◌, subst, arith}
use Rattle.std.specs.Option.{option_map_or}
use Rattle.std.proofs.lemmas.List.{append_assoc, append-nil}
use Rattle.std.proofs.lemmas.Option.{none-some, same_Some}
use Rattle.fhir_json.specs.Tree.{Text, Tree}
use Rattle.fhir_elements.specs.Element.{Element}
use Rattle.fhir_overlay.specs.Completed.{with_snapshot}
use Rattle.fhir_inheritance.specs.Sources.{brings_snapshot}
use Rattle.fhir_package.specs.declared.kind.Kind.TheVariants.{StructureDefinition}
use Rattle.fhir_package.specs.Definitions.{ByUrl, Definitions, with_kind}
use Rattle.fhir_package.specs.Changing.{with_tree_at, with_tree}
use Rattle.fhir_snapshot.specs.declared.fault.SnapNumber.{SnapNumber}
use Rattle.fhir_snapshot.specs.Snapshots.{IsSnapshot}
use Rattle.fhir_snapshot.specs.Refusing.{Applies}
use Rattle.fhir_snapshot.specs.Completing.{Gets, Becomes, Numbered, listed, AreCompleted}
use Rattle.fhir_snapshot.specs.Planning.{PlanValue, no_plan, IsPut, PlansOne, put_trees, Plans, PlansAll}

-- ---- lists

module _ {A : Type 0} where
  took-none : (xs : List A) (k : ℕ) → slice_get xs k ≡ None → (take (suc k) xs ≡ take k xs) × (drop (suc k) xs ≡ drop k xs)
  took-none [] zero e = (refl, refl)
  took-none [] (suc k) e = (refl, refl)
  took-none (x ∷ xs) zero e = absurd (none-some x (sym e))
  took-none (x ∷ xs) (suc k) e = let rest = took-none xs k e in (ap (λ (l : List A). x ∷ l) rest.0, rest.1)

  took-some : (xs : List A) (k : ℕ) (x : A) → slice_get xs k ≡ Some x
      → (take (suc k) xs ≡ take k xs ++ x ∷ []) × (drop k xs ≡ x ∷ drop (suc k) xs) × (length (take k xs) ≡ k)
  took-some [] zero x e = absurd (none-some x e)
  took-some [] (suc k) x e = absurd (none-some x e)
  took-some (y ∷ xs) zero x e =
      let same = same_Some y x e in (ap (λ (z : A). z ∷ []) same, ap (λ (z : A). z ∷ xs) same, refl)
  took-some (y ∷ xs) (suc k) x e =
      let rest = took-some xs k x e in (ap (λ (l : List A). y ∷ l) rest.0, rest.1, ap suc rest.2)

  all-taken : (xs : List A) → (take (length xs) xs ≡ xs) × (drop (length xs) xs ≡ [])
  all-taken [] = (refl, refl)
  all-taken (x ∷ xs) = let rest = all-taken xs in (ap (λ (l : List A). x ∷ l) rest.0, rest.1)

-- ---- trees in their places

set_next : (new : Tree) (n : ℕ) (f : Text × Tree) (es : ByUrl) → with_tree_at (suc n) new (f ∷ es) ≡ f ∷ with_tree_at n new es
set_next new n f es = by (slice_get es n)
  where
    by : (there : Option (Text × Tree)) → option_map_or (λ d. f ∷ slice_set es n (d.0, new)) there (f ∷ es) ≡ f ∷ option_map_or (λ d. slice_set es n (d.0, new)) there es
    by None = refl
    by (Some d) = refl

set_behind : (before : ByUrl) (url : Text) (t new : Tree) (rest : ByUrl) → with_tree_at (length before) new (before ++ (url, t) ∷ rest) ≡ before ++ (url, new) ∷ rest
set_behind [] url t new rest = refl
set_behind (f ∷ before) url t new rest =
    set_next new (length before) f (before ++ (url, t) ∷ rest) ∙ ap (λ (l : ByUrl). f ∷ l) (set_behind before url t new rest)

put-snoc : (trees : List (ℕ × Tree)) (place : ℕ) (new : Tree) (p : Definitions) → put_trees (trees ++ (place, new) ∷ []) p ≡ with_tree StructureDefinition place new (put_trees trees p)
put-snoc [] place new p = refl
put-snoc (t ∷ trees) place new p = put-snoc trees place new (with_tree StructureDefinition t.0 t.1 p)

-- ---- one more that is completed

completed-length : (p : Definitions) (es news : ByUrl) (urls : Numbered) → AreCompleted p es news urls → length news ≡ length es
completed-length p [] news urls c = ap length c.0
completed-length p (e ∷ es) news urls c = ap length c.4 ∙ ap suc (completed-length p es c.1 c.3 c.7)

completed-snoc : (p : Definitions) (es news : ByUrl) (urls : Numbered) (url : Text) (t new : Tree) (number : Option SnapNumber) → AreCompleted p es news urls
    → Becomes p url t new number → AreCompleted p (es ++ (url, t) ∷ []) (news ++ (url, new) ∷ []) (urls ++ listed number url)
completed-snoc p [] news urls url t new number c becomes =
    (new, [], number, [], ap (λ (l : ByUrl). l ++ (url, new) ∷ []) c.0, ap (λ (l : Numbered). l ++ listed number url) c.1 ∙ sym (append-nil (listed number url)), becomes, (refl, refl))
completed-snoc p (e ∷ es) news urls url t new number c becomes = (
  c.0,
  c.1 ++ (url, new) ∷ [],
  c.2,
  c.3 ++ listed number url,
  ap (λ (l : ByUrl). l ++ (url, new) ∷ []) c.4,
  ap (λ (l : Numbered). l ++ listed number url) c.5 ∙ append_assoc (listed c.2 e.0) c.3 (listed number url),
  c.6,
  completed-snoc p es c.1 c.3 url t new number c.7 becomes,
)

-- ---- plans

-- a definition gets its snapshot
pub made_planned : (p : Definitions) (place : ℕ) (url : Text) (t : Tree) (es : List Element) (old : PlanValue) (new : Tree) (plan : PlanValue) → brings_snapshot t ≡ false
    → IsSnapshot p url es → new ≡ with_snapshot es t → plan.trees ≡ old.trees ++ (place, new) ∷ [] → plan.faults ≡ old.faults → PlansOne p place url t old plan
made_planned p place url t es old new plan lacks snapshot is trees faults = record {
  new = new;
  is_put = true;
  number = None;
  becomes = subst (λ b. Gets p url t b new) (sym lacks) (es, snapshot, is);
  trees = trees;
  faults = faults ∙ sym (append-nil old.faults);
}

-- or it has none, and is listed
pub faulty_planned : (p : Definitions) (place : ℕ) (url : Text) (t : Tree) (number : SnapNumber) (old plan : PlanValue) → brings_snapshot t ≡ false
    → Applies p url number → plan.trees ≡ old.trees → plan.faults ≡ old.faults ++ (url, number) ∷ [] → PlansOne p place url t old plan
faulty_planned p place url t number old plan lacks applies trees faults = record {
  new = t;
  is_put = false;
  number = Some number;
  becomes = (lacks, applies, refl);
  trees = (trees, refl);
  faults = faults;
}

-- or it brings one, and nothing is planned
pub brought_planned : (p : Definitions) (place : ℕ) (url : Text) (t : Tree) (plan : PlanValue) → brings_snapshot t ≡ true → PlansOne p place url t plan plan
brought_planned p place url t plan brings = record {
  new = t;
  is_put = false;
  number = None;
  becomes = subst (λ b. Gets p url t b t) (sym brings) refl;
  trees = (refl, refl);
  faults = sym (append-nil plan.faults);
}

pub nothing_planned : (p : Definitions) → Plans p 0 no_plan
nothing_planned p = record { news = []; completed = (refl, refl); trees = refl }

put_in : (p : Definitions) (place : ℕ) (t new : Tree) (old trees : List (ℕ × Tree)) (is_put : Bool) (url : Text) (news rest : ByUrl) → IsPut place t new old trees is_put
    → length news ≡ place → put_trees old p ≡ with_kind StructureDefinition (news ++ (url, t) ∷ rest) p
    → put_trees trees p ≡ with_kind StructureDefinition ((news ++ (url, new) ∷ []) ++ rest) p
put_in p place t new old trees true url news rest is len was =
    ap (λ (l : List (ℕ × Tree)). put_trees l p) is ∙ put-snoc old place new p ∙ ap (with_tree StructureDefinition place new) was
    ∙ ap (λ (n : ℕ). with_kind StructureDefinition (with_tree_at n new (news ++ (url, t) ∷ rest)) p) (sym len)
    ∙ ap (λ (l : ByUrl). with_kind StructureDefinition l p) (set_behind news url t new rest ∙ sym (append_assoc news ((url, new) ∷ []) rest))
put_in p place t new old trees false url news rest is len was =
    ap (λ (l : List (ℕ × Tree)). put_trees l p) is.0 ∙ was
    ∙ ap (λ (x : Tree). with_kind StructureDefinition (news ++ (url, x) ∷ rest) p) (sym is.1)
    ∙ ap (λ (l : ByUrl). with_kind StructureDefinition l p) (sym (append_assoc news ((url, new) ∷ []) rest))

pub one_planned : (p : Definitions) (place : ℕ) (url : Text) (t : Tree) (old plan : PlanValue) → slice_get p.structure_definitions place ≡ Some (url, t)
    → Plans p place old → PlansOne p place url t old plan → Plans p (place + 1) plan
one_planned p place url t old plan there plans one =
    let took = took-some p.structure_definitions place (url, t) there in
    let next : place + 1 ≡ suc place = omega arith in
    let len : length plans.news ≡ place = completed-length p (take place p.structure_definitions) plans.news old.faults plans.completed ∙ took.2 in
    let was : put_trees old.trees p ≡ with_kind StructureDefinition (plans.news ++ (url, t) ∷ drop (suc place) p.structure_definitions) p =
    plans.trees ∙ ap (λ (l : ByUrl). with_kind StructureDefinition (plans.news ++ l) p) took.1 in
    let completed : AreCompleted p (take place p.structure_definitions ++ (url, t) ∷ []) (plans.news ++ (url, one.new) ∷ []) (old.faults ++ listed one.number url) =
    completed-snoc p (take place p.structure_definitions) plans.news old.faults url t one.new one.number plans.completed one.becomes in
    subst (λ n. Plans p n plan) (sym next)
    (record {
      news = plans.news ++ (url, one.new) ∷ [];
      completed = subst (λ es. AreCompleted p es (plans.news ++ (url, one.new) ∷ []) plan.faults) (sym took.0)
          (subst (AreCompleted p (take place p.structure_definitions ++ (url, t) ∷ []) (plans.news ++ (url, one.new) ∷ [])) (sym one.faults) completed);
      trees = put_in p place t one.new old.trees plan.trees one.is_put url plans.news (drop (suc place) p.structure_definitions) one.trees len was;
    })

pub none_planned : (p : Definitions) (place : ℕ) (plan : PlanValue) → slice_get p.structure_definitions place ≡ None → Plans p place plan → Plans p (place + 1) plan
none_planned p place plan none plans =
    let took = took-none p.structure_definitions place none in
    let next : place + 1 ≡ suc place = omega arith in
    subst (λ n. Plans p n plan) (sym next)
    (record {
      news = plans.news;
      completed = subst (λ es. AreCompleted p es plans.news plan.faults) (sym took.0) plans.completed;
      trees = plans.trees ∙ ap (λ (l : ByUrl). with_kind StructureDefinition (plans.news ++ l) p) (sym took.1);
    })

pub all_planned : (p : Definitions) (plan : PlanValue) → Plans p (length p.structure_definitions) plan → PlansAll p plan
all_planned p plan plans =
    let all = all-taken p.structure_definitions in
    record {
      news = plans.news;
      completed = subst (λ es. AreCompleted p es plans.news plan.faults) all.0 plans.completed;
      trees = plans.trees ∙ ap (λ (l : ByUrl). with_kind StructureDefinition (plans.news ++ l) p) all.1
          ∙ ap (λ (l : ByUrl). with_kind StructureDefinition l p) (append-nil plans.news);
    }
