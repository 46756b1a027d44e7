-- Places with codes, one more at a time.
use Rattle.std.proofs.Common.{◌≡◌, ℕ, zero, suc, List, [], Bool, true, false, cond, ◌||◌, Option, None, Some, is_some, IsTrue, nat_eq, inl, inr, refl, sym, ap, subst, ◌∙◌}
use Rattle.std.proofs.lemmas.Bool.{or_cases, or_left, or_right, eqb-true, eq-eqb, false≢true}
use Rattle.std.proofs.lemmas.Slice.Eq.{bytes_eq-Decides}
use Rattle.std.specs.Borrow.{Bor}
use Rattle.std.specs.BTreeMap.{BTreeMap, is_at}
use Rattle.std.specs.Map.{lookup}
use Rattle.std.specs.Option.{option_map}
use Rattle.std.specs.Ordering.{nat_cmp}
use Rattle.std.specs.Str.{bytes_eq}
use Rattle.fhir_json.specs.Tree.{Text}
use Rattle.fhir_definition.specs.Definition.{Definition}
use Rattle.fhir_nodes.specs.Types.{type_place, names_resource}
use Rattle.fhir_schema.specs.Settling.{base_of_place}
use Rattle.fhir_schema.specs.Covers.{meets_within}
use Rattle.fhir_targets.specs.Chains.{code_at, with_code, IsReaching, AreReaching}
use Rattle.fhir_targets.proofs.Climbing.{apart}

-- a place has this code, and the others what they had
abbrev pub Puts : (ℕ → Option Text) → (ℕ → Option Text) → ℕ → Text → Type 0
Puts old new place code = (p : ℕ) → new p ≡ cond (nat_eq place p) (Some code) (old p)

kept_some : (b : Bool) (code : Text) (o : Option Text) → IsTrue (is_some o) → IsTrue (is_some (cond b (Some code) o))
kept_some true code o h = refl
kept_some false code o h = h

some_same : (a b : Text) → Some a ≡ Some b → a ≡ b
some_same a b e = cc

place_same : (a b : ℕ) → Some a ≡ Some b → a ≡ b
place_same a b e = cc

pub no_place : (place : ℕ) → None ≡ Some place → ⊥
no_place place e = cc

module _ (ds : List Definition) where
  -- ---- the place of one more type

  one_more : (codes : Text → Bool) (more code : Text) (place : ℕ) → IsReaching ds codes place code → IsReaching ds (with_code more codes) place code
  one_more codes more code place r = record {
    named = or_left (codes code) (bytes_eq code more) r.named;
    resource = r.resource;
    goal = r.goal;
    at = r.at;
    steps = r.steps;
    meets = r.meets;
  }

  -- a type's own place reaches it
  at_itself : (codes : Text → Bool) (code : Text) (place p : ℕ) → IsTrue (names_resource ds code) → type_place ds code ≡ Some place
      → nat_eq place p ≡ true → IsReaching ds (with_code code codes) p code
  at_itself codes code place p resource is same = record {
    named = or_right (codes code) (bytes_eq code code) ((bytes_eq-Decides code code).1 refl);
    resource = resource;
    goal = place;
    at = is;
    steps = 1;
    meets = or_left (nat_eq place p) (meets_within ds place 0 (base_of_place ds p)) same;
  }

  pub type_put : (codes : Text → Bool) (old new : ℕ → Option Text) (code : Text) (place : ℕ) → IsTrue (names_resource ds code)
      → type_place ds code ≡ Some place → Puts old new place code → AreReaching ds codes old → AreReaching ds (with_code code codes) new
  type_put codes old new code place resource is puts h = record { each = each; all = all }
    where
      each : (p : ℕ) (c : Text) → new p ≡ Some c → IsReaching ds (with_code code codes) p c
      each p c at = go (nat_eq place p) refl (sym (puts p) ∙ at)
        where
          go : (b : Bool) → nat_eq place p ≡ b → cond b (Some code) (old p) ≡ Some c → IsReaching ds (with_code code codes) p c
          go true same e =
              subst (λ (d : Text). IsReaching ds (with_code code codes) p d) (some_same code c e) (at_itself codes code place p resource is same)
          go false same e = one_more codes code c p (h.each p c e)

      all : (c : Text) (goal : ℕ) → IsTrue (with_code code codes c) → IsTrue (names_resource ds c) → type_place ds c ≡ Some goal
          → IsTrue (is_some (new goal))
      all c goal named res at =
          elim (or_cases (codes c) (bytes_eq c code) named) [
            | inl before ↦ ap is_some (puts goal) ∙ kept_some (nat_eq place goal) code (old goal) (h.all c goal before res at)
            | inr same ↦
                let one : c ≡ code = (bytes_eq-Decides c code).0 same in
                let there : place ≡ goal = place_same place goal (sym is ∙ ap (type_place ds) (sym one) ∙ at) in
                ap is_some (puts goal) ∙ ap (λ (b : Bool). is_some (cond b (Some code) (old goal))) (eq-eqb place goal there)
          ]

  -- a type without a place, or whose type is of no resources, needs none
  pub type_passed : (codes : Text → Bool) (at : ℕ → Option Text) (code : Text)
      → ((place : ℕ) → IsTrue (names_resource ds code) → type_place ds code ≡ Some place → ⊥)
      → AreReaching ds codes at → AreReaching ds (with_code code codes) at
  type_passed codes at code none h = record {
    each = λ p c is. one_more codes code c p (h.each p c is);
    all = λ c goal named res is.
        elim (or_cases (codes c) (bytes_eq c code) named) [
          | inl before ↦ h.all c goal before res is
          | inr same ↦
              let one : c ≡ code = (bytes_eq-Decides c code).0 same in
              absurd (none goal (sym (ap (names_resource ds) one) ∙ res) (sym (ap (type_place ds) one) ∙ is))
        ];
  }

  -- the same codes
  pub same_codes : (codes others : Text → Bool) (at : ℕ → Option Text) → ((c : Text) → codes c ≡ others c) → AreReaching ds codes at
      → AreReaching ds others at
  same_codes codes others at same h = record {
    each = λ p c is.
        let r = h.each p c is in
        record { named = sym (same c) ∙ r.named; resource = r.resource; goal = r.goal; at = r.at; steps = r.steps; meets = r.meets };
    all = λ c goal named res is. h.all c goal (same c ∙ named) res is;
  }

  -- ---- the places of a chain

  module _ (codes : Text → Bool) where
    pub chain_put : (old new : ℕ → Option Text) (code : Text) (place : ℕ) → Puts old new place code → IsReaching ds codes place code
        → AreReaching ds codes old → AreReaching ds codes new
    chain_put old new code place puts r h = record { each = each; all = all }
      where
        each : (p : ℕ) (c : Text) → new p ≡ Some c → IsReaching ds codes p c
        each p c at = go (nat_eq place p) refl (sym (puts p) ∙ at)
          where
            go : (b : Bool) → nat_eq place p ≡ b → cond b (Some code) (old p) ≡ Some c → IsReaching ds codes p c
            go true same e =
                subst (λ (q : ℕ). IsReaching ds codes q c) (eqb-true place p same)
                (subst (λ (d : Text). IsReaching ds codes place d) (some_same code c e) r)
            go false same e = h.each p c e

        all : (c : Text) (goal : ℕ) → IsTrue (codes c) → IsTrue (names_resource ds c) → type_place ds c ≡ Some goal → IsTrue (is_some (new goal))
        all c goal named res at =
            ap is_some (puts goal) ∙ kept_some (nat_eq place goal) code (old goal) (h.all c goal named res at)

    meets_onwards : (steps goal place : ℕ) → nat_eq goal place ≡ false → IsTrue (meets_within ds goal steps (Some place))
        → (k : ℕ) × IsTrue (meets_within ds goal k (base_of_place ds place))
    meets_onwards zero goal place other meets = absurd (false≢true meets)
    meets_onwards (suc k) goal place other meets =
        (k, sym (ap (λ (b : Bool). b || meets_within ds goal k (base_of_place ds place)) other) ∙ meets)

    -- what a place without a code reaches, its base does
    pub chain_goes_on : (at : ℕ → Option Text) (code : Text) (place base : ℕ) → at place ≡ None → base_of_place ds place ≡ Some base
        → AreReaching ds codes at → IsReaching ds codes place code → IsReaching ds codes base code
    chain_goes_on at code place base none on h r =
        let k = meets_onwards r.steps r.goal place (apart at r.goal place (h.all code r.goal r.named r.resource r.at) none) r.meets in
        record { named = r.named; resource = r.resource; goal = r.goal; at = r.at; steps = k.0; meets = sym (ap (meets_within ds r.goal k.0) on) ∙ k.1 }

-- where no place has a code, none is asked for
pub none_reach : (ds : List Definition) (places : BTreeMap ℕ (Bor Text)) → places.entries ≡ [] → AreReaching ds (λ c. false) (code_at places)
none_reach ds places none = record {
  each = λ p c at.
      let fault : None ≡ Some c = sym (ap (λ (es : List (ℕ × Bor Text)). option_map (λ (code : Bor Text). code.now) (lookup (is_at (nat_cmp p)) es)) none) ∙ at in cc;
  all = λ c goal named resource at. absurd (false≢true named);
}
