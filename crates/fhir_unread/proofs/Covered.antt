-- Each sentence of a constraint without an expression is said under its key.
use Rattle.std.proofs.Common.{◌≡◌, ℕ, zero, suc, ◌<◌, Bool, true, false, cond, ◌&&◌, ◌||◌, List, [], ◌∷◌, filter, length, get_or, Option, Some, None, refl, ap, ap₂, ◌∙◌, arith}
use Rattle.std.specs.Prelude.{codes}
use Rattle.std.specs.List.{list_any, flat_map, Contains}
use Rattle.std.specs.Str.{bytes_eq}
use Rattle.std.proofs.lemmas.Bool.{or_left, or_right}
use Rattle.std.proofs.lemmas.List.Folds.{list_any-append}
use Rattle.std.proofs.lemmas.Slice.Eq.{bytes_eq-Decides}
use Rattle.fhir_json.specs.Tree.{Text, Tree}
use Rattle.fhir_json.specs.Fields.{text_in, text_at, items_in}
use Rattle.fhir_package.specs.Definitions.{Definitions}
use Rattle.fhir_findings.specs.Sentences.{elements_in}
use Rattle.fhir_unread.specs.Sayings.{Saying, said_by, saying_of, sayings_in, sayings_of, all_sayings, said_under}
use Rattle.fhir_unread.proofs.Once.{any_first}

module _ {X Y : Type 0} (f : X → List Y) (q : Y → Bool) where
  any_at : (xs : List X) (k : ℕ) (x : X) → k < length xs → get_or xs k x ≡ x → list_any q (f x) ≡ true → list_any q (flat_map f xs) ≡ true
  any_at [] k x lt e is = absurd (omega (arith, lt))
  any_at (y ∷ ys) zero x lt e is =
      list_any-append q (f y) (flat_map f ys) ∙ or_left (list_any q (f y)) (list_any q (flat_map f ys)) (ap (λ (z : X). list_any q (f z)) e ∙ is)
  any_at (y ∷ ys) (suc k) x lt e is =
      list_any-append q (f y) (flat_map f ys) ∙ or_right (list_any q (f y)) (list_any q (flat_map f ys)) (any_at ys k x (omega (arith, lt)) e is)

  pub any_within : (xs : List X) (x : X) → Contains xs x → list_any q (f x) ≡ true → list_any q (flat_map f xs) ≡ true
  any_within xs x h is = any_at xs h.0 x h.1 h.2 is

-- those of some items that pass
pub any_passing : {X : Type 0} (r q : X → Bool) (xs : List X) → list_any q (filter r xs) ≡ list_any (λ x. r x && q x) xs
any_passing r q [] = refl
any_passing {X} r q (x ∷ xs) = by (r x) (any_passing r q xs)
  where
    by : (b : Bool) → list_any q (filter r xs) ≡ list_any (λ (y : X). r y && q y) xs
        → list_any q (cond b (x ∷ filter r xs) (filter r xs)) ≡ ((b && q x) || list_any (λ (y : X). r y && q y) xs)
    by true rest = ap (λ (b : Bool). q x || b) rest
    by false rest = rest

-- it has this key and says this
abbrev pub says : (key human : Text) → Saying → Bool
says key human y = bytes_eq key y.key && bytes_eq human y.human

same_text : (t : Text) → bytes_eq t t ≡ true
same_text t = (bytes_eq-Decides t t).1 refl

pub both_true : (a b : Bool) → a ≡ true → b ≡ true → ((a && b) || false) ≡ true
both_true true true p q = refl
both_true true false p q = q
both_true false b p q = p

said : (url id key human : Text) → list_any (says key human) (said_by url id key None (Some human)) ≡ true
said url id key human = both_true (bytes_eq key key) (bytes_eq human human) (same_text key) (same_text human)

module _ (p : Definitions) (url : Text) (t element c : Tree) (human : Text) where
  abbrev says_it : Saying → Bool
  says_it y = says (text_at (codes "key") c) human y

  said_in : Contains (items_in (codes "constraint") element) c → text_in (codes "expression") c ≡ None → text_in (codes "human") c ≡ Some human
      → list_any says_it (sayings_in url element) ≡ true
  said_in at none some =
      any_within (saying_of url (text_at (codes "id") element)) says_it (items_in (codes "constraint") element) c at
      (ap₂ (λ (w h : Option Text). list_any says_it (said_by url (text_at (codes "id") element) (text_at (codes "key") c) w h)) none some
      ∙ said url (text_at (codes "id") element) (text_at (codes "key") c) human)

  under_key : Contains p.structure_definitions (url, t) → list_any says_it (sayings_of (url, t)) ≡ true
      → list_any (λ y. bytes_eq human y.human) (said_under (text_at (codes "key") c) (all_sayings p)) ≡ true
  under_key there is =
      any_first (λ (y : Saying). y.human) (λ y. bytes_eq human y.human) (λ x y e. ap (bytes_eq human) e)
      (filter (λ y. bytes_eq (text_at (codes "key") c) y.key) (all_sayings p))
      ∙ any_passing (λ (y : Saying). bytes_eq (text_at (codes "key") c) y.key) (λ y. bytes_eq human y.human) (all_sayings p)
      ∙ any_within sayings_of says_it p.structure_definitions (url, t) there is

  pub said_of_snapshot : Contains p.structure_definitions (url, t) → Contains (elements_in (codes "snapshot") t) element
      → Contains (items_in (codes "constraint") element) c → text_in (codes "expression") c ≡ None → text_in (codes "human") c ≡ Some human
      → list_any (λ y. bytes_eq human y.human) (said_under (text_at (codes "key") c) (all_sayings p)) ≡ true
  said_of_snapshot there of at none some =
      let front = flat_map (sayings_in url) (elements_in (codes "snapshot") t) in
      let back = flat_map (sayings_in url) (elements_in (codes "differential") t) in
      under_key there
      (list_any-append says_it front back
      ∙ or_left (list_any says_it front) (list_any says_it back)
      (any_within (sayings_in url) says_it (elements_in (codes "snapshot") t) element of (said_in at none some)))

  pub said_of_differential : Contains p.structure_definitions (url, t) → Contains (elements_in (codes "differential") t) element
      → Contains (items_in (codes "constraint") element) c → text_in (codes "expression") c ≡ None → text_in (codes "human") c ≡ Some human
      → list_any (λ y. bytes_eq human y.human) (said_under (text_at (codes "key") c) (all_sayings p)) ≡ true
  said_of_differential there of at none some =
      let front = flat_map (sayings_in url) (elements_in (codes "snapshot") t) in
      let back = flat_map (sayings_in url) (elements_in (codes "differential") t) in
      under_key there
      (list_any-append says_it front back
      ∙ or_right (list_any says_it front) (list_any says_it back)
      (any_within (sayings_in url) says_it (elements_in (codes "differential") t) element of (said_in at none some)))
