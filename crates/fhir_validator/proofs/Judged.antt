-- Judgements on what a pair asks, and on the pair.
use Rattle.std.proofs.Common.{◌≡◌, ◌<◌, ◌≤◌, ◌+◌, ℕ, zero, suc, Bool, true, false, List, [], ◌∷◌, map, length, take, get_or, sym, ap, ◌∙◌, ◌&&◌, ◌||◌, refl, subst, arith, eqb, ne_eqb, Option, Some, None}
use Rattle.std.specs.Prelude.{Result, Ok, Err, IfOk}
use Rattle.std.specs.Option.{option_map_or}
use Rattle.std.specs.List.{list_all, list_any, AllByRecursion}
use Rattle.std.proofs.lemmas.List.{take_all}
use Rattle.std.proofs.lemmas.List.Folds.{list_all_more, list_any_more, list_any_at, list_all-map}
use Rattle.std.proofs.lemmas.Bool.{false≢true}
use Rattle.fhir_json.specs.Bytes.{is_empty}
use Rattle.fhir_nodes.specs.declared.node.NodeRef.{NodeRef}
use Rattle.fhir_schema.specs.Schemas.{SchemaValue}
use Rattle.fhir_instance.specs.Items.{Item, Place, kids_of}
use Rattle.fhir_conformance.specs.Asks.{asks, child}
use Rattle.fhir_conformance.specs.Conformance.{Interpretation, Around, nearest_to, as_read, inside, below, around_of, conforms, kid_tests, ask_conforms}
use Rattle.fhir_conformance.specs.Positions.{kid_at}
use Rattle.fhir_conformance.specs.Views.{ask_seen, asks_seen}
use Rattle.fhir_conformance.specs.declared.ask.Ask.{Ask}
use Rattle.fhir_conformance.proofs.ByAsks.{IsOfType, IsOfCanonical, conforms_to, test_at}
use Rattle.fhir_validator.specs.declared.judgement.Judgement.{Judgement}
use Rattle.fhir_validator.specs.declared.pair.ItemPair.{ItemPair}
use Rattle.fhir_validator.specs.Layouts.{LayoutValue, spot_at, item_at, resource_of}
use Rattle.fhir_validator.specs.Judging.{IsThere, IsRight, IsRightOf, IsOrdered}
use Rattle.fhir_validator.proofs.Asking.{are_ordered}
use Rattle.fhir_validator.proofs.Rows.{own_nearest}

pub weaker : {A E : Type 0} (P Q : A → Type 0) → ((a : A) → P a → Q a) → (r : Result A E) → IfOk r P → IfOk r Q
weaker P Q f (Ok a) h = f a h
weaker P Q f (Err e) h = h

all_at : {A B : Type 0} (P : B → Type 0) (f : A → B) (xs : List A) (i : ℕ) (d : A) → i < length xs → AllByRecursion P (map f xs) → P (f (get_or xs i d))
all_at P f [] i d h each = absurd (omega arith)
all_at P f (x ∷ xs) zero d h each = each.0
all_at P f (x ∷ xs) (suc i) d h each = all_at P f xs i d (omega arith) each.1

pub ordered_at : (s : SchemaValue) (roots : IsOfType s) (others : IsOfCanonical s) (x : Item) (n : NodeRef) (xs : List Ask) (i : ℕ) (d : Ask) → asks_seen xs ≡ asks s x n → i < length xs
    → IsOrdered s n (ask_seen (get_or xs i d))
ordered_at s roots others x n xs i d e h =
    all_at (IsOrdered s n) ask_seen xs i d h (subst (AllByRecursion (IsOrdered s n)) (sym e) (are_ordered s roots others x n))

-- one ask more is answered
pub one_more : (p : Ask → Bool) (xs : List Ask) (i : ℕ) (d : Ask) (judgement both one : Bool) → i < length xs
    → both ≡ (judgement && one) → judgement ≡ list_all p (take i xs) → one ≡ p (get_or xs i d) → both ≡ list_all p (take (i + 1) xs)
one_more p xs i d judgement both one h is so_far here = is ∙ (λ j. so_far j && here j) ∙ sym (list_all_more p xs i d h)

-- one of several more, where one has to hold
pub one_more_any : {A : Type 0} (p : A → Bool) (xs : List A) (i : ℕ) (d : A) (judgement both one : Bool) → i < length xs
    → both ≡ (judgement || one) → judgement ≡ list_any p (take i xs) → one ≡ p (get_or xs i d) → both ≡ list_any p (take (i + 1) xs)
one_more_any p xs i d judgement both one h is so_far here = is ∙ (λ j. so_far j || here j) ∙ sym (list_any_more p xs i d h)

pub all_any : {A : Type 0} (p : A → Bool) (xs : List A) (i : ℕ) (b : Bool) → length xs ≤ i → b ≡ list_any p (take i xs) → b ≡ list_any p xs
all_any p xs i b h is = is ∙ ap (list_any p) (take_all i xs h)

or_true : (c t : Bool) → t ≡ true → true ≡ (c || t)
or_true true t e = refl
or_true false t e = sym e

or_false : (c t u : Bool) → c ≡ false → t ≡ u → t ≡ (c || u)
or_false true t u e same = absurd (false≢true (sym e))
or_false false t u e same = same

-- one holds
pub some_holds : {A : Type 0} (p : A → Bool) (xs : List A) (i : ℕ) (x : A) (c : Bool) → i < length xs → x ≡ get_or xs i x → true ≡ p x
    → true ≡ (c || list_any p xs)
some_holds p xs i x c h is here = or_true c (list_any p xs) (list_any_at p xs i x h (ap p (sym is) ∙ sym here))

-- none is left, where there are some
pub none_left : {A : Type 0} (p : A → Bool) (xs : List A) (i : ℕ) (c b : Bool) → c ≡ false → length xs ≤ i → b ≡ list_any p (take i xs)
    → b ≡ (c || list_any p xs)
none_left p xs i c b e h is = or_false c b (list_any p xs) e (all_any p xs i b h is)

pub empty_mapped : {A B : Type 0} (f : A → B) (xs : List A) → eqb (length xs) 0 ≡ is_empty (map f xs)
empty_mapped f [] = refl
empty_mapped f (x ∷ xs) = ne_eqb (suc (length xs)) 0 (λ e. omega arith)

pub any_mapped : {A B : Type 0} (p : B → Bool) (f : A → B) (xs : List A) → list_any (λ x. p (f x)) xs ≡ list_any p (map f xs)
any_mapped p f [] = refl
any_mapped p f (x ∷ xs) = ap (λ b. p (f x) || b) (any_mapped p f xs)

-- all asks are answered
pub all_answered : (s : SchemaValue) (roots : IsOfType s) (others : IsOfCanonical s) (meaning : Interpretation) (around : Around) (x : Item) (n : NodeRef) (xs : List Ask) (i : ℕ) (b : Bool)
    → asks_seen xs ≡ asks s x n → length xs ≤ i → b ≡ list_all (λ ask. ask_conforms s meaning around x (ask_seen ask)) (take i xs)
    → b ≡ conforms s meaning around x n
all_answered s roots others meaning around x n xs i b e h is =
    is ∙ ap (list_all (λ ask. ask_conforms s meaning around x (ask_seen ask))) (take_all i xs h)
    ∙ sym (list_all-map (ask_conforms s meaning around x) ask_seen xs)
    ∙ ap (list_all (ask_conforms s meaning around x)) e
    ∙ sym (conforms_to s roots others meaning around x n)

-- the judgement on a child is the judgement on what is asked of it
module _ (layout : LayoutValue) (p : ItemPair) (position : ℕ) (n : NodeRef) where
  abbrev s : SchemaValue
  s = layout.schema

  abbrev x : Item
  x = item_at layout p.item

  -- a child stands there where its parent does
  pub kid_there : (q : ℕ) → resource_of layout q ≡ nearest_to s (resource_of layout p.item) (item_at layout q) → (around : Around)
      → IsThere layout p.item around → IsThere layout q (below (inside s around x) (0 + position))
  kid_there q near around there = ap (λ r. nearest_to s r (item_at layout q)) there ∙ sym near

  pub asked_of : (meaning : Interpretation) (around : Around) (o : Option Item) → o ≡ kid_at (kids_of x) position
      → get_or (kid_tests s meaning (inside s around x) 0 (kids_of x)) position (λ n. true) n
      ≡ option_map_or (λ y. conforms s meaning (below (inside s around x) (0 + position)) y n) o true
  asked_of meaning around o e =
      test_at s meaning (inside s around x) 0 (kids_of x) position n
      ∙ ap (λ o. option_map_or (λ y. conforms s meaning (below (inside s around x) (0 + position)) y n) o true) (sym e)

  pub of_kid : (q : ItemPair) → q.node ≡ n → Some (item_at layout q.item) ≡ kid_at (kids_of x) position
      → resource_of layout q.item ≡ nearest_to s (resource_of layout p.item) (item_at layout q.item)
      → (a : Judgement) → IsRight layout q a → IsRightOf layout p (child position n) a
  of_kid q same e near a right r around there =
      right r (below (inside s around x) (0 + position)) (kid_there q.item near around there)
      ∙ ap (conforms s (as_read layout.given r) (below (inside s around x) (0 + position)) (item_at layout q.item)) same
      ∙ sym (asked_of (as_read layout.given r) around (Some (item_at layout q.item)) e)

  pub of_none : None ≡ kid_at (kids_of x) position → (meaning : Interpretation) (around : Around)
      → true ≡ get_or (kid_tests s meaning (inside s around x) 0 (kids_of x)) position (λ n. true) n
  of_none e meaning around = sym (asked_of meaning around None e)

-- the item of a number stands wherever the nearest resource is its own
pub met_there : (layout : LayoutValue) (number : ℕ) (outermost : Item) (place : Place) → IsThere layout number (around_of outermost place (resource_of layout number))
met_there layout number outermost place = own_nearest layout.schema (spot_at layout number).resource (item_at layout number)

-- where it stands, as far as the nearest resource tells
pub standing : LayoutValue → ℕ → Around
standing layout number = around_of (item_at layout number) [] (resource_of layout number)

pub stands_there : (layout : LayoutValue) (number : ℕ) → IsThere layout number (standing layout number)
unfolding standing
stands_there layout number = met_there layout number (item_at layout number) []
