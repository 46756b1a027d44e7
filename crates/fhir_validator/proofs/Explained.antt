-- What is told of asks and pairs, once all that they rest on is listed.
use Rattle.std.proofs.Common.{◌≡◌, ◌<◌, ◌≤◌, ◌+◌, ℕ, Bool, true, false, List, length, take, get_or, refl, sym, ap, ◌∙◌, ◌&&◌, cond, subst, IsTrue, ◌⊎◌, inl, inr}
use Rattle.std.specs.Prelude.{Result, Ok, Err, OnOk}
use Rattle.std.specs.BTreeMap.{is_at}
use Rattle.std.specs.BTreeSet.{BTreeSet, contains, Updates}
use Rattle.std.specs.List.{list_all, list_any, AllByRecursion, Contains}
use Rattle.std.proofs.lemmas.Bool.{false≢true, or_cases, or_left, or_right}
use Rattle.std.proofs.lemmas.List.{take_all}
use Rattle.std.proofs.lemmas.List.Folds.{list_all_more, list_all_at}
use Rattle.fhir_nodes.specs.declared.node.NodeRef.{NodeRef}
use Rattle.fhir_schema.specs.Schemas.{types as node_types}
use Rattle.fhir_facets.specs.Unread.{Reading, strict, as_given, lenient, meaning_of}
use Rattle.fhir_conformance.specs.Asks.{Ask, types}
use Rattle.fhir_conformance.specs.Conformance.{Interpretation, Around, meaning_at, as_read, is_untyped, entry_holds, types_hold, ask_conforms, conforms}
use Rattle.fhir_validator.specs.declared.judgement.Judgement.{Judgement}
use Rattle.fhir_validator.specs.declared.judgement.Judgement.TheVariants.{Holds, Given, Open, Fails}
use Rattle.fhir_validator.specs.declared.pair.ItemPair.{ItemPair}
use Rattle.fhir_validator.specs.contracts.pair.ItemPairOrd.TheImpl.{cmp-value}
use Rattle.fhir_validator.specs.Judgements.{under, same_judgement}
use Rattle.fhir_validator.specs.Judging.{IsThere, IsRight, IsRightOf}
use Rattle.fhir_validator.specs.Layouts.{LayoutValue, item_at}
use Rattle.fhir_validator.specs.Listing.{lower, upper, is_hanging, IsOver, IsClear, ListingValue, Leaves, PairIsTold, MarksAreTold, IsFound, IsFoundSite, IsAllowed, PairIsAllowed, IsSettled, Grown, Lists}
use Rattle.fhir_validator.proofs.Pairs.{same_pair-true, is_at_pair}
use Rattle.fhir_validator.proofs.Raising.{IsPositive}
use Rattle.fhir_validator.proofs.Told.{not_wanted, hangs_above, grown_none}

pub on_any : {A E : Type 0} (P : Type 0) → P → (r : Result A E) → OnOk r P
on_any P h (Ok a) = h
on_any P h (Err e) = tt

-- ---- lists

-- one more holds
pub all_more : {A : Type 0} (p : A → Bool) (xs : List A) (i : ℕ) (d : A) → i < length xs → IsTrue (list_all p (take i xs)) → IsTrue (p (get_or xs i d))
    → IsTrue (list_all p (take (i + 1) xs))
all_more p xs i d h before here = list_all_more p xs i d h ∙ (λ j. before j && here j)

-- each holds, where none is left
pub each_held : {A : Type 0} (p : A → Bool) (xs : List A) (i : ℕ) → length xs ≤ i → IsTrue (list_all p (take i xs)) → (x : A) → Contains xs x → IsTrue (p x)
each_held p xs i h so_far x has = by_case (p x) refl
  where
    all : IsTrue (list_all p xs)
    all = sym (ap (list_all p) (take_all i xs h)) ∙ so_far

    by_case : (b : Bool) → p x ≡ b → IsTrue b
    by_case true e = refl
    by_case false e = absurd (false≢true (sym (list_all_at p xs has.0 x has.1 (ap p has.2 ∙ e)) ∙ all))

-- ---- marks

-- what is marked then is the pair that was put in, or was marked before
pub marks_put : (old new : BTreeSet ItemPair) (p : ItemPair) → Updates cmp-value.it old new p true
    → (q : ItemPair) → contains cmp-value.it new q ≡ true → (q ≡ p) ⊎ (contains cmp-value.it old q ≡ true)
marks_put old new p updates q is = by_case (is_at (cmp-value.it p) q) refl
  where
    by_case : (t : Bool) → is_at (cmp-value.it p) q ≡ t → (q ≡ p) ⊎ (contains cmp-value.it old q ≡ true)
    by_case true same = inl (sym (same_pair-true p q (sym (is_at_pair p q) ∙ same)))
    by_case false other = inr (ap (λ t. cond t true (contains cmp-value.it old q)) (sym other) ∙ sym (updates.0 q) ∙ is)

module _ (layout : LayoutValue) (p : ItemPair) (before new : ListingValue) (same : new.wanted ≡ before.wanted) (issues : new.issues ≡ before.issues) (sites : new.sites ≡ before.sites) where
  -- where the same is listed, no more is left
  pub leaves_same : (meaning : Interpretation) → Leaves layout new meaning → Leaves layout before meaning
  leaves_same meaning leaves = record {
    over = subst (λ w. IsOver (as_read layout.given (lower w)) meaning) same leaves.over;
    clear = subst (λ ss. IsClear before.wanted before.issues ss meaning) sites
        (subst (λ is. IsClear before.wanted is new.sites meaning) issues (subst (λ w. IsClear w new.issues new.sites meaning) same leaves.clear));
  }

  pub told_same : PairIsTold layout p before → PairIsTold layout p new
  told_same told meaning leaves = told meaning (leaves_same meaning leaves)

  -- it grows by a mark of a pair of which all is told
  pub grown_marked : (old : ListingValue) → ((q : ItemPair) → contains cmp-value.it new.marks q ≡ true → (q ≡ p) ⊎ (contains cmp-value.it before.marks q ≡ true))
      → Grown layout p old before → (MarksAreTold layout old → PairIsTold layout p before) → Grown layout p old new
  grown_marked old marks grown told = record {
    wanted = same ∙ grown.wanted;
    left = λ meaning leaves. grown.left meaning (leaves_same meaning leaves);
    marked = λ each q is.
        elim (marks q is) [
          | inl this ↦ subst (λ z. PairIsTold layout z new) (sym this) (told_same (told each))
          | inr was ↦ (λ meaning leaves. grown.marked each q was meaning (leaves_same meaning leaves))
        ];
    found = λ o profile place met h.
        let found = grown.found o profile place met h in (
          subst (AllByRecursion (IsFound layout.schema o profile)) (sym issues) found.0,
          subst (λ w. AllByRecursion (IsFoundSite layout.schema layout.given w o profile) new.sites) (sym same)
              (subst (AllByRecursion (IsFoundSite layout.schema layout.given before.wanted o profile)) (sym sites) found.1),
        );
  }

-- ---- asks

-- what neither holds nor fails hangs on unread rules
pub hangs_between : (a : Judgement) → (a ≡ Holds → ⊥) → (a ≡ Fails → ⊥) → is_hanging a ≡ true
hangs_between Holds held failed = absurd (held refl)
hangs_between Given held failed = refl
hangs_between Open held failed = refl
hangs_between Fails held failed = absurd (failed refl)

holds_under : (r : Reading) → under r Holds ≡ true
holds_under strict = refl
holds_under as_given = refl
holds_under lenient = refl

-- an ask that holds whatever unread rules mean is told, and nothing is listed
pub lists_held : (layout : LayoutValue) (p : ItemPair) (ask : Ask) (old : ListingValue)
    → ((less more : Interpretation) → IsOver less more → (around : Around) → IsTrue (ask_conforms layout.schema less around (item_at layout p.item) ask)
    → IsTrue (ask_conforms layout.schema more around (item_at layout p.item) ask))
    → IsRightOf layout p ask Holds → Lists layout p ask old old
lists_held layout p ask old raised right = record {
  grown = grown_none layout p old;
  told = λ marked meaning leaves around there.
      raised (as_read layout.given (lower old.wanted)) meaning leaves.over around (sym (right (lower old.wanted) around there) ∙ holds_under (lower old.wanted));
}

-- Types that hang on unread rules are told, where what they hang on is settled but for roots to which the item conforms.
pub types_told : (layout : LayoutValue) (p : ItemPair) (listing : ListingValue) (roots : List NodeRef) → is_hanging listing.wanted ≡ true → IsRightOf layout p (types p.node) listing.wanted
    → IsSettled layout p (λ m f. list_any (entry_holds layout.schema m f (item_at layout p.item)) (node_types layout.schema p.node)) listing roots
    → (meaning : Interpretation) → Leaves layout listing meaning → (around : Around) → IsThere layout p.item around
    → ((r : NodeRef) → Contains roots r → IsTrue (conforms layout.schema meaning around (item_at layout p.item) r))
    → IsTrue (ask_conforms layout.schema meaning around (item_at layout p.item) (types p.node))
types_told layout p listing roots hanging right settled meaning leaves around there of_roots =
    let s = layout.schema in
    let x = item_at layout p.item in
    let w = listing.wanted in
    let m = meaning_of layout.given (upper w) in
    let f = conforms s (as_read layout.given (upper w)) around x in
    let n = meaning_at meaning around in
    let g = conforms s meaning around x in
    let holds : IsTrue (types_hold s m f x p.node) = sym (right (upper w) around there) ∙ hangs_above w hanging in
    elim (or_cases (is_untyped s p.node) (list_any (entry_holds s m f x) (node_types s p.node)) holds) [
      | inl none ↦ or_left (is_untyped s p.node) (list_any (entry_holds s n g x) (node_types s p.node)) none
      | inr some ↦ or_right (is_untyped s p.node) (list_any (entry_holds s n g x) (node_types s p.node)) (settled meaning leaves around there of_roots some)
    ]

-- ---- pairs

-- a pair that has another judgement than the wanted one is told
pub other_told : (layout : LayoutValue) (p : ItemPair) (listing : ListingValue) (a : Judgement) → IsPositive layout.schema → PairIsAllowed layout listing p → IsRight layout p a
    → same_judgement a listing.wanted ≡ false → PairIsTold layout p listing
other_told layout p listing a positive allowed right other meaning leaves around there =
    let w = listing.wanted in
    positive (as_read layout.given (lower w)) meaning leaves.over around (item_at layout p.item) p.node
    (sym (right (lower w) around there)
    ∙ not_wanted w a listing.issues listing.sites meaning (subst (IsAllowed w) (sym (right (upper w) allowed.0 allowed.1)) allowed.2) other leaves.clear)
