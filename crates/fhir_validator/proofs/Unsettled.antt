-- What types hang on: tests that hold by the reading by which what is wanted does, and by each meaning that is left.
use Rattle.std.proofs.Common.{◌≡◌, ◌<◌, ◌≤◌, ◌+◌, ℕ, Bool, true, false, List, [], ◌∷◌, ◌++◌, map, length, take, get_or, sym, ap, ◌∙◌, ◌&&◌, ◌||◌, subst, cond, IsTrue, Some, None, is_none, not, refl, string_bytes, String, Global, inl, inr}
use Rattle.std.specs.List.{list_any, flat_map, AllByRecursion, Contains}
use Rattle.std.specs.Option.{option_map_or}
use Rattle.std.proofs.lemmas.Bool.{and_parts, and_from, or_cases, or_left, or_right, false≢true}
use Rattle.std.proofs.lemmas.List.{take_all}
use Rattle.std.proofs.lemmas.List.Folds.{list_any_more}
use Rattle.std.proofs.lemmas.List.Elements.{Contains-append_left, Contains-append_right}
use Rattle.fhir_json.specs.Tree.{Text}
use Rattle.fhir_json.specs.Bytes.{is_empty}
use Rattle.fhir_elements.specs.TypeEntry.{TypeEntry}
use Rattle.fhir_nodes.specs.declared.node.NodeRef.{NodeRef}
use Rattle.fhir_schema.specs.Covers.{covers}
use Rattle.fhir_schema.specs.Schemas.{SchemaValue, loaded, types as node_types}
use Rattle.fhir_instance.specs.Items.{Item, Place, type_of}
use Rattle.fhir_facets.specs.declared.holding.Holding.{Holding}
use Rattle.fhir_facets.specs.declared.holding.Holding.TheVariants as holdings
use Rattle.fhir_facets.specs.declared.unread.Unread.{Unread as UnreadRule}
use Rattle.fhir_facets.specs.Unread.{Unread, Meaning, Reading, strict, as_given, lenient, meaning_of, profile as unread_profile}
use Rattle.fhir_facets.specs.Views.{holding_at}
use Rattle.fhir_facets.specs.Carried.{profile_unread, target_unread}
use Rattle.fhir_facets.specs.Targets.{has_targets, referred_type, target_holds, targets_hold}
use Rattle.fhir_conformance.specs.Asks.{types}
use Rattle.fhir_conformance.specs.Conformance.{Interpretation, Around, meaning_at, seen, as_read, conforms, entry_allows, entry_holds, profile_holds, profiles_hold}
use Rattle.fhir_conformance.specs.Meeting.{targets_unread, entry_unread, ask_unread}
use Rattle.fhir_validator.specs.declared.judgement.Judgement.{Judgement}
use Rattle.fhir_validator.specs.declared.judgement.Judgement.TheVariants.{Holds, Given, Open, Fails}
use Rattle.fhir_validator.specs.declared.pair.ItemPair.{ItemPair}
use Rattle.fhir_validator.specs.Issues as issues
use Rattle.fhir_validator.specs.Judgements.{under, same_judgement}
use Rattle.fhir_validator.specs.Layouts.{LayoutValue, item_at}
use Rattle.fhir_validator.specs.Judging.{IsRightOn}
use Rattle.fhir_validator.specs.Listing.{lower, upper, is_hanging, ListingValue, Leaves, IsLeftBy, RuleIsTold, IsBetween, IsHanging, AreHanging, IsHangingRoot, Grown, Grows, IsSettled, Settles}
use Rattle.fhir_validator.proofs.Asking.{contains_gathered, contains_first}
use Rattle.fhir_validator.proofs.Judged.{any_mapped}
use Rattle.fhir_validator.proofs.Raising.{EntriesHang, IsPositive, profiles_raised, entry_raised}
use Rattle.fhir_validator.proofs.Resting.{AreTold, contains_if}
use Rattle.fhir_validator.proofs.Rows.{all_pushed}
use Rattle.fhir_validator.proofs.Told.{grown_none, grown_more}

-- ---- what is listed grows

module _ (layout : LayoutValue) (p : ItemPair) where
  pub grows_none : (listing : ListingValue) (roots : List NodeRef) → Grows layout p listing listing roots roots
  grows_none listing roots = record { grown = grown_none layout p listing; kept = λ r h. h; hanging = λ h. h }

  pub grows_more : (one two three : ListingValue) (first second third : List NodeRef) → Grows layout p one two first second → Grows layout p two three second third
      → Grows layout p one three first third
  grows_more one two three first second third less more = record {
    grown = grown_more layout p one two three less.grown more.grown;
    kept = λ r h. more.kept r (less.kept r h);
    hanging = λ h.
        subst (λ w. AllByRecursion (IsHangingRoot layout w p) third) less.grown.wanted
        (more.hanging (subst (λ w. AllByRecursion (IsHangingRoot layout w p) second) (sym less.grown.wanted) (less.hanging h)));
  }

  pub grows_listed : (old new : ListingValue) (roots : List NodeRef) → Grown layout p old new → Grows layout p old new roots roots
  grows_listed old new roots grown = record { grown = grown; kept = λ r h. h; hanging = λ h. h }

  pub grows_root : (listing : ListingValue) (roots more : List NodeRef) (r : NodeRef) → more ≡ roots ++ r ∷ [] → IsHangingRoot layout listing.wanted p r
      → Grows layout p listing listing roots more
  grows_root listing roots more r e hanging = record {
    grown = grown_none layout p listing;
    kept = λ q h. subst (λ rs. Contains rs q) (sym e) (Contains-append_left roots (r ∷ []) q h);
    hanging = λ each. subst (AllByRecursion (IsHangingRoot layout listing.wanted p)) (sym e) (all_pushed (IsHangingRoot layout listing.wanted p) roots r each hanging);
  }

-- ---- tests that are settled

-- what doesn't have a judgement, and holds by its upper reading, holds by the lower one
pub not_hanging : (w a : Judgement) → same_judgement a w ≡ false → IsTrue (under (upper w) a) → IsTrue (under (lower w) a)
not_hanging Holds a other h = h
not_hanging Given Holds other h = h
not_hanging Given Given other h = absurd (false≢true (sym other))
not_hanging Given Open other h = absurd (false≢true h)
not_hanging Given Fails other h = absurd (false≢true h)
not_hanging Open Holds other h = h
not_hanging Open Given other h = refl
not_hanging Open Open other h = absurd (false≢true (sym other))
not_hanging Open Fails other h = absurd (false≢true h)
not_hanging Fails a other h = h

-- an answer by which what is wanted hangs on an unread rule
abbrev pub hangs_so : Judgement → Holding → Bool
hangs_so Given (holdings.Given u) = true
hangs_so Open (holdings.Unread u) = true
hangs_so _ _ = false

-- what doesn't hang so, and holds by the upper reading, holds by the lower one
pub not_so : (w : Judgement) (h : Holding) → hangs_so w h ≡ false → IsTrue (holding_at (upper w) h) → IsTrue (holding_at (lower w) h)
not_so Holds h other k = k
not_so Given holdings.Holds other k = k
not_so Given holdings.Fails other k = k
not_so Given (holdings.Given u) other k = absurd (false≢true (sym other))
not_so Given (holdings.Unread u) other k = absurd (false≢true k)
not_so Open holdings.Holds other k = k
not_so Open holdings.Fails other k = k
not_so Open (holdings.Given u) other k = refl
not_so Open (holdings.Unread u) other k = absurd (false≢true (sym other))
not_so Fails h other k = k

pub unless_open : (w : Judgement) (h : Holding) → w ≡ Open → ((u : UnreadRule) → h ≡ holdings.Unread u → ⊥) → hangs_so w h ≡ false
unless_open w h is other = ap (λ w. hangs_so w h) is ∙ by_case h other
  where
    by_case : (h : Holding) → ((u : UnreadRule) → h ≡ holdings.Unread u → ⊥) → hangs_so Open h ≡ false
    by_case holdings.Holds other = refl
    by_case holdings.Fails other = refl
    by_case (holdings.Given u) other = refl
    by_case (holdings.Unread u) other = absurd (other u refl)

pub unless_given : (w : Judgement) (h : Holding) → w ≡ Given → ((u : UnreadRule) → h ≡ holdings.Given u → ⊥) → hangs_so w h ≡ false
unless_given w h is other = ap (λ w. hangs_so w h) is ∙ by_case h other
  where
    by_case : (h : Holding) → ((u : UnreadRule) → h ≡ holdings.Given u → ⊥) → hangs_so Given h ≡ false
    by_case holdings.Holds other = refl
    by_case holdings.Fails other = refl
    by_case (holdings.Given u) other = absurd (other u refl)
    by_case (holdings.Unread u) other = refl

pub unless_hanging : (w : Judgement) (h : Holding) → (w ≡ Open → ⊥) → (w ≡ Given → ⊥) → hangs_so w h ≡ false
unless_hanging Holds h one other = refl
unless_hanging Given h one other = absurd (other refl)
unless_hanging Open h one other = absurd (one refl)
unless_hanging Fails h one other = refl

-- where an answer on a rule hangs so, the rule is between the readings
pub between_so : (texts : List Text) (w : Judgement) (h : Holding) (rule : Unread) → hangs_so w h ≡ true → ((r : Reading) → holding_at r h ≡ meaning_of texts r rule) → IsBetween texts w rule
between_so texts Holds h rule so exact = absurd (false≢true so)
between_so texts Given holdings.Holds rule so exact = absurd (false≢true so)
between_so texts Given holdings.Fails rule so exact = absurd (false≢true so)
between_so texts Given (holdings.Given u) rule so exact = (sym (exact as_given), sym (exact strict))
between_so texts Given (holdings.Unread u) rule so exact = absurd (false≢true so)
between_so texts Open holdings.Holds rule so exact = absurd (false≢true so)
between_so texts Open holdings.Fails rule so exact = absurd (false≢true so)
between_so texts Open (holdings.Given u) rule so exact = absurd (false≢true so)
between_so texts Open (holdings.Unread u) rule so exact = (sym (exact lenient), sym (exact as_given))
between_so texts Fails h rule so exact = absurd (false≢true so)

-- what is left by a rule that something hangs on which is wanted
pub left_by : (w : Judgement) (meaning : Interpretation) (rule : Unread) → is_hanging w ≡ true → IsLeftBy w meaning rule → (o : Item) (place : Place) → IsTrue (meaning rule o place)
left_by Holds meaning rule e h o place = absurd (false≢true e)
left_by Given meaning rule e h o place = h o place
left_by Open meaning rule e h o place = absurd h
left_by Fails meaning rule e h o place = absurd (false≢true e)

module _ (layout : LayoutValue) (p : ItemPair) where
  -- a test that holds by no less by a meaning that says no less
  abbrev pub IsRaised : (Meaning → (NodeRef → Bool) → Bool) → ListingValue → Type 0
  IsRaised test listing =
      (meaning : Interpretation) → Leaves layout listing meaning → (around : Around)
      → IsTrue (test (meaning_of layout.given (lower listing.wanted)) (conforms layout.schema (as_read layout.given (lower listing.wanted)) around (item_at layout p.item)))
      → IsTrue (test (meaning_at meaning around) (conforms layout.schema meaning around (item_at layout p.item)))

  -- where its judgement isn't the wanted one
  pub settled_other : (test : Meaning → (NodeRef → Bool) → Bool) (a : Judgement) (listing : ListingValue) (roots : List NodeRef) → IsRightOn layout p.item test a
      → same_judgement a listing.wanted ≡ false → IsRaised test listing → IsSettled layout p test listing roots
  settled_other test a listing roots right other raised meaning leaves around there of_roots holds =
      raised meaning leaves around
      (sym (right (lower listing.wanted) around there) ∙ not_hanging listing.wanted a other (right (upper listing.wanted) around there ∙ holds))

  -- where what it comes to doesn't hang on an unread rule as is wanted
  pub settled_unless : (test : Meaning → (NodeRef → Bool) → Bool) (h : Holding) (listing : ListingValue) (roots : List NodeRef)
      → ((r : Reading) (around : Around) → holding_at r h ≡ test (meaning_of layout.given r) (conforms layout.schema (as_read layout.given r) around (item_at layout p.item)))
      → hangs_so listing.wanted h ≡ false → IsRaised test listing → IsSettled layout p test listing roots
  settled_unless test h listing roots right other raised meaning leaves around there of_roots holds =
      raised meaning leaves around (sym (right (lower listing.wanted) around) ∙ not_so listing.wanted h other (right (upper listing.wanted) around ∙ holds))

  -- where a rule is listed on which something hangs that is wanted
  pub settled_told : (u : Unread) (listing : ListingValue) (roots : List NodeRef) → is_hanging listing.wanted ≡ true → RuleIsTold layout listing u
      → IsSettled layout p (λ m f. m u) listing roots
  settled_told u listing roots hanging told meaning leaves around there of_roots holds =
      left_by listing.wanted meaning u hanging (told meaning leaves) around.outermost around.place

  -- where one is open no meaning is left
  pub settled_open : (test : Meaning → (NodeRef → Bool) → Bool) (u : Unread) (listing : ListingValue) (roots : List NodeRef) → listing.wanted ≡ Open → RuleIsTold layout listing u
      → IsSettled layout p test listing roots
  settled_open test u listing roots is told meaning leaves around there of_roots holds = absurd (subst (λ w. IsLeftBy w meaning u) is (told meaning leaves))

  -- where the given targets of an entry are listed
  pub settled_given : EntriesHang layout.schema → (e : TypeEntry) (listing : ListingValue) (roots : List NodeRef) → listing.wanted ≡ Given
      → AreTold layout listing (flat_map (target_unread layout.schema) e.targets) → IsSettled layout p (λ m f. entry_allows layout.schema m (item_at layout p.item) e) listing roots
  settled_given entries e listing roots is told meaning leaves around there of_roots holds =
      let x = item_at layout p.item in
      entries (meaning_of layout.given as_given) (meaning_at meaning around) x e
      (λ u has given. subst (λ w. IsLeftBy w meaning u) is
      (told u (contains_if (has_targets e) (flat_map (target_unread layout.schema) e.targets) u has) given meaning leaves) around.outermost around.place)
      (subst (λ w. IsTrue (entry_allows layout.schema (meaning_of layout.given (upper w)) x e)) is holds)

  -- a root that is among those of which more is to be listed
  pub settled_root : (r : NodeRef) (listing : ListingValue) (roots : List NodeRef) → Contains roots r → IsSettled layout p (λ m f. f r) listing roots
  settled_root r listing roots has meaning leaves around there of_roots holds = of_roots r has

  -- what is settled stays so
  pub settled_since : (test : Meaning → (NodeRef → Bool) → Bool) (old new : ListingValue) (roots more : List NodeRef) → Grows layout p old new roots more
      → IsSettled layout p test old roots → IsSettled layout p test new more
  settled_since test old new roots more grows settled meaning leaves around there of_roots holds =
      settled meaning (grows.grown.left meaning leaves) around there (λ r h. of_roots r (grows.kept r h))
      (subst (λ w. IsTrue (test (meaning_of layout.given (upper w)) (conforms layout.schema (as_read layout.given (upper w)) around (item_at layout p.item)))) grows.grown.wanted holds)

  -- two tests that both have to hold
  pub settled_both : (one two : Meaning → (NodeRef → Bool) → Bool) (listing : ListingValue) (roots : List NodeRef) → IsSettled layout p one listing roots
      → IsSettled layout p two listing roots → IsSettled layout p (λ m f. one m f && two m f) listing roots
  settled_both one two listing roots first second meaning leaves around there of_roots holds =
      let x = item_at layout p.item in
      let m = meaning_of layout.given (upper listing.wanted) in
      let f = conforms layout.schema (as_read layout.given (upper listing.wanted)) around x in
      let parts = and_parts (one m f) (two m f) holds in
      and_from (one (meaning_at meaning around) (conforms layout.schema meaning around x)) (two (meaning_at meaning around) (conforms layout.schema meaning around x))
      (first meaning leaves around there of_roots parts.0) (second meaning leaves around there of_roots parts.1)

  -- one of several
  pub settled_more : {A : Type 0} (q : Meaning → (NodeRef → Bool) → A → Bool) (xs : List A) (i : ℕ) (x : A) (listing : ListingValue) (roots : List NodeRef)
      → i < length xs → x ≡ get_or xs i x
      → IsSettled layout p (λ m f. list_any (q m f) (take i xs)) listing roots → IsSettled layout p (λ m f. q m f x) listing roots
      → IsSettled layout p (λ m f. list_any (q m f) (take (i + 1) xs)) listing roots
  settled_more q xs i x listing roots h is so_far one meaning leaves around there of_roots holds =
      let step : (m : Meaning) (f : NodeRef → Bool) → list_any (q m f) (take (i + 1) xs) ≡ (list_any (q m f) (take i xs) || q m f x) =
      λ m f. list_any_more (q m f) xs i x h ∙ ap (λ y. list_any (q m f) (take i xs) || q m f y) (sym is) in
      let m = meaning_of layout.given (upper listing.wanted) in
      let f = conforms layout.schema (as_read layout.given (upper listing.wanted)) around (item_at layout p.item) in
      let n = meaning_at meaning around in
      let g = conforms layout.schema meaning around (item_at layout p.item) in
      step n g
      ∙ elim (or_cases (list_any (q m f) (take i xs)) (q m f x) (sym (step m f) ∙ holds)) [
        | inl before ↦ or_left (list_any (q n g) (take i xs)) (q n g x) (so_far meaning leaves around there of_roots before)
        | inr here ↦ or_right (list_any (q n g) (take i xs)) (q n g x) (one meaning leaves around there of_roots here)
      ]

  -- two tests that come to the same
  pub settled_alike : (one two : Meaning → (NodeRef → Bool) → Bool) (listing : ListingValue) (roots : List NodeRef)
      → ((m : Meaning) (f : NodeRef → Bool) → one m f ≡ two m f) → IsSettled layout p one listing roots → IsSettled layout p two listing roots
  settled_alike one two listing roots alike settled meaning leaves around there of_roots holds =
      sym (alike _ _) ∙ settled meaning leaves around there of_roots (alike _ _ ∙ holds)

  module _ (x : Item) where
    pub settled_loaded : (q : Text) (r : NodeRef) (listing : ListingValue) (roots : List NodeRef) → loaded layout.schema q ≡ Some r
        → IsSettled layout p (λ m f. f r) listing roots → IsSettled layout p (λ m f. profile_holds layout.schema m f x q) listing roots
    settled_loaded q r listing roots e settled =
        settled_alike (λ m f. f r) (λ m f. profile_holds layout.schema m f x q) listing roots (λ m f. ap (λ o. option_map_or f o (m (unread_profile q))) (sym e)) settled

    pub settled_absent : (q : Text) (listing : ListingValue) (roots : List NodeRef) → loaded layout.schema q ≡ None
        → IsSettled layout p (λ m f. m (unread_profile q)) listing roots → IsSettled layout p (λ m f. profile_holds layout.schema m f x q) listing roots
    settled_absent q listing roots e settled =
        settled_alike (λ m f. m (unread_profile q)) (λ m f. profile_holds layout.schema m f x q) listing roots (λ m f. ap (λ o. option_map_or f o (m (unread_profile q))) (sym e)) settled

    pub settled_profiles : (xs : List (String Global)) (ps : List Text) (i : ℕ) (listing : ListingValue) (roots : List NodeRef) → length xs ≤ i → map string_bytes xs ≡ ps
        → IsSettled layout p (λ m f. list_any (λ q. profile_holds layout.schema m f x (string_bytes q)) (take i xs)) listing roots
        → IsSettled layout p (λ m f. profiles_hold layout.schema m f x ps) listing roots
    settled_profiles xs ps i listing roots h e settled meaning leaves around there of_roots holds =
        let all : (m : Meaning) (f : NodeRef → Bool) → list_any (λ q. profile_holds layout.schema m f x (string_bytes q)) (take i xs) ≡ list_any (profile_holds layout.schema m f x) ps =
        λ m f. ap (list_any (λ q. profile_holds layout.schema m f x (string_bytes q))) (take_all i xs h) ∙ any_mapped (profile_holds layout.schema m f x) string_bytes xs
        ∙ ap (list_any (profile_holds layout.schema m f x)) e in
        let m = meaning_of layout.given (upper listing.wanted) in
        let f = conforms layout.schema (as_read layout.given (upper listing.wanted)) around (item_at layout p.item) in
        let n = meaning_at meaning around in
        let g = conforms layout.schema meaning around (item_at layout p.item) in
        elim (or_cases (is_empty ps) (list_any (profile_holds layout.schema m f x) ps) holds) [
          | inl none ↦ or_left (is_empty ps) (list_any (profile_holds layout.schema n g x) ps) none
          | inr some ↦ or_right (is_empty ps) (list_any (profile_holds layout.schema n g x) ps)
              (sym (all n g) ∙ settled meaning leaves around there of_roots (all m f ∙ some))
        ]

-- ---- tests that hold by no less

module _ (layout : LayoutValue) (p : ItemPair) (listing : ListingValue) where
  pub raised_rule : (u : Unread) → IsRaised layout p (λ m f. m u) listing
  raised_rule u meaning leaves around h = leaves.over u around.outermost around.place h

  pub raised_root : IsPositive layout.schema → (r : NodeRef) → IsRaised layout p (λ m f. f r) listing
  raised_root positive r meaning leaves around h = positive (as_read layout.given (lower listing.wanted)) meaning leaves.over around (item_at layout p.item) r h

  pub raised_profiles : IsPositive layout.schema → (ps : List Text) → IsRaised layout p (λ m f. profiles_hold layout.schema m f (item_at layout p.item) ps) listing
  raised_profiles positive ps meaning leaves around h =
      let x = item_at layout p.item in
      let less = as_read layout.given (lower listing.wanted) in
      profiles_raised layout.schema x (meaning_of layout.given (lower listing.wanted)) (meaning_at meaning around) (λ u. leaves.over u around.outermost around.place)
      (conforms layout.schema less around x) (conforms layout.schema meaning around x) (λ r. positive less meaning leaves.over around x r) ps h

  pub raised_allows : EntriesHang layout.schema → (e : TypeEntry) → IsRaised layout p (λ m f. entry_allows layout.schema m (item_at layout p.item) e) listing
  raised_allows entries e meaning leaves around h =
      entries (meaning_of layout.given (lower listing.wanted)) (meaning_at meaning around) (item_at layout p.item) e (λ u has. leaves.over u around.outermost around.place) h

  pub raised_entry : EntriesHang layout.schema → IsPositive layout.schema → (e : TypeEntry) → IsRaised layout p (λ m f. entry_holds layout.schema m f (item_at layout p.item) e) listing
  raised_entry entries positive e meaning leaves around h =
      let x = item_at layout p.item in
      let less = as_read layout.given (lower listing.wanted) in
      entry_raised layout.schema x (meaning_of layout.given (lower listing.wanted)) (meaning_at meaning around) (λ u. leaves.over u around.outermost around.place)
      (conforms layout.schema less around x) (conforms layout.schema meaning around x) (λ r. positive less meaning leaves.over around x r) entries e h

-- ---- targets

module _ (layout : LayoutValue) (p : ItemPair) (e : TypeEntry) (entries : EntriesHang layout.schema) where
  pub allows_unless : (h : Holding) (listing : ListingValue) → ((r : Reading) → holding_at r h ≡ entry_allows layout.schema (meaning_of layout.given r) (item_at layout p.item) e)
      → hangs_so listing.wanted h ≡ false → (roots : List NodeRef)
      → Settles layout p (λ m f. entry_allows layout.schema m (item_at layout p.item) e) listing listing roots roots
  allows_unless h listing exact other roots = record {
    grows = grows_none layout p listing roots;
    settled = settled_unless layout p (λ m f. entry_allows layout.schema m (item_at layout p.item) e) h listing roots (λ r around. exact r) other (raised_allows layout p listing entries e);
  }

-- ---- a profile that isn't there

module _ (layout : LayoutValue) (p : ItemPair) (q : Text) where
  pub absent_told : (old new : ListingValue) → loaded layout.schema q ≡ None → is_hanging old.wanted ≡ true → RuleIsTold layout new (unread_profile q) → Grown layout p old new
      → (roots : List NodeRef) → Settles layout p (λ m f. profile_holds layout.schema m f (item_at layout p.item) q) old new roots roots
  absent_told old new absent hanging told grown roots = record {
    grows = grows_listed layout p old new roots grown;
    settled = settled_absent layout p (item_at layout p.item) q new roots absent
        (settled_told layout p (unread_profile q) new roots (ap is_hanging grown.wanted ∙ hanging) told);
  }

  pub absent_unless : (h : Holding) (listing : ListingValue) → loaded layout.schema q ≡ None → ((r : Reading) → holding_at r h ≡ meaning_of layout.given r (unread_profile q))
      → hangs_so listing.wanted h ≡ false → (roots : List NodeRef) → Settles layout p (λ m f. profile_holds layout.schema m f (item_at layout p.item) q) listing listing roots roots
  absent_unless h listing absent exact other roots = record {
    grows = grows_none layout p listing roots;
    settled = settled_absent layout p (item_at layout p.item) q listing roots absent
        (settled_unless layout p (λ m f. m (unread_profile q)) h listing roots (λ r around. exact r) other (raised_rule layout p listing (unread_profile q)));
  }

-- an entry that holds covers the item's type
pub covered_by : (s : SchemaValue) (m : Meaning) (f : NodeRef → Bool) (x : Item) (e : TypeEntry) → true ≡ entry_holds s m f x e → IsTrue (covers s e.code (type_of x))
covered_by s m f x e h =
    let both = and_parts (entry_allows s m x e) (profiles_hold s m f x e.profiles) (sym h) in
    (and_parts (covers s e.code (type_of x)) (targets_hold s m e (seen x)) both.0).0

-- ---- the unread rules of entries

pub carried_entry : (s : SchemaValue) (x : Item) (n : NodeRef) (e : TypeEntry) (u : Unread) → Contains (node_types s n) e → Contains (entry_unread s x e) u
    → Contains (ask_unread s x (types n)) u
carried_entry s x n e u among here = contains_gathered (entry_unread s x) (node_types s n) e u among here

pub carried_target : (s : SchemaValue) (x : Item) (n : NodeRef) (e : TypeEntry) (u : Unread) → Contains (node_types s n) e → IsTrue (covers s e.code (type_of x)) → IsTrue (has_targets e)
    → Contains (flat_map (target_unread s) e.targets) u → Contains (ask_unread s x (types n)) u
carried_target s x n e u among covered has here =
    let there : Contains (targets_unread s e) u = subst (λ b. Contains (cond b (flat_map (target_unread s) e.targets) []) u) (sym has) here in
    carried_entry s x n e u among
    (subst (λ b. Contains (cond b (targets_unread s e ++ flat_map (profile_unread s) e.profiles) []) u) (sym covered)
    (Contains-append_left (targets_unread s e) (flat_map (profile_unread s) e.profiles) u there))

-- what the types of a pair's node hang on
pub types_hang : (layout : LayoutValue) (w : Judgement) (p : ItemPair) (u : Unread) → AreHanging layout w p → Contains (ask_unread layout.schema (item_at layout p.item) (types p.node)) u
    → IsBetween layout.given w u → IsHanging layout w p p.node u
types_hang layout w p u hanging carried between = record {
  ask = types p.node;
  said = issues.types;
  asked = hanging.asked;
  hangs = hanging.hangs;
  told = refl;
  carried = carried;
  between = between;
  of_hanging = hanging.of_hanging;
}

-- an entry that covers the item and doesn't allow it has targets
pub has_some : (s : SchemaValue) (m : Meaning) (x : Item) (e : TypeEntry) → IsTrue (covers s e.code (type_of x)) → entry_allows s m x e ≡ false → IsTrue (has_targets e)
has_some s m x e covered fails = by_case (has_targets e) refl
  where
    by_case : (b : Bool) → has_targets e ≡ b → IsTrue b
    by_case true is = refl
    by_case false is =
        let rest = option_map_or (λ type. list_any (target_holds s m type) e.targets) (referred_type (seen x)) true in
        let allows : entry_allows s m x e ≡ true = λ j. covered j && (not (is j) || rest) in
        absurd (false≢true (sym fails ∙ allows))

pub carried_profile : (s : SchemaValue) (x : Item) (n : NodeRef) (e : TypeEntry) (p : Text) → Contains (node_types s n) e → IsTrue (covers s e.code (type_of x))
    → Contains e.profiles p → loaded s p ≡ None → Contains (ask_unread s x (types n)) (unread_profile p)
carried_profile s x n e p among covered named is =
    let u = unread_profile p in
    let here : Contains (flat_map (profile_unread s) e.profiles) u =
    contains_gathered (profile_unread s) e.profiles p u named (subst (λ o. Contains (cond (is_none o) (u ∷ []) []) u) (sym is) (contains_first [] u)) in
    carried_entry s x n e u among
    (subst (λ b. Contains (cond b (targets_unread s e ++ flat_map (profile_unread s) e.profiles) []) u) (sym covered)
    (Contains-append_right (targets_unread s e) (flat_map (profile_unread s) e.profiles) u here))
