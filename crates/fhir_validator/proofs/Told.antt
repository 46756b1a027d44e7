-- What is listed of a pair.
use Rattle.std.proofs.Common.{◌≡◌, ◌<◌, ◌++◌, ◌∷◌, [], ℕ, zero, suc, Bool, true, false, List, map, length, get_or, refl, sym, ap, ◌∙◌, subst, arith, IsTrue, Some}
use Rattle.std.specs.Prelude.{Result, Ok, Err, OnOk}
use Rattle.std.specs.List.{list_all, AllByRecursion, Contains}
use Rattle.std.specs.BTreeSet.{contains}
use Rattle.std.proofs.lemmas.Bool.{false≢true}
use Rattle.std.proofs.lemmas.List.{length-append}
use Rattle.std.proofs.lemmas.List.Elements.{Contains-get_or}
use Rattle.std.proofs.lemmas.List.Folds.{list_all_at}
use Rattle.fhir_nodes.specs.declared.node.NodeRef.{NodeRef}
use Rattle.fhir_schema.specs.Schemas.{SchemaValue}
use Rattle.fhir_instance.specs.Items.{Item, Place}
use Rattle.fhir_facets.specs.Views.{unread_seen}
use Rattle.fhir_facets.specs.declared.unread.Unread.{Unread}
use Rattle.fhir_facets.specs.Unread.{Unread as UnreadRule, Reading, lenient, meaning_of}
use Rattle.fhir_conformance.specs.Asks.{ElementRuleName, Ask, own, asks}
use Rattle.fhir_conformance.specs.Conformance.{Interpretation, Around, around_of, as_read, ask_conforms, rule_holds}
use Rattle.fhir_conformance.specs.Meeting.{Met, ask_unread}
use Rattle.fhir_conformance.specs.Views.{ask_seen, asks_seen}
use Rattle.fhir_conformance.specs.declared.ask.Ask.{Ask as AskValue}
use Rattle.fhir_validator.specs.declared.judgement.Judgement.{Judgement}
use Rattle.fhir_validator.specs.declared.judgement.Judgement.TheVariants.{Holds, Given, Open, Fails}
use Rattle.fhir_validator.specs.declared.issue.Breach.{Breach}
use Rattle.fhir_validator.specs.declared.issue.Issue.{Issue}
use Rattle.fhir_validator.specs.declared.issue.Issue.TheVariants.{Broken}
use Rattle.fhir_validator.specs.declared.issue.Site.{Site}
use Rattle.fhir_validator.specs.declared.pair.ItemPair.{ItemPair}
use Rattle.fhir_validator.specs.contracts.pair.ItemPairOrd.TheImpl.{cmp-value}
use Rattle.fhir_validator.specs.Judgements.{under, same_judgement}
use Rattle.fhir_validator.specs.Judging.{IsThere, IsRightOf}
use Rattle.fhir_validator.specs.Layouts.{LayoutValue, item_at, resource_of}
use Rattle.fhir_validator.specs.Issues.{Said, told_of, IsNamed, IsBroken, rule_said}
use Rattle.fhir_validator.specs.Verdicts.{IsHeld}
use Rattle.fhir_validator.specs.Listing.{lower, upper, is_hanging, IsOver, ListingValue, Leaves, IsClear, RuleIsTold, IsLeftBy, MarksAreTold, IsFound, IsFoundSite, IsAllowed, IsAskedBy, IsToList, IsHanging, Grown, Lists}
use Rattle.fhir_validator.proofs.Judged.{met_there}
use Rattle.fhir_validator.proofs.Rows.{all_pushed}

pub on_ok : {A E : Type 0} (P Q : Type 0) → (P → Q) → (r : Result A E) → OnOk r P → OnOk r Q
on_ok P Q f (Ok a) h = f h
on_ok P Q f (Err e) h = h

pub on_both : {A E : Type 0} (P Q R : Type 0) → (P → Q → R) → (r : Result A E) → OnOk r P → OnOk r Q → OnOk r R
on_both P Q R f (Ok a) h k = f h k
on_both P Q R f (Err e) h k = tt

-- what is so of what was made
pub of_made : {A E : Type 0} (P : ListingValue → Type 0) (made new : ListingValue) (r : Result A E) → OnOk r (new ≡ made) → P made → OnOk r (P new)
of_made P made new (Ok a) e h = subst P (sym e) h
of_made P made new (Err e) f h = tt

pub same_is : (a w : Judgement) → same_judgement a w ≡ true → a ≡ w
same_is Holds Holds e = refl
same_is Given Given e = refl
same_is Open Open e = refl
same_is Fails Fails e = refl
same_is Holds Given e = absurd (false≢true e)
same_is Holds Open e = absurd (false≢true e)
same_is Holds Fails e = absurd (false≢true e)
same_is Given Holds e = absurd (false≢true e)
same_is Given Open e = absurd (false≢true e)
same_is Given Fails e = absurd (false≢true e)
same_is Open Holds e = absurd (false≢true e)
same_is Open Given e = absurd (false≢true e)
same_is Open Fails e = absurd (false≢true e)
same_is Fails Holds e = absurd (false≢true e)
same_is Fails Given e = absurd (false≢true e)
same_is Fails Open e = absurd (false≢true e)

-- What has another judgement than the wanted one, and may be there, holds by the reading by which what is wanted doesn't.
pub not_wanted : (w a : Judgement) (issues : List Issue) (sites : List Site) (meaning : Interpretation)
    → IsAllowed w (under (upper w) a) → same_judgement a w ≡ false → IsClear w issues sites meaning → IsTrue (under (lower w) a)
not_wanted Holds a issues sites meaning allowed other clear = absurd clear
not_wanted Given Holds issues sites meaning allowed other clear = refl
not_wanted Given Given issues sites meaning allowed other clear = absurd (false≢true (sym other))
not_wanted Given Open issues sites meaning allowed other clear = absurd (false≢true allowed)
not_wanted Given Fails issues sites meaning allowed other clear = absurd (false≢true allowed)
not_wanted Open Holds issues sites meaning allowed other clear = refl
not_wanted Open Given issues sites meaning allowed other clear = refl
not_wanted Open Open issues sites meaning allowed other clear = absurd (false≢true (sym other))
not_wanted Open Fails issues sites meaning allowed other clear = absurd (false≢true allowed)
not_wanted Fails Holds issues sites meaning allowed other clear = refl
not_wanted Fails Given issues sites meaning allowed other clear = refl
not_wanted Fails Open issues sites meaning allowed other clear = refl
not_wanted Fails Fails issues sites meaning allowed other clear = absurd (false≢true (sym other))

-- what fails may be listed, and then no meaning is left
pub none_fails : (w : Judgement) (issues : List Issue) (x : Issue) (sites : List Site) (meaning : Interpretation)
    → IsAllowed w false → IsClear w (issues ++ x ∷ []) sites meaning → ⊥
none_fails Holds issues x sites meaning allowed clear = clear
none_fails Given issues x sites meaning allowed clear = false≢true allowed
none_fails Open issues x sites meaning allowed clear = false≢true allowed
none_fails Fails issues x sites meaning allowed clear = omega (arith, ap length clear, length-append issues (x ∷ []))

all_before : {A : Type 0} (P : A → Type 0) (xs : List A) (x : A) → AllByRecursion P (xs ++ x ∷ []) → AllByRecursion P xs
all_before P [] x each = tt
all_before P (y ∷ xs) x each = (each.0, all_before P xs x each.1)

all_last : {A : Type 0} (P : A → Type 0) (xs : List A) (x : A) → AllByRecursion P (xs ++ x ∷ []) → P x
all_last P [] x each = each.0
all_last P (y ∷ xs) x each = all_last P xs x each.1

-- more that is listed leaves less
pub issue_left : (w : Judgement) (issues : List Issue) (sites : List Site) (x : Issue) (meaning : Interpretation)
    → IsClear w (issues ++ x ∷ []) sites meaning → IsClear w issues sites meaning
issue_left Holds issues sites x meaning clear = clear
issue_left Given issues sites x meaning clear = clear
issue_left Open issues sites x meaning clear = clear
issue_left Fails issues sites x meaning clear = absurd (none_fails Fails issues x sites meaning tt clear)

pub site_left : (w : Judgement) (issues : List Issue) (sites : List Site) (x : Site) (meaning : Interpretation)
    → IsClear w issues (sites ++ x ∷ []) meaning → IsClear w issues sites meaning
site_left Holds issues sites x meaning clear = clear
site_left Given issues sites x meaning clear = all_before (IsHeld meaning) sites x clear
site_left Open issues sites x meaning clear = absurd (omega (arith, ap length clear, length-append sites (x ∷ [])))
site_left Fails issues sites x meaning clear = clear

-- what a site leaves
pub site_leaves : (w : Judgement) (issues : List Issue) (sites : List Site) (x : Site) (meaning : Interpretation)
    → IsClear w issues (sites ++ x ∷ []) meaning → IsLeftBy w meaning (unread_seen x.unread)
site_leaves Holds issues sites x meaning clear = tt
site_leaves Given issues sites x meaning clear = all_last (IsHeld meaning) sites x clear
site_leaves Open issues sites x meaning clear = absurd (omega (arith, ap length clear, length-append sites (x ∷ [])))
site_leaves Fails issues sites x meaning clear = tt

pub contains_map : {A B : Type 0} (f : A → B) (xs : List A) (i : ℕ) (d : A) → i < length xs → get_or (map f xs) i (f d) ≡ f (get_or xs i d)
contains_map f [] i d h = refl
contains_map f (x ∷ xs) zero d h = refl
contains_map f (x ∷ xs) (suc i) d h = contains_map f xs i d (omega arith)

pub asked_at : (s : SchemaValue) (x : Item) (n : NodeRef) (xs : List AskValue) (i : ℕ) (d : AskValue) → asks_seen xs ≡ asks s x n → i < length xs → Contains (asks s x n) (ask_seen (get_or xs i d))
asked_at s x n xs i d e h =
    subst (λ all. Contains all (ask_seen (get_or xs i d))) e
    (subst (Contains (asks_seen xs)) (contains_map ask_seen xs i d h) (Contains-get_or (asks_seen xs) i (ask_seen d) (subst (λ k. i < k) (sym (long xs)) h)))
  where
    long : (xs : List AskValue) → length (asks_seen xs) ≡ length xs
    long [] = refl
    long (x ∷ xs) = ap suc (long xs)

pub allowed_at : {A : Type 0} (w : Judgement) (p : A → Bool) (xs : List A) (i : ℕ) (d : A) → i < length xs → under (upper w) w ≡ list_all p xs → IsAllowed w (p (get_or xs i d))
allowed_at Holds p xs i d h is = tt
allowed_at Given p xs i d h is = by_case (p (get_or xs i d)) refl
  where
    by_case : (b : Bool) → p (get_or xs i d) ≡ b → IsTrue b
    by_case true e = refl
    by_case false e = absurd (false≢true (sym (list_all_at p xs i d h e) ∙ sym is))
allowed_at Open p xs i d h is = by_case (p (get_or xs i d)) refl
  where
    by_case : (b : Bool) → p (get_or xs i d) ≡ b → IsTrue b
    by_case true e = refl
    by_case false e = absurd (false≢true (sym (list_all_at p xs i d h e) ∙ sym is))
allowed_at Fails p xs i d h is = tt

abbrev pub IsMet : LayoutValue → ItemPair → Item → NodeRef → Place → Type 0
IsMet layout p outermost profile place = Met layout.schema outermost profile place (resource_of layout p.item) (item_at layout p.item) p.node

-- where nothing is marked anew and less is left, what is marked is told still
pub marks_kept : (layout : LayoutValue) (old new : ListingValue) → new.marks ≡ old.marks
    → ((meaning : Interpretation) → Leaves layout new meaning → Leaves layout old meaning) → MarksAreTold layout old → MarksAreTold layout new
marks_kept layout old new e left told q is meaning leaves = told q (sym (ap (λ m. contains cmp-value.it m q) e) ∙ is) meaning (left meaning leaves)

pub grown_none : (layout : LayoutValue) (p : ItemPair) (listing : ListingValue) → Grown layout p listing listing
grown_none layout p listing = record { wanted = refl; left = λ meaning h. h; marked = λ h. h; found = λ o profile place met h. h }

pub grown_more : (layout : LayoutValue) (p : ItemPair) (one two three : ListingValue) → Grown layout p one two → Grown layout p two three → Grown layout p one three
grown_more layout p one two three less more = record {
  wanted = more.wanted ∙ less.wanted;
  left = λ meaning h. less.left meaning (more.left meaning h);
  marked = λ h. more.marked (less.marked h);
  found = λ o profile place met h. more.found o profile place met (less.found o profile place met h);
}

-- it grows by what another pair asks, which is met where this one is
pub grown_by : (layout : LayoutValue) (p q : ItemPair) (old new : ListingValue)
    → ((o : Item) (profile : NodeRef) (place : Place) → IsMet layout p o profile place → (other : Place) × IsMet layout q o profile other)
    → Grown layout q old new → Grown layout p old new
grown_by layout p q old new f grown = record {
  wanted = grown.wanted;
  left = grown.left;
  marked = grown.marked;
  found = λ o profile place met h. let there = f o profile place met in grown.found o profile there.0 there.1 h;
}

-- a rule that was told is told still
pub rule_kept : (layout : LayoutValue) (p : ItemPair) (old new : ListingValue) (rule : UnreadRule) → Grown layout p old new → RuleIsTold layout old rule → RuleIsTold layout new rule
rule_kept layout p old new rule grown told meaning leaves = subst (λ w. IsLeftBy w meaning rule) (sym grown.wanted) (told meaning (grown.left meaning leaves))

-- ---- what is put into a listing

module _ (layout : LayoutValue) (p : ItemPair) (node : NodeRef) (old : ListingValue) where
  broken_at : (ask : Ask) (said : Said) (breach : Breach) → IsAskedBy layout p ask → told_of layout.schema (item_at layout p.item) p.node ask ≡ Some (node, said)
      → IsRightOf layout p ask Fails → breach.node ≡ node → rule_said breach.rule ≡ said → IsNamed layout.schema node breach.url.now breach.id.now
      → (outermost : Item) (profile : NodeRef) (place : Place) → IsMet layout p outermost profile place → IsBroken layout.schema outermost profile breach
  broken_at ask said breach asked told fails e f named outermost profile place met = record {
    place = place;
    resource = resource_of layout p.item;
    itself = item_at layout p.item;
    node = p.node;
    ask = ask;
    met = met;
    asked = asked;
    fails = sym (fails lenient (around_of outermost place (resource_of layout p.item)) (met_there layout p.item outermost place));
    told = told ∙ (λ j. Some (sym e j, sym f j));
    named = subst (λ m. IsNamed layout.schema m breach.url.now breach.id.now) (sym e) named;
  }

  pub broken_lists : (ask : Ask) (said : Said) (breach : Breach) → IsToList layout old p ask → told_of layout.schema (item_at layout p.item) p.node ask ≡ Some (node, said)
      → IsRightOf layout p ask Fails → breach.node ≡ node → rule_said breach.rule ≡ said → IsNamed layout.schema node breach.url.now breach.id.now
      → Lists layout p ask old (record old { issues = old.issues ++ Broken breach ∷ [] })
  broken_lists ask said breach listed told fails e f named =
      let new : ListingValue = record old { issues = old.issues ++ Broken breach ∷ [] } in
      let left : (meaning : Interpretation) → Leaves layout new meaning → Leaves layout old meaning =
      λ meaning h. record { over = h.over; clear = issue_left old.wanted old.issues old.sites (Broken breach) meaning h.clear } in
      record {
        grown = record {
          wanted = refl;
          left = left;
          marked = marks_kept layout old new refl left;
          found = λ o profile place met before. (
            all_pushed (IsFound layout.schema o profile) old.issues (Broken breach) before.0 (broken_at ask said breach listed.asked told fails e f named o profile place met),
            before.1,
          );
        };
        told = λ marked meaning leaves around there.
            absurd (none_fails old.wanted old.issues (Broken breach) old.sites meaning
            (subst (IsAllowed old.wanted) (sym (fails (upper old.wanted) listed.allowed.0 listed.allowed.1)) listed.allowed.2) leaves.clear);
      }

  hanging_at : (rule : UnreadRule) → IsHanging layout old.wanted p node rule → (site : Site) (unread : Unread) → site.node ≡ node → site.unread ≡ unread → unread_seen unread ≡ rule
      → under (upper old.wanted) old.wanted ≡ true → under (lower old.wanted) old.wanted ≡ false
      → IsNamed layout.schema node site.url.now site.id.now
      → (outermost : Item) (profile : NodeRef) (place : Place) → IsMet layout p outermost profile place
      → IsFoundSite layout.schema layout.given old.wanted outermost profile site
  hanging_at rule hanging site unread e f g above below named outermost profile place met =
      let here = around_of outermost place (resource_of layout p.item) in
      let there = met_there layout p.item outermost place in
      let same : unread_seen site.unread ≡ rule = ap unread_seen f ∙ g in
      record {
        place = place;
        resource = resource_of layout p.item;
        itself = item_at layout p.item;
        node = p.node;
        ask = hanging.ask;
        said = hanging.said;
        met = met;
        asked = hanging.asked;
        told = hanging.told ∙ (λ j. Some (sym e j, hanging.said));
        carried = subst (Contains (ask_unread layout.schema (item_at layout p.item) hanging.ask)) (sym same) hanging.carried;
        holds = sym (hanging.hangs (upper old.wanted) here there) ∙ above;
        fails = sym (hanging.hangs (lower old.wanted) here there) ∙ below;
        rule_holds = ap (meaning_of layout.given (upper old.wanted)) same ∙ hanging.between.0;
        rule_fails = ap (meaning_of layout.given (lower old.wanted)) same ∙ hanging.between.1;
        named = subst (λ m. IsNamed layout.schema m site.url.now site.id.now) (sym e) named;
      }

  pub site_grown : (rule : UnreadRule) → IsHanging layout old.wanted p node rule → (site : Site) (unread : Unread) → site.node ≡ node → site.unread ≡ unread → unread_seen unread ≡ rule
      → under (upper old.wanted) old.wanted ≡ true → under (lower old.wanted) old.wanted ≡ false
      → IsNamed layout.schema node site.url.now site.id.now → Grown layout p old (record old { sites = old.sites ++ site ∷ [] })
  site_grown rule hanging site unread e f g above below named =
      let new : ListingValue = record old { sites = old.sites ++ site ∷ [] } in
      let left : (meaning : Interpretation) → Leaves layout new meaning → Leaves layout old meaning =
      λ meaning h. record { over = h.over; clear = site_left old.wanted old.issues old.sites site meaning h.clear } in
      record {
        wanted = refl;
        left = left;
        marked = marks_kept layout old new refl left;
        found = λ o profile place met before. (
          before.0,
          all_pushed (IsFoundSite layout.schema layout.given old.wanted o profile) old.sites site before.1 (hanging_at rule hanging site unread e f g above below named o profile place met),
        );
      }

  pub site_told : (site : Site) (unread : Unread) → site.unread ≡ unread → RuleIsTold layout (record old { sites = old.sites ++ site ∷ [] }) (unread_seen unread)
  site_told site unread f meaning leaves =
      subst (IsLeftBy old.wanted meaning) (ap unread_seen f) (site_leaves old.wanted old.issues old.sites site meaning leaves.clear)

-- by what hangs on unread rules the one reading differs from the other
pub hangs_above : (w : Judgement) → is_hanging w ≡ true → under (upper w) w ≡ true
hangs_above Holds e = absurd (false≢true e)
hangs_above Given e = refl
hangs_above Open e = refl
hangs_above Fails e = absurd (false≢true e)

pub hangs_below : (w : Judgement) → is_hanging w ≡ true → under (lower w) w ≡ false
hangs_below Holds e = absurd (false≢true e)
hangs_below Given e = refl
hangs_below Open e = refl
hangs_below Fails e = refl

-- what may be listed may be so later
pub to_list_since : (layout : LayoutValue) (p : ItemPair) (ask : Ask) (old new : ListingValue) → new.wanted ≡ old.wanted → IsToList layout old p ask → IsToList layout new p ask
to_list_since layout p ask old new e h = record {
  asked = h.asked;
  allowed =
      subst (λ w. (around : Around) × IsThere layout p.item around × IsAllowed w (ask_conforms layout.schema (as_read layout.given (upper w)) around (item_at layout p.item) ask)) (sym e) h.allowed;
}

-- An ask that has another judgement than the wanted one is told, and nothing is listed. It is one of those that hold by each meaning
-- that says no less.
pub lists_other : (layout : LayoutValue) (p : ItemPair) (ask : Ask) (old : ListingValue) (a : Judgement)
    → ((less more : Interpretation) → IsOver less more → (around : Around) → IsTrue (ask_conforms layout.schema less around (item_at layout p.item) ask)
    → IsTrue (ask_conforms layout.schema more around (item_at layout p.item) ask))
    → IsToList layout old p ask → IsRightOf layout p ask a → same_judgement a old.wanted ≡ false → Lists layout p ask old old
lists_other layout p ask old a raised listed right other = record {
  grown = grown_none layout p old;
  told = λ marked meaning leaves around there.
      raised (as_read layout.given (lower old.wanted)) meaning leaves.over around
      (sym (right (lower old.wanted) around there)
      ∙ not_wanted old.wanted a old.issues old.sites meaning
      (subst (IsAllowed old.wanted) (sym (right (upper old.wanted) listed.allowed.0 listed.allowed.1)) listed.allowed.2) other leaves.clear);
}

-- a rule by its item's own nearest resource, and where the item stands
pub judged_there : (layout : LayoutValue) (p : ItemPair) (rule : ElementRuleName) (node : NodeRef) (a : Judgement)
    → ((r : Reading) → under r a ≡ rule_holds layout.schema (meaning_of layout.given r) (resource_of layout p.item) (item_at layout p.item) rule node)
    → IsRightOf layout p (own rule node) a
judged_there layout p rule node a right r around there =
    right r ∙ ap (λ (z : Item). rule_holds layout.schema (meaning_of layout.given r) z (item_at layout p.item) rule node) (sym there)
