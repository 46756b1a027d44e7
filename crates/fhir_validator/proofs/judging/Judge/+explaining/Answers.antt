use Rattle.std.proofs.Common.{◌≡◌, ◌<◌, ◌+◌, ℕ, List, [], ◌∷◌, zero, suc, get_or, length, true, false, arith, refl, sym, ap, ◌∙◌, subst, Some}
use Rattle.std.specs.Prelude.{OnOk}
use Rattle.std.specs.List.{list_all, AllByRecursion, Contains}
use Rattle.std.proofs.lemmas.List.Folds.{list_all-map}
use Rattle.fhir_nodes.specs.declared.node.NodeRef.{NodeRef}
use Rattle.fhir_instance.specs.Items.{kids_of}
use Rattle.fhir_conformance.specs.Asks.{asks, types, profile, root, child}
use Rattle.fhir_conformance.specs.Conformance.{as_read, conforms, inside, below, ask_conforms}
use Rattle.fhir_conformance.specs.Positions.{kid_at}
use Rattle.fhir_conformance.specs.Meeting.{at_item, at_profile, at_child}
use Rattle.fhir_conformance.specs.Views.{ask_seen, asks_seen}
use Rattle.fhir_validator.specs.declared.pair.ItemPair.{ItemPair}
use Rattle.fhir_validator.specs.Judgements.{under, same_judgement}
use Rattle.fhir_validator.specs.Layouts.{item_at}
use Rattle.fhir_validator.specs.Judging.{IsRight, IsRightOf}
use Rattle.fhir_validator.specs.Listing.{upper, is_hanging, IsAllowed, IsHangingRoot, IsAskedBy, IsToList, PairIsTold, MarksAreTold, Grown, Lists}
use Rattle.fhir_conformance.proofs.ByAsks.{conforms_to}
use Rattle.fhir_validator.proofs.Asking.{ordered_in}
use Rattle.fhir_validator.proofs.Explained.{on_any, all_more, each_held, told_same, grown_marked, hangs_between, lists_held, types_told, other_told}
use Rattle.fhir_validator.proofs.Judged.{all_answered, asked_of, of_none, kid_there, standing, stands_there}
use Rattle.fhir_validator.proofs.Measures.{weight, lighter_root, lighter_kid}
use Rattle.fhir_validator.proofs.Raising.{types_asked_raised}
use Rattle.fhir_validator.proofs.Told.{on_ok, on_both, same_is, allowed_at, asked_at, grown_none, grown_more, grown_by, to_list_since, lists_other}
use Rattle.fhir_validator.proofs.judging.Judge.+explaining.Goals as goal

each_at : {A : Type 0} (P : A → Type 0) (xs : List A) (i : ℕ) (d : A) → i < length xs → AllByRecursion P xs → P (get_or xs i d)
each_at P [] i d h each = absurd (omega arith)
each_at P (x ∷ xs) zero d h each = each.0
each_at P (x ∷ xs) (suc i) d h each = each_at P xs i d (omega arith) each.1

-- ---- list_pair

pub list_pair-returns-then-is_marked-clause-told : goal.list_pair-returns-then-is_marked-clause-told
list_pair-returns-then-is_marked-clause-told t c = λ each. each c.args.pair (sym c.is_marked.ensures ∙ c.if-is_marked.true)

pub list_pair-returns-then-is_marked-clause-grown : goal.list_pair-returns-then-is_marked-clause-grown
list_pair-returns-then-is_marked-clause-grown t c = grown_none c.args.self.now c.args.pair c.args.listing.now

pub list_pair-returns-clause-told : goal.list_pair-returns-clause-told
list_pair-returns-clause-told t c =
    let layout = c.args.self.now in
    let p = c.args.pair in
    let old = c.args.listing.now in
    let new = c.mark.new.self in
    let told = told_same layout p c.list_asks.new.listing new c.mark.ensures.wanted c.mark.ensures.issues c.mark.ensures.sites in
    on_any (MarksAreTold layout old → PairIsTold layout p new) (λ each. told (c.in_ok-list_asks.ensures.told each)) c.mark.result

pub list_pair-returns-clause-grown : goal.list_pair-returns-clause-grown
list_pair-returns-clause-grown t c =
    let layout = c.args.self.now in
    let p = c.args.pair in
    let old = c.args.listing.now in
    let before = c.list_asks.new.listing in
    let new = c.mark.new.self in
    on_ok _ (Grown layout p old new)
    (λ marks. grown_marked layout p before new c.mark.ensures.wanted c.mark.ensures.issues c.mark.ensures.sites old marks c.in_ok-list_asks.ensures.grown c.in_ok-list_asks.ensures.told)
    c.mark.result c.mark.ensures.marks

-- ---- list_asks

pub list_asks-list_ask-requires : goal.list_asks-list_ask-requires
list_asks-list_ask-requires t c =
    let layout = c.args.self.now in
    let s = layout.schema in
    let p = c.args.pair in
    let x = item_at layout p.item in
    let n = p.node in
    let old = c.args.listing.now in
    let xs = c.deref-ask-items.result.now in
    let roots = c.roots_are_roots.ensures.of_type s in
    let others = c.roots_are_roots.ensures.of_canonical s in
    let e : asks_seen xs ≡ asks s x n = ap asks_seen c.deref-ask-items.ensures.value ∙ c.in_ok-asked.ensures in
    let here = standing layout p.item in
    let there = stands_there layout p.item in
    let meaning = as_read layout.given (upper old.wanted) in
    let all : under (upper old.wanted) old.wanted ≡ list_all (λ ask. ask_conforms s meaning here x (ask_seen ask)) xs =
    c.requires (upper old.wanted) here there ∙ conforms_to s roots others meaning here x n
    ∙ ap (list_all (ask_conforms s meaning here x)) (sym e) ∙ list_all-map (ask_conforms s meaning here x) ask_seen xs in
    let same : weight c.loop-ask.self p ≡ weight layout p = ap (λ l. weight l p) c.loop-ask.invariant.same in
    let now : IsToList layout old p (ask_seen (get_or xs c.loop-ask.ask-index _)) = record {
      asked = asked_at s x n xs c.loop-ask.ask-index _ e c.loop-ask-test.true;
      allowed = (here, there, allowed_at old.wanted (λ ask. ask_conforms s meaning here x (ask_seen ask)) xs c.loop-ask.ask-index _ c.loop-ask-test.true all);
    } in (
      omega (arith, same, c.decreases),
      (
        rw c.loop-ask.invariant.same (to_list_since layout p (ask_seen (get_or xs c.loop-ask.ask-index _)) old c.loop-ask.listing c.loop-ask.invariant.grown.wanted now),
        λ explains. c.loop-ask.invariant.grown.wanted ∙ sym c.wanted.ensures ∙ c.in_ok-explains.ensures.failing explains,
      ),
    )

pub list_asks-loop-ask-preserved : goal.list_asks-loop-ask-preserved
list_asks-loop-ask-preserved t c =
    let layout = c.args.self.now in
    let s = layout.schema in
    let p = c.args.pair in
    let x = item_at layout p.item in
    let old = c.args.listing.now in
    let before = c.loop-ask.listing in
    let new = c.list_ask.new.listing in
    let here = rw c.loop-ask.invariant.same at c.in_ok-list_ask.ensures.lists in
    record {
      same = c.in_ok-list_ask.ensures.same ∙ c.loop-ask.invariant.same;
      grown = grown_more layout p old before new c.loop-ask.invariant.grown here.grown;
      told = λ marked meaning leaves around there.
          all_more (λ ask. ask_conforms s meaning around x (ask_seen ask)) c.deref-ask-items.result.now c.loop-ask.ask-index _ c.loop-ask-test.true
          (c.loop-ask.invariant.told marked meaning (here.grown.left meaning leaves) around there) (here.told (c.loop-ask.invariant.grown.marked marked) meaning leaves around there);
    }

pub list_asks-returns-clause-told : goal.list_asks-returns-clause-told
list_asks-returns-clause-told t c = λ marked meaning leaves around there.
    let layout = c.args.self.now in
    let s = layout.schema in
    let p = c.args.pair in
    let x = item_at layout p.item in
    let n = p.node in
    let xs = c.deref-ask-items.result.now in
    let e : asks_seen xs ≡ asks s x n = ap asks_seen c.deref-ask-items.ensures.value ∙ c.in_ok-asked.ensures in
    sym (all_answered s (c.roots_are_roots.ensures.of_type s) (c.roots_are_roots.ensures.of_canonical s) meaning around x n xs c.loop-ask.ask-index true e c.loop-ask-test.false
    (sym (c.loop-ask.invariant.told marked meaning leaves around there)))

-- ---- list_ask

pub list_ask-list_rule-requires : goal.list_ask-list_rule-requires
list_ask-list_rule-requires t c = subst (λ a. IsToList c.args.self.now c.args.listing.now c.args.pair (ask_seen a)) c.in-Own.is c.requires.asked

pub list_ask-returns-in-Own-clause-lists : goal.list_ask-returns-in-Own-clause-lists
list_ask-returns-in-Own-clause-lists t c =
    subst (λ a. OnOk c.list_rule.result (Lists c.args.self.now c.args.pair (ask_seen a) c.args.listing.now c.list_rule.new.listing)) (sym c.in-Own.is) c.list_rule.ensures

pub list_ask-list_types-requires : goal.list_ask-list_types-requires
list_ask-list_types-requires t c =
    let layout = c.args.self.now in
    let s = layout.schema in
    let p = c.args.pair in
    let asked = subst (λ a. IsToList layout c.args.listing.now p (ask_seen a)) c.in-Types.is c.requires.asked in
    let ordered = ordered_in s (c.roots_are_roots.ensures.of_type s) (c.roots_are_roots.ensures.of_canonical s) (item_at layout p.item) p.node (types c.in-Types._node) asked.asked in
    (omega (arith, c.decreases), subst (λ m. IsToList layout c.args.listing.now p (types m)) ordered.1 asked)

pub list_ask-returns-in-Types-clause-lists : goal.list_ask-returns-in-Types-clause-lists
list_ask-returns-in-Types-clause-lists t c =
    let layout = c.args.self.now in
    let s = layout.schema in
    let p = c.args.pair in
    let asked = subst (λ a. IsToList layout c.args.listing.now p (ask_seen a)) c.in-Types.is c.requires.asked in
    let ordered = ordered_in s (c.roots_are_roots.ensures.of_type s) (c.roots_are_roots.ensures.of_canonical s) (item_at layout p.item) p.node (types c.in-Types._node) asked.asked in
    subst (λ a. OnOk c.list_types.result (Lists layout p (ask_seen a) c.args.listing.now c.list_types.new.listing)) (sym c.in-Types.is)
    (subst (λ m. OnOk c.list_types.result (Lists layout p (types m) c.args.listing.now c.list_types.new.listing)) (sym ordered.1) c.list_types.ensures.lists)

pub list_ask-list_profile-requires : goal.list_ask-list_profile-requires
list_ask-list_profile-requires t c =
    let asked = subst (λ a. IsAskedBy c.args.self.now c.args.pair (ask_seen a)) c.in-Profile.is c.requires.asked.asked in
    (omega (arith, c.decreases), (asked, c.requires.failing))

pub list_ask-returns-in-Profile-clause-lists : goal.list_ask-returns-in-Profile-clause-lists
list_ask-returns-in-Profile-clause-lists t c =
    let layout = c.args.self.now in
    let p = c.args.pair in
    let old = c.args.listing.now in
    let new = c.list_profile.new.listing in
    subst (λ a. OnOk c.list_profile.result (Lists layout p (ask_seen a) old new)) (sym c.in-Profile.is)
    (on_ok (Grown layout p old new) (Lists layout p (profile c.in-Profile.root) old new) (λ grown. record { grown = grown; told = λ marked meaning leaves around there. refl })
    c.list_profile.result c.list_profile.ensures.grown)

pub list_ask-list_same-requires : goal.list_ask-list_same-requires
list_ask-list_same-requires t c =
    let layout = c.args.self.now in
    let s = layout.schema in
    let p = c.args.pair in
    let q : ItemPair = record { item = p.item; node = c.in-Root.node } in
    let asked = subst (λ a. IsToList layout c.args.listing.now p (ask_seen a)) c.in-Root.is c.requires.asked in
    let ordered = ordered_in s (c.roots_are_roots.ensures.of_type s) (c.roots_are_roots.ensures.of_canonical s) (item_at layout p.item) p.node (root c.in-Root.node) asked.asked in
    let h : weight layout q < weight layout p = lighter_root layout p q refl ordered.0 ordered.1 in
    (omega (arith, h, c.decreases), asked.allowed)

pub list_ask-returns-in-Root-clause-lists : goal.list_ask-returns-in-Root-clause-lists
list_ask-returns-in-Root-clause-lists t c =
    let layout = c.args.self.now in
    let p = c.args.pair in
    let q : ItemPair = record { item = p.item; node = c.in-Root.node } in
    let old = c.args.listing.now in
    let new = c.list_same.new.listing in
    let asked = subst (λ a. IsAskedBy layout p (ask_seen a)) c.in-Root.is c.requires.asked.asked in
    subst (λ a. OnOk c.list_same.result (Lists layout p (ask_seen a) old new)) (sym c.in-Root.is)
    (on_both (MarksAreTold layout old → PairIsTold layout q new) (Grown layout q old new) (Lists layout p (root c.in-Root.node) old new)
    (λ told grown. record { grown = grown_by layout p q old new (λ o profile place met. (place, at_item met asked)) grown; told = told })
    c.list_same.result c.list_same.ensures.told c.list_same.ensures.grown)

pub list_ask-list_kid-requires : goal.list_ask-list_kid-requires
list_ask-list_kid-requires t c =
    (omega (arith, c.decreases), subst (λ a. IsToList c.args.self.now c.args.listing.now c.args.pair (ask_seen a)) c.in-Child.is c.requires.asked)

pub list_ask-returns-in-Child-clause-lists : goal.list_ask-returns-in-Child-clause-lists
list_ask-returns-in-Child-clause-lists t c =
    subst (λ a. OnOk c.list_kid.result (Lists c.args.self.now c.args.pair (ask_seen a) c.args.listing.now c.list_kid.new.listing)) (sym c.in-Child.is) c.list_kid.ensures.lists

-- ---- types

pub list_types-types_judgement-requires : goal.list_types-types_judgement-requires
list_types-types_judgement-requires t c =
    let s = c.args.self.now.schema in
    let p = c.args.pair in
    record {
      inner = (ordered_in s (c.roots_are_roots.ensures.of_type s) (c.roots_are_roots.ensures.of_canonical s) (item_at c.args.self.now p.item) p.node (types p.node) c.requires.asked).0;
    }

pub list_types-list_misfit-requires-clause-asked : goal.list_types-list_misfit-requires-clause-asked
list_types-list_misfit-requires-clause-asked t c = rw c.in_ok-hanging.ensures.same c.requires

pub list_types-list_misfit-requires-clause-fails : goal.list_types-list_misfit-requires-clause-fails
list_types-list_misfit-requires-clause-fails t c =
    let fails = subst (IsRightOf c.args.self.now c.args.pair (types c.args.pair.node)) c.in-Fails.is c.in_ok-hanging.ensures.exact in
    rw c.in_ok-hanging.ensures.same fails

pub list_types-list_hanging-requires : goal.list_types-list_hanging-requires
list_types-list_hanging-requires t c =
    let p = c.args.pair in
    let same : weight c.types_judgement.new.self p ≡ weight c.args.self.now p = ap (λ l. weight l p) c.in_ok-hanging.ensures.same in (
      omega (arith, same, c.decreases),
      (
        rw c.in_ok-hanging.ensures.same c.requires,
        (rw c.in_ok-hanging.ensures.same c.in_ok-hanging.ensures.exact, hangs_between c.in_ok-hanging.hanging c.in_default.not-Holds c.in_default.not-Fails),
      ),
    )

pub list_types-returns-in-Holds-clause-lists : goal.list_types-returns-in-Holds-clause-lists
list_types-returns-in-Holds-clause-lists t c =
    let layout = c.args.self.now in
    let s = layout.schema in
    let p = c.args.pair in
    lists_held layout p (types p.node) c.args.listing.now
    (λ less more over around. types_asked_raised s (item_at layout p.item) (c.hangs_on_carried.ensures.entries s) (c.positive.ensures.items s) less more over around p.node)
    (subst (IsRightOf layout p (types p.node)) c.in-Holds.is c.in_ok-hanging.ensures.exact)

pub list_types-returns-in-Fails-clause-lists : goal.list_types-returns-in-Fails-clause-lists
list_types-returns-in-Fails-clause-lists t c = rw c.in_ok-hanging.ensures.same at c.list_misfit.ensures

pub list_types-returns-in_default-clause-lists : goal.list_types-returns-in_default-clause-lists
list_types-returns-in_default-clause-lists t c = rw c.in_ok-hanging.ensures.same at c.list_hanging.ensures.lists

-- ---- list_hanging

pub list_hanging-open_roots-requires : goal.list_hanging-open_roots-requires
list_hanging-open_roots-requires t c =
    let layout = c.args.self.now in
    let s = layout.schema in
    let p = c.args.pair in
    let ordered = ordered_in s (c.roots_are_roots.ensures.of_type s) (c.roots_are_roots.ensures.of_canonical s) (item_at layout p.item) p.node (types p.node) c.requires.asked.asked in
    let is : c.args.judgement ≡ c.args.listing.now.wanted =
    same_is c.args.judgement c.args.listing.now.wanted (ap (same_judgement c.args.judgement) (sym c.wanted.ensures) ∙ sym c.is.ensures ∙ c.if-not-is.false) in
    record {
      inner = ordered.0;
      asked = c.requires.asked.asked;
      hangs = subst (IsRightOf layout p (types p.node)) is c.requires.hangs;
      of_hanging = subst (λ w. is_hanging w ≡ true) is c.requires.hanging;
    }

pub list_hanging-list_root-requires : goal.list_hanging-list_root-requires
list_hanging-list_root-requires t c =
    let layout = c.args.self.now in
    let p = c.args.pair in
    let old = c.args.listing.now in
    let xs = c.deref-root-items.result.now in
    let grows = c.in_ok-roots.ensures.settles.grows in
    let all : AllByRecursion (IsHangingRoot layout old.wanted p) xs =
    subst (AllByRecursion (IsHangingRoot layout old.wanted p)) (sym c.deref-root-items.ensures.value) (grows.hanging tt) in
    let this = each_at (IsHangingRoot layout old.wanted p) xs c.loop-root.root-index _ c.loop-root-test.true all in
    let now : c.loop-root.listing.wanted ≡ old.wanted = c.loop-root.invariant.grown.wanted ∙ grows.grown.wanted in
    let same : weight c.loop-root.self p ≡ weight layout p = ap (λ l. weight l p) c.loop-root.invariant.same in
    (omega (arith, same, c.decreases), (rw c.loop-root.invariant.same this.0, rw (c.loop-root.invariant.same, now) this.1))

pub list_hanging-loop-root-preserved : goal.list_hanging-loop-root-preserved
list_hanging-loop-root-preserved t c =
    let layout = c.args.self.now in
    let p = c.args.pair in
    let grown = rw c.loop-root.invariant.same at c.in_ok-list_root.ensures.grown in
    let told = rw c.loop-root.invariant.same at c.in_ok-list_root.ensures.told in
    record {
      same = c.in_ok-list_root.ensures.same ∙ c.loop-root.invariant.same;
      grown = grown_more layout p c.open_roots.new.listing c.loop-root.listing c.list_root.new.listing c.loop-root.invariant.grown grown;
      told = λ marked meaning leaves around there.
          all_more (conforms layout.schema meaning around (item_at layout p.item)) c.deref-root-items.result.now c.loop-root.root-index _ c.loop-root-test.true
          (c.loop-root.invariant.told marked meaning (grown.left meaning leaves) around there) (told (c.loop-root.invariant.grown.marked marked) meaning leaves around there);
    }

pub list_hanging-returns-then-not-is-clause-lists : goal.list_hanging-returns-then-not-is-clause-lists
list_hanging-returns-then-not-is-clause-lists t c =
    let layout = c.args.self.now in
    let s = layout.schema in
    let p = c.args.pair in
    lists_other layout p (types p.node) c.args.listing.now c.args.judgement
    (λ less more over around. types_asked_raised s (item_at layout p.item) (c.hangs_on_carried.ensures.entries s) (c.positive.ensures.items s) less more over around p.node)
    c.requires.asked c.requires.hangs (ap (same_judgement c.args.judgement) (sym c.wanted.ensures) ∙ sym c.is.ensures ∙ c.if-not-is.true)

pub list_hanging-returns-clause-lists : goal.list_hanging-returns-clause-lists
list_hanging-returns-clause-lists t c =
    let layout = c.args.self.now in
    let s = layout.schema in
    let p = c.args.pair in
    let x = item_at layout p.item in
    let old = c.args.listing.now in
    let opened = c.open_roots.new.listing in
    let xs = c.deref-root-items.result.now in
    let settles = c.in_ok-roots.ensures.settles in
    let since = c.loop-root.invariant in
    let is : c.args.judgement ≡ opened.wanted =
    same_is c.args.judgement old.wanted (ap (same_judgement c.args.judgement) (sym c.wanted.ensures) ∙ sym c.is.ensures ∙ c.if-not-is.false) ∙ sym settles.grows.grown.wanted in
    record {
      grown = grown_more layout p old opened c.loop-root.listing settles.grows.grown since.grown;
      told = λ marked meaning leaves around there.
          types_told layout p opened c.in_ok-roots.roots.items (subst (λ w. is_hanging w ≡ true) is c.requires.hanging) (subst (IsRightOf layout p (types p.node)) is c.requires.hangs)
          settles.settled meaning (since.grown.left meaning leaves) around there
          (λ r has. each_held (conforms s meaning around x) xs c.loop-root.root-index c.loop-root-test.false (since.told (settles.grows.grown.marked marked) meaning leaves around there) r
          (subst (λ (rs : List NodeRef). Contains rs r) (sym c.deref-root-items.ensures.value) has));
    }

pub list_root-list_pair-requires : goal.list_root-list_pair-requires
list_root-list_pair-requires t c =
    let layout = c.args.self.now in
    let s = layout.schema in
    let p = c.args.pair in
    let q : ItemPair = record { item = p.item; node = c.args.root } in
    let ordered = ordered_in s (c.roots_are_roots.ensures.of_type s) (c.roots_are_roots.ensures.of_canonical s) (item_at layout p.item) p.node (profile c.args.root) c.requires.asked in
    let h : weight layout q < weight layout p = lighter_root layout p q refl ordered.0 ordered.1 in
    (omega (arith, h, c.decreases), c.requires.wanted)

pub list_root-returns-clause-grown : goal.list_root-returns-clause-grown
list_root-returns-clause-grown t c =
    let layout = c.args.self.now in
    let p = c.args.pair in
    let q : ItemPair = record { item = p.item; node = c.args.root } in
    let old = c.args.listing.now in
    let new = c.list_pair.new.listing in
    on_ok (Grown layout q old new) (Grown layout p old new) (grown_by layout p q old new (λ o profile place met. (place, at_profile met c.requires.asked))) c.list_pair.result c.list_pair.ensures.grown

-- ---- pairs

pub list_profile-list_same-requires : goal.list_profile-list_same-requires
list_profile-list_same-requires t c =
    let layout = c.args.self.now in
    let s = layout.schema in
    let p = c.args.pair in
    let q : ItemPair = record { item = p.item; node = c.args.root } in
    let ordered = ordered_in s (c.roots_are_roots.ensures.of_type s) (c.roots_are_roots.ensures.of_canonical s) (item_at layout p.item) p.node (profile c.args.root) c.requires.asked in
    let h : weight layout q < weight layout p = lighter_root layout p q refl ordered.0 ordered.1 in
    let here = standing layout p.item in
    let allowed = subst (λ w. IsAllowed w (conforms s (as_read layout.given (upper w)) here (item_at layout p.item) c.args.root)) (sym (c.requires.failing c.if-explains.true)) tt in
    (omega (arith, h, c.decreases), (here, stands_there layout p.item, allowed))

pub list_profile-returns-then-explains-clause-grown : goal.list_profile-returns-then-explains-clause-grown
list_profile-returns-then-explains-clause-grown t c =
    let layout = c.args.self.now in
    let p = c.args.pair in
    let q : ItemPair = record { item = p.item; node = c.args.root } in
    let old = c.args.listing.now in
    let new = c.list_same.new.listing in
    on_ok (Grown layout q old new) (Grown layout p old new) (grown_by layout p q old new (λ o profile place met. (place, at_profile met c.requires.asked))) c.list_same.result c.list_same.ensures.grown

pub list_kid-list_same-requires : goal.list_kid-list_same-requires
list_kid-list_same-requires t c =
    let layout = c.args.self.now in
    let s = layout.schema in
    let p = c.args.pair in
    let q : ItemPair = record { item = c.in-Some.item; node = c.args.node } in
    let x = item_at layout p.item in
    let h : weight layout q < weight layout p = lighter_kid layout p q (rw c.layout.ensures at c.in-Some.ensures.behind) (rw c.layout.ensures at c.in-Some.ensures.within) in
    let around = c.requires.allowed.0 in
    let allowed = subst (IsAllowed c.args.listing.now.wanted)
    (asked_of layout p c.args.position c.args.node (as_read layout.given (upper c.args.listing.now.wanted)) around (Some (item_at layout q.item)) (rw c.layout.ensures at c.in-Some.ensures.kid)) c.requires.allowed.2 in
    let there = kid_there layout p c.args.position c.args.node q.item (rw c.layout.ensures at c.in-Some.ensures.near) around c.requires.allowed.1 in
    (omega (arith, h, c.decreases), (below (inside s around x) (0 + c.args.position), there, allowed))

pub list_kid-returns-in-Some-clause-lists : goal.list_kid-returns-in-Some-clause-lists
list_kid-returns-in-Some-clause-lists t c =
    let layout = c.args.self.now in
    let s = layout.schema in
    let p = c.args.pair in
    let q : ItemPair = record { item = c.in-Some.item; node = c.args.node } in
    let x = item_at layout p.item in
    let old = c.args.listing.now in
    let new = c.list_same.new.listing in
    let kid : Some (item_at layout q.item) ≡ kid_at (kids_of x) c.args.position = rw c.layout.ensures at c.in-Some.ensures.kid in
    let near = rw c.layout.ensures at c.in-Some.ensures.near in
    on_both (MarksAreTold layout old → PairIsTold layout q new) (Grown layout q old new) (Lists layout p (child c.args.position c.args.node) old new)
    (λ told grown. record {
      grown = grown_by layout p q old new (λ o profile place met. (_, at_child c.args.position met c.requires.asked (sym kid) refl near)) grown;
      told = λ marked meaning leaves around there.
          asked_of layout p c.args.position c.args.node meaning around (Some (item_at layout q.item)) kid
          ∙ told marked meaning leaves (below (inside s around x) (0 + c.args.position)) (kid_there layout p c.args.position c.args.node q.item near around there);
    }) c.list_same.result c.list_same.ensures.told c.list_same.ensures.grown

pub list_kid-returns-in-None-clause-lists : goal.list_kid-returns-in-None-clause-lists
list_kid-returns-in-None-clause-lists t c =
    let layout = c.args.self.now in
    let p = c.args.pair in
    record {
      grown = grown_none layout p c.args.listing.now;
      told = λ marked meaning leaves around there. sym (of_none layout p c.args.position c.args.node (rw c.layout.ensures at c.in-None.ensures.kid) meaning around);
    }

pub list_same-list_pair-requires : goal.list_same-list_pair-requires
list_same-list_pair-requires t c =
    let p = c.args.pair in
    let e : c.in_ok-judgement.judgement ≡ c.args.listing.now.wanted = same_is c.in_ok-judgement.judgement c.args.listing.now.wanted (ap (same_judgement c.in_ok-judgement.judgement) (sym c.wanted.ensures) ∙ sym c.is.ensures ∙ c.if-is.true) in
    let right = subst (IsRight c.args.self.now p) e c.in_ok-judgement.ensures.exact in
    let same : weight c.judgement_of.new.self p ≡ weight c.args.self.now p = ap (λ l. weight l p) c.in_ok-judgement.ensures.same in
    (omega (arith, same, c.decreases), rw c.in_ok-judgement.ensures.same right)

pub list_same-returns-then-is-clause-told : goal.list_same-returns-then-is-clause-told
list_same-returns-then-is-clause-told t c = rw c.in_ok-judgement.ensures.same at c.list_pair.ensures.told

pub list_same-returns-then-is-clause-grown : goal.list_same-returns-then-is-clause-grown
list_same-returns-then-is-clause-grown t c = rw c.in_ok-judgement.ensures.same at c.list_pair.ensures.grown

pub list_same-returns-else-is-clause-told : goal.list_same-returns-else-is-clause-told
list_same-returns-else-is-clause-told t c =
    let layout = c.args.self.now in
    let judgement = c.in_ok-judgement.judgement in
    let other : same_judgement judgement c.args.listing.now.wanted ≡ false = ap (same_judgement judgement) (sym c.wanted.ensures) ∙ sym c.is.ensures ∙ c.if-is.false in
    λ marked. other_told layout c.args.pair c.args.listing.now judgement (c.positive.ensures.items layout.schema) c.requires c.in_ok-judgement.ensures.exact other

pub list_same-returns-else-is-clause-grown : goal.list_same-returns-else-is-clause-grown
list_same-returns-else-is-clause-grown t c = grown_none c.args.self.now c.args.pair c.args.listing.now
