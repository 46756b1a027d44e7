use Rattle.std.proofs.Common.{◌≡◌, ◌<◌, ◌&&◌, ◌||◌, false, Some, List, eqb, length, map, string_bytes, arith, refl, sym, ap, ◌∙◌, subst}
use Rattle.std.specs.List.{list_any}
use Rattle.fhir_json.specs.Bytes.{is_empty}
use Rattle.fhir_elements.specs.TypeEntry.{TypeEntry}
use Rattle.fhir_schema.specs.Schemas.{is_root_node, loaded, types}
use Rattle.fhir_facets.specs.Unread.{meaning_of}
use Rattle.fhir_conformance.specs.Asks.{asks, child}
use Rattle.fhir_conformance.specs.Conformance.{as_read, conforms, entry_holds, profile_holds, profiles_hold, ask_conforms}
use Rattle.fhir_conformance.specs.Views.{ask_seen, asks_seen}
use Rattle.fhir_validator.specs.declared.pair.ItemPair.{ItemPair}
use Rattle.fhir_validator.specs.Judgements.{under}
use Rattle.fhir_validator.specs.Layouts.{item_at}
use Rattle.fhir_validator.specs.Judging.{IsRight, IsRightOf, IsOrdered}
use Rattle.fhir_validator.proofs.Judged.{weaker, ordered_at, one_more, one_more_any, some_holds, none_left, empty_mapped, any_mapped, all_answered, of_kid, of_none}
use Rattle.fhir_validator.proofs.Measures.{weight, lighter_root, lighter_kid}
use Rattle.fhir_validator.proofs.judging.Judge.+judging.Goals as goal

pub ask_judgement-judgement_of-requires : goal.ask_judgement-judgement_of-requires
ask_judgement-judgement_of-requires t c =
    let layout = c.args.self.now in
    let q : ItemPair = record { item = c.args.pair.item; node = c.in-Root.node } in
    let ordered = subst (λ a. IsOrdered layout.schema c.args.pair.node (ask_seen a)) c.in-Root.is c.requires.ordered in
    let h : weight layout q < weight layout c.args.pair = lighter_root layout c.args.pair q refl ordered.0 ordered.1 in
    omega (arith, h, c.decreases)

pub judge_pair-ask_judgement-requires : goal.judge_pair-ask_judgement-requires
judge_pair-ask_judgement-requires t c =
    let layout = c.args.self.now in
    let s = layout.schema in
    let x = item_at layout c.args.pair.item in
    let e : asks_seen c.deref-ask-items.result.now ≡ asks s x c.args.pair.node =
    ap asks_seen c.deref-ask-items.ensures.value ∙ c.in_ok-asked.ensures in
    let ordered = ordered_at s (c.roots_are_roots.ensures.of_type s) (c.roots_are_roots.ensures.of_canonical s) x c.args.pair.node c.deref-ask-items.result.now c.loop-ask.ask-index _ e c.loop-ask-test.true in
    let same : weight c.loop-ask.self c.args.pair ≡ weight c.args.self.now c.args.pair = ap (λ l. weight l c.args.pair) c.loop-ask.invariant.same in
    (omega (arith, same, c.decreases), rw c.loop-ask.invariant.same ordered)

pub judge_pair-loop-ask-preserved : goal.judge_pair-loop-ask-preserved
judge_pair-loop-ask-preserved t c =
    let layout = c.args.self.now in
    let exact = rw c.loop-ask.invariant.same at c.in_ok-ask_judgement.ensures.exact in
    record {
      judgement = λ r around there.
          one_more (λ ask. ask_conforms layout.schema (as_read c.args.self.now.given r) around (item_at layout c.args.pair.item) (ask_seen ask))
          c.deref-ask-items.result.now c.loop-ask.ask-index _ (under r c.loop-ask.judgement) (under r c.and-judgement.result) (under r c.in_ok-ask_judgement.field-0)
          c.loop-ask-test.true (c.and-judgement.ensures r) (c.loop-ask.invariant.judgement r around there) (exact r around there);
      same = c.in_ok-ask_judgement.ensures.same ∙ c.loop-ask.invariant.same;
    }

pub judge_pair-returns-clause-exact : goal.judge_pair-returns-clause-exact
judge_pair-returns-clause-exact t c = λ r around there.
    let s = c.args.self.now.schema in
    let x = item_at c.args.self.now c.args.pair.item in
    let e : asks_seen c.deref-ask-items.result.now ≡ asks s x c.args.pair.node =
    ap asks_seen c.deref-ask-items.ensures.value ∙ c.in_ok-asked.ensures in
    all_answered s (c.roots_are_roots.ensures.of_type s) (c.roots_are_roots.ensures.of_canonical s) (as_read c.args.self.now.given r) around x c.args.pair.node c.deref-ask-items.result.now c.loop-ask.ask-index (under r c.loop-ask.judgement)
    e c.loop-ask-test.false (c.loop-ask.invariant.judgement r around there)

pub kid_judgement-judgement_of-requires : goal.kid_judgement-judgement_of-requires
kid_judgement-judgement_of-requires t c =
    let layout = c.args.self.now in
    let q : ItemPair = record { item = c.in-Some.item; node = c.args.node } in
    let h : weight layout q < weight layout c.args.pair =
    lighter_kid layout c.args.pair q (rw c.layout.ensures at c.in-Some.ensures.behind) (rw c.layout.ensures at c.in-Some.ensures.within) in
    omega (arith, h, c.decreases)

pub kid_judgement-returns-in-Some-clause-exact : goal.kid_judgement-returns-in-Some-clause-exact
kid_judgement-returns-in-Some-clause-exact t c =
    let layout = c.args.self.now in
    let q : ItemPair = record { item = c.in-Some.item; node = c.args.node } in
    weaker (IsRight layout q) (IsRightOf layout c.args.pair (child c.args.position c.args.node))
    (of_kid layout c.args.pair c.args.position c.args.node q refl (rw c.layout.ensures at c.in-Some.ensures.kid) (rw c.layout.ensures at c.in-Some.ensures.near)) c.judgement_of.result c.judgement_of.ensures.exact

pub kid_judgement-returns-in-None-clause-exact : goal.kid_judgement-returns-in-None-clause-exact
kid_judgement-returns-in-None-clause-exact t c =
    λ r around there. of_none c.args.self.now c.args.pair c.args.position c.args.node (rw c.layout.ensures at c.in-None.ensures.kid) (as_read c.args.self.now.given r) around

pub profile_judgement-judgement_of-requires : goal.profile_judgement-judgement_of-requires
profile_judgement-judgement_of-requires t c =
    let layout = c.args.self.now in
    let q : ItemPair = record { item = c.args.pair.item; node = c.in-Some.node } in
    let inner : is_root_node layout.schema c.args.pair.node ≡ false = assumption c.requires in
    let is : loaded layout.schema c.args.profile.now ≡ Some c.in-Some.node = sym (c.in-Some.ensures ∙ ap (λ s. loaded s c.args.profile.now) c.schema.ensures) in
    let h : weight layout q < weight layout c.args.pair =
    lighter_root layout c.args.pair q refl inner (c.roots_are_roots.ensures.of_canonical layout.schema c.args.profile.now c.in-Some.node is) in
    omega (arith, h)

pub types_judgement-entry_judgement-requires : goal.types_judgement-entry_judgement-requires
types_judgement-entry_judgement-requires t c =
    let same : weight c.loop-entry.self c.args.pair ≡ weight c.args.self.now c.args.pair = ap (λ l. weight l c.args.pair) c.loop-entry.invariant.same in
    (omega (arith, same, c.decreases), rw c.loop-entry.invariant.same c.requires.inner)

pub profiles_judgement-profile_judgement-requires : goal.profiles_judgement-profile_judgement-requires
profiles_judgement-profile_judgement-requires t c =
    let same : weight c.loop-profile.self c.args.pair ≡ weight c.args.self.now c.args.pair = ap (λ l. weight l c.args.pair) c.loop-profile.invariant.same in
    (omega (arith, same, c.decreases), rw c.loop-profile.invariant.same c.requires.inner)

pub profiles_judgement-returns-in-Holds-clause-exact : goal.profiles_judgement-returns-in-Holds-clause-exact
profiles_judgement-returns-in-Holds-clause-exact t c = λ r around there.
    let s = c.args.self.now.schema in
    let x = item_at c.args.self.now c.args.pair.item in
    let p = profile_holds s (meaning_of c.args.self.now.given r) (conforms s (as_read c.args.self.now.given r) around x) x in
    let xs = c.args.profiles.now in
    let exact = rw c.loop-profile.invariant.same at c.in_ok-one.ensures.exact in
    some_holds (λ profile. p (string_bytes profile)) xs c.loop-profile.profile-index c.profile-item.result (is_empty (map string_bytes xs)) c.loop-profile-test.true c.profile-item.is
    (ap (under r) (sym c.in-Holds.is) ∙ exact r around there ∙ ap p c.as_str.ensures.value)
    ∙ ap (λ t. is_empty (map string_bytes xs) || t) (any_mapped p string_bytes xs)

pub profiles_judgement-loop-profile-preserved : goal.profiles_judgement-loop-profile-preserved
profiles_judgement-loop-profile-preserved t c =
    let s = c.args.self.now.schema in
    let x = item_at c.args.self.now c.args.pair.item in
    let exact = rw c.loop-profile.invariant.same at c.in_ok-one.ensures.exact in
    record {
      judgement = λ r around there.
          let p = profile_holds s (meaning_of c.args.self.now.given r) (conforms s (as_read c.args.self.now.given r) around x) x in
          one_more_any (λ profile. p (string_bytes profile)) c.args.profiles.now c.loop-profile.profile-index c.profile-item.result
          (under r c.loop-profile.judgement) (under r c.or-judgement.result) (under r c.in_ok-one.one) c.loop-profile-test.true (c.or-judgement.ensures r)
          (c.loop-profile.invariant.judgement r around there)
          (exact r around there ∙ ap p c.as_str.ensures.value ∙ ap (λ profile. p (string_bytes profile)) c.profile-item.is);
      same = c.in_ok-one.ensures.same ∙ c.loop-profile.invariant.same;
    }

pub profiles_judgement-returns-clause-exact : goal.profiles_judgement-returns-clause-exact
profiles_judgement-returns-clause-exact t c = λ r around there.
    let s = c.args.self.now.schema in
    let x = item_at c.args.self.now c.args.pair.item in
    let p = profile_holds s (meaning_of c.args.self.now.given r) (conforms s (as_read c.args.self.now.given r) around x) x in
    let xs = c.args.profiles.now in
    none_left (λ profile. p (string_bytes profile)) xs c.loop-profile.profile-index (is_empty (map string_bytes xs)) (under r c.loop-profile.judgement)
    (sym (empty_mapped string_bytes xs) ∙ sym c.is_empty.ensures ∙ c.if-is_empty.false) c.loop-profile-test.false (c.loop-profile.invariant.judgement r around there)
    ∙ ap (λ t. is_empty (map string_bytes xs) || t) (any_mapped p string_bytes xs)

pub types_judgement-returns-in-Holds-clause-exact : goal.types_judgement-returns-in-Holds-clause-exact
types_judgement-returns-in-Holds-clause-exact t c = λ r around there.
    let s = c.args.self.now.schema in
    let x = item_at c.args.self.now c.args.pair.item in
    let p = entry_holds s (meaning_of c.args.self.now.given r) (conforms s (as_read c.args.self.now.given r) around x) x in
    let xs = c.types-entries.result.now in
    let exact = rw c.loop-entry.invariant.same at c.in_ok-one.ensures.exact in
    some_holds p xs c.loop-entry.entry-index c.entry-item.result (eqb (length xs) 0) c.loop-entry-test.true c.entry-item.is
    (ap (under r) (sym c.in-Holds.is) ∙ exact r around there)
    ∙ ap (λ (es : List TypeEntry). eqb (length es) 0 || list_any p es) (c.types-entries.ensures ∙ ap (λ s. types s c.args.pair.node) c.schema.ensures)

pub types_judgement-returns-clause-exact : goal.types_judgement-returns-clause-exact
types_judgement-returns-clause-exact t c = λ r around there.
    let s = c.args.self.now.schema in
    let x = item_at c.args.self.now c.args.pair.item in
    let p = entry_holds s (meaning_of c.args.self.now.given r) (conforms s (as_read c.args.self.now.given r) around x) x in
    let xs = c.types-entries.result.now in
    none_left p xs c.loop-entry.entry-index (eqb (length xs) 0) (under r c.loop-entry.judgement) (sym c.is_empty.ensures ∙ c.if-is_empty.false) c.loop-entry-test.false
    (c.loop-entry.invariant.judgement r around there)
    ∙ ap (λ (es : List TypeEntry). eqb (length es) 0 || list_any p es) (c.types-entries.ensures ∙ ap (λ s. types s c.args.pair.node) c.schema.ensures)

pub types_judgement-loop-entry-preserved : goal.types_judgement-loop-entry-preserved
types_judgement-loop-entry-preserved t c =
    let s = c.args.self.now.schema in
    let x = item_at c.args.self.now c.args.pair.item in
    let exact = rw c.loop-entry.invariant.same at c.in_ok-one.ensures.exact in
    record {
      judgement = λ r around there.
          let p = entry_holds s (meaning_of c.args.self.now.given r) (conforms s (as_read c.args.self.now.given r) around x) x in
          one_more_any p c.types-entries.result.now c.loop-entry.entry-index c.entry-item.result
          (under r c.loop-entry.judgement) (under r c.or-judgement.result) (under r c.in_ok-one.one) c.loop-entry-test.true (c.or-judgement.ensures r)
          (c.loop-entry.invariant.judgement r around there) (exact r around there ∙ ap p c.entry-item.is);
      same = c.in_ok-one.ensures.same ∙ c.loop-entry.invariant.same;
    }

pub entry_judgement-returns-in-Fails-clause-exact : goal.entry_judgement-returns-in-Fails-clause-exact
entry_judgement-returns-in-Fails-clause-exact t c = λ r around there.
    let s = c.args.self.now.schema in
    let x = item_at c.args.self.now c.args.pair.item in
    let m = meaning_of c.args.self.now.given r in
    let f = conforms s (as_read c.args.self.now.given r) around x in
    ap (λ b. b && profiles_hold s m f x c.args.entry.now.profiles) (ap (under r) (sym c.in-Fails.is) ∙ c.of-allows.ensures r ∙ c.entry.ensures.exact r)
