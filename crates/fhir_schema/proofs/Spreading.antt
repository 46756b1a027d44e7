-- Rounds over those alone that rest on what the last one found find what rounds find.
use Rattle.std.proofs.Common.{◌≡◌, ℕ, zero, suc, ◌<◌, ◌≤◌, ◌+◌, ◌-◌, List, [], ◌∷◌, ◌++◌, length, get_or, set, refl, ap, subst, sym, ◌∙◌, IsTrue, arith}
use Rattle.std.specs.Option.{option_or}
use Rattle.std.proofs.Common.{Bool, true, false, ◌&&◌, ◌||◌, cond, nat_eq, nat_lt, Option, Some, None, is_some, is_none, ◌⊎◌, inl, inr}
use Rattle.std.specs.List.{list_all, list_any, slice_get}
use Rattle.std.proofs.lemmas.Bool.{cases_eq, cases_lt, and_parts, and_from, or_cases, or_left, or_right}
use Rattle.std.proofs.lemmas.Bool.{eqb-true, eq-eqb, lt-ltb, ltb-true, false≢true}
use Rattle.std.proofs.lemmas.Option.{none-some}
use Rattle.std.proofs.lemmas.List.{length-set, length-map, get_or-set_same, get_or-set_other, get_or_past, get_or_default, same_lists}
use Rattle.std.proofs.lemmas.List.Folds.{list_any-append}
use Rattle.fhir_elements.specs.declared.reason.Reason.{Reason}
use Rattle.fhir_elements.specs.declared.reason.Reason.TheVariants.{UnusableType, NoTree, MissingContent}
use Rattle.fhir_elements.specs.Tests.{first_of, all_hold}
use Rattle.fhir_definition.specs.Snapshot.{is_at}
use Rattle.fhir_definition.specs.Definition.{Definition}
use Rattle.fhir_nodes.specs.Tables.{ArePlaced}
use Rattle.fhir_schema.specs.Settling.{Reasons, reason_at, fault_of, has_tree, lasting_tests, types_are_usable, targets_are_usable, tests, round, rounds, no_reasons, all_reasons}
use Rattle.fhir_schema.specs.Resting.{rests_on, users_of, first_reasons, unusable_at, unusable_from}
use Rattle.fhir_schema.specs.Blaming.{reason_in, is_unblamed, judged, queued, all_judged, all_queued, users_judged, users_queued, known_at, all_known}
use Rattle.fhir_schema.proofs.Failing.{none_fails, hold_none, both_hold_more, both_hold}
use Rattle.fhir_schema.proofs.Rounds.{one_more}
use Rattle.fhir_schema.proofs.Settles.{keeps, first_round, round_at, length_round, at_rest}
use Rattle.fhir_schema.proofs.Users.{is_usable, others_ask, has, listed}

-- a place has a reason
abbrev pub HasReason : Reasons → ℕ → Type 0
HasReason reasons place = IsTrue (is_some (reason_at reasons place))

abbrev is_in : ℕ → List ℕ → Bool
is_in q places = list_any (nat_eq q) places

no_reason : {A : Type 0} (reasons : Reasons) (q : ℕ) → HasReason reasons q → reason_at reasons q ≡ None → A
no_reason reasons q some none = absurd (false≢true (sym (ap is_some none) ∙ some))

none_or : (o : Option Reason) → (is_some o ≡ true → ⊥) → o ≡ None
none_or None h = refl
none_or (Some r) h = absurd (h refl)

some_within : (reasons : Reasons) (place : ℕ) → HasReason reasons place → place < length reasons
some_within reasons place h = go (cases_lt place (length reasons))
  where
    go : (place < length reasons) ⊎ (length reasons ≤ place) → place < length reasons
    go (inl below) = below
    go (inr past) = no_reason reasons place h (get_or_past reasons place None past)

pub definition_at : (xs : List Definition) (p : ℕ) → p < length xs → (d : Definition) × (slice_get xs p ≡ Some d)
definition_at [] p h = absurd (omega arith)
definition_at (x ∷ xs) zero h = (x, refl)
definition_at (x ∷ xs) (suc p) h = let less : p < length xs = omega arith in definition_at xs p less

-- ---- the places that have a reason

in_push : (queue : List ℕ) (place : ℕ) → is_in place (queue ++ place ∷ []) ≡ true
in_push queue place =
    list_any-append (nat_eq place) queue (place ∷ [])
    ∙ or_right (is_in place queue) (is_in place (place ∷ [])) (or_left (nat_eq place place) false (eq-eqb place place refl))

in_left : (q : ℕ) (some more : List ℕ) → is_in q some ≡ true → is_in q (some ++ more) ≡ true
in_left q some more h = list_any-append (nat_eq q) some more ∙ or_left (is_in q some) (is_in q more) h

in_right : (q : ℕ) (some more : List ℕ) → is_in q more ≡ true → is_in q (some ++ more) ≡ true
in_right q some more h = list_any-append (nat_eq q) some more ∙ or_right (is_in q some) (is_in q more) h

unusable_in : (n p m : ℕ) (reasons : Reasons) → n + p ≡ m → HasReason reasons p → is_in m (unusable_from n reasons) ≡ true
unusable_in n p m [] e h = absurd (false≢true h)
unusable_in n zero m (r ∷ rs) e h =
    let here : m ≡ n = omega arith in
    in_left m (unusable_at n r) (unusable_from (suc n) rs)
    (subst (λ b. is_in m (cond b (n ∷ []) []) ≡ true) (sym h) (or_left (nat_eq m n) false (eq-eqb m n here)))
unusable_in n (suc p) m (r ∷ rs) e h =
    in_right m (unusable_at n r) (unusable_from (suc n) rs) (unusable_in (suc n) p m rs (omega arith) h)

-- ---- places are judged

unblamed_parts : (reasons : Reasons) (place : ℕ) → is_unblamed reasons place ≡ true → (place < length reasons) × (reason_at reasons place ≡ None)
unblamed_parts reasons place e =
    let parts = and_parts (nat_lt place (length reasons)) (is_none (reason_at reasons place)) e in
    (ltb-true place (length reasons) parts.0, go (reason_at reasons place) parts.1)
  where
    go : (o : Option Reason) → is_none o ≡ true → o ≡ None
    go None s = refl
    go (Some r) s = absurd (false≢true s)

-- a place without a reason is judged
not_blamed : {A : Type 0} (reasons : Reasons) (place : ℕ) → place < length reasons → reason_at reasons place ≡ None
    → is_unblamed reasons place ≡ false → A
not_blamed reasons place within none e =
    absurd (false≢true (sym e ∙ and_from (nat_lt place (length reasons)) (is_none (reason_at reasons place)) (lt-ltb place (length reasons) within) (ap is_none none)))

module _ (judge : ℕ → Option Reason) where
  -- what becomes of reasons and of a queue, where those places are judged of which a test says so
  record Turns (asks : ℕ → Bool) (reasons next : Reasons) (queue longer : List ℕ) : Type 0 where
    pub counted : length next ≡ length reasons
    pub kept : (q : ℕ) (r : Reason) → reason_at reasons q ≡ Some r → reason_at next q ≡ Some r
    pub new : (q : ℕ) → q < length reasons → asks q ≡ true → reason_at reasons q ≡ None → reason_at next q ≡ judge q
    pub same : (q : ℕ) → asks q ≡ false → reason_at next q ≡ reason_at reasons q
    pub stays : (q : ℕ) → is_in q queue ≡ true → is_in q longer ≡ true
    pub waits : (q : ℕ) → HasReason next q → reason_at reasons q ≡ None → is_in q longer ≡ true

  turns_none : (reasons : Reasons) (queue : List ℕ) → Turns (λ q. false) reasons reasons queue queue
  turns_none reasons queue = record {
    counted = refl;
    kept = λ q r h. h;
    new = λ q within isnt none. absurd (false≢true isnt);
    same = λ q isnt. refl;
    stays = λ q h. h;
    waits = λ q some none. no_reason reasons q some none;
  }

  module _ (f g : ℕ → Bool) (a b c : Reasons) (x y z : List ℕ) (first : Turns f a b x y) (second : Turns g b c y z) where
    on_kept : (q : ℕ) (r : Reason) → reason_at a q ≡ Some r → reason_at c q ≡ Some r
    on_kept q r h = second.kept q r (first.kept q r h)

    on_new : (q : ℕ) → q < length a → (f q || g q) ≡ true → reason_at a q ≡ None → reason_at c q ≡ judge q
    on_new q within either none = go (f q) refl (judge q) refl
      where
        below : q < length b
        below = subst (λ n. q < n) (sym first.counted) within

        behind : (o : Option Reason) → judge q ≡ o → reason_at b q ≡ judge q → reason_at c q ≡ judge q
        behind (Some r) is now = second.kept q r (now ∙ is) ∙ sym is
        behind None is now = later (g q) refl
          where
            later : (e : Bool) → g q ≡ e → reason_at c q ≡ judge q
            later true asks = second.new q below asks (now ∙ is)
            later false isnt = second.same q isnt ∙ now

        go : (e : Bool) → f q ≡ e → (o : Option Reason) → judge q ≡ o → reason_at c q ≡ judge q
        go true asks o is = behind o is (first.new q within asks none)
        go false isnt o is =
            let now : reason_at b q ≡ None = first.same q isnt ∙ none in
            let asks : g q ≡ true = ap (λ e. e || g q) (sym isnt) ∙ either in
            second.new q below asks now

    on_same : (q : ℕ) → (f q || g q) ≡ false → reason_at c q ≡ reason_at a q
    on_same q neither = go (f q) refl
      where
        go : (e : Bool) → f q ≡ e → reason_at c q ≡ reason_at a q
        go true asks = absurd (false≢true (sym neither ∙ or_left (f q) (g q) asks))
        go false isnt =
            let other : g q ≡ false = ap (λ e. e || g q) (sym isnt) ∙ neither in
            second.same q other ∙ first.same q isnt

    on_waits : (q : ℕ) → HasReason c q → reason_at a q ≡ None → is_in q z ≡ true
    on_waits q some none = go (reason_at b q) refl
      where
        go : (o : Option Reason) → reason_at b q ≡ o → is_in q z ≡ true
        go (Some r) is = second.stays q (first.waits q (ap is_some is) none)
        go None is = second.waits q some is

    turns_on : Turns (λ q. f q || g q) a c x z
    turns_on = record {
      counted = second.counted ∙ first.counted;
      kept = on_kept;
      new = on_new;
      same = on_same;
      stays = λ q h. second.stays q (first.stays q h);
      waits = on_waits;
    }

  set_turns : (reasons : Reasons) (queue : List ℕ) (place : ℕ) → place < length reasons → reason_at reasons place ≡ None
      → Turns (λ q. nat_eq q place) reasons (set reasons place (judge place)) queue (queue ++ place ∷ [])
  set_turns reasons queue place within none = record {
    counted = length-set reasons place (judge place);
    kept = kept;
    new = λ q below asks free. (let here : q ≡ place = eqb-true q place asks in
        ap (reason_at (set reasons place (judge place))) here ∙ get_or-set_same reasons place (judge place) None within ∙ ap judge (sym here));
    same = same;
    stays = λ q h. in_left q queue (place ∷ []) h;
    waits = waits;
  }
    where
      other : (q : ℕ) → (q ≡ place → ⊥) → reason_at (set reasons place (judge place)) q ≡ reason_at reasons q
      other q isnt = get_or-set_other reasons place q (judge place) None isnt

      kept : (q : ℕ) (r : Reason) → reason_at reasons q ≡ Some r → reason_at (set reasons place (judge place)) q ≡ Some r
      kept q r h =
          elim (cases_eq q place) [
            | inl here ↦ absurd (none-some r (sym none ∙ ap (reason_at reasons) (sym here) ∙ h))
            | inr isnt ↦ other q isnt ∙ h
          ]

      same : (q : ℕ) → nat_eq q place ≡ false → reason_at (set reasons place (judge place)) q ≡ reason_at reasons q
      same q isnt =
          elim (cases_eq q place) [
            | inl here ↦ absurd (false≢true (sym isnt ∙ eq-eqb q place here))
            | inr apart ↦ other q apart
          ]

      waits : (q : ℕ) → HasReason (set reasons place (judge place)) q → reason_at reasons q ≡ None → is_in q (queue ++ place ∷ []) ≡ true
      waits q some free =
          elim (cases_eq q place) [
            | inl here ↦ subst (λ k. is_in k (queue ++ place ∷ []) ≡ true) (sym here) (in_push queue place)
            | inr isnt ↦ no_reason (set reasons place (judge place)) q some (other q isnt ∙ free)
          ]

  one_turns : (reasons : Reasons) (queue : List ℕ) (place : ℕ)
      → Turns (λ q. nat_eq q place) reasons (judged judge place reasons) queue (queued judge place reasons queue)
  one_turns reasons queue place = go (is_unblamed reasons place) refl
    where
      go : (b : Bool) → is_unblamed reasons place ≡ b
          → Turns (λ q. nat_eq q place) reasons (cond b (set reasons place (judge place)) reasons) queue (cond b (queue ++ place ∷ []) queue)
      go true e = let parts = unblamed_parts reasons place e in set_turns reasons queue place parts.0 parts.1
      go false e = record {
        counted = refl;
        kept = λ q r h. h;
        new = λ q within asks none. (let here : q ≡ place = eqb-true q place asks in
            not_blamed reasons place (subst (λ k. k < length reasons) here within) (ap (reason_at reasons) (sym here) ∙ none) e);
        same = λ q isnt. refl;
        stays = λ q h. h;
        waits = λ q some none. no_reason reasons q some none;
      }

  all_turn : (places : List ℕ) (reasons : Reasons) (queue : List ℕ)
      → Turns (λ q. is_in q places) reasons (all_judged judge places reasons) queue (all_queued judge places reasons queue)
  all_turn [] reasons queue = turns_none reasons queue
  all_turn (p ∷ ps) reasons queue =
      turns_on (λ q. nat_eq q p) (λ q. is_in q ps) reasons (judged judge p reasons) (all_judged judge ps (judged judge p reasons))
      queue (queued judge p reasons queue) (all_queued judge ps (judged judge p reasons) (queued judge p reasons queue))
      (one_turns reasons queue p) (all_turn ps (judged judge p reasons) (queued judge p reasons queue))

  users_turn : (users : List (List ℕ)) (places : List ℕ) (reasons : Reasons) (queue : List ℕ)
      → Turns (λ q. list_any (λ p. has users p q) places) reasons (users_judged judge users places reasons) queue
      (users_queued judge users places reasons queue)
  users_turn users [] reasons queue = turns_none reasons queue
  users_turn users (p ∷ ps) reasons queue =
      let under = get_or users p [] in
      turns_on (λ q. has users p q) (λ q. list_any (λ k. has users k q) ps) reasons (all_judged judge under reasons)
      (users_judged judge users ps (all_judged judge under reasons)) queue (all_queued judge under reasons queue)
      (users_queued judge users ps (all_judged judge under reasons) (all_queued judge under reasons queue))
      (all_turn under reasons queue) (users_turn users ps (all_judged judge under reasons) (all_queued judge under reasons queue))

-- ---- what was found is known

length-known : (found : Reasons) (places : List ℕ) (reasons : Reasons) → length (all_known places found reasons) ≡ length reasons
length-known found [] reasons = refl
length-known found (p ∷ ps) reasons = length-known found ps (known_at p found reasons) ∙ go (nat_lt p (length reasons))
  where
    go : (b : Bool) → length (cond b (set reasons p (reason_at found p)) reasons) ≡ length reasons
    go true = length-set reasons p (reason_at found p)
    go false = refl

-- one that is known already, or is among the places, is known behind them
known_behind : (found : Reasons) (places : List ℕ) (reasons : Reasons) (q : ℕ) → q < length reasons
    → (is_in q places ≡ true) ⊎ (reason_at reasons q ≡ reason_at found q) → reason_at (all_known places found reasons) q ≡ reason_at found q
known_behind found [] reasons q within (inl isnt) = absurd (false≢true isnt)
known_behind found [] reasons q within (inr is) = is
known_behind found (p ∷ ps) reasons q within given =
    known_behind found ps (known_at p found reasons) q (subst (λ n. q < n) (sym (length-known found (p ∷ []) reasons)) within) (go given)
  where
    here : p < length reasons → q ≡ p → reason_at (known_at p found reasons) q ≡ reason_at found q
    here below is =
        ap (λ b. reason_at (cond b (set reasons p (reason_at found p)) reasons) q) (lt-ltb p (length reasons) below)
        ∙ ap (reason_at (set reasons p (reason_at found p))) is
        ∙ get_or-set_same reasons p (reason_at found p) None below
        ∙ ap (reason_at found) (sym is)

    still : (b : Bool) → (q ≡ p → ⊥) → reason_at (cond b (set reasons p (reason_at found p)) reasons) q ≡ reason_at reasons q
    still true isnt = get_or-set_other reasons p q (reason_at found p) None isnt
    still false isnt = refl

    go : (is_in q (p ∷ ps) ≡ true) ⊎ (reason_at reasons q ≡ reason_at found q)
        → (is_in q ps ≡ true) ⊎ (reason_at (known_at p found reasons) q ≡ reason_at found q)
    go (inl among) =
        elim (or_cases (nat_eq q p) (is_in q ps) among) [
          | inl is ↦ (let same : q ≡ p = eqb-true q p is in inr (here (subst (λ k. k < length reasons) same within) same))
          | inr behind ↦ inl behind
        ]
    go (inr known) =
        elim (cases_eq q p) [
          | inl same ↦ inr (here (subst (λ k. k < length reasons) same within) same)
          | inr isnt ↦ inr (still (nat_lt p (length reasons)) isnt ∙ known)
        ]

-- ---- types

unusable_one : (reasons : Reasons) (p : ℕ) → HasReason reasons p → (os : List (Option ℕ)) → list_any (is_at p) os ≡ true
    → list_all (is_usable reasons) os ≡ true → ⊥
unusable_one reasons p h [] e all = false≢true e
unusable_one reasons p h (o ∷ os) e all =
    let parts = and_parts (is_usable reasons o) (list_all (is_usable reasons) os) all in
    elim (or_cases (is_at p o) (list_any (is_at p) os) e) [
      | inl here ↦ at o here parts.0
      | inr behind ↦ unusable_one reasons p h os behind parts.1
    ]
  where
    both : (x : Option Reason) → is_some x ≡ true → is_none x ≡ true → ⊥
    both None some none = false≢true some
    both (Some r) some none = false≢true none

    at : (o : Option ℕ) → is_at p o ≡ true → is_usable reasons o ≡ true → ⊥
    at None here usable = false≢true here
    at (Some k) here usable =
        let same : p ≡ k = eqb-true p k here in
        both (reason_at reasons k) (subst (HasReason reasons) same h) usable

usable_still : (before reasons : Reasons) (os : List (Option ℕ)) → ((p : ℕ) → list_any (is_at p) os ≡ true → reason_at reasons p ≡ None)
    → list_all (is_usable before) os ≡ true → list_all (is_usable reasons) os ≡ true
usable_still before reasons [] none e = refl
usable_still before reasons (o ∷ os) none e =
    let parts = and_parts (is_usable before o) (list_all (is_usable before) os) e in
    and_from (is_usable reasons o) (list_all (is_usable reasons) os)
    (at o (λ p here. none p (or_left (is_at p o) (list_any (is_at p) os) here)) parts.0)
    (usable_still before reasons os (λ p behind. none p (or_right (is_at p o) (list_any (is_at p) os) behind)) parts.1)
  where
    at : (o : Option ℕ) → ((p : ℕ) → is_at p o ≡ true → reason_at reasons p ≡ None) → is_usable before o ≡ true → is_usable reasons o ≡ true
    at None free usable = usable
    at (Some k) free usable = ap is_none (free k (eq-eqb k k refl))

any_in : (f : ℕ → Bool) (p : ℕ) (places : List ℕ) → is_in p places ≡ true → f p ≡ true → list_any f places ≡ true
any_in f p [] h e = absurd (false≢true h)
any_in f p (k ∷ ks) h e =
    elim (or_cases (nat_eq p k) (is_in p ks) h) [
      | inl here ↦ or_left (f k) (list_any f ks) (ap f (sym (eqb-true p k here)) ∙ e)
      | inr behind ↦ or_right (f k) (list_any f ks) (any_in f p ks behind e)
    ]

or_none : (a b : Option Reason) → option_or a b ≡ None → b ≡ None
or_none None b e = e
or_none (Some r) b e = absurd (none-some r (sym e))

same_lists_at : (xs ys : Reasons) → length xs ≡ length ys → ((q : ℕ) → q < length xs → reason_at xs q ≡ reason_at ys q) → xs ≡ ys
same_lists_at xs ys e h =
    same_lists xs ys e (λ k d below. (
    let other : k < length ys = subst (λ n. k < n) e below in
    get_or_default xs k d None below ∙ h k below ∙ sym (get_or_default ys k d None other)))

module _ (ds : List Definition) where
  -- so many rounds have found what is known, and one more what is found; the last place where one has found more are listed
  pub record IsRound (n : ℕ) (known found : Reasons) (last : List ℕ) : Type 0 where
    pub is_known : known ≡ rounds ds n (no_reasons ds)
    pub is_found : found ≡ rounds ds (suc n) (no_reasons ds)
    pub fresh : (q : ℕ) → HasReason found q → reason_at known q ≡ None → is_in q last ≡ true

module _ (ds : List Definition) (is_placed : ArePlaced ds) where
  both_held : (reasons : Reasons) (d : Definition) → IsTrue (all_hold (tests ds reasons d))
      → (types_are_usable ds reasons d ≡ true) × (targets_are_usable ds reasons d ≡ true)
  both_held reasons d h =
      both_hold (types_are_usable ds reasons d) UnusableType (targets_are_usable ds reasons d) MissingContent
      ((has_tree ds d, NoTree) ∷ []) (lasting_tests ds d) (fault_of d) h

  others_hold : (reasons : Reasons) (d : Definition) → IsTrue (all_hold (tests ds reasons d))
      → (types_are_usable ds reasons d && targets_are_usable ds reasons d) ≡ true
  others_hold reasons d h =
      let parts = both_held reasons d h in
      and_from (types_are_usable ds reasons d) (targets_are_usable ds reasons d) parts.0 parts.1

  pub started : (known found : Reasons) (last : List ℕ) → known ≡ no_reasons ds → found ≡ first_reasons ds → last ≡ unusable_from 0 found
      → IsRound ds 0 known found last
  started known found last known_is found_is last_is = record {
    is_known = known_is;
    is_found = found_is ∙ first_round ds is_placed;
    fresh = λ q some none. ap (is_in q) last_is ∙ unusable_in 0 q q found (omega arith) some;
  }

  module _ (n : ℕ) (known found : Reasons) (last : List ℕ) (s : IsRound ds n known found last) where
    is_round : found ≡ round ds known
    is_round = s.is_found ∙ one_more ds n (no_reasons ds) ∙ ap (round ds) (sym s.is_known)

    long_known : length known ≡ length ds
    long_known = ap length s.is_known ∙ go n
      where
        go : (k : ℕ) → length (rounds ds k (no_reasons ds)) ≡ length ds
        go zero = length-map ds (λ d. None)
        go (suc k) = ap length (one_more ds k (no_reasons ds)) ∙ length_round ds is_placed (rounds ds k (no_reasons ds))

    long_found : length found ≡ length ds
    long_found = ap length is_round ∙ length_round ds is_placed known

    known_found : (q : ℕ) (r : Reason) → reason_at known q ≡ Some r → reason_at found q ≡ Some r
    known_found q r h = ap (λ l. reason_at l q) is_round ∙ keeps ds is_placed known long_known q r h

    -- what is found is known behind the last places
    all_is_known : all_known last found known ≡ found
    all_is_known =
        same_lists_at (all_known last found known) found (length-known found last known ∙ long_known ∙ sym long_found) (λ q within. (
        let below : q < length known = subst (λ k. q < k) (length-known found last known) within in
        known_behind found last known q below (go q (reason_at found q) refl (reason_at known q) refl)))
      where
        go : (q : ℕ) (o : Option Reason) → reason_at found q ≡ o → (x : Option Reason) → reason_at known q ≡ x
            → (is_in q last ≡ true) ⊎ (reason_at known q ≡ reason_at found q)
        go q (Some r) is None none = inl (s.fresh q (ap is_some is) none)
        go q o is (Some x) some = inr (some ∙ sym (known_found q x some))
        go q None is None none = inr (none ∙ sym is)

    -- who rests on none of the last keeps what it has
    untouched : (d : Definition) → slice_get ds d.place ≡ Some d → reason_at found d.place ≡ None
        → list_any (λ p. has (users_of ds) p d.place) last ≡ false → first_of (tests ds found d) ≡ None
    untouched d at none alone =
        hold_none (tests ds found d)
        (both_hold_more (types_are_usable ds known d) (types_are_usable ds found d) UnusableType
        (targets_are_usable ds known d) (targets_are_usable ds found d) MissingContent
        ((has_tree ds d, NoTree) ∷ []) (lasting_tests ds d) (fault_of d) (λ e. parts.0) (λ e. parts.1) held)
      where
        first : first_of (tests ds known d) ≡ None
        first =
            or_none (reason_at known d.place) (first_of (tests ds known d))
            (sym (round_at ds is_placed known d at) ∙ ap (λ l. reason_at l d.place) (sym is_round) ∙ none)

        held : IsTrue (all_hold (tests ds known d))
        held = none_fails (tests ds known d) first

        usable : list_all (is_usable known) (rests_on ds d) ≡ true
        usable = sym (others_ask ds known d) ∙ others_hold known d held

        free : (p : ℕ) → list_any (is_at p) (rests_on ds d) ≡ true → reason_at found p ≡ None
        free p asks = none_or (reason_at found p) (λ some. go some (reason_at known p) refl)
          where
            go : HasReason found p → (o : Option Reason) → reason_at known p ≡ o → ⊥
            go some (Some r) is = unusable_one known p (ap is_some is) (rests_on ds d) asks usable
            go some None is =
                let within : p < length ds = subst (λ k. p < k) long_found (some_within found p some) in
                let user : has (users_of ds) p d.place ≡ true = listed ds is_placed p d within at asks in
                false≢true (sym alone ∙ any_in (λ k. has (users_of ds) k d.place) p last (s.fresh p some is) user)

        others : (types_are_usable ds found d && targets_are_usable ds found d) ≡ true
        others = others_ask ds found d ∙ usable_still known found (rests_on ds d) free usable

        parts : (types_are_usable ds found d ≡ true) × (targets_are_usable ds found d ≡ true)
        parts = and_parts (types_are_usable ds found d) (targets_are_usable ds found d) others

    module _ (next : Reasons) (queue : List ℕ)
        (t : Turns (reason_in ds found) (λ q. list_any (λ p. has (users_of ds) p q) last) found next [] queue) where
      at_place : (q : ℕ) (d : Definition) → q < length ds → slice_get ds q ≡ Some d → (o : Option Reason) → reason_at found q ≡ o
          → (b : Bool) → list_any (λ p. has (users_of ds) p q) last ≡ b → reason_at next q ≡ option_or o (first_of (tests ds found d))
      at_place q d within at (Some r) is b asks = t.kept q r is
      at_place q d within at None is true asks =
          t.new q (subst (λ k. q < k) (sym long_found) within) asks is
          ∙ ap (λ o. elim o [ Some e ↦ first_of (tests ds found e) | None ↦ None ]) at
      at_place q d within at None is false alone =
          let place : d.place ≡ q = is_placed q d at in
          t.same q alone ∙ is
          ∙ sym (untouched d (ap (slice_get ds) place ∙ at) (ap (reason_at found) place ∙ is)
          (ap (λ k. list_any (λ p. has (users_of ds) p k) last) place ∙ alone))

      found_next : next ≡ round ds found
      found_next =
          same_lists_at next (round ds found) (t.counted ∙ long_found ∙ sym (length_round ds is_placed found)) (λ q within. (
          let below : q < length ds = subst (λ k. q < k) (t.counted ∙ long_found) within in
          let there = definition_at ds q below in
          let d = there.0 in
          let place : d.place ≡ q = is_placed q d there.1 in
          let at : slice_get ds d.place ≡ Some d = ap (slice_get ds) place ∙ there.1 in
          at_place q d below there.1 (reason_at found q) refl (list_any (λ p. has (users_of ds) p q) last) refl
          ∙ ap (λ k. option_or (reason_at found k) (first_of (tests ds found d))) (sym place)
          ∙ sym (round_at ds is_placed found d at)
          ∙ ap (reason_at (round ds found)) place))

      next_round : IsRound ds (suc n) found next queue
      next_round = record {
        is_known = s.is_found;
        is_found = found_next ∙ ap (round ds) s.is_found ∙ sym (one_more ds (suc n) (no_reasons ds));
        fresh = t.waits;
      }

    -- the same, where a clause names what there is
    pub turned : (before after : Reasons) (users : List (List ℕ)) (queue : List ℕ) → users ≡ users_of ds → before ≡ all_known last found known
        → after ≡ users_judged (reason_in ds before) users last found → queue ≡ users_queued (reason_in ds before) users last found []
        → IsRound ds (suc n) before after queue
    turned before after users queue users_are before_is after_is queue_is =
        let whole : before ≡ found = before_is ∙ all_is_known in
        let judge = reason_in ds found in
        let next = users_judged judge (users_of ds) last found in
        let list = users_queued judge (users_of ds) last found [] in
        let after_now : after ≡ next = after_is ∙ ap (λ l. users_judged (reason_in ds l) users last found) whole ∙ ap (λ u. users_judged judge u last found) users_are in
        let queue_now : queue ≡ list = queue_is ∙ ap (λ l. users_queued (reason_in ds l) users last found []) whole ∙ ap (λ u. users_queued judge u last found []) users_are in
        let made : IsRound ds (suc n) found next list = next_round next list (users_turn judge (users_of ds) last found []) in
        subst (λ q. IsRound ds (suc n) before after q) (sym queue_now)
        (subst (λ a. IsRound ds (suc n) before a list) (sym after_now)
        (subst (λ b. IsRound ds (suc n) b next list) (sym whole) made))

  -- as many rounds as there are definitions find all
  no_more : (k m : ℕ) → k + length ds ≡ m → rounds ds m (no_reasons ds) ≡ all_reasons ds
  no_more zero m e = let same : m ≡ length ds = omega (arith, e) in ap (λ n. rounds ds n (no_reasons ds)) same
  no_more (suc k) zero e = absurd (omega arith)
  no_more (suc k) (suc m) e =
      one_more ds m (no_reasons ds) ∙ ap (round ds) (no_more k m (omega arith)) ∙ at_rest ds is_placed

  pub settled : (n : ℕ) (known found : Reasons) (last : List ℕ) → length ds ≤ suc n → IsRound ds n known found last → found ≡ all_reasons ds
  settled n known found last enough s =
      let more : (suc n - length ds) + length ds ≡ suc n = omega (arith, enough) in
      s.is_found ∙ no_more (suc n - length ds) (suc n) more
