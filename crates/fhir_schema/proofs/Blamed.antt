-- What is to blame, found in lists and put into them.
use Rattle.std.proofs.Common.{◌≡◌, ℕ, zero, suc, ◌<◌, ◌≤◌, ◌+◌, List, [], ◌∷◌, ◌++◌, map, length, get_or, set, take, drop, refl, ap, subst, sym, ◌∙◌, arith}
use Rattle.std.proofs.Common.{Bool, true, false, not, ◌&&◌, ◌||◌, cond, nat_lt, Option, Some, None, is_some, is_none, ◌⊎◌, inl, inr}
use Rattle.std.specs.Option.{option_map, option_map_or, option_and_then}
use Rattle.std.specs.List.{list_all, slice_get}
use Rattle.std.proofs.Math.Seq.{drop-cons}
use Rattle.std.proofs.lemmas.Grind.{take_at_read}
use Rattle.std.proofs.lemmas.Bool.{cases_eq, cases_lt, and_from, lt-ltb, false≢true}
use Rattle.std.proofs.lemmas.Option.{none-some, same_Some, slice_get_within, slice_get-get_or}
use Rattle.std.proofs.lemmas.List.{length-map, map-set, map-append, get_or_past, get_or_push, get_or_append_left, length_push}
use Rattle.fhir_elements.specs.declared.reason.Reason.{Reason}
use Rattle.fhir_elements.specs.declared.reason.Reason.TheVariants.{UnusableType, NoTree, MissingContent}
use Rattle.fhir_elements.specs.declared.cause.Cause.{Cause}
use Rattle.fhir_elements.specs.declared.cause.Blame.{Blame}
use Rattle.fhir_elements.specs.Causes.{reason_of, blamed_reason, reason_unless, is_blame_among}
use Rattle.fhir_elements.specs.Tests.{first_of}
use Rattle.fhir_definition.specs.Definition.{Definition}
use Rattle.fhir_definition.specs.Blames.{AreBlamesAmong}
use Rattle.fhir_json.specs.Tree.{Text}
use Rattle.fhir_nodes.specs.Contents.{elements_in}
use Rattle.fhir_nodes.specs.Tables.{ArePlaced}
use Rattle.fhir_nodes.specs.Urls.{url_place}
use Rattle.fhir_schema.specs.declared.settling.Lasting.{Lasting}
use Rattle.fhir_schema.specs.Settling.{Reasons, reason_at, tests}
use Rattle.fhir_schema.proofs.UsableRoots.{found}
use Rattle.fhir_schema.specs.Blaming.{Blames, blame_at, reasons_of, IsLasting, EachLasting, reason_in, is_unblamed, judged, queued, known_at}

-- ---- the first that fails a test

pub some_reason : (o : Option Cause) → is_some o ≡ true → is_some (option_map reason_of o) ≡ true
some_reason None e = absurd (false≢true e)
some_reason (Some x) e = refl

pub some_blame : (o : Option Blame) → is_some o ≡ true → is_some (blamed_reason o) ≡ true
some_blame None e = absurd (false≢true e)
some_blame (Some x) e = refl

pub no_blame : (o : Option Blame) → is_some o ≡ false → is_some (blamed_reason o) ≡ false
no_blame None e = refl
no_blame (Some x) e = absurd (false≢true (sym e))

pub is_failing : (b : Bool) (r : Reason) (o : Option Reason) → o ≡ reason_unless b r → is_some o ≡ true → b ≡ false
is_failing true r o e some = absurd (false≢true (sym (ap is_some e) ∙ some))
is_failing false r o e some = refl

pub is_meeting : (b : Bool) (r : Reason) (o : Option Reason) → o ≡ reason_unless b r → is_some o ≡ false → b ≡ true
is_meeting true r o e none = refl
is_meeting false r o e none = absurd (false≢true (sym none ∙ ap is_some e))

pub no_cause : (o : Option Cause) → is_some o ≡ false → is_some (option_map reason_of o) ≡ false
no_cause None e = refl
no_cause (Some x) e = absurd (false≢true (sym e))

and_false : (b : Bool) → (b && false) ≡ false
and_false true = refl
and_false false = refl

all_false : {A : Type 0} (f : A → Bool) (xs : List A) (i : ℕ) (x : A) → i < length xs → x ≡ get_or xs i x → f x ≡ false → list_all f xs ≡ false
all_false f [] i x h e isnt = absurd (omega arith)
all_false f (y ∷ ys) zero x h e isnt = ap (λ b. b && list_all f ys) (sym (ap f e) ∙ isnt)
all_false f (y ∷ ys) (suc i) x h e isnt =
    let less : i < length ys = omega arith in ap (λ b. f y && b) (all_false f ys i x less e isnt) ∙ and_false (f y)

-- one that fails a test is a reason where all have to meet it
pub unless_all : {A : Type 0} (f : A → Bool) (xs : List A) (i : ℕ) (x : A) (r : Reason) (o : Option Reason) → i < length xs → x ≡ get_or xs i x
    → is_some o ≡ true → o ≡ reason_unless (f x) r → o ≡ reason_unless (list_all f xs) r
unless_all f xs i x r o h e some is =
    let isnt = is_failing (f x) r o is some in
    is ∙ ap (λ b. reason_unless b r) (isnt ∙ sym (all_false f xs i x h e isnt))

-- one that meets a test leaves the others
pub all_on : {A : Type 0} (f : A → Bool) (xs : List A) (i : ℕ) (x : A) (r : Reason) (o : Option Reason) → i < length xs → x ≡ get_or xs i x
    → o ≡ reason_unless (f x) r → is_some o ≡ false → list_all f (drop i xs) ≡ list_all f xs → list_all f (drop (i + 1) xs) ≡ list_all f xs
all_on f xs i x r o h e is none before =
    let one : i + 1 ≡ suc i = omega arith in
    ap (λ n. list_all f (drop n xs)) one
    ∙ ap (λ b. b && list_all f (drop (suc i) xs)) (sym (is_meeting (f x) r o is none))
    ∙ ap (λ y. f y && list_all f (drop (suc i) xs)) e
    ∙ sym (ap (list_all f) (drop-cons xs i x h))
    ∙ before

-- ---- the first test of a definition that fails

pub holds : (b : Bool) (r : Reason) (o : Option Blame) → blamed_reason o ≡ reason_unless b r → is_some o ≡ false → b ≡ true
holds b r o is none = is_meeting b r (blamed_reason o) is (no_blame o none)

pub no_fault : (o : Option Blame) (fault : Option Reason) → blamed_reason o ≡ fault → is_some o ≡ false → fault ≡ None
no_fault None fault is none = sym is
no_fault (Some x) fault is none = absurd (false≢true (sym none))

-- the fault, and three tests before the others
abbrev pub in_order : Option Reason → Bool → Bool → Bool → List (Bool × Reason) → List (Bool × Reason)
in_order fault a t c rest =
    option_map_or (λ f. (false, f) ∷ []) fault [] ++ (a, UnusableType) ∷ (t, NoTree) ∷ (c, MissingContent) ∷ rest

pub of_tree : (fault : Option Reason) (a t c : Bool) (rest : List (Bool × Reason)) (o : Option Reason) → fault ≡ None → a ≡ true
    → o ≡ reason_unless t NoTree → is_some o ≡ true → o ≡ first_of (in_order fault a t c rest)
of_tree (Some x) a t c rest o free one is some = absurd (none-some x (sym free))
of_tree None false t c rest o free one is some = absurd (false≢true one)
of_tree None true true c rest o free one is some = absurd (false≢true (sym (ap is_some is) ∙ some))
of_tree None true false c rest o free one is some = is

pub of_targets : (fault : Option Reason) (a t c : Bool) (rest : List (Bool × Reason)) (o : Option Reason) → fault ≡ None → a ≡ true → t ≡ true
    → o ≡ reason_unless c MissingContent → is_some o ≡ true → o ≡ first_of (in_order fault a t c rest)
of_targets (Some x) a t c rest o free one two is some = absurd (none-some x (sym free))
of_targets None false t c rest o free one two is some = absurd (false≢true one)
of_targets None true false c rest o free one two is some = absurd (false≢true two)
of_targets None true true true rest o free one two is some = absurd (false≢true (sym (ap is_some is) ∙ some))
of_targets None true true false rest o free one two is some = is

pub of_rest : (fault : Option Reason) (a t c : Bool) (rest : List (Bool × Reason)) (o : Option Reason) → fault ≡ None → a ≡ true → t ≡ true
    → c ≡ true → o ≡ first_of rest → o ≡ first_of (in_order fault a t c rest)
of_rest (Some x) a t c rest o free one two three is = absurd (none-some x (sym free))
of_rest None false t c rest o free one two three is = absurd (false≢true one)
of_rest None true false c rest o free one two three is = absurd (false≢true two)
of_rest None true true false rest o free one two three is = absurd (false≢true three)
of_rest None true true true rest o free one two three is = is

pub tree_false : (s t a : Bool) → s ≡ true → t ≡ false → (not s || (t && a)) ≡ false
tree_false true false a e f = refl
tree_false true true a e f = absurd (false≢true (sym f))
tree_false false t a e f = absurd (false≢true e)

-- ---- places of lists

pub item_at : {A : Type 0} (all items : List A) (i : ℕ) (x : A) → items ≡ all → i < length items → x ≡ get_or items i x → slice_get all i ≡ Some x
item_at all items i x same h e = ap (λ l. slice_get l i) (sym same) ∙ slice_get-get_or items i x h ∙ ap Some (sym e)

pub mapped_at : {A B : Type 0} (f : A → B) (xs : List A) (i : ℕ) (x : A) (e : B) → slice_get xs i ≡ Some x → get_or (map f xs) i e ≡ f x
mapped_at f [] i x e at = absurd (none-some x at)
mapped_at f (y ∷ ys) zero x e at = ap f (same_Some y x at)
mapped_at f (y ∷ ys) (suc i) x e at = mapped_at f ys i x e at

length_reasons : (blames : Blames) → length (reasons_of blames) ≡ length blames
length_reasons blames = length-map blames blamed_reason

-- ---- one is put behind others

pub among_push : (ds : List Definition) (blames : Blames) (b : Option Blame) → AreBlamesAmong ds blames
    → ((d : Definition) → slice_get ds (length blames) ≡ Some d → is_blame_among (length d.elements) b) → AreBlamesAmong ds (blames ++ b ∷ [])
among_push ds blames b before new place d at = go (cases_lt place (length blames))
  where
    go : (place < length blames) ⊎ (length blames ≤ place) → is_blame_among (length d.elements) (get_or (blames ++ b ∷ []) place None)
    go (inl below) = subst (is_blame_among (length d.elements)) (sym (get_or_append_left blames (b ∷ []) None place below)) (before place d at)
    go (inr past) =
        elim (cases_eq place (length blames)) [
          | inl here ↦ subst (is_blame_among (length d.elements)) (sym (get_or_push blames b None place (sym here)))
              (new d (ap (slice_get ds) (sym here) ∙ at))
          | inr other ↦ subst (is_blame_among (length d.elements)) (sym (get_or_past (blames ++ b ∷ []) place None (beyond other))) refl
        ]
      where
        beyond : (place ≡ length blames → ⊥) → length (blames ++ b ∷ []) ≤ place
        beyond other = let more = length_push blames b in omega (arith, other)

pub lasting_push : (ds : List Definition) (all : List Lasting) (new : Lasting) → EachLasting ds all
    → ((d : Definition) → slice_get ds (length all) ≡ Some d → IsLasting ds d new) → EachLasting ds (all ++ new ∷ [])
lasting_push ds all new before last place d lasting at is = go (cases_lt place (length all))
  where
    go : (place < length all) ⊎ (length all ≤ place) → IsLasting ds d lasting
    go (inl below) = before place d lasting at (
        let more = length_push all new in
        let longer : place < length (all ++ new ∷ []) = omega (arith, below, more) in
        slice_get-get_or all place new below
        ∙ ap Some (sym (get_or_append_left all (new ∷ []) new place below))
        ∙ sym (slice_get-get_or (all ++ new ∷ []) place new longer)
        ∙ is)
    go (inr past) =
        let within : place < length (all ++ new ∷ []) = slice_get_within (all ++ new ∷ []) place lasting is in
        let more = length_push all new in
        let here : place ≡ length all = omega (arith, past, within, more) in
        let same : Some new ≡ Some lasting = sym (slice_get-get_or (all ++ new ∷ []) place new within ∙ ap Some (get_or_push all new new place (sym here))) ∙ is in
        subst (IsLasting ds d) (same_Some new lasting same) (last d (ap (slice_get ds) (sym here) ∙ at))

pub first_push : (f : Definition → Option Reason) (items : List Definition) (place : ℕ) (d : Definition) (all : Blames) (b : Option Blame)
    → place < length items → d ≡ get_or items place d → blamed_reason b ≡ f d → reasons_of all ≡ map f (take place items)
    → reasons_of (all ++ b ∷ []) ≡ map f (take (place + 1) items)
first_push f items place d all b h e is before =
    map-append blamed_reason all (b ∷ [])
    ∙ ap (λ l. l ++ blamed_reason b ∷ []) before
    ∙ ap (λ r. map f (take place items) ++ r ∷ []) (is ∙ ap f e)
    ∙ sym (map-append f (take place items) (get_or items place d ∷ []))
    ∙ ap (map f) (sym (take_at_read items place d h).1)

pub counted_by : (blames : Blames) (reasons : Reasons) (n : ℕ) → reasons_of blames ≡ reasons → length reasons ≡ n → length blames ≡ n
counted_by blames reasons n is counted = sym (length_reasons blames) ∙ ap length is ∙ counted

-- ---- one round

pub known_one : (known found : Blames) (place : ℕ) (b : Option Blame) → place < length known → blamed_reason b ≡ reason_at (reasons_of found) place
    → reasons_of (set known place b) ≡ known_at place (reasons_of found) (reasons_of known)
known_one known found place b h e =
    let within : place < length (reasons_of known) = subst (λ n. place < n) (sym (length_reasons known)) h in
    map-set blamed_reason known place b
    ∙ ap (set (reasons_of known) place) e
    ∙ sym (ap (λ x. cond x (set (reasons_of known) place (reason_at (reasons_of found) place)) (reasons_of known)) (lt-ltb place (length (reasons_of known)) within))

module _ (ds : List Definition) (known found : Blames) (place : ℕ) (d : Definition) (at : slice_get ds place ≡ Some d) (counted : length found ≡ length ds)
    (free : is_some (reason_at (reasons_of found) place) ≡ false) where
  abbrev pub judge : ℕ → Option Reason
  judge = reason_in ds (reasons_of known)

  unblamed : is_unblamed (reasons_of found) place ≡ true
  unblamed =
      let below : place < length ds = slice_get_within ds place d at in
      let within : place < length (reasons_of found) = subst (λ n. place < n) (sym (length_reasons found ∙ counted)) below in
      and_from (nat_lt place (length (reasons_of found))) (is_none (reason_at (reasons_of found) place))
      (lt-ltb place (length (reasons_of found)) within) (ap not free)

  pub judged_one : (b : Option Blame) → blamed_reason b ≡ first_of (tests ds (reasons_of known) d)
      → reasons_of (set found place b) ≡ judged judge place (reasons_of found)
  judged_one b e =
      map-set blamed_reason found place b
      ∙ ap (set (reasons_of found) place) (e ∙ sym (ap (option_and_then (λ x. first_of (tests ds (reasons_of known) x))) at))
      ∙ sym (ap (λ x. cond x (set (reasons_of found) place (judge place)) (reasons_of found)) unblamed)

  pub queued_one : (round : List ℕ) → (round ++ place ∷ []) ≡ queued judge place (reasons_of found) round
  queued_one round = sym (ap (λ x. cond x (round ++ place ∷ []) round) unblamed)

-- ---- of the definition at a url

pub among_at : (ds : List Definition) (blames : Blames) (url : Text) (place : ℕ) (o : Option Blame) → AreBlamesAmong ds blames → ArePlaced ds
    → url_place ds url ≡ Some place → o ≡ blame_at blames place → is_blame_among (length (option_map_or (elements_in ds) (url_place ds url) [])) o
among_at ds blames url place o among placed url_is o_is =
    let there = found ds url place url_is in
    let d = there.0 in
    let here : slice_get ds place ≡ Some d = ap (slice_get ds) (sym there.3 ∙ placed there.1 d there.2) ∙ there.2 in
    subst (λ x. is_blame_among (length (option_map_or (elements_in ds) x [])) o) (sym url_is)
    (subst (λ y. is_blame_among (length (option_map_or (λ e. e.elements) y [])) o) (sym here)
    (subst (is_blame_among (length d.elements)) (sym o_is) (among place d here)))
