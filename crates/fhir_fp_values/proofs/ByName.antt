-- Children in the order of their names, pair by pair, and those of each name in turn.
use Rattle.std.proofs.Common.{◌≡◌, Bool, true, false, ◌||◌, inl, inr, ◌⊎◌, List, [], ◌∷◌, ◌++◌, map, Some, None, refl, sym, ap, ◌∙◌}
use Rattle.std.specs.Prelude.{if◌then◌else◌}
use Rattle.std.specs.Cmp.Lexicographic.{slice_cmp}
use Rattle.std.specs.List.{AllByRecursion, list_any}
use Rattle.std.specs.Ordering.{is_lt, is_eq, is_gt, nat_cmp, ordering_reverse}
use Rattle.std.specs.Str.{bytes_eq}
use Rattle.std.specs.declared.cmp.Ordering.{Ordering}
use Rattle.std.specs.declared.cmp.Ordering.TheVariants.{Less, Equal, Greater}
use Rattle.std.proofs.lemmas.Cmp.{nat_list_cmp_total}
use Rattle.std.proofs.lemmas.List.Folds.{list_any-append}
use Rattle.std.proofs.lemmas.Map.Text.{is_eq-slice_cmp}
use Rattle.std.proofs.lemmas.Slice.Eq.{bytes_eq-Decides}
use Rattle.fhir_json.specs.Tree.{Text}
use Rattle.fhir_instance.specs.Items.{Kids, no_kids, kid, Named, kids_in}
use Rattle.fhir_fp_values.specs.Equality.{Kleene, kleene_and, kleene_all, sides_named, items_named, names_of, in_turn, by_name, sides_of, equal}
use Rattle.fhir_fp_values.specs.Pairing.{Ascends, pairwise}

-- ---- what answers come to together

-- it is true where each of them is, and false where one is
pub record IsOfAll (r : Kleene) (f : Text → Kleene) : Type 0 where
  pub each : r ≡ Some true → (n : Text) → f n ≡ Some true
  pub all : ((n : Text) → f n ≡ Some true) → r ≡ Some true
  pub one : r ≡ Some false → (n : Text) × (f n ≡ Some false)
  pub some : (n : Text) → f n ≡ Some false → r ≡ Some false

pub same_of_all : (r q : Kleene) (f g : Text → Kleene) → ((n : Text) → f n ≡ g n) → IsOfAll r f → IsOfAll q g → r ≡ q
same_of_all (Some true) q f g same a b = sym (b.all (λ n. sym (same n) ∙ a.each refl n))
same_of_all (Some false) q f g same a b = let h = a.one refl in sym (b.some h.0 (sym (same h.0) ∙ h.1))
same_of_all None (Some true) f g same a b = a.all (λ n. same n ∙ b.each refl n)
same_of_all None (Some false) f g same a b = let h = b.one refl in a.some h.0 (same h.0 ∙ h.1)
same_of_all None None f g same a b = refl

pub both_true : (p q : Kleene) → kleene_and p q ≡ Some true → (p ≡ Some true) × (q ≡ Some true)
both_true (Some true) q h = (refl, h)
both_true (Some false) q h = absurd cc
both_true None (Some true) h = absurd cc
both_true None (Some false) h = absurd cc
both_true None None h = absurd cc

one_false : (p q : Kleene) → kleene_and p q ≡ Some false → (p ≡ Some false) ⊎ (q ≡ Some false)
one_false (Some true) q h = inr h
one_false (Some false) q h = inl refl
one_false None (Some true) h = absurd cc
one_false None (Some false) h = inr refl
one_false None None h = absurd cc

false_left : (p q : Kleene) → p ≡ Some false → kleene_and p q ≡ Some false
false_left p q h = ap (λ a. kleene_and a q) h

false_right : (p q : Kleene) → q ≡ Some false → kleene_and p q ≡ Some false
false_right (Some true) q h = h
false_right (Some false) q h = refl
false_right None q h = ap (kleene_and None) h

true_both : (p q : Kleene) → p ≡ Some true → q ≡ Some true → kleene_and p q ≡ Some true
true_both p q h k = ap (λ a. kleene_and a q) h ∙ k

-- one that is false, as one of them is
of_false : (r : Kleene) (f : Text → Kleene) (n : Text) → r ≡ Some false → f n ≡ Some false → IsOfAll r f
of_false r f n is at = record {
  each = λ h. let e : Some true ≡ Some false = sym h ∙ is in absurd cc;
  all = λ h. let e : Some true ≡ Some false = sym (h n) ∙ at in absurd cc;
  one = λ h. (n, at);
  some = λ m h. is;
}

module _ (f : Text → Kleene) where
  all_true : (ns : List Text) → ((n : Text) → f n ≡ Some true) → kleene_all (map f ns) ≡ Some true
  all_true [] h = refl
  all_true (n ∷ ns) h = true_both (f n) (kleene_all (map f ns)) (h n) (all_true ns h)

  each_true : (ns : List Text) (n : Text) → kleene_all (map f ns) ≡ Some true → list_any (bytes_eq n) ns ≡ true → f n ≡ Some true
  each_true [] n h among = absurd cc
  each_true (m ∷ ns) n h among = go (bytes_eq n m) refl among (each_true ns n)
    where
      go : (b : Bool) → bytes_eq n m ≡ b → (b || list_any (bytes_eq n) ns) ≡ true
          → (kleene_all (map f ns) ≡ Some true → list_any (bytes_eq n) ns ≡ true → f n ≡ Some true) → f n ≡ Some true
      go true is at later = ap f ((bytes_eq-Decides n m).0 is) ∙ (both_true (f m) (kleene_all (map f ns)) h).0
      go false is at later = later (both_true (f m) (kleene_all (map f ns)) h).1 at

  some_false : (ns : List Text) → kleene_all (map f ns) ≡ Some false → (n : Text) × (f n ≡ Some false)
  some_false [] h = absurd cc
  some_false (m ∷ ns) h =
      elim (one_false (f m) (kleene_all (map f ns)) h) [
        | inl e ↦ (m, e)
        | inr e ↦ some_false ns e
      ]

  is_false : (ns : List Text) (n : Text) → list_any (bytes_eq n) ns ≡ true → f n ≡ Some false → kleene_all (map f ns) ≡ Some false
  is_false [] n among h = absurd cc
  is_false (m ∷ ns) n among h = go (bytes_eq n m) refl among (λ at. is_false ns n at h)
    where
      go : (b : Bool) → bytes_eq n m ≡ b → (b || list_any (bytes_eq n) ns) ≡ true
          → (list_any (bytes_eq n) ns ≡ true → kleene_all (map f ns) ≡ Some false) → kleene_and (f m) (kleene_all (map f ns)) ≡ Some false
      go true is at later = false_left (f m) (kleene_all (map f ns)) (ap f (sym ((bytes_eq-Decides n m).0 is)) ∙ h)
      go false is at later = false_right (f m) (kleene_all (map f ns)) (later at)

  -- those of the texts of a list, where the others' are true
  of_texts : (ns : List Text) → ((n : Text) → list_any (bytes_eq n) ns ≡ false → f n ≡ Some true) → IsOfAll (kleene_all (map f ns)) f
  of_texts ns others = record {
    each = λ h n. each_at n h (list_any (bytes_eq n) ns) refl;
    all = all_true ns;
    one = some_false ns;
    some = λ n h. some_at n h (list_any (bytes_eq n) ns) refl;
  }
    where
      each_at : (n : Text) → kleene_all (map f ns) ≡ Some true → (b : Bool) → list_any (bytes_eq n) ns ≡ b → f n ≡ Some true
      each_at n h true is = each_true ns n h is
      each_at n h false is = others n is

      some_at : (n : Text) → f n ≡ Some false → (b : Bool) → list_any (bytes_eq n) ns ≡ b → kleene_all (map f ns) ≡ Some false
      some_at n h true is = is_false ns n is h
      some_at n h false is = let e : Some true ≡ Some false = sym (others n is) ∙ h in absurd cc

-- ---- the children of a name

pub sides_are : (n : Text) (ks : Kids) → sides_named n (sides_of ks) ≡ map equal (items_named n ks)
sides_are n no_kids = refl
sides_are n (kid m x ks) = go (bytes_eq n m) (sides_are n ks)
  where
    go : (b : Bool) → sides_named n (sides_of ks) ≡ map equal (items_named n ks)
        → (if b then equal x ∷ sides_named n (sides_of ks) else sides_named n (sides_of ks))
        ≡ map equal (if b then x ∷ items_named n ks else items_named n ks)
    go true e = ap (λ es. equal x ∷ es) e
    go false e = e

side_names : (ks : Kids) → map (λ s. s.name) (sides_of ks) ≡ names_of ks
side_names no_kids = refl
side_names (kid m x ks) = ap (λ ns. m ∷ ns) (side_names ks)

none_named : (n : Text) (ks : Kids) → list_any (bytes_eq n) (names_of ks) ≡ false → items_named n ks ≡ []
none_named n no_kids h = refl
none_named n (kid m x ks) h = go (bytes_eq n m) h (none_named n ks)
  where
    go : (b : Bool) → (b || list_any (bytes_eq n) (names_of ks)) ≡ false
        → (list_any (bytes_eq n) (names_of ks) ≡ false → items_named n ks ≡ []) → (if b then x ∷ items_named n ks else items_named n ks) ≡ []
    go true is later = absurd cc
    go false is later = later is

-- those of a name in turn
abbrev pub of_name : Kids → Kids → Text → Kleene
of_name ks ls n = in_turn (sides_named n (sides_of ks)) (items_named n ls)

no_sides : (n : Text) (ks : Kids) → items_named n ks ≡ [] → sides_named n (sides_of ks) ≡ []
no_sides n ks none = sides_are n ks ∙ ap (map equal) none

neither : (a b : Bool) → (a || b) ≡ false → (a ≡ false) × (b ≡ false)
neither true b h = absurd cc
neither false b h = (refl, h)

pub of_names : (ks ls : Kids) → IsOfAll (by_name (sides_of ks) ls) (of_name ks ls)
of_names ks ls = of_texts (of_name ks ls) (map (λ s. s.name) (sides_of ks) ++ names_of ls) others
  where
    others : (n : Text) → list_any (bytes_eq n) (map (λ s. s.name) (sides_of ks) ++ names_of ls) ≡ false → of_name ks ls n ≡ Some true
    others n none =
        let parts = neither (list_any (bytes_eq n) (map (λ s. s.name) (sides_of ks))) (list_any (bytes_eq n) (names_of ls))
        (sym (list_any-append (bytes_eq n) (map (λ s. s.name) (sides_of ks)) (names_of ls)) ∙ none) in
        let own = none_named n ks (ap (list_any (bytes_eq n)) (sym (side_names ks)) ∙ parts.0) in
        ap (λ es. in_turn es (items_named n ls)) (no_sides n ks own) ∙ ap (in_turn []) (none_named n ls parts.1)

pub same_of_name : (ks ks' ls ls' : Kids) (n : Text) → items_named n ks ≡ items_named n ks' → items_named n ls ≡ items_named n ls'
    → of_name ks ls n ≡ of_name ks' ls' n
same_of_name ks ks' ls ls' n own others =
    ap (λ es. in_turn es (items_named n ls)) (sides_are n ks ∙ ap (map equal) own ∙ sym (sides_are n ks'))
    ∙ ap (in_turn (sides_named n (sides_of ks'))) others

-- ---- pair by pair

-- where a name is less than one, which none is less than
absent : (n m : Text) (ls : List Named) → is_lt (slice_cmp nat_cmp n m) ≡ true
    → AllByRecursion (λ l. is_lt (slice_cmp nat_cmp l.0 m) ≡ false) ls → items_named n (kids_in ls) ≡ []
absent n m [] lt h = refl
absent n m (l ∷ ls) lt h = go (bytes_eq n l.0) refl (absent n m ls lt h.1)
  where
    go : (b : Bool) → bytes_eq n l.0 ≡ b → items_named n (kids_in ls) ≡ [] → (if b then l.1 ∷ items_named n (kids_in ls) else items_named n (kids_in ls)) ≡ []
    go true is rest =
        let e : true ≡ false = sym lt ∙ ap (λ (t : Text). is_lt (slice_cmp nat_cmp t m)) ((bytes_eq-Decides n l.0).0 is) ∙ h.0 in absurd cc
    go false is rest = rest

own_name : (n : Text) → bytes_eq n n ≡ true
own_name n = (bytes_eq-Decides n n).1 refl

less_turned : (r s : Ordering) → r ≡ ordering_reverse s → is_gt r ≡ true → is_lt s ≡ true
less_turned r Less e h = refl
less_turned r Equal e h = absurd cc
less_turned r Greater e h = let f : true ≡ false = sym h ∙ ap is_gt e in absurd cc

-- the first of the one side has another name than the first of the other
apart : (k l : Named) (ks ls : List Named) → Ascends (k ∷ ks) → Ascends (l ∷ ls) → bytes_eq k.0 l.0 ≡ false
    → (n : Text) × (of_name (kids_in (k ∷ ks)) (kids_in (l ∷ ls)) n ≡ Some false)
apart k l ks ls a b other = go (slice_cmp nat_cmp k.0 l.0) refl
  where
    turned : is_gt (slice_cmp nat_cmp k.0 l.0) ≡ true → is_lt (slice_cmp nat_cmp l.0 k.0) ≡ true
    turned h = less_turned (slice_cmp nat_cmp k.0 l.0) (slice_cmp nat_cmp l.0 k.0) (nat_list_cmp_total.antisymm k.0 l.0) h

    sides_first : (c : Bool) → c ≡ true → in_turn (if c then equal k.1 ∷ sides_named k.0 (sides_of (kids_in ks)) else sides_named k.0 (sides_of (kids_in ks))) [] ≡ Some false
    sides_first true is = refl
    sides_first false is = absurd cc

    items_first : (c : Bool) → c ≡ true → in_turn [] (if c then l.1 ∷ items_named l.0 (kids_in ls) else items_named l.0 (kids_in ls)) ≡ Some false
    items_first true is = refl
    items_first false is = absurd cc

    unlike : (c : Bool) → c ≡ false → (if c then l.1 ∷ items_named k.0 (kids_in ls) else items_named k.0 (kids_in ls)) ≡ items_named k.0 (kids_in ls)
    unlike true is = absurd cc
    unlike false is = refl

    unlike_own : (c : Bool) → c ≡ false → (if c then k.1 ∷ items_named l.0 (kids_in ks) else items_named l.0 (kids_in ks)) ≡ items_named l.0 (kids_in ks)
    unlike_own true is = absurd cc
    unlike_own false is = refl

    other_way : (c : Bool) → bytes_eq l.0 k.0 ≡ c → c ≡ false
    other_way true is = let e : true ≡ false = sym (own_name k.0) ∙ ap (bytes_eq k.0) (sym ((bytes_eq-Decides l.0 k.0).0 is)) ∙ other in absurd cc
    other_way false is = refl

    go : (r : Ordering) → slice_cmp nat_cmp k.0 l.0 ≡ r → (n : Text) × (of_name (kids_in (k ∷ ks)) (kids_in (l ∷ ls)) n ≡ Some false)
    go Less is = (
      k.0,
      ap (in_turn (sides_named k.0 (sides_of (kids_in (k ∷ ks)))))
          (unlike (bytes_eq k.0 l.0) other ∙ absent k.0 l.0 ls (ap is_lt is) b.0)
          ∙ sides_first (bytes_eq k.0 k.0) (own_name k.0),
    )
    go Equal is =
        let e : true ≡ false = sym (ap is_eq is) ∙ is_eq-slice_cmp k.0 l.0 ∙ other in absurd cc
    go Greater is = (
      l.0,
      ap (λ es. in_turn es (items_named l.0 (kids_in (l ∷ ls))))
          (no_sides l.0 (kids_in (k ∷ ks))
          (unlike_own (bytes_eq l.0 k.0) (other_way (bytes_eq l.0 k.0) refl) ∙ absent l.0 k.0 ks (turned (ap is_gt is)) a.0))
          ∙ items_first (bytes_eq l.0 l.0) (own_name l.0),
    )

-- the first of both sides have one name
module _ (k l : Named) (ks ls : List Named) (same : bytes_eq k.0 l.0 ≡ true) (rest : IsOfAll (pairwise ks ls) (of_name (kids_in ks) (kids_in ls))) where
  p : Kleene
  p = equal k.1 l.1

  abbrev more : Text → Kleene
  more n = of_name (kids_in ks) (kids_in ls) n

  first_at : (c d : Bool) (n : Text) → c ≡ d
      → in_turn (if c then equal k.1 ∷ sides_named n (sides_of (kids_in ks)) else sides_named n (sides_of (kids_in ks)))
      (if d then l.1 ∷ items_named n (kids_in ls) else items_named n (kids_in ls))
      ≡ (if d then kleene_and (equal k.1 l.1) (more n) else more n)
  first_at true true n e = refl
  first_at true false n e = absurd cc
  first_at false true n e = absurd cc
  first_at false false n e = refl

  alike : (n : Text) → bytes_eq n k.0 ≡ bytes_eq n l.0
  alike n = ap (bytes_eq n) ((bytes_eq-Decides k.0 l.0).0 same)

  here : (n : Text) → of_name (kids_in (k ∷ ks)) (kids_in (l ∷ ls)) n ≡ (if bytes_eq n l.0 then kleene_and (equal k.1 l.1) (more n) else more n)
  here n = first_at (bytes_eq n k.0) (bytes_eq n l.0) n (alike n)

  at_first : of_name (kids_in (k ∷ ks)) (kids_in (l ∷ ls)) l.0 ≡ kleene_and (equal k.1 l.1) (more l.0)
  at_first = here l.0 ∙ ap (λ c. if c then kleene_and (equal k.1 l.1) (more l.0) else more l.0) (own_name l.0)

  one_more : IsOfAll (kleene_and (equal k.1 l.1) (pairwise ks ls)) (of_name (kids_in (k ∷ ks)) (kids_in (l ∷ ls)))
  one_more = record {
    each = λ h n.
        let both = both_true (equal k.1 l.1) (pairwise ks ls) h in
        here n ∙ each_at (bytes_eq n l.0) n both.0 (rest.each both.1 n);
    all = λ h.
        let first = both_true (equal k.1 l.1) (more l.0) (sym at_first ∙ h l.0) in
        true_both (equal k.1 l.1) (pairwise ks ls) first.0 (rest.all (λ n. all_at (bytes_eq n l.0) n (sym (here n) ∙ h n)));
    one = λ h.
        elim (one_false (equal k.1 l.1) (pairwise ks ls) h) [
          | inl e ↦ (l.0, at_first ∙ false_left (equal k.1 l.1) (more l.0) e)
          | inr e ↦ (let found = rest.one e in (found.0, here found.0 ∙ one_at (bytes_eq found.0 l.0) found.0 found.1))
        ];
    some = λ n h. some_at (bytes_eq n l.0) n (sym (here n) ∙ h);
  }
    where
      each_at : (c : Bool) (n : Text) → equal k.1 l.1 ≡ Some true → more n ≡ Some true → (if c then kleene_and (equal k.1 l.1) (more n) else more n) ≡ Some true
      each_at true n e f = true_both (equal k.1 l.1) (more n) e f
      each_at false n e f = f

      all_at : (c : Bool) (n : Text) → (if c then kleene_and (equal k.1 l.1) (more n) else more n) ≡ Some true → more n ≡ Some true
      all_at true n h = (both_true (equal k.1 l.1) (more n) h).1
      all_at false n h = h

      one_at : (c : Bool) (n : Text) → more n ≡ Some false → (if c then kleene_and (equal k.1 l.1) (more n) else more n) ≡ Some false
      one_at true n h = false_right (equal k.1 l.1) (more n) h
      one_at false n h = h

      some_at : (c : Bool) (n : Text) → (if c then kleene_and (equal k.1 l.1) (more n) else more n) ≡ Some false
          → kleene_and (equal k.1 l.1) (pairwise ks ls) ≡ Some false
      some_at true n h =
          elim (one_false (equal k.1 l.1) (more n) h) [
            | inl e ↦ false_left (equal k.1 l.1) (pairwise ks ls) e
            | inr e ↦ false_right (equal k.1 l.1) (pairwise ks ls) (rest.some n e)
          ]
      some_at false n h = false_right (equal k.1 l.1) (pairwise ks ls) (rest.some n h)

pub pairwise_is : (ks ls : List Named) → Ascends ks → Ascends ls → IsOfAll (pairwise ks ls) (of_name (kids_in ks) (kids_in ls))
pairwise_is [] [] a b = record { each = λ h n. refl; all = λ h. refl; one = λ h. absurd cc; some = λ n h. absurd cc }
pairwise_is [] (l ∷ ls) a b = of_false (Some false) (of_name no_kids (kids_in (l ∷ ls))) l.0 refl (at (bytes_eq l.0 l.0) (own_name l.0))
  where
    at : (c : Bool) → c ≡ true → in_turn [] (if c then l.1 ∷ items_named l.0 (kids_in ls) else items_named l.0 (kids_in ls)) ≡ Some false
    at true is = refl
    at false is = absurd cc
pairwise_is (k ∷ ks) [] a b = of_false (Some false) (of_name (kids_in (k ∷ ks)) no_kids) k.0 refl (at (bytes_eq k.0 k.0) (own_name k.0))
  where
    at : (c : Bool) → c ≡ true
        → in_turn (if c then equal k.1 ∷ sides_named k.0 (sides_of (kids_in ks)) else sides_named k.0 (sides_of (kids_in ks))) [] ≡ Some false
    at true is = refl
    at false is = absurd cc
pairwise_is (k ∷ ks) (l ∷ ls) a b = go (bytes_eq k.0 l.0) refl (pairwise_is ks ls a.1 b.1)
  where
    go : (c : Bool) → bytes_eq k.0 l.0 ≡ c → IsOfAll (pairwise ks ls) (of_name (kids_in ks) (kids_in ls))
        → IsOfAll (kleene_and (if c then equal k.1 l.1 else Some false) (pairwise ks ls)) (of_name (kids_in (k ∷ ks)) (kids_in (l ∷ ls)))
    go true is rest = one_more k l ks ls is rest
    go false is rest =
        let found = apart k l ks ls a b is in
        of_false (Some false) (of_name (kids_in (k ∷ ks)) (kids_in (l ∷ ls))) found.0 refl found.1

-- sorted, children are compared pair by pair
pub pairwise_by_name : (own others : List Named) (ks ls : Kids) → Ascends own → Ascends others
    → ((n : Text) → items_named n (kids_in own) ≡ items_named n ks) → ((n : Text) → items_named n (kids_in others) ≡ items_named n ls)
    → pairwise own others ≡ by_name (sides_of ks) ls
pairwise_by_name own others ks ls a b same_own same_others =
    same_of_all (pairwise own others) (by_name (sides_of ks) ls) (of_name (kids_in own) (kids_in others)) (of_name ks ls)
    (λ n. same_of_name (kids_in own) ks (kids_in others) ls n (same_own n) (same_others n))
    (pairwise_is own others a b) (of_names ks ls)
