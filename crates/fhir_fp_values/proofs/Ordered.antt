-- Names with what stands under each, in the order of the names.
use Rattle.std.proofs.Common.{◌≡◌, Bool, true, false, List, [], ◌∷◌, refl, sym, ap, ◌∙◌}
use Rattle.std.specs.Prelude.{if◌then◌else◌}
use Rattle.std.specs.Cmp.Lexicographic.{slice_cmp}
use Rattle.std.specs.List.{AllByRecursion}
use Rattle.std.specs.Ordering.{is_lt, is_eq, is_gt, nat_cmp, ordering_reverse}
use Rattle.std.specs.Str.{bytes_eq}
use Rattle.std.specs.declared.cmp.Ordering.{Ordering}
use Rattle.std.specs.declared.cmp.Ordering.TheVariants.{Less, Equal, Greater}
use Rattle.std.proofs.lemmas.Cmp.{nat_list_cmp_total}
use Rattle.std.proofs.lemmas.List.Sorted.{ranks_by}
use Rattle.std.proofs.lemmas.Map.Text.{is_eq-slice_cmp}
use Rattle.std.proofs.lemmas.Slice.Eq.{bytes_eq-Decides}
use Rattle.fhir_json.specs.Tree.{Text}
use Rattle.fhir_fp_values.specs.Keys.{Keyed, put_in, in_order}

-- what stands under a name
abbrev pub under : Text → List Keyed → List Text
under n [] = []
under n (k ∷ ks) = if bytes_eq n k.0 then k.1 ∷ under n ks else under n ks

-- no name is less than one before it
abbrev pub Rises : List Keyed → Type 0
Rises [] = Unit {0}
Rises (k ∷ ks) = AllByRecursion (λ l. is_lt (slice_cmp nat_cmp l.0 k.0) ≡ false) ks × Rises ks

own : (n : Text) → bytes_eq n n ≡ true
own n = (bytes_eq-Decides n n).1 refl

-- ---- where a name is less than each

absent : (n : Text) (m : Text) (ls : List Keyed) → is_lt (slice_cmp nat_cmp n m) ≡ true
    → AllByRecursion (λ l. is_lt (slice_cmp nat_cmp l.0 m) ≡ false) ls → under n ls ≡ []
absent n m [] lt h = refl
absent n m (l ∷ ls) lt h = go (bytes_eq n l.0) refl (absent n m ls lt h.1)
  where
    go : (b : Bool) → bytes_eq n l.0 ≡ b → under n ls ≡ [] → (if b then l.1 ∷ under n ls else under n ls) ≡ []
    go true is rest =
        let e : true ≡ false = sym lt ∙ ap (λ (t : Text). is_lt (slice_cmp nat_cmp t m)) ((bytes_eq-Decides n l.0).0 is) ∙ h.0 in absurd cc
    go false is rest = rest

-- a name isn't less than itself
not_itself : (a b : Text) → bytes_eq a b ≡ true → is_lt (slice_cmp nat_cmp a b) ≡ false
not_itself a b is = go (slice_cmp nat_cmp a b) (is_eq-slice_cmp a b ∙ is)
  where
    go : (r : Ordering) → is_eq r ≡ true → is_lt r ≡ false
    go Less h = absurd cc
    go Equal h = refl
    go Greater h = refl

turned : (r s : Ordering) → r ≡ ordering_reverse s → is_gt r ≡ true → is_lt s ≡ true
turned r Less e h = refl
turned r Equal e h = absurd cc
turned r Greater e h = let f : true ≡ false = sym h ∙ ap is_gt e in absurd cc

reverse_lt : (r s : Ordering) → r ≡ ordering_reverse s → is_lt s ≡ true → is_lt r ≡ false
reverse_lt r Less e h = ap is_lt e
reverse_lt r Equal e h = absurd cc
reverse_lt r Greater e h = absurd cc

-- ---- lists that rise are one where they have the same under each name

abbrev pair : Text → Text → Keyed
pair name key = (name, key)

same_heads : (k l : Keyed) → k.0 ≡ l.0 → k.1 ≡ l.1 → k ≡ l
same_heads k l e f = ap (λ (name : Text). pair name k.1) e ∙ ap (pair l.0) f

-- under the first name
first_under : (k : Keyed) (ks : List Keyed) → under k.0 (k ∷ ks) ≡ k.1 ∷ under k.0 ks
first_under k ks = go (bytes_eq k.0 k.0) (own k.0)
  where
    go : (b : Bool) → b ≡ true → (if b then k.1 ∷ under k.0 ks else under k.0 ks) ≡ k.1 ∷ under k.0 ks
    go true is = refl
    go false is = absurd cc

other_under : (n : Text) (k : Keyed) (ks : List Keyed) → bytes_eq n k.0 ≡ false → under n (k ∷ ks) ≡ under n ks
other_under n k ks is = go (bytes_eq n k.0) is
  where
    go : (b : Bool) → b ≡ false → (if b then k.1 ∷ under n ks else under n ks) ≡ under n ks
    go true is = absurd cc
    go false is = refl

differs : (n m : Text) → is_lt (slice_cmp nat_cmp n m) ≡ true → bytes_eq n m ≡ false
differs n m lt = go (bytes_eq n m) refl
  where
    go : (b : Bool) → bytes_eq n m ≡ b → b ≡ false
    go true is = let e : true ≡ false = sym lt ∙ not_itself n m is in absurd cc
    go false is = refl

-- a name that is less than the first stands nowhere
below_all : (n : Text) (l : Keyed) (ls : List Keyed) → is_lt (slice_cmp nat_cmp n l.0) ≡ true → Rises (l ∷ ls) → under n (l ∷ ls) ≡ []
below_all n l ls lt r = other_under n l ls (differs n l.0 lt) ∙ absent n l.0 ls lt r.0

one_list : (ks ls : List Keyed) → Rises ks → Rises ls → ((n : Text) → under n ks ≡ under n ls) → ks ≡ ls
one_list [] [] a b same = refl
one_list [] (l ∷ ls) a b same = let e : [] ≡ l.1 ∷ under l.0 ls = same l.0 ∙ first_under l ls in absurd cc
one_list (k ∷ ks) [] a b same = let e : k.1 ∷ under k.0 ks ≡ [] = sym (first_under k ks) ∙ same k.0 in absurd cc
one_list (k ∷ ks) (l ∷ ls) a b same = go (slice_cmp nat_cmp k.0 l.0) refl (one_list ks ls a.1 b.1)
  where
    firsts : k.0 ≡ l.0 → k.1 ∷ under k.0 ks ≡ l.1 ∷ under k.0 ls
    firsts name =
        sym (first_under k ks) ∙ same k.0 ∙ ap (λ (n : Text). under n (l ∷ ls)) name ∙ first_under l ls
        ∙ ap (λ (n : Text). l.1 ∷ under n ls) (sym name)

    rest : (n : Text) → k.0 ≡ l.0 → (b : Bool) → bytes_eq n k.0 ≡ b → under n ks ≡ under n ls
    rest n name true is =
        let m : n ≡ k.0 = (bytes_eq-Decides n k.0).0 is in
        let e : k.1 ∷ under k.0 ks ≡ l.1 ∷ under k.0 ls = firsts name in
        let f : under k.0 ks ≡ under k.0 ls = cc in
        ap (λ (t : Text). under t ks) m ∙ f ∙ ap (λ (t : Text). under t ls) (sym m)
    rest n name false is =
        sym (other_under n k ks is) ∙ same n ∙ other_under n l ls (sym (ap (bytes_eq n) name) ∙ is)

    go : (r : Ordering) → slice_cmp nat_cmp k.0 l.0 ≡ r → (((n : Text) → under n ks ≡ under n ls) → ks ≡ ls) → k ∷ ks ≡ l ∷ ls
    go Less is more =
        let e : k.1 ∷ under k.0 ks ≡ [] = sym (first_under k ks) ∙ same k.0 ∙ below_all k.0 l ls (ap is_lt is) b in absurd cc
    go Greater is more =
        let lt : is_lt (slice_cmp nat_cmp l.0 k.0) ≡ true =
        turned (slice_cmp nat_cmp k.0 l.0) (slice_cmp nat_cmp l.0 k.0) (nat_list_cmp_total.antisymm k.0 l.0) (ap is_gt is) in
        let e : [] ≡ l.1 ∷ under l.0 ls = sym (below_all l.0 k ks lt a) ∙ same l.0 ∙ first_under l ls in absurd cc
    go Equal is more =
        let name : k.0 ≡ l.0 = (bytes_eq-Decides k.0 l.0).0 (sym (is_eq-slice_cmp k.0 l.0) ∙ ap is_eq is) in
        let e : k.1 ∷ under k.0 ks ≡ l.1 ∷ under k.0 ls = firsts name in
        let value : k.1 ≡ l.1 = cc in
        ap (λ (m : Keyed). m ∷ ks) (same_heads k l name value) ∙ ap (λ (ms : List Keyed). l ∷ ms) (more (λ n. rest n name (bytes_eq n k.0) refl))

-- ---- sorting

put_under : (n : Text) (k : Keyed) (ls : List Keyed) → under n (put_in k ls) ≡ under n (k ∷ ls)
put_under n k [] = refl
put_under n k (l ∷ ls) = go (is_lt (slice_cmp nat_cmp l.0 k.0)) refl (put_under n k ls)
  where
    -- the two stand under names of which one is less
    swap : (c d : Bool) → bytes_eq n l.0 ≡ c → bytes_eq n k.0 ≡ d → is_lt (slice_cmp nat_cmp l.0 k.0) ≡ true
        → (if c then l.1 ∷ (if d then k.1 ∷ under n ls else under n ls) else (if d then k.1 ∷ under n ls else under n ls))
        ≡ (if d then k.1 ∷ (if c then l.1 ∷ under n ls else under n ls) else (if c then l.1 ∷ under n ls else under n ls))
    swap true true a b lt =
        let e : l.0 ≡ k.0 = sym ((bytes_eq-Decides n l.0).0 a) ∙ (bytes_eq-Decides n k.0).0 b in
        let f : true ≡ false = sym lt ∙ not_itself l.0 k.0 ((bytes_eq-Decides l.0 k.0).1 e) in absurd cc
    swap true false a b lt = refl
    swap false true a b lt = refl
    swap false false a b lt = refl

    go : (b : Bool) → is_lt (slice_cmp nat_cmp l.0 k.0) ≡ b → under n (put_in k ls) ≡ under n (k ∷ ls)
        → under n (if b then l ∷ put_in k ls else k ∷ (l ∷ ls)) ≡ under n (k ∷ (l ∷ ls))
    go true is ih =
        ap (λ (ts : List Text). if bytes_eq n l.0 then l.1 ∷ ts else ts) ih ∙ swap (bytes_eq n l.0) (bytes_eq n k.0) refl refl is
    go false is ih = refl

pub order_under : (n : Text) (ks : List Keyed) → under n (in_order ks) ≡ under n ks
order_under n [] = refl
order_under n (k ∷ ks) = put_under n k (in_order ks) ∙ ap (λ (ts : List Text). if bytes_eq n k.0 then k.1 ∷ ts else ts) (order_under n ks)

-- what isn't less than a name isn't less than one that isn't above it
above : (j k : Keyed) (ls : List Keyed) → is_lt (slice_cmp nat_cmp k.0 j.0) ≡ false
    → AllByRecursion (λ l. is_lt (slice_cmp nat_cmp l.0 k.0) ≡ false) ls → AllByRecursion (λ l. is_lt (slice_cmp nat_cmp l.0 j.0) ≡ false) ls
above j k [] h each = tt
above j k (l ∷ ls) h each = ((ranks_by nat_list_cmp_total (λ (m : Keyed). m.0)).chain l k j each.0 h, above j k ls h each.1)

put_all : (P : Keyed → Type 0) (k : Keyed) (ls : List Keyed) → P k → AllByRecursion P ls → AllByRecursion P (put_in k ls)
put_all P k [] h each = (h, tt)
put_all P k (l ∷ ls) h each = go (is_lt (slice_cmp nat_cmp l.0 k.0)) (put_all P k ls h each.1)
  where
    go : (b : Bool) → AllByRecursion P (put_in k ls) → AllByRecursion P (if b then l ∷ put_in k ls else k ∷ (l ∷ ls))
    go true rest = (each.0, rest)
    go false rest = (h, each)

put_rises : (k : Keyed) (ls : List Keyed) → Rises ls → Rises (put_in k ls)
put_rises k [] r = (tt, tt)
put_rises k (l ∷ ls) r = go (is_lt (slice_cmp nat_cmp l.0 k.0)) refl (put_rises k ls r.1)
  where
    go : (b : Bool) → is_lt (slice_cmp nat_cmp l.0 k.0) ≡ b → Rises (put_in k ls) → Rises (if b then l ∷ put_in k ls else k ∷ (l ∷ ls))
    go true is rest =
        let back : is_lt (slice_cmp nat_cmp k.0 l.0) ≡ false =
        reverse_lt (slice_cmp nat_cmp k.0 l.0) (slice_cmp nat_cmp l.0 k.0) (nat_list_cmp_total.antisymm k.0 l.0) is in
        (put_all (λ m. is_lt (slice_cmp nat_cmp m.0 l.0) ≡ false) k ls back r.0, rest)
    go false is rest = ((is, above k l ls is r.0), r)

order_rises : (ks : List Keyed) → Rises (in_order ks)
order_rises [] = tt
order_rises (k ∷ ks) = put_rises k (in_order ks) (order_rises ks)

-- what rises, and has the same under each name as a list, is that list in order
pub order_is : (ks ls : List Keyed) → Rises ks → ((n : Text) → under n ks ≡ under n ls) → ks ≡ in_order ls
order_is ks ls r same = one_list ks (in_order ls) r (order_rises ls) (λ n. same n ∙ sym (order_under n ls))

pub order_one : (ks ls : List Keyed) → ((n : Text) → under n ks ≡ under n ls) → in_order ks ≡ in_order ls
order_one ks ls same = order_is (in_order ks) ls (order_rises ks) (λ n. order_under n ks ∙ same n)
