-- Which names are the names of JSON files among others.
use Rattle.std.proofs.Common.{Ordering, Less, Equal, Greater, ◌≡◌, ◌<◌, ℕ, zero, suc, Bool, true, false, cond, List, [], ◌∷◌, length, refl, sym, ap, ◌∙◌, ◌⊎◌}
use Rattle.std.proofs.Common.{inl, inr, arith}
use Rattle.std.specs.Prelude.{filter, Contains, slice_index_or}
use Rattle.std.specs.Cmp.Lexicographic.{slice_cmp}
use Rattle.std.specs.Ordering.{match_ordering, nat_cmp}
use Rattle.std.specs.BTreeSet.{insert_key}
use Rattle.std.proofs.lemmas.Map.Lookups.{exact_bytes}
use Rattle.fhir_json.specs.Tree.{Text}
use Rattle.fhir_package.specs.Packing.{is_json_name, ordered_with, json_names}

abbrev pub Among : Text → List Text → Type 0
Among x [] = ⊥
Among x (y ∷ ys) = (y ≡ x) ⊎ Among x ys

at_index : (xs : List Text) (k : ℕ) (x : Text) → k < length xs → slice_index_or xs k x ≡ x → Among x xs
at_index [] k x l e = absurd (omega arith)
at_index (y ∷ ys) zero x l e = inl e
at_index (y ∷ ys) (suc k) x l e = inr (at_index ys k x (omega arith) e)

pub among-contained : (xs : List Text) (x : Text) → Contains xs x → Among x xs
among-contained xs x c = at_index xs c.0 x c.1 c.2

pub contained-among : (xs : List Text) (x : Text) → Among x xs → Contains xs x
contained-among [] x h = absurd h
contained-among (y ∷ ys) x h = elim h [
  | inl e ↦ (0, omega arith, e)
  | inr r ↦ let c = contained-among ys x r in (suc c.0, omega arith, c.2)
]

abbrev put : List Text → Text → List Text
put xs k = insert_key (slice_cmp nat_cmp) xs k

-- ---- what is there was among them

from_put : (xs : List Text) (k x : Text) → Among x (put xs k) → (k ≡ x) ⊎ Among x xs
from_put [] k x h = h
from_put (y ∷ ys) k x h = by (slice_cmp nat_cmp k y) (from_put ys k x) h
  where
    by : (o : Ordering) → (Among x (put ys k) → (k ≡ x) ⊎ Among x ys) → Among x (match_ordering o (k ∷ y ∷ ys) (y ∷ ys) (y ∷ put ys k))
        → (k ≡ x) ⊎ Among x (y ∷ ys)
    by Less rest h = h
    by Equal rest h = inr h
    by Greater rest h = elim h [ inl e ↦ inr (inl e) | inr r ↦ elim (rest r) [ inl e ↦ inl e | inr s ↦ inr (inr s) ] ]

from_ordered : (xs ns : List Text) (x : Text) → Among x (ordered_with xs ns) → Among x xs ⊎ Among x ns
from_ordered xs [] x h = inl h
from_ordered xs (n ∷ ns) x h = elim (from_ordered (put xs n) ns x h) [
  | inl a ↦ elim (from_put xs n x a) [ inl e ↦ inr (inl e) | inr b ↦ inl b ]
  | inr b ↦ inr (inr b)
]

from_filter : (ns : List Text) (x : Text) → Among x (filter is_json_name ns) → Among x ns × (is_json_name x ≡ true)
from_filter [] x h = absurd h
from_filter (n ∷ ns) x h = by (is_json_name n) refl (from_filter ns x) h
  where
    by : (b : Bool) → is_json_name n ≡ b → (Among x (filter is_json_name ns) → Among x ns × (is_json_name x ≡ true))
        → Among x (cond b (n ∷ filter is_json_name ns) (filter is_json_name ns)) → Among x (n ∷ ns) × (is_json_name x ≡ true)
    by true is rest h = elim h [ inl e ↦ (inl e, ap is_json_name (sym e) ∙ is) | inr r ↦ let s = rest r in (inr s.0, s.1) ]
    by false isnt rest h = let s = rest h in (inr s.0, s.1)

pub among-json_names : (ns : List Text) (x : Text) → Among x (json_names ns) → Among x ns × (is_json_name x ≡ true)
among-json_names ns x h = elim (from_ordered [] (filter is_json_name ns) x h) [ inl a ↦ absurd a | inr b ↦ from_filter ns x b ]

-- ---- what was among them is there

put_itself : (xs : List Text) (k : Text) → Among k (put xs k)
put_itself [] k = inl refl
put_itself (y ∷ ys) k = by (slice_cmp nat_cmp k y) refl (put_itself ys k)
  where
    by : (o : Ordering) → slice_cmp nat_cmp k y ≡ o → Among k (put ys k) → Among k (match_ordering o (k ∷ y ∷ ys) (y ∷ ys) (y ∷ put ys k))
    by Less is rest = inl refl
    by Equal is rest = inl (sym (exact_bytes k y is))
    by Greater is rest = inr rest

put_more : (xs : List Text) (k x : Text) → Among x xs → Among x (put xs k)
put_more [] k x h = absurd h
put_more (y ∷ ys) k x h = by (slice_cmp nat_cmp k y) (put_more ys k x) h
  where
    by : (o : Ordering) → (Among x ys → Among x (put ys k)) → Among x (y ∷ ys) → Among x (match_ordering o (k ∷ y ∷ ys) (y ∷ ys) (y ∷ put ys k))
    by Less rest h = inr h
    by Equal rest h = h
    by Greater rest h = elim h [ inl e ↦ inl e | inr r ↦ inr (rest r) ]

ordered_kept : (xs ns : List Text) (x : Text) → Among x xs → Among x (ordered_with xs ns)
ordered_kept xs [] x h = h
ordered_kept xs (n ∷ ns) x h = ordered_kept (put xs n) ns x (put_more xs n x h)

ordered_taken : (xs ns : List Text) (x : Text) → Among x ns → Among x (ordered_with xs ns)
ordered_taken xs [] x h = absurd h
ordered_taken xs (n ∷ ns) x h = elim h [
  | inl e ↦ ordered_kept (put xs n) ns x (put_at e)
  | inr r ↦ ordered_taken (put xs n) ns x r
]
  where
    put_at : n ≡ x → Among x (put xs n)
    put_at e = rw (← e) (put_itself xs n)

filter_kept : (ns : List Text) (x : Text) → Among x ns → is_json_name x ≡ true → Among x (filter is_json_name ns)
filter_kept [] x h is = absurd h
filter_kept (n ∷ ns) x h is = elim h [
  | inl e ↦ here e (ap is_json_name e ∙ is)
  | inr r ↦ later (is_json_name n) (filter_kept ns x r is)
]
  where
    here : n ≡ x → is_json_name n ≡ true → Among x (cond (is_json_name n) (n ∷ filter is_json_name ns) (filter is_json_name ns))
    here e is = rw is (inl e)

    later : (b : Bool) → Among x (filter is_json_name ns) → Among x (cond b (n ∷ filter is_json_name ns) (filter is_json_name ns))
    later true r = inr r
    later false r = r

pub json_names-among : (ns : List Text) (x : Text) → Among x ns → is_json_name x ≡ true → Among x (json_names ns)
json_names-among ns x h is = ordered_taken [] (filter is_json_name ns) x (filter_kept ns x h is)
