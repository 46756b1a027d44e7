-- Names put among others that rise by their bytes rise still.
use Rattle.std.proofs.Common.{Ordering, Less, Equal, Greater, ◌≡◌, List, [], ◌∷◌, refl, ap, ◌∙◌}
use Rattle.std.specs.Prelude.{filter, Contains, IsTrue, ◌↔◌}
use Rattle.std.specs.List.{AllByRecursion}
use Rattle.std.specs.List.Sorted.{IsStrictlySortedBy}
use Rattle.std.specs.Cmp.Lexicographic.{slice_cmp}
use Rattle.std.specs.Ordering.{match_ordering, ordering_reverse, nat_cmp}
use Rattle.std.specs.BTreeSet.{insert_key}
use Rattle.std.proofs.lemmas.Cmp.{nat_list_cmp_total}
use Rattle.fhir_json.specs.Tree.{Text}
use Rattle.fhir_package.specs.Packing.{is_json_name, ordered_with, json_names}
use Rattle.fhir_package.proofs.Among.{among-contained, contained-among, among-json_names, json_names-among}

abbrev by_bytes : Text → Text → Ordering
by_bytes = slice_cmp nat_cmp

abbrev put : List Text → Text → List Text
put xs k = insert_key by_bytes xs k

all_put : (P : Text → Type 0) (xs : List Text) (k : Text) → AllByRecursion P xs → P k → AllByRecursion P (put xs k)
all_put P [] k h one = (one, tt)
all_put P (y ∷ ys) k h one = by (by_bytes k y) (all_put P ys k h.1 one)
  where
    by : (o : Ordering) → AllByRecursion P (put ys k) → AllByRecursion P (match_ordering o (k ∷ y ∷ ys) (y ∷ ys) (y ∷ put ys k))
    by Less rest = (one, h)
    by Equal rest = h
    by Greater rest = (h.0, rest)

-- what is above y is above all that is below y
all_above : (k y : Text) (ys : List Text) → by_bytes k y ≡ Less → AllByRecursion (λ z. by_bytes y z ≡ Less) ys → AllByRecursion (λ z. by_bytes k z ≡ Less) ys
all_above k y [] less h = tt
all_above k y (z ∷ zs) less h = (nat_list_cmp_total.trans k y z less h.0, all_above k y zs less h.1)

rises_put : (xs : List Text) (k : Text) → IsStrictlySortedBy by_bytes xs → IsStrictlySortedBy by_bytes (put xs k)
unfolding IsStrictlySortedBy
rises_put [] k h = (tt, tt)
rises_put (y ∷ ys) k h = by (by_bytes k y) refl (rises_put ys k h.1)
  where
    by : (o : Ordering) → by_bytes k y ≡ o → IsStrictlySortedBy by_bytes (put ys k)
        → IsStrictlySortedBy by_bytes (match_ordering o (k ∷ y ∷ ys) (y ∷ ys) (y ∷ put ys k))
    by Less is rest = ((is, all_above k y ys is h.0), h)
    by Equal is rest = h
    by Greater is rest = (all_put (λ z. by_bytes y z ≡ Less) ys k h.0 (nat_list_cmp_total.antisymm y k ∙ ap ordering_reverse is), rest)

rises_with : (xs ns : List Text) → IsStrictlySortedBy by_bytes xs → IsStrictlySortedBy by_bytes (ordered_with xs ns)
rises_with xs [] h = h
rises_with xs (n ∷ ns) h = rises_with (put xs n) ns (rises_put xs n h)

none_rises : IsStrictlySortedBy by_bytes []
unfolding IsStrictlySortedBy
none_rises = tt

pub rising_lem : (names : List Text) → IsStrictlySortedBy (slice_cmp nat_cmp) (json_names names)
rising_lem names = rises_with [] (filter is_json_name names) none_rises

pub same_lem : (names : List Text) (n : Text) → Contains (json_names names) n ↔ (Contains names n × IsTrue (is_json_name n))
same_lem names n = (
  λ c. let there = among-json_names names n (among-contained (json_names names) n c) in (contained-among names n there.0, there.1),
  λ c. contained-among (json_names names) n (json_names-among names n (among-contained names n c.0) c.1),
)
