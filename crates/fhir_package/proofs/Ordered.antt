-- Names put among others in the order of their bytes.
use Rattle.std.proofs.Common.{Ordering, Less, Equal, Greater, ◌≡◌, true, List, [], ◌∷◌, map, String, string_bytes, refl, ap}
use Rattle.std.specs.Prelude.{filter}
use Rattle.std.specs.Cmp.Lexicographic.{slice_cmp}
use Rattle.std.specs.Ordering.{match_ordering, nat_cmp}
use Rattle.std.specs.String.{string_cmp}
use Rattle.std.specs.BTreeSet.{insert_key}
use Rattle.fhir_json.specs.Tree.{Text}
use Rattle.fhir_package.specs.Packing.{is_json_name, ordered_with}

abbrev pub texts_of : {Y : Type 0} → List (String Y) → List Text
texts_of ks = map string_bytes ks

module _ {Y : Type 0} where
  pub texts-insert_key : (k : String Y) (ks : List (String Y))
      → texts_of (insert_key string_cmp ks k) ≡ insert_key (slice_cmp nat_cmp) (texts_of ks) (string_bytes k)
  texts-insert_key k [] = refl
  texts-insert_key k (x ∷ xs) =
      let rest = ap (λ (l : List Text). string_bytes x ∷ l) (texts-insert_key k xs) in
      by (slice_cmp nat_cmp (string_bytes k) (string_bytes x)) rest
    where
      by : (o : Ordering) → texts_of (x ∷ insert_key string_cmp xs k) ≡ string_bytes x ∷ insert_key (slice_cmp nat_cmp) (texts_of xs) (string_bytes k)
          → texts_of (match_ordering o (k ∷ x ∷ xs) (x ∷ xs) (x ∷ insert_key string_cmp xs k))
          ≡ match_ordering o (string_bytes k ∷ texts_of (x ∷ xs)) (texts_of (x ∷ xs))
          (string_bytes x ∷ insert_key (slice_cmp nat_cmp) (texts_of xs) (string_bytes k))
      by Less rest = refl
      by Equal rest = refl
      by Greater rest = rest

-- a name that is put in
pub names_taken : (ordered : List Text) (n : Text) (ns : List Text) → is_json_name n ≡ true
    → ordered_with ordered (filter is_json_name (n ∷ ns)) ≡ ordered_with (insert_key (slice_cmp nat_cmp) ordered n) (filter is_json_name ns)
names_taken ordered n ns is = rw is refl
