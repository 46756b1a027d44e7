-- Loops over lists, place by place.
use Rattle.std.proofs.Common.{◌≡◌, ℕ, suc, ◌+◌, ◌<◌, Bool, true, false, ◌&&◌, List, ◌∷◌, ◌++◌, length, get_or, drop, nat_eq, cond, refl, sym, ap, ◌∙◌, append_assoc, add-one, Option, None, Some, arith}
use Rattle.std.proofs.Math.Seq.{drop-cons}
use Rattle.std.specs.List.{find}
use Rattle.fhir_json.specs.declared.json.Member.{Member}
use Rattle.fhir_json.specs.Tree.{Text, names}
use Rattle.fhir_json.specs.Views.{property_of, members_view}
use Rattle.fhir_schema.specs.Schemas.{SchemaValue}
use Rattle.fhir_instance.specs.Items.{Named}
use Rattle.fhir_instance.specs.Typing.{Frame, is_known}
use Rattle.fhir_instance.specs.declared.spelled.Spelled.{Spelled}
use Rattle.fhir_instance.specs.Spelled.{count_front, property_meant, spelled_at, spelled_from, are_known}

pub drop_at : {X : Type 0} (xs : List X) (i : ℕ) (x : X) → i < length xs → x ≡ get_or xs i x → drop i xs ≡ x ∷ drop (i + 1) xs
drop_at xs i x h e = rw (add-one, drop-cons xs i x) (ap (λ y. y ∷ drop (suc i) xs) (sym e))

-- ---- the first that passes a test

module _ {X : Type 0} (test : X → Bool) where
  pub found_here : (xs : List X) (i : ℕ) (x : X) → i < length xs → x ≡ get_or xs i x → test x ≡ true → find test (drop i xs) ≡ Some x
  found_here xs i x h e t = ap (find test) (drop_at xs i x h e) ∙ rw t refl

  pub found_later : (xs : List X) (i : ℕ) (x : X) → i < length xs → x ≡ get_or xs i x → test x ≡ false → find test (drop i xs) ≡ find test (drop (i + 1) xs)
  found_later xs i x h e t = ap (find test) (drop_at xs i x h e) ∙ rw t refl

-- ---- how many at the front are of a form

pub counted_here : (k : ℕ) (xs : List Spelled) (i : ℕ) (x : Spelled) → i < length xs → x ≡ get_or xs i x → nat_eq k x.form ≡ false
    → i + count_front k (drop i xs) ≡ i
counted_here k xs i x h e t =
    let none : count_front k (drop i xs) ≡ 0 = ap (count_front k) (drop_at xs i x h e) ∙ rw t refl in omega arith

pub counted_more : (k : ℕ) (xs : List Spelled) (i : ℕ) (x : Spelled) → i < length xs → x ≡ get_or xs i x → nat_eq k x.form ≡ true
    → i + count_front k (drop i xs) ≡ (i + 1) + count_front k (drop (i + 1) xs)
counted_more k xs i x h e t =
    let more : count_front k (drop i xs) ≡ suc (count_front k (drop (i + 1) xs)) = ap (count_front k) (drop_at xs i x h e) ∙ rw t refl in omega arith

-- ---- the properties that are a form's

front : (ms : List Member) (i : ℕ) (m : Member) → i < length ms → m ≡ get_or ms i m
    → names (members_view (drop i ms)) ≡ (property_of m).0 ∷ names (members_view (drop (i + 1) ms))
front ms i m h e = ap (λ (l : List Member). names (members_view l)) (drop_at ms i m h e)

pub spelled_more : (s : SchemaValue) (fr : Frame) (ms : List Member) (i : ℕ) (m : Member) (old new all : List Spelled) → i < length ms → m ≡ get_or ms i m
    → new ≡ old ++ spelled_at i (property_meant s fr (property_of m).0) → old ++ spelled_from s fr i (names (members_view (drop i ms))) ≡ all
    → new ++ spelled_from s fr (i + 1) (names (members_view (drop (i + 1) ms))) ≡ all
spelled_more s fr ms i m old new all h e is was =
    ap (λ (l : List Spelled). l ++ spelled_from s fr (i + 1) (names (members_view (drop (i + 1) ms)))) is
    ∙ ap (λ (k : ℕ). (old ++ spelled_at i (property_meant s fr (property_of m).0)) ++ spelled_from s fr k (names (members_view (drop (i + 1) ms)))) (add-one i)
    ∙ append_assoc old (spelled_at i (property_meant s fr (property_of m).0)) (spelled_from s fr (suc i) (names (members_view (drop (i + 1) ms))))
    ∙ ap (λ (ns : List Text). old ++ spelled_from s fr i ns) (sym (front ms i m h e)) ∙ was

known_step : (b c : Bool) (old : Option (List Named)) → cond c (cond b old None) None ≡ cond (b && c) old None
known_step true c old = refl
known_step false true old = refl
known_step false false old = refl

pub known_more : (s : SchemaValue) (fr : Frame) (ms : List Member) (i : ℕ) (m : Member) (old new all : Option (List Named)) → i < length ms → m ≡ get_or ms i m
    → new ≡ cond (is_known s fr (property_of m).0) old None → cond (are_known s fr (names (members_view (drop i ms)))) old None ≡ all
    → cond (are_known s fr (names (members_view (drop (i + 1) ms)))) new None ≡ all
known_more s fr ms i m old new all h e is was =
    ap (λ (o : Option (List Named)). cond (are_known s fr (names (members_view (drop (i + 1) ms)))) o None) is
    ∙ known_step (is_known s fr (property_of m).0) (are_known s fr (names (members_view (drop (i + 1) ms)))) old
    ∙ ap (λ (ns : List Text). cond (are_known s fr ns) old None) (sym (front ms i m h e)) ∙ was
