-- The positions of children under their names.
use Rattle.std.proofs.Common.{◌≡◌, ℕ, suc, ◌+◌, ◌<◌, ◌≤◌, Bool, true, false, cond, List, [], ◌∷◌, ◌++◌, length, take, get_or, Some, refl, sym, ap, ◌∙◌, add-zero, zero-add, arith}
use Rattle.std.specs.Prelude.{if◌then◌else◌, Vec}
use Rattle.std.specs.declared.alloc.Global.{Global}
use Rattle.std.specs.Borrow.{Bor}
use Rattle.std.specs.BTreeMap.{BTreeMap, is_at}
use Rattle.std.specs.Cmp.Lexicographic.{slice_cmp}
use Rattle.std.specs.Map.{lookup}
use Rattle.std.specs.Option.{option_map_or}
use Rattle.std.specs.Ordering.{nat_cmp}
use Rattle.std.specs.Str.{bytes_eq}
use Rattle.std.proofs.lemmas.List.{append-nil, take_more, length-take-le}
use Rattle.std.proofs.lemmas.Map.Text.{is_eq-slice_cmp}
use Rattle.fhir_json.specs.Tree.{Text}
use Rattle.fhir_instance.specs.Items.{kids_in}
use Rattle.fhir_instance.specs.View.{named_of, named_in}
use Rattle.fhir_instance.specs.declared.typed.Kid.{Kid}
use Rattle.fhir_conformance.specs.Asks.{places_from}
use Rattle.fhir_conformance.specs.Views.{places_at, places_in, places_by_name}

-- what a map has at a name
pub named_places : (name : Text) (es : List (Bor Text × Vec ℕ Global))
    → option_map_or (λ ps. ps.items) (lookup (is_at (λ key. slice_cmp nat_cmp name key.now)) es) [] ≡ places_in (places_by_name es) name
named_places name [] = refl
named_places name (e ∷ es) = by_case (is_at (λ key. slice_cmp nat_cmp name key.now) e.0) (bytes_eq name e.0.now) (is_eq-slice_cmp name e.0.now) (named_places name es)
  where
    by_case : (a b : Bool) → a ≡ b
        → option_map_or (λ ps. ps.items) (lookup (is_at (λ key. slice_cmp nat_cmp name key.now)) es) [] ≡ places_in (places_by_name es) name
        → option_map_or (λ ps. ps.items) (cond a (Some e.1) (lookup (is_at (λ key. slice_cmp nat_cmp name key.now)) es)) []
        ≡ option_map_or (λ ps. ps) (cond b (Some e.1.items) (lookup (bytes_eq name) (places_by_name es))) []
    by_case true true is more = refl
    by_case true false is more = cc
    by_case false true is more = cc
    by_case false false is more = more

-- one child more
one_more : (name : Text) (start : ℕ) (ks : List Kid) (k : Kid)
    → places_from start name (kids_in (named_in (ks ++ k ∷ [])))
    ≡ places_from start name (kids_in (named_in ks)) ++ (if bytes_eq name (named_of k).0 then (start + length ks) ∷ [] else [])
one_more name start [] k = sym (ap (λ (n : ℕ). if bytes_eq name (named_of k).0 then n ∷ [] else []) (add-zero start))
one_more name start (x ∷ ks) k =
    by_case (bytes_eq name (named_of x).0)
    (one_more name (suc start) ks k ∙ ap (λ (n : ℕ). places_from (suc start) name (kids_in (named_in ks)) ++ (if bytes_eq name (named_of k).0 then n ∷ [] else [])) moved)
  where
    moved : suc start + length ks ≡ start + suc (length ks)
    moved = omega arith

    by_case : (b : Bool)
        → places_from (suc start) name (kids_in (named_in (ks ++ k ∷ [])))
        ≡ places_from (suc start) name (kids_in (named_in ks)) ++ (if bytes_eq name (named_of k).0 then (start + suc (length ks)) ∷ [] else [])
        → (if b then start ∷ places_from (suc start) name (kids_in (named_in (ks ++ k ∷ []))) else places_from (suc start) name (kids_in (named_in (ks ++ k ∷ []))))
        ≡ (if b then start ∷ places_from (suc start) name (kids_in (named_in ks)) else places_from (suc start) name (kids_in (named_in ks)))
        ++ (if bytes_eq name (named_of k).0 then (start + suc (length ks)) ∷ [] else [])
    by_case true e = ap (λ (ps : List ℕ). start ∷ ps) e
    by_case false e = e

either_way : (b : Bool) (ps : List ℕ) (i : ℕ) → (if b then ps ++ i ∷ [] else ps) ≡ ps ++ (if b then i ∷ [] else [])
either_way true ps i = refl
either_way false ps i = sym (append-nil ps)

pub put_more : (ks : List Kid) (i : ℕ) (k : Kid) (old new : BTreeMap (Bor Text) (Vec ℕ Global)) (key : Text)
    → i < length ks → get_or ks i k ≡ k → key ≡ (named_of k).0
    → ((name : Text) → places_at name new ≡ (if bytes_eq name key then places_at name old ++ i ∷ [] else places_at name old))
    → ((name : Text) → places_at name old ≡ places_from 0 name (kids_in (named_in (take i ks))))
    → (name : Text) → places_at name new ≡ places_from 0 name (kids_in (named_in (take (i + 1) ks)))
put_more ks i k old new key lt is same puts before name =
    puts name
    ∙ either_way (bytes_eq name key) (places_at name old) i
    ∙ ap (λ (ps : List ℕ). ps ++ (if bytes_eq name key then i ∷ [] else [])) (before name)
    ∙ ap (λ (t : Text). places_from 0 name (kids_in (named_in (take i ks))) ++ (if bytes_eq name t then i ∷ [] else [])) same
    ∙ ap (λ (n : ℕ). places_from 0 name (kids_in (named_in (take i ks))) ++ (if bytes_eq name (named_of k).0 then n ∷ [] else [])) (sym counted)
    ∙ sym (one_more name 0 (take i ks) k)
    ∙ ap (λ (xs : List Kid). places_from 0 name (kids_in (named_in xs))) (sym all)
  where
    counted : 0 + length (take i ks) ≡ i
    counted =
        let short : i ≤ length ks = omega arith in
        zero-add (length (take i ks)) ∙ length-take-le i ks short

    all : take (i + 1) ks ≡ take i ks ++ k ∷ []
    all = take_more ks i k lt ∙ ap (λ (x : Kid). take i ks ++ x ∷ []) is
