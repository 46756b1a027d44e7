-- What is kept of a package as its definitions are read one after the other.
use Rattle.std.proofs.Common.{◌≡◌, ℕ, zero, suc, ◌+◌, Bool, cond, true, false, ◌&&◌, List, [], ◌∷◌, ◌++◌, map, take, Option, Some, None, is_some, refl, ap, sym, ◌∙◌, arith, Bor}
use Rattle.std.specs.Prelude.{codes}
use Rattle.std.specs.Map.{lookup}
use Rattle.std.specs.List.{find, slice_get}
use Rattle.std.specs.Str.{bytes_eq}
use Rattle.std.specs.Option.{option_map, option_or, option_copied}
use Rattle.std.proofs.lemmas.Slice.Eq.{bytes_eq-Decides}
use Rattle.fhir_json.specs.Tree.{Text, Tree}
use Rattle.fhir_json.specs.Fields.{text_at}
use Rattle.fhir_elements.specs.Element.{Element}
use Rattle.fhir_package.specs.Definitions.{Definitions}
use Rattle.fhir_definition.specs.Head.{is_type_definition}
use Rattle.fhir_definition.specs.Snapshot.{is_root}
use Rattle.fhir_inheritance.specs.Keys.{key}
use Rattle.fhir_inheritance.specs.Named.{Gets}
use Rattle.fhir_inheritance.specs.Sources.{source_of, elements_in, brings_snapshot, root_key, is_type_of, root_key_in, written_root_key}
use Rattle.fhir_inheritance.proofs.Grouped.{lookup-seen}

-- ---- one or another

module _ {A : Type 0} where
  keep_none : (a : Option A) → a ≡ option_or a None
  keep_none None = refl
  keep_none (Some x) = refl

  keep_some : (a b : Option A) → is_some a ≡ true → a ≡ option_or a b
  keep_some (Some x) b e = refl
  keep_some None b e = absurd cc

  both_or : (x y z : Option A) → option_or x (option_or y z) ≡ option_or (option_or x y) z
  both_or None y z = refl
  both_or (Some x) y z = refl

  -- what is looked up in a list that is one longer
  pub lookup-snoc : (p : Text → Bool) (es : List (Text × A)) (e : Text × A) → lookup p (es ++ e ∷ []) ≡ option_or (lookup p es) (cond (p e.0) (Some e.1) None)
  lookup-snoc p [] e = refl
  lookup-snoc p (x ∷ es) e = by (p x.0) (lookup-snoc p es e)
    where
      by : (b : Bool) → lookup p (es ++ e ∷ []) ≡ option_or (lookup p es) (cond (p e.0) (Some e.1) None)
          → cond b (Some x.1) (lookup p (es ++ e ∷ [])) ≡ option_or (cond b (Some x.1) (lookup p es)) (cond (p e.0) (Some e.1) None)
      by true h = refl
      by false h = h

  took-none : (xs : List A) (k : ℕ) → slice_get xs k ≡ None → take (suc k) xs ≡ take k xs
  took-none [] zero e = refl
  took-none [] (suc k) e = refl
  took-none (x ∷ xs) zero e = absurd cc
  took-none (x ∷ xs) (suc k) e = ap (λ (l : List A). x ∷ l) (took-none xs k e)

  same : (y x : A) → Some y ≡ Some x → y ≡ x
  same y x e = cc

  took-some : (xs : List A) (k : ℕ) (x : A) → slice_get xs k ≡ Some x → take (suc k) xs ≡ take k xs ++ x ∷ []
  took-some [] k x e = absurd cc
  took-some (y ∷ xs) zero x e = ap (λ (z : A). z ∷ []) (same y x e)
  took-some (y ∷ xs) (suc k) x e = ap (λ (l : List A). y ∷ l) (took-some xs k x e)

  -- a list to a place that has nothing is the list to the place before it
  pub take-none : (xs : List A) (k : ℕ) → slice_get xs k ≡ None → take (k + 1) xs ≡ take k xs
  take-none xs k e = let next : k + 1 ≡ suc k = omega arith in ap (λ (n : ℕ). take n xs) next ∙ took-none xs k e

  pub take-some : (xs : List A) (k : ℕ) (x : A) → slice_get xs k ≡ Some x → take (k + 1) xs ≡ take k xs ++ x ∷ []
  take-some xs k x e = let next : k + 1 ≡ suc k = omega arith in ap (λ (n : ℕ). take n xs) next ∙ took-some xs k x e

module _ {A B : Type 0} where
  mapped_or : (f : A → B) (a : Option A) (b : Bool) (x : A) → option_map f (option_or a (cond b (Some x) None)) ≡ option_or (option_map f a) (cond b (Some (f x)) None)
  mapped_or f None true x = refl
  mapped_or f None false x = refl
  mapped_or f (Some a) b x = refl

-- ---- types

pub root-key-snoc : (es : List (Text × Tree)) (e : Text × Tree) (code : Text)
    → root_key_in (es ++ e ∷ []) code ≡ option_or (root_key_in es code) (cond (is_type_of code e.1) (root_key e.0 e.1) None)
root-key-snoc [] e code = sym (keep_none (cond (is_type_of code e.1) (root_key e.0 e.1) None))
root-key-snoc (x ∷ es) e code =
    let own = cond (is_type_of code x.1) (root_key x.0 x.1) None in
    ap (option_or own) (root-key-snoc es e code) ∙ both_or own (root_key_in es code) (cond (is_type_of code e.1) (root_key e.0 e.1) None)

-- the root of a definition that is read is that of its tree
pub written-root : (p : Definitions) (url : Text) (t : Tree) → written_root_key url (source_of p t) ≡ root_key url t
written-root p url t = by (brings_snapshot t)
  where
    by : (b : Bool) → cond b (option_map (λ (e : Element). key e.id url) (find is_root (elements_in (cond b (codes "snapshot") (codes "differential")) t))) None
        ≡ cond b (option_map (λ (e : Element). key e.id url) (find is_root (elements_in (codes "snapshot") t))) None
    by true = refl
    by false = refl

-- what is no type definition gives no code a root
pub no-type : (t : Tree) (code : Text) (root found : Option Text) → is_type_definition t ≡ false → found ≡ option_or found (cond (is_type_of code t) root None)
no-type t code root found e = keep_none found ∙ ap (λ (b : Bool). option_or found (cond (b && bytes_eq code (text_at (codes "type") t)) root None)) (sym e)

-- a code that has a root keeps it
pub known-type : (found : Text → Option Text) (own code : Text) (b : Bool) (root : Option Text) → is_some (found own) ≡ true
    → found code ≡ option_or (found code) (cond (b && bytes_eq code own) root None)
known-type found own code b root there = by b (bytes_eq code own) refl
  where
    by : (b c : Bool) → bytes_eq code own ≡ c → found code ≡ option_or (found code) (cond (b && c) root None)
    by true true e = keep_some (found code) root (ap (λ (x : Text). is_some (found x)) ((bytes_eq-Decides code own).0 e) ∙ there)
    by false true e = keep_none (found code)
    by true false e = keep_none (found code)
    by false false e = keep_none (found code)

-- a code that has none keeps none, where there is no root
pub no-root : (found : Option Text) (b : Bool) → found ≡ option_or found (cond b None None)
no-root found true = keep_none found
no-root found false = keep_none found

pub new-type : (found new : Text → Option Text) (own code : Text) (b : Bool) (root : Text) → b ≡ true → is_some (found own) ≡ false
    → new code ≡ cond (bytes_eq code own) (Some root) (found code)
    → new code ≡ option_or (found code) (cond (b && bytes_eq code own) (Some root) None)
new-type found new own code b root is none put = put ∙ by (bytes_eq code own) refl ∙ ap (λ (x : Bool). option_or (found code) (cond (x && bytes_eq code own) (Some root) None)) (sym is)
  where
    lacks : (a : Option Text) → is_some a ≡ false → Some root ≡ option_or a (Some root)
    lacks None e = refl
    lacks (Some x) e = absurd cc

    by : (c : Bool) → bytes_eq code own ≡ c → cond c (Some root) (found code) ≡ option_or (found code) (cond (true && c) (Some root) None)
    by true e = lacks (found code) (ap (λ (x : Text). is_some (found x)) ((bytes_eq-Decides code own).0 e) ∙ none)
    by false e = keep_none (found code)

-- ---- what is seen of things under names

module _ {A : Type 0} where
  mapped_some : (f : A → Text) (o : Option A) → is_some (option_map f o) ≡ is_some o
  mapped_some f None = refl
  mapped_some f (Some x) = refl

  copied_some : (r : Option (Bor A)) → is_some (option_copied r) ≡ is_some r
  copied_some None = refl
  copied_some (Some x) = refl

  pub seen-some : (f : A → Text) (name : Text) (es : List (Text × A)) (r : Option (Bor A)) → option_copied r ≡ lookup (bytes_eq name) es
      → is_some (lookup (bytes_eq name) (map (λ e. (e.0, f e.1)) es)) ≡ is_some r
  seen-some f name es r e = ap is_some (lookup-seen f name es) ∙ mapped_some f (lookup (bytes_eq name) es) ∙ ap is_some (sym e) ∙ copied_some r

  seen_cond : (f : A → Text) (b : Bool) (thing : A) (old : Option A) → option_map f (cond b (Some thing) old) ≡ cond b (Some (f thing)) (option_map f old)
  seen_cond f true thing old = refl
  seen_cond f false thing old = refl

  pub gets-seen : (f : A → Text) (old new : List (Text × A)) (name : Text) (thing : A) → Gets old new name (Some thing) → (other : Text)
      → lookup (bytes_eq other) (map (λ e. (e.0, f e.1)) new) ≡ cond (bytes_eq other name) (Some (f thing)) (lookup (bytes_eq other) (map (λ e. (e.0, f e.1)) old))
  gets-seen f old new name thing h other =
      lookup-seen f other new ∙ ap (option_map f) (h other) ∙ seen_cond f (bytes_eq other name) thing (lookup (bytes_eq other) old)
      ∙ ap (λ (o : Option Text). cond (bytes_eq other name) (Some (f thing)) o) (sym (lookup-seen f other old))

-- ---- definitions

pub source-snoc : (p : Definitions) (es : List (Text × Tree)) (e : Text × Tree) (url : Text)
    → option_map (source_of p) (lookup (bytes_eq url) (es ++ e ∷ [])) ≡ option_or (option_map (source_of p) (lookup (bytes_eq url) es)) (cond (bytes_eq url e.0) (Some (source_of p e.1)) None)
source-snoc p es e url =
    ap (option_map (source_of p)) (lookup-snoc (bytes_eq url) es e) ∙ mapped_or (source_of p) (lookup (bytes_eq url) es) (bytes_eq url e.0) e.1
