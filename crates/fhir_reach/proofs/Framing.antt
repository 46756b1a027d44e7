-- What definitions that aren't reached leave as it is.
use Rattle.std.proofs.Common.{◌≡◌, ℕ, zero, suc, ◌++◌, Bool, true, false, cond, List, [], ◌∷◌, map, filter, not, Option, Some, None, refl, sym, ap, ap₂, subst, ◌∙◌, ◌||◌, length}
use Rattle.std.specs.Prelude.{codes}
use Rattle.std.specs.List.{list_any, slice_get, flat_map}
use Rattle.std.specs.Option.{option_map_or}
use Rattle.std.specs.Map.{lookup}
use Rattle.std.specs.Str.{bytes_eq}
use Rattle.std.proofs.lemmas.Bool.{and_parts, or_left, or_right, false≢true}
use Rattle.std.proofs.lemmas.List.Folds.{list_any-append}
use Rattle.std.proofs.lemmas.Slice.Eq.{bytes_eq-Decides}
use Rattle.fhir_json.specs.Tree.{Text, Tree}
use Rattle.fhir_json.specs.Fields.{text_at}
use Rattle.fhir_package.specs.declared.kind.Kind.{Kind}
use Rattle.fhir_package.specs.declared.kind.Kind.TheVariants.{StructureDefinition, ValueSet, CodeSystem}
use Rattle.fhir_package.specs.Definitions.{ByUrl, Definitions, of_kind, with_kind}
use Rattle.fhir_package.specs.Packing.{Definition}
use Rattle.fhir_package.specs.Changing.{put_at, without_url, put_in, put_each, without}
use Rattle.fhir_definition.specs.Head.{is_type_definition}
use Rattle.fhir_reach.specs.Keys.{KeyValue, of_url, of_code, has_key, with_keys}
use Rattle.fhir_reach.specs.Naming.{structure_keys, value_set_keys}
use Rattle.fhir_reach.specs.Reach.{is_type_of, types_of, named_by, type_code_keys, keys_of, is_held, held_of, restrict, keys_at, first_keys, put_keys, all_put_keys, removed_keys}
use Rattle.fhir_reach.specs.Search.{found_after, reached}
use Rattle.fhir_reach.proofs.Reached.{within_reached, reached_found, found_reached}
use Rattle.fhir_reach.proofs.Keys.{key_there}

neither : (a b : Bool) → (a || b) ≡ false → (a ≡ false) × (b ≡ false)
neither true b e = cc
neither false b e = (refl, e)

-- ---- what is named by definitions for which the keys stand

module _ (keys : List KeyValue) where
  held_by_url : (kind : Kind) (url : Text) (e : Text × Tree) → has_key keys (of_url url) ≡ true → bytes_eq url e.0 ≡ true → is_held keys kind e.0 e.1 ≡ true
  held_by_url kind url e h is =
      or_left (has_key keys (of_url e.0)) (list_any (has_key keys) (type_code_keys kind e.1))
      (subst (λ (t : Text). has_key keys (of_url t) ≡ true) ((bytes_eq-Decides url e.0).0 is) h)

  looked : (kind : Kind) (url : Text) → has_key keys (of_url url) ≡ true → (es : ByUrl) → lookup (bytes_eq url) (held_of keys kind es) ≡ lookup (bytes_eq url) es
  looked kind url h [] = refl
  looked kind url h (e ∷ es) = by (is_held keys kind e.0 e.1) refl (bytes_eq url e.0) refl (looked kind url h es)
    where
      by : (b : Bool) → is_held keys kind e.0 e.1 ≡ b → (c : Bool) → bytes_eq url e.0 ≡ c
          → lookup (bytes_eq url) (held_of keys kind es) ≡ lookup (bytes_eq url) es
          → lookup (bytes_eq url) (cond b (e ∷ held_of keys kind es) (held_of keys kind es)) ≡ cond c (Some e.1) (lookup (bytes_eq url) es)
      by true held c is rest =
          ap (λ (d : Bool). cond d (Some e.1) (lookup (bytes_eq url) (held_of keys kind es))) is
          ∙ ap (λ (o : Option Tree). cond c (Some e.1) o) rest
      by false unheld true is rest = absurd (false≢true (sym unheld ∙ held_by_url kind url e h is))
      by false unheld false is rest = rest

  held_by_code : (code : Text) (e : Text × Tree) → has_key keys (of_code code) ≡ true → is_type_of code e.1 ≡ true → is_held keys StructureDefinition e.0 e.1 ≡ true
  held_by_code code e h is =
      let parts = and_parts (is_type_definition e.1) (bytes_eq code (text_at (codes "type") e.1)) is in
      or_right (has_key keys (of_url e.0)) (list_any (has_key keys) (type_code_keys StructureDefinition e.1)) (by (is_type_definition e.1) parts.0 parts.1)
    where
      by : (b : Bool) → b ≡ true → bytes_eq code (text_at (codes "type") e.1) ≡ true
          → list_any (has_key keys) (cond b (of_code (text_at (codes "type") e.1) ∷ []) []) ≡ true
      by true _ same =
          or_left (has_key keys (of_code (text_at (codes "type") e.1))) false
          (subst (λ (t : Text). has_key keys (of_code t) ≡ true) ((bytes_eq-Decides code (text_at (codes "type") e.1)).0 same) h)
      by false never same = absurd (false≢true never)

  typed : (code : Text) → has_key keys (of_code code) ≡ true → (es : ByUrl) → types_of code (held_of keys StructureDefinition es) ≡ types_of code es
  typed code h [] = refl
  typed code h (e ∷ es) = by (is_held keys StructureDefinition e.0 e.1) refl (is_type_of code e.1) refl (typed code h es)
    where
      more : (c : Bool) (xs ys : ByUrl) → types_of code xs ≡ types_of code ys
          → map (λ e. e.1) (cond c (e ∷ filter (λ e. is_type_of code e.1) xs) (filter (λ e. is_type_of code e.1) xs))
          ≡ map (λ e. e.1) (cond c (e ∷ filter (λ e. is_type_of code e.1) ys) (filter (λ e. is_type_of code e.1) ys))
      more true xs ys same = ap (λ (ts : List Tree). e.1 ∷ ts) same
      more false xs ys same = same

      by : (b : Bool) → is_held keys StructureDefinition e.0 e.1 ≡ b → (c : Bool) → is_type_of code e.1 ≡ c
          → types_of code (held_of keys StructureDefinition es) ≡ types_of code es
          → types_of code (cond b (e ∷ held_of keys StructureDefinition es) (held_of keys StructureDefinition es)) ≡ types_of code (e ∷ es)
      by true held c is rest = more (is_type_of code e.1) (held_of keys StructureDefinition es) es rest
      by false unheld true is rest = absurd (false≢true (sym unheld ∙ held_by_code code e h is))
      by false unheld false is rest =
          rest
          ∙ sym (ap (λ (c : Bool). map (λ e. e.1) (cond c (e ∷ filter (λ e. is_type_of code e.1) es) (filter (λ e. is_type_of code e.1) es))) is)

  same_named : (p : Definitions) (k : KeyValue) → has_key keys k ≡ true → named_by (restrict p keys) k ≡ named_by p k
  same_named p (of_url url) h =
      ap₂ (λ (s v : Option Tree). option_map_or structure_keys s [] ++ option_map_or value_set_keys v [])
      (looked StructureDefinition url h p.structure_definitions) (looked ValueSet url h p.value_sets)
  same_named p (of_code code) h = ap (flat_map structure_keys) (typed code h p.structure_definitions)

-- ---- one restriction, one reach

module _ (p other : Definitions) (start : List KeyValue) (same : restrict p (reached p start) ≡ restrict other (reached p start)) where
  named_same : (k : KeyValue) → has_key (reached p start) k ≡ true → named_by other k ≡ named_by p k
  named_same k h =
      sym (same_named (reached p start) other k h)
      ∙ ap (λ (q : Definitions). named_by q k) (sym same)
      ∙ same_named (reached p start) p k h

  found_same : (n : ℕ) → found_after other start n ≡ found_after p start n
  found_same zero = refl
  found_same (suc n) =
      ap (λ (f : List KeyValue). option_map_or (λ k. with_keys f (named_by other k)) (slice_get f n) f) (found_same n)
      ∙ by (slice_get (found_after p start n) n) refl
    where
      by : (o : Option KeyValue) → slice_get (found_after p start n) n ≡ o
          → option_map_or (λ k. with_keys (found_after p start n) (named_by other k)) o (found_after p start n)
          ≡ option_map_or (λ k. with_keys (found_after p start n) (named_by p k)) o (found_after p start n)
      by None is = refl
      by (Some k) is = ap (with_keys (found_after p start n)) (named_same k (within_reached p start n k (key_there (found_after p start n) n k is)))

  pub one_reach : reached other start ≡ reached p start
  one_reach = sym (found_reached other start (reached p start) (reached_found p start ∙ sym (found_same (length (reached p start)))))

-- ---- changes

-- the keys that stand for some definitions of a kind
abbrev all_keys : Kind → ByUrl → List KeyValue
all_keys kind es = flat_map (λ e. keys_of kind e.0 e.1) es

-- and those that stand for the tree under a url, if one is there
abbrev keys_under : Kind → Text → Option Tree → List KeyValue
keys_under kind url o = option_map_or (λ t. keys_of kind url t) o []

module _ (keys : List KeyValue) (kind : Kind) where
  held_put : (url : Text) (t : Tree) (es : ByUrl) → is_held keys kind url t ≡ false
      → list_any (has_key keys) (keys_under kind url (lookup (bytes_eq url) es)) ≡ false
      → held_of keys kind (put_at url t es) ≡ held_of keys kind es
  held_put url t [] off _ = ap (λ (b : Bool). cond b ((url, t) ∷ []) []) off
  held_put url t (e ∷ es) off none = by (bytes_eq url e.0) refl none (held_put url t es off)
    where
      dropped : (x : Text × Tree) (b : Bool) → is_held keys kind x.0 x.1 ≡ b → b ≡ false → held_of keys kind (x ∷ es) ≡ held_of keys kind es
      dropped x true is off = cc
      dropped x false is off = ap (λ (b : Bool). cond b (x ∷ held_of keys kind es) (held_of keys kind es)) is

      under : bytes_eq url e.0 ≡ true → (tree : Tree) → is_held keys kind url tree ≡ false → is_held keys kind e.0 tree ≡ false
      under is tree off = ap (λ (u : Text). is_held keys kind u tree) (sym ((bytes_eq-Decides url e.0).0 is)) ∙ off

      by : (b : Bool) → bytes_eq url e.0 ≡ b
          → list_any (has_key keys) (keys_under kind url (cond b (Some e.1) (lookup (bytes_eq url) es))) ≡ false
          → (list_any (has_key keys) (keys_under kind url (lookup (bytes_eq url) es)) ≡ false → held_of keys kind (put_at url t es) ≡ held_of keys kind es)
          → held_of keys kind (cond b ((e.0, t) ∷ es) (e ∷ put_at url t es)) ≡ held_of keys kind (e ∷ es)
      by true is none rest =
          dropped (e.0, t) (is_held keys kind e.0 t) refl (under is t off)
          ∙ sym (dropped e (is_held keys kind e.0 e.1) refl (under is e.1 none))
      by false is none rest = ap (λ (l : ByUrl). cond (is_held keys kind e.0 e.1) (e ∷ l) l) (rest none)

  held_without : (url : Text) (es : ByUrl)
      → list_any (has_key keys) (all_keys kind (filter (λ e. bytes_eq url e.0) es)) ≡ false
      → held_of keys kind (without_url url es) ≡ held_of keys kind es
  held_without url [] _ = refl
  held_without url (e ∷ es) none = by (bytes_eq url e.0) none (held_without url es)
    where
      by : (b : Bool)
          → list_any (has_key keys) (all_keys kind (cond b (e ∷ filter (λ e. bytes_eq url e.0) es) (filter (λ e. bytes_eq url e.0) es))) ≡ false
          → (list_any (has_key keys) (all_keys kind (filter (λ e. bytes_eq url e.0) es)) ≡ false → held_of keys kind (without_url url es) ≡ held_of keys kind es)
          → held_of keys kind (cond (not b) (e ∷ without_url url es) (without_url url es)) ≡ held_of keys kind (e ∷ es)
      by true none rest =
          let parts = neither (is_held keys kind e.0 e.1) _ (rw (list_any-append (has_key keys) (keys_of kind e.0 e.1) (all_keys kind (filter (λ e. bytes_eq url e.0) es))) at none) in
          rest parts.1
          ∙ sym (ap (λ (b : Bool). cond b (e ∷ held_of keys kind es) (held_of keys kind es)) parts.0)
      by false none rest = ap (λ (l : ByUrl). cond (is_held keys kind e.0 e.1) (e ∷ l) l) (rest none)

module _ (keys : List KeyValue) where
  held_parts : (d : Definition) (p : Definitions) → list_any (has_key keys) (put_keys d p) ≡ false
      → held_of keys d.kind (put_at d.url d.tree (of_kind d.kind p)) ≡ held_of keys d.kind (of_kind d.kind p)
  held_parts d p none =
      let parts = neither (is_held keys d.kind d.url d.tree) (list_any (has_key keys) (first_keys d.kind d.url p))
      (rw (list_any-append (has_key keys) (keys_of d.kind d.url d.tree) (first_keys d.kind d.url p)) at none) in
      held_put keys d.kind d.url d.tree (of_kind d.kind p) parts.0 parts.1

  restricted : (kind : Kind) (es : ByUrl) (p : Definitions) → held_of keys kind es ≡ held_of keys kind (of_kind kind p) → restrict (with_kind kind es p) keys ≡ restrict p keys
  restricted StructureDefinition es p same = ap (λ (l : ByUrl). let q : Definitions = record (restrict p keys) { structure_definitions = l } in q) same
  restricted ValueSet es p same = ap (λ (l : ByUrl). let q : Definitions = record (restrict p keys) { value_sets = l } in q) same
  restricted CodeSystem es p same = ap (λ (l : ByUrl). let q : Definitions = record (restrict p keys) { code_systems = l } in q) same

  pub put_same : (d : Definition) (p : Definitions) → list_any (has_key keys) (put_keys d p) ≡ false → restrict (put_in d p) keys ≡ restrict p keys
  put_same d p none = restricted d.kind (put_at d.url d.tree (of_kind d.kind p)) p (held_parts d p none)

  -- a definition that is put in stands for the keys that are its own, so that what is free of it and of another is free of that other still
  looked_put : (kind : Kind) (url : Text) (t : Tree) (other : Text) (es : ByUrl) → is_held keys kind url t ≡ false
      → list_any (has_key keys) (keys_under kind other (lookup (bytes_eq other) es)) ≡ false
      → list_any (has_key keys) (keys_under kind other (lookup (bytes_eq other) (put_at url t es))) ≡ false
  looked_put kind url t other [] off none = at (bytes_eq other url) refl
    where
      at : (b : Bool) → bytes_eq other url ≡ b → list_any (has_key keys) (keys_under kind other (cond b (Some t) None)) ≡ false
      at true is = ap (λ (u : Text). is_held keys kind u t) ((bytes_eq-Decides other url).0 is) ∙ off
      at false is = refl
  looked_put kind url t other (e ∷ es) off none = by (bytes_eq url e.0) refl (bytes_eq other e.0) refl none (looked_put kind url t other es off)
    where
      by : (b : Bool) → bytes_eq url e.0 ≡ b → (c : Bool) → bytes_eq other e.0 ≡ c
          → list_any (has_key keys) (keys_under kind other (cond c (Some e.1) (lookup (bytes_eq other) es))) ≡ false
          → (list_any (has_key keys) (keys_under kind other (lookup (bytes_eq other) es)) ≡ false
          → list_any (has_key keys) (keys_under kind other (lookup (bytes_eq other) (put_at url t es))) ≡ false)
          → list_any (has_key keys) (keys_under kind other (lookup (bytes_eq other) (cond b ((e.0, t) ∷ es) (e ∷ put_at url t es)))) ≡ false
      by true is true same none rest =
          ap (λ (d : Bool). list_any (has_key keys) (keys_under kind other (cond d (Some t) (lookup (bytes_eq other) es)))) same
          ∙ ap (λ (u : Text). is_held keys kind u t) ((bytes_eq-Decides other e.0).0 same ∙ sym ((bytes_eq-Decides url e.0).0 is))
          ∙ off
      by true is false same none rest =
          ap (λ (d : Bool). list_any (has_key keys) (keys_under kind other (cond d (Some t) (lookup (bytes_eq other) es)))) same ∙ none
      by false is true same none rest =
          ap (λ (d : Bool). list_any (has_key keys) (keys_under kind other (cond d (Some e.1) (lookup (bytes_eq other) (put_at url t es))))) same ∙ none
      by false is false same none rest =
          ap (λ (d : Bool). list_any (has_key keys) (keys_under kind other (cond d (Some e.1) (lookup (bytes_eq other) (put_at url t es))))) same ∙ rest none

  first_put : (d : Definition) (kind : Kind) (url : Text) (p : Definitions) → is_held keys d.kind d.url d.tree ≡ false
      → list_any (has_key keys) (first_keys kind url p) ≡ false → list_any (has_key keys) (first_keys kind url (put_in d p)) ≡ false
  first_put d kind url p off none = by kind d.kind off none
    where
      by : (kind own : Kind) → is_held keys own d.url d.tree ≡ false
          → list_any (has_key keys) (first_keys kind url p) ≡ false
          → list_any (has_key keys) (first_keys kind url (with_kind own (put_at d.url d.tree (of_kind own p)) p)) ≡ false
      by StructureDefinition StructureDefinition off none = looked_put StructureDefinition d.url d.tree url p.structure_definitions off none
      by StructureDefinition ValueSet off none = none
      by StructureDefinition CodeSystem off none = none
      by ValueSet StructureDefinition off none = none
      by ValueSet ValueSet off none = looked_put ValueSet d.url d.tree url p.value_sets off none
      by ValueSet CodeSystem off none = none
      by CodeSystem StructureDefinition off none = none
      by CodeSystem ValueSet off none = none
      by CodeSystem CodeSystem off none = looked_put CodeSystem d.url d.tree url p.code_systems off none

  keys_put : (d : Definition) (ds : List Definition) (p : Definitions) → is_held keys d.kind d.url d.tree ≡ false
      → list_any (has_key keys) (all_put_keys ds p) ≡ false → list_any (has_key keys) (all_put_keys ds (put_in d p)) ≡ false
  keys_put d [] p off none = refl
  keys_put d (e ∷ ds) p off none =
      let parts = neither (list_any (has_key keys) (put_keys e p)) _ (sym (list_any-append (has_key keys) (put_keys e p) (all_put_keys ds p)) ∙ none) in
      let own = neither (is_held keys e.kind e.url e.tree) _ (sym (list_any-append (has_key keys) (keys_of e.kind e.url e.tree) (first_keys e.kind e.url p)) ∙ parts.0) in
      list_any-append (has_key keys) (put_keys e (put_in d p)) (all_put_keys ds (put_in d p))
      ∙ ap₂ (λ (a b : Bool). a || b)
      (list_any-append (has_key keys) (keys_of e.kind e.url e.tree) (first_keys e.kind e.url (put_in d p))
      ∙ ap₂ (λ (a b : Bool). a || b) own.0 (first_put d e.kind e.url p off own.1))
      (keys_put d ds p off parts.1)

  pub all_put_same : (ds : List Definition) (p : Definitions) → list_any (has_key keys) (all_put_keys ds p) ≡ false → restrict (put_each ds p) keys ≡ restrict p keys
  all_put_same [] p none = refl
  all_put_same (d ∷ ds) p none =
      let parts = neither (list_any (has_key keys) (put_keys d p)) _ (sym (list_any-append (has_key keys) (put_keys d p) (all_put_keys ds p)) ∙ none) in
      let own = neither (is_held keys d.kind d.url d.tree) _ (sym (list_any-append (has_key keys) (keys_of d.kind d.url d.tree) (first_keys d.kind d.url p)) ∙ parts.0) in
      all_put_same ds (put_in d p) (keys_put d ds p own.0 parts.1) ∙ put_same d p parts.0

  pub removed_same : (url : Text) (p : Definitions) → list_any (has_key keys) (removed_keys url p) ≡ false → restrict (without url p) keys ≡ restrict p keys
  removed_same url p none =
      let of_structures = keys_at StructureDefinition url p in
      let of_sets = keys_at ValueSet url p in
      let of_systems = keys_at CodeSystem url p in
      let first = neither (list_any (has_key keys) of_structures) _ (rw (list_any-append (has_key keys) of_structures (of_sets ++ of_systems)) at none) in
      let second = neither (list_any (has_key keys) of_sets) _ (rw (list_any-append (has_key keys) of_sets of_systems) at first.1) in
      three (held_without keys StructureDefinition url p.structure_definitions first.0) (held_without keys ValueSet url p.value_sets second.0)
      (held_without keys CodeSystem url p.code_systems second.1)
    where
      three : {a b c d e f : ByUrl} → a ≡ b → c ≡ d → e ≡ f
          → (let q : Definitions = record { structure_definitions = a; value_sets = c; code_systems = e } in q) ≡ (let q : Definitions = record { structure_definitions = b; value_sets = d; code_systems = f } in q)
      three x y z = cc
