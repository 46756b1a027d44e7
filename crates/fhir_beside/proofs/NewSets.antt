-- A canonical of either package has in the package that is made the concepts that it has in NEW.
use Rattle.std.proofs.Common.{◌≡◌, ℕ, zero, suc, Bool, true, false, ◌&&◌, cond, List, [], ◌∷◌, ◌++◌, map, length, Option, None, Some, is_some, if◌then◌else◌, codes}
use Rattle.std.proofs.Common.{refl, ap, sym, ◌∙◌, subst}
use Rattle.std.specs.Option.{option_map_or, option_and_then}
use Rattle.std.specs.Result.{result_ok}
use Rattle.std.specs.List.{list_all, flat_map, Contains}
use Rattle.std.specs.Map.{lookup}
use Rattle.std.specs.Str.{bytes_eq}
use Rattle.std.specs.FinSet as set
use Rattle.std.proofs.lemmas.List.Concat.{flat_map-append}
use Rattle.std.proofs.lemmas.List.Elements.{Contains-push, Contains-append_left, Contains-append_right}
use Rattle.fhir_json.specs.Tree.{Text, Tree, null, boolean, number, string, array, object, Items, no_items, item, Members, no_members, member, list_of}
use Rattle.fhir_json.specs.Fields.{value_named, field, text_in, as_items, items_in, text_or_empty}
use Rattle.fhir_names.specs.Canonicals.{CanonicalParts, read_canonical}
use Rattle.fhir_package.specs.declared.kind.Kind.TheVariants.{StructureDefinition, ValueSet, CodeSystem}
use Rattle.fhir_package.specs.Definitions.{ByUrl, Definitions}
use Rattle.fhir_package.specs.Canonical.{is_of_version, where_version, at_version, named_by}
use Rattle.fhir_codes.specs.Concepts.{Concepts, of_system, union_of, common}
use Rattle.fhir_codes.specs.ValueSets.{sets_named, part_in, includes, excludes, named, is_compose, codes_taken, is_plain_include, of_set, of_include, composition, is_read, expansion, expanded, concepts_of}
use Rattle.std.proofs.lemmas.Bool.{and_parts}
use Rattle.fhir_alike.specs.Mark.{texts_in, items_texts, members_texts, definition_texts, kind_texts, package_texts}
use Rattle.fhir_beside.specs.Made.{with_more}
use Rattle.fhir_beside.specs.Beside.{IsBeside}
use Rattle.fhir_beside.proofs.Marked.{names_new}

abbrev Known : Type 0
Known = Text → Option Concepts

-- ---- what is known of the value sets that one names is all that matters

abbrev AllAgree : Known → Known → List Text → Type 0
AllAgree f g [] = Unit {0}
AllAgree f g (c ∷ cs) = (f c ≡ g c) × AllAgree f g cs

module _ (p : Definitions) (f g : Text → Option Concepts) where
  agree_parts : (xs ys : List Text) → AllAgree f g (xs ++ ys) → AllAgree f g xs × AllAgree f g ys
  agree_parts [] ys h = (tt, h)
  agree_parts (x ∷ xs) ys h = let r = agree_parts xs ys h.1 in ((h.0, r.0), r.1)

  sets_alike : (cs : List Text) → AllAgree f g cs → map (of_set p f) cs ≡ map (of_set p g) cs
  sets_alike [] h = refl
  sets_alike (c ∷ cs) h =
      ap (λ o. option_map_or (λ s. s) o set.empty ∷ map (of_set p f) cs) h.0 ∙ ap (λ ss. of_set p g c ∷ ss) (sets_alike cs h.1)

  include_alike : (t : Tree) → AllAgree f g (sets_named t) → of_include p f t ≡ of_include p g t
  include_alike t h =
      ap (λ ss. common (option_map_or (λ system. of_system system (codes_taken p t system) ∷ []) (text_in (codes "system") t) [] ++ ss))
      (sets_alike (sets_named t) h)

  includes_alike : (ts : List Tree) → AllAgree f g (flat_map sets_named ts) → map (of_include p f) ts ≡ map (of_include p g) ts
  includes_alike [] h = refl
  includes_alike (t ∷ ts) h =
      let r = agree_parts (sets_named t) (flat_map sets_named ts) h in
      ap (λ s. s ∷ map (of_include p f) ts) (include_alike t r.0) ∙ ap (λ ss. of_include p g t ∷ ss) (includes_alike ts r.1)

  known_alike : (cs : List Text) → AllAgree f g cs → list_all (λ c. is_some (f c)) cs ≡ list_all (λ c. is_some (g c)) cs
  known_alike [] h = refl
  known_alike (c ∷ cs) h =
      ap (λ o. is_some o && list_all (λ c. is_some (f c)) cs) h.0 ∙ ap (λ b. is_some (g c) && b) (known_alike cs h.1)

  expansion_alike : (t : Tree) → AllAgree f g (named t) → expansion p f t ≡ expansion p g t
  expansion_alike t h =
      let all : AllAgree f g (flat_map sets_named (includes t) ++ flat_map sets_named (excludes t)) =
      subst (AllAgree f g) (flat_map-append sets_named (includes t) (excludes t)) h in
      let r = agree_parts (flat_map sets_named (includes t)) (flat_map sets_named (excludes t)) all in
      ap
      (λ b. if option_map_or is_compose (field (codes "compose") t) false && list_all (is_plain_include p) (includes t ++ excludes t) && b
      then Some (composition p f t) else None)
      (known_alike (named t) h)
      ∙ ap (λ ss. if is_read p g t then Some (set.difference (union_of ss) (union_of (map (of_include p f) (excludes t)))) else None)
      (includes_alike (includes t) r.0)
      ∙ ap (λ ss. if is_read p g t then Some (set.difference (union_of (map (of_include p g) (includes t))) (union_of ss)) else None)
      (includes_alike (excludes t) r.1)

-- ---- what holds of each text of a tree holds of the value sets that it names

module _ (Q : Text → Type 0) where
  abbrev AllQ : List Text → Type 0
  AllQ [] = Unit {0}
  AllQ (c ∷ cs) = Q c × AllQ cs

  abbrev AllTrees : List Tree → Type 0
  AllTrees [] = Unit {0}
  AllTrees (t ∷ ts) = AllQ (texts_in t) × AllTrees ts

  each_parts : (xs ys : List Text) → AllQ (xs ++ ys) → AllQ xs × AllQ ys
  each_parts [] ys h = (tt, h)
  each_parts (x ∷ xs) ys h = let r = each_parts xs ys h.1 in ((h.0, r.0), r.1)

  each_both : (xs ys : List Text) → AllQ xs → AllQ ys → AllQ (xs ++ ys)
  each_both [] ys h k = k
  each_both (x ∷ xs) ys h k = (h.0, each_both xs ys h.1 k)

  trees_both : (xs ys : List Tree) → AllTrees xs → AllTrees ys → AllTrees (xs ++ ys)
  trees_both [] ys h k = k
  trees_both (x ∷ xs) ys h k = (h.0, trees_both xs ys h.1 k)

  of_each : (xs : List Text) → ((x : Text) → Contains xs x → Q x) → AllQ xs
  of_each [] h = tt
  of_each (x ∷ xs) h =
      (h x (Contains-append_left (x ∷ []) xs x (Contains-push [] x)), of_each xs (λ y there. h y (Contains-append_right (x ∷ []) xs y there)))

  in_member : (name : Text) (ms : Members) (v : Tree) → AllQ (members_texts ms) → value_named name ms ≡ Some v → AllQ (texts_in v)
  in_member name no_members v h e = cc
  in_member name (member n t ms) v h e =
      let parts = each_parts (texts_in t) (members_texts ms) h in
      go (bytes_eq name n) parts.0 (in_member name ms v parts.1) e
    where
      go : (b : Bool) → AllQ (texts_in t) → (value_named name ms ≡ Some v → AllQ (texts_in v))
          → (if b then Some t else value_named name ms) ≡ Some v → AllQ (texts_in v)
      go true here so f = let same : t ≡ v = cc in subst (λ u. AllQ (texts_in u)) same here
      go false here so f = so f

  in_field : (name : Text) (t v : Tree) → AllQ (texts_in t) → field name t ≡ Some v → AllQ (texts_in v)
  in_field name (object ms) v h e = in_member name ms v h e
  in_field name null v h e = cc
  in_field name (boolean b) v h e = cc
  in_field name (number n) v h e = cc
  in_field name (string s) v h e = cc
  in_field name (array ts) v h e = cc

  in_items : (ts : Items) → AllQ (items_texts ts) → AllTrees (list_of ts)
  in_items no_items h = tt
  in_items (item t ts) h = let r = each_parts (texts_in t) (items_texts ts) h in (r.0, in_items ts r.1)

  in_array : (v : Tree) → AllQ (texts_in v) → AllTrees (list_of (as_items v))
  in_array (array ts) h = in_items ts h
  in_array (object ms) h = tt
  in_array null h = tt
  in_array (boolean b) h = tt
  in_array (number n) h = tt
  in_array (string s) h = tt

  in_named_items : (name : Text) (t : Tree) → AllQ (texts_in t) → AllTrees (items_in name t)
  in_named_items name t h = go (field name t) refl
    where
      go : (o : Option Tree) → field name t ≡ o → AllTrees (option_map_or (λ v. list_of (as_items v)) o [])
      go None e = tt
      go (Some v) e = in_array v (in_field name t v h e)

  in_part : (name : Text) (t : Tree) → AllQ (texts_in t) → AllTrees (part_in name t)
  in_part name t h = go (field (codes "compose") t) refl
    where
      go : (o : Option Tree) → field (codes "compose") t ≡ o → AllTrees (option_map_or (items_in name) o [])
      go None e = tt
      go (Some v) e = in_named_items name v (in_field (codes "compose") t v h e)

  -- a name that is no text counts as the empty one
  module _ (empty : Q []) where
    of_texts : (ts : List Tree) → AllTrees ts → AllQ (map text_or_empty ts)
    of_texts [] h = tt
    of_texts (string s ∷ ts) h = (h.0.0, of_texts ts h.1)
    of_texts (null ∷ ts) h = (empty, of_texts ts h.1)
    of_texts (boolean b ∷ ts) h = (empty, of_texts ts h.1)
    of_texts (number n ∷ ts) h = (empty, of_texts ts h.1)
    of_texts (array us ∷ ts) h = (empty, of_texts ts h.1)
    of_texts (object ms ∷ ts) h = (empty, of_texts ts h.1)

    of_includes : (ts : List Tree) → AllTrees ts → AllQ (flat_map sets_named ts)
    of_includes [] h = tt
    of_includes (t ∷ ts) h =
        each_both (sets_named t) (flat_map sets_named ts) (of_texts (items_in (codes "valueSet") t) (in_named_items (codes "valueSet") t h.0))
        (of_includes ts h.1)

    of_named : (t : Tree) → AllQ (texts_in t) → AllQ (named t)
    of_named t h =
        of_includes (includes t ++ excludes t) (trees_both (includes t) (excludes t) (in_part (codes "include") t h) (in_part (codes "exclude") t h))

  -- ---- and of those of a definition that is named

  in_found : (test : Text → Bool) (es : ByUrl) (t : Tree) → AllQ (flat_map definition_texts es) → lookup test es ≡ Some t → AllQ (texts_in t)
  in_found test [] t h e = cc
  in_found test (x ∷ es) t h e =
      let parts = each_parts (texts_in x.1) (flat_map definition_texts es) h.1 in
      go (test x.0) parts.0 (in_found test es t parts.1) e
    where
      go : (b : Bool) → AllQ (texts_in x.1) → (lookup test es ≡ Some t → AllQ (texts_in t)) → cond b (Some x.1) (lookup test es) ≡ Some t
          → AllQ (texts_in t)
      go true here so f = let same : x.1 ≡ t = cc in subst (λ u. AllQ (texts_in u)) same here
      go false here so f = so f

  module _ (p : Definitions) (all : AllQ (kind_texts ValueSet p)) where
    in_version : (r : CanonicalParts) (o : Option Tree) (t : Tree) → lookup (bytes_eq r.0) p.value_sets ≡ o
        → option_and_then (where_version r.1) o ≡ Some t → AllQ (texts_in t)
    in_version r None t e f = cc
    in_version r (Some u) t e f = go (option_map_or (λ v. is_of_version v u) r.1 true) f
      where
        go : (b : Bool) → (if b then Some u else None) ≡ Some t → AllQ (texts_in t)
        go true g = let same : u ≡ t = cc in subst (λ x. AllQ (texts_in x)) same (in_found (bytes_eq r.0) p.value_sets u all e)
        go false g = cc

    in_read : (o : Option CanonicalParts) (t : Tree) → option_and_then (at_version ValueSet p) o ≡ Some t → AllQ (texts_in t)
    in_read None t e = cc
    in_read (Some r) t e = in_version r (lookup (bytes_eq r.0) p.value_sets) t refl e

    in_value_set : (canonical : Text) (t : Tree) → named_by ValueSet canonical p ≡ Some t → AllQ (texts_in t)
    in_value_set canonical t e = in_read (result_ok (read_canonical canonical)) t e

-- ---- steps tell no more than all of them

abbrev IsStep : Definitions → Type 0
IsStep p = (c : Text) → concepts_of p c ≡ option_and_then (expansion p (concepts_of p)) (named_by ValueSet c p)

is_there : (o : Option Concepts) → is_some o ≡ true → (s : Concepts) × (o ≡ Some s)
is_there None e = cc
is_there (Some s) e = (s, refl)

both_below : (a b : Option Concepts) → ((s : Concepts) → a ≡ Some s → b ≡ Some s) → ((s : Concepts) → b ≡ Some s → a ≡ Some s) → a ≡ b
both_below None None h k = refl
both_below None (Some s) h k = k s refl
both_below (Some s) b h k = sym (h s refl)

module _ (p : Definitions) (f g : Text → Option Concepts) (below : (c : Text) (s : Concepts) → f c ≡ Some s → g c ≡ Some s) where
  known_agree : (cs : List Text) → list_all (λ c. is_some (f c)) cs ≡ true → AllAgree f g cs
  known_agree [] h = tt
  known_agree (c ∷ cs) h =
      let both = and_parts (is_some (f c)) (list_all (λ c. is_some (f c)) cs) h in
      let it = is_there (f c) both.0 in
      (it.1 ∙ sym (below c it.0 it.1), known_agree cs both.1)

  names_known : (b : Bool) (t : Tree) (s : Concepts) → is_read p f t ≡ b → (if b then Some (composition p f t) else None) ≡ Some s
      → list_all (λ c. is_some (f c)) (named t) ≡ true
  names_known true t s e h =
      (and_parts (option_map_or is_compose (field (codes "compose") t) false && list_all (is_plain_include p) (includes t ++ excludes t))
      (list_all (λ c. is_some (f c)) (named t)) e).1
  names_known false t s e h = cc

  expansion_more : (t : Tree) (s : Concepts) → expansion p f t ≡ Some s → expansion p g t ≡ Some s
  expansion_more t s e = sym (expansion_alike p f g t (known_agree (named t) (names_known (is_read p f t) t s refl e))) ∙ e

module _ (p : Definitions) (step : IsStep p) where
  most : (n : ℕ) (c : Text) (s : Concepts) → expanded p n c ≡ Some s → concepts_of p c ≡ Some s
  most zero c s e = cc
  most (suc n) c s e = step c ∙ go (most n) (named_by ValueSet c p) e
    where
      go : ((c : Text) (s : Concepts) → expanded p n c ≡ Some s → concepts_of p c ≡ Some s) → (o : Option Tree)
          → option_and_then (expansion p (expanded p n)) o ≡ Some s → option_and_then (expansion p (concepts_of p)) o ≡ Some s
      go below None f = cc
      go below (Some t) f = expansion_more p (expanded p n) (concepts_of p) below t s f

-- ---- step by step

module _ (new : Definitions) (profiles sets : ByUrl) where
  abbrev beside : Definitions
  beside = with_more profiles sets new

  abbrev IsAlike : Text → Type 0
  IsAlike c = named_by ValueSet c beside ≡ named_by ValueSet c new

  empty_alike : IsAlike []
  empty_alike = refl

  module _ (texts : AllQ IsAlike (kind_texts ValueSet new)) where
    each_alike : (f g : Text → Option Concepts) (cs : List Text) → ((c : Text) → IsAlike c → f c ≡ g c) → AllQ IsAlike cs → AllAgree f g cs
    each_alike f g [] same h = tt
    each_alike f g (c ∷ cs) same h = (same c h.0, each_alike f g cs same h.1)

    steps : (n : ℕ) (c : Text) → IsAlike c → expanded beside n c ≡ expanded new n c
    steps zero c a = refl
    steps (suc n) c a = ap (option_and_then (expansion beside (expanded beside n))) a ∙ go (steps n) (named_by ValueSet c new) refl
      where
        go : ((c : Text) → IsAlike c → expanded beside n c ≡ expanded new n c) → (o : Option Tree) → named_by ValueSet c new ≡ o
            → option_and_then (expansion beside (expanded beside n)) o ≡ option_and_then (expansion new (expanded new n)) o
        go so None e = refl
        go so (Some t) e =
            expansion_alike new (expanded beside n) (expanded new n) t
            (each_alike (expanded beside n) (expanded new n) (named t) so (of_named IsAlike empty_alike t (in_value_set IsAlike new texts c t e)))

    same_concepts : ((p : Definitions) → IsStep p) → (c : Text) → IsAlike c → concepts_of beside c ≡ concepts_of new c
    same_concepts step c a =
        both_below (concepts_of beside c) (concepts_of new c)
        (λ s e. most new (step new) (length beside.value_sets) c s (sym (steps (length beside.value_sets) c a) ∙ e))
        (λ s e. most beside (step beside) (length new.value_sets) c s (steps (length new.value_sets) c a ∙ e))

-- ---- of the package that is made

module _ (old new made : Definitions) (mark : Text) (types : ℕ) (b : IsBeside old new mark made types) where
  alike : (c : Text) → Contains (package_texts old ++ package_texts new) c → IsAlike new b.profiles b.sets c
  alike c there = sym (ap (named_by ValueSet c) b.is_made) ∙ names_new old new made mark types b ValueSet c there

  texts_alike : AllQ (IsAlike new b.profiles b.sets) (kind_texts ValueSet new)
  texts_alike =
      let Q : Text → Type 0 = IsAlike new b.profiles b.sets in
      let both = each_parts Q (package_texts old) (package_texts new) (of_each Q (package_texts old ++ package_texts new) alike) in
      let behind = each_parts Q (kind_texts StructureDefinition new) (kind_texts ValueSet new ++ kind_texts CodeSystem new) both.1 in
      (each_parts Q (kind_texts ValueSet new) (kind_texts CodeSystem new) behind.1).0

  pub concepts_new : ((p : Definitions) → IsStep p) → (canonical : Text) → Contains (package_texts old ++ package_texts new) canonical
      → concepts_of made canonical ≡ concepts_of new canonical
  concepts_new step canonical there =
      ap (λ p. concepts_of p canonical) b.is_made ∙ same_concepts new b.profiles b.sets texts_alike step canonical (alike canonical there)
