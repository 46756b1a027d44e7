-- What a value set is put together from, and what makes it unread.
use Rattle.std.proofs.Common.{◌≡◌, Bool, true, false, cond, List, [], ◌∷◌, ◌++◌, map, not, ◌&&◌, Option, None, Some, is_some, codes, refl, sym, ap, ◌∙◌, IsTrue}
use Rattle.std.specs.List.{list_all, Contains}
use Rattle.std.specs.Option.{option_map_or, option_and_then}
use Rattle.std.specs.FinSet as set
use Rattle.std.proofs.lemmas.Bool.{and_parts, false≢true}
use Rattle.std.proofs.lemmas.List.Folds.{list_all-map}
use Rattle.std.proofs.lemmas.List.Elements.{Contains-append_left, Contains-append_right}
use Rattle.fhir_json.specs.Bytes.{is_empty}
use Rattle.fhir_json.specs.Tree.{Text, Tree}
use Rattle.fhir_json.specs.Fields.{field, text_in}
use Rattle.fhir_package.specs.declared.kind.Kind.TheVariants.{ValueSet}
use Rattle.fhir_package.specs.Definitions.{Definitions}
use Rattle.fhir_package.specs.Canonical.{named_by}
use Rattle.fhir_codes.specs.Concepts.{Concept, Concepts, concept_cmp, of_system, common}
use Rattle.fhir_codes.specs.ValueSets.{sets_named, includes, excludes, is_compose, named, codes_taken, is_plain_include, of_set, of_include, composition, is_read, expansion, concepts_of}
use Rattle.conformance_laws.proofs.Lists.{each, scattered}

abbrev pub OfCommon : Type 0
OfCommon = (s : Concepts) (ss : List Concepts) (c : Concept) → set.contains (common (s ∷ ss)) c ≡ list_all (λ s. set.contains s c) (s ∷ ss)

-- ---- value sets alone

module _ (p : Definitions) (known : Text → Option Concepts) (c : Concept) (of_common : OfCommon) where
  of_each : (ns : List Text) → set.contains (common (map (of_set p known) ns)) c ≡ (not (is_empty ns) && list_all (λ n. set.contains (of_set p known n) c) ns)
  of_each [] = set.contains-empty concept_cmp c
  of_each (n ∷ ns) =
      of_common (of_set p known n) (map (of_set p known) ns) c ∙ list_all-map (λ s. set.contains s c) (of_set p known) (n ∷ ns)

  pub of_sets : (t : Tree) → text_in (codes "system") t ≡ None
      → set.contains (of_include p known t) c ≡ (not (is_empty (sets_named t)) && list_all (λ n. set.contains (of_set p known n) c) (sets_named t))
  of_sets t is =
      ap (λ (o : Option Text). set.contains (common (option_map_or (λ system. of_system system (codes_taken p t system) ∷ []) o [] ++ map (of_set p known) (sets_named t))) c) is
      ∙ of_each (sets_named t)

-- ---- what is unread

abbrev pub ReadOf : Definitions → Type 0
ReadOf p = (canonical : Text) → concepts_of p canonical ≡ option_and_then (expansion p (concepts_of p)) (named_by ValueSet canonical p)

module _ (p : Definitions) (read : ReadOf p) (canonical : Text) (t : Tree) (is : named_by ValueSet canonical p ≡ Some t) where
  abbrev parts : List Tree
  parts = includes t ++ excludes t

  -- it is read where each part is plain and each set that is named is known, and else it isn't
  unless : (IsTrue (list_all (is_plain_include p) parts) → IsTrue (list_all (λ n. is_some (concepts_of p n)) (named t)) → ⊥) → concepts_of p canonical ≡ None
  unless not_both = read canonical ∙ ap (option_and_then (expansion p (concepts_of p))) is ∙ by (is_read p (concepts_of p) t) refl
    where
      by : (b : Bool) → is_read p (concepts_of p) t ≡ b → cond b (Some (composition p (concepts_of p) t)) None ≡ None
      by false e = refl
      by true e =
          let composed = option_map_or is_compose (field (codes "compose") t) false in
          let plain = list_all (is_plain_include p) parts in
          let known = list_all (λ n. is_some (concepts_of p n)) (named t) in
          let both = and_parts (composed && plain) known e in
          absurd (not_both (and_parts composed plain both.0).1 both.1)

  plain_part : (part : Tree) → Contains parts part → is_plain_include p part ≡ false → concepts_of p canonical ≡ None
  plain_part part among unread =
      unless (λ plain known. false≢true (sym unread ∙ each (is_plain_include p) parts plain part among))

  known_set : (part : Tree) (name : Text) → Contains parts part → Contains (sets_named part) name → concepts_of p name ≡ None → concepts_of p canonical ≡ None
  known_set part name among has unread =
      unless (λ plain known.
      false≢true (sym (ap is_some unread) ∙ each (λ n. is_some (concepts_of p n)) (named t) known name (scattered sets_named parts part name among has)))

  pub unread_include : (part : Tree) → Contains (includes t) part → is_plain_include p part ≡ false → concepts_of p canonical ≡ None
  unread_include part among = plain_part part (Contains-append_left (includes t) (excludes t) part among)

  pub unread_exclude : (part : Tree) → Contains (excludes t) part → is_plain_include p part ≡ false → concepts_of p canonical ≡ None
  unread_exclude part among = plain_part part (Contains-append_right (includes t) (excludes t) part among)

  pub unread_included : (part : Tree) (name : Text) → Contains (includes t) part → Contains (sets_named part) name → concepts_of p name ≡ None → concepts_of p canonical ≡ None
  unread_included part name among = known_set part name (Contains-append_left (includes t) (excludes t) part among)

  pub unread_excluded : (part : Tree) (name : Text) → Contains (excludes t) part → Contains (sets_named part) name → concepts_of p name ≡ None → concepts_of p canonical ≡ None
  unread_excluded part name among = known_set part name (Contains-append_right (includes t) (excludes t) part among)
