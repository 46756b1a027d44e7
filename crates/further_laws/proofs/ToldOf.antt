-- What it is that is told of a node.
use Rattle.std.proofs.Common.{◌≡◌, Bool, true, false, not, [], ◌++◌, ◌&&◌, Option, None, Some, is_none, IsTrue, refl, sym, ap, inl, inr}
use Rattle.std.specs.List.{Contains}
use Rattle.std.specs.Option.{option_map_or}
use Rattle.std.proofs.lemmas.Bool.{and_parts, false≢true}
use Rattle.std.proofs.lemmas.List.Elements.{Contains-append_cases}
use Rattle.fhir_nodes.specs.declared.node.NodeRef.{NodeRef}
use Rattle.fhir_schema.specs.Schemas.{SchemaValue, is_root_node}
use Rattle.fhir_contradictions.specs.declared.contradiction.Contradiction.{Contradiction}
use Rattle.fhir_contradictions.specs.declared.contradiction.Contradiction.TheVariants as found
use Rattle.fhir_contradictions.specs.Typing.{Under, are_few_under, typed_by}
use Rattle.fhir_contradictions.specs.Contradictions.{lacks_type, misses_type, fixed_misses, asks_too_many, has_other_types, has_other_value, misses_pattern, misses_length, misses_range, misses_binding, are_few_of_both, if_so, type_contradictions, slice_contradictions, fixed_contradictions, contradictions_at}
use Rattle.fhir_contradictions.proofs.Listed.{contains_none, contains_cases}
use Rattle.further_laws.specs.Standing.{refuses_parents}

-- what is told of a node, by which of its elements' rules
pub data ToldOf (s : SchemaValue) (under : Option Under) (sliced : Option NodeRef) (n : NodeRef) (c : Contradiction) : Type 0 where
  no_type : (u : Under) → under ≡ Some u → IsTrue (lacks_type s u.0 u.1 n) → found.NoType ≡ c → ToldOf s under sliced n c
  fixed_type : (u : Under) → under ≡ Some u → IsTrue (fixed_misses (λ e. misses_type s u.0 u.1 n) s n) → found.FixedType ≡ c → ToldOf s under sliced n c
  too_many_sliced : sliced ≡ None → IsTrue (asks_too_many s n) → found.TooManySliced ≡ c → ToldOf s under sliced n c
  other_types : (m : NodeRef) → sliced ≡ Some m → IsTrue (has_other_types s m n) → found.OtherTypes ≡ c → ToldOf s under sliced n c
  other_value : (m : NodeRef) → sliced ≡ Some m → IsTrue (has_other_value s (typed_by s under n) m n) → found.OtherValue ≡ c → ToldOf s under sliced n c
  of_fixed : Contains (fixed_contradictions s n) c → ToldOf s under sliced n c

-- what is told if something is so
if_told : (b : Bool) (one c : Contradiction) → Contains (if_so b one) c → IsTrue b × (one ≡ c)
if_told false one c has = absurd (contains_none c has)
if_told true one c has =
    elim (contains_cases one [] c has) [
      | inl here ↦ (refl, here)
      | inr there ↦ absurd (contains_none c there)
    ]

-- what is there, of which that is so
if_there : {A : Type 0} (test : A → Bool) (o : Option A) → IsTrue (option_map_or test o false) → (x : A) × (o ≡ Some x) × IsTrue (test x)
if_there test None h = absurd (false≢true h)
if_there test (Some x) h = (x, refl, h)

-- what isn't there
if_none : {A : Type 0} (o : Option A) → IsTrue (is_none o) → o ≡ None
if_none None h = refl
if_none (Some x) h = absurd (false≢true h)

module _ (s : SchemaValue) (under : Option Under) (sliced : Option NodeRef) (n : NodeRef) (c : Contradiction) where
  -- a contradiction of types
  of_types : Contains (type_contradictions s under n) c → ToldOf s under sliced n c
  of_types has =
      elim (Contains-append_cases (if_so none found.NoType) (if_so misses found.FixedType) c has) [
        | inl here ↦
            let told = if_told none found.NoType c here in
            let u = if_there (λ (u : Under). are_few_under s u n && lacks_type s u.0 u.1 n) under told.0 in
            no_type u.0 u.1 (and_parts (are_few_under s u.0 n) (lacks_type s u.0.0 u.0.1 n) u.2).1 told.1
        | inr there ↦
            let told = if_told misses found.FixedType c there in
            let u = if_there (λ (u : Under). are_few_under s u n && fixed_misses (λ e. misses_type s u.0 u.1 n) s n) under told.0 in
            fixed_type u.0 u.1 (and_parts (are_few_under s u.0 n) (fixed_misses (λ e. misses_type s u.0.0 u.0.1 n) s n) u.2).1 told.1
      ]
    where
      none : Bool
      none = option_map_or (λ (u : Under). are_few_under s u n && lacks_type s u.0 u.1 n) under false

      misses : Bool
      misses = option_map_or (λ (u : Under). are_few_under s u n && fixed_misses (λ e. misses_type s u.0 u.1 n) s n) under false

  -- one of slices
  of_slices : Contains (slice_contradictions s under sliced n) c → ToldOf s under sliced n c
  of_slices has =
      elim (Contains-append_cases (if_so over found.TooManySliced) (if_so types found.OtherTypes ++ if_so value found.OtherValue) c has) [
        | inl here ↦
            let told = if_told over found.TooManySliced c here in
            let parts = and_parts (is_none sliced) (not (is_root_node s n) && asks_too_many s n) told.0 in
            too_many_sliced (if_none sliced parts.0) (and_parts (not (is_root_node s n)) (asks_too_many s n) parts.1).1 told.1
        | inr there ↦ elim (Contains-append_cases (if_so types found.OtherTypes) (if_so value found.OtherValue) c there) [
          | inl here ↦
              let told = if_told types found.OtherTypes c here in
              let m = if_there (λ (m : NodeRef). are_few_of_both s m n && has_other_types s m n) sliced told.0 in
              other_types m.0 m.1 (and_parts (are_few_of_both s m.0 n) (has_other_types s m.0 n) m.2).1 told.1
          | inr last ↦
              let told = if_told value found.OtherValue c last in
              let m = if_there (λ (m : NodeRef). has_other_value s (typed_by s under n) m n) sliced told.0 in
              other_value m.0 m.1 m.2 told.1
        ]
      ]
    where
      over : Bool
      over = is_none sliced && (not (is_root_node s n) && asks_too_many s n)

      types : Bool
      types = option_map_or (λ (m : NodeRef). are_few_of_both s m n && has_other_types s m n) sliced false

      value : Bool
      value = option_map_or (λ (m : NodeRef). has_other_value s (typed_by s under n) m n) sliced false

  -- each contradiction of a node is one of these
  pub told_of : Contains (contradictions_at s under sliced n) c → ToldOf s under sliced n c
  told_of has =
      elim (Contains-append_cases (type_contradictions s under n) (slice_contradictions s under sliced n ++ fixed_contradictions s n) c has) [
        | inl here ↦ of_types here
        | inr there ↦ elim (Contains-append_cases (slice_contradictions s under sliced n) (fixed_contradictions s n) c there) [
          | inl here ↦ of_slices here
          | inr last ↦ of_fixed last
        ]
      ]

-- none of a fixed value refuses parents
pub fixed_spares_parents : (s : SchemaValue) (n : NodeRef) (c : Contradiction) → Contains (fixed_contradictions s n) c → refuses_parents c ≡ false
fixed_spares_parents s n c has =
    elim (Contains-append_cases (if_so pattern found.FixedPattern) (if_so length found.FixedLength ++ (if_so range found.FixedRange ++ if_so binding found.FixedBinding)) c has) [
      | inl here ↦ sym (ap refuses_parents (if_told pattern found.FixedPattern c here).1)
      | inr rest ↦ elim (Contains-append_cases (if_so length found.FixedLength) (if_so range found.FixedRange ++ if_so binding found.FixedBinding) c rest) [
        | inl here ↦ sym (ap refuses_parents (if_told length found.FixedLength c here).1)
        | inr more ↦ elim (Contains-append_cases (if_so range found.FixedRange) (if_so binding found.FixedBinding) c more) [
          | inl here ↦ sym (ap refuses_parents (if_told range found.FixedRange c here).1)
          | inr last ↦ sym (ap refuses_parents (if_told binding found.FixedBinding c last).1)
        ]
      ]
    ]
  where
    pattern : Bool
    pattern = fixed_misses misses_pattern s n

    length : Bool
    length = fixed_misses misses_length s n

    range : Bool
    range = fixed_misses (misses_range s n) s n

    binding : Bool
    binding = fixed_misses (misses_binding s n) s n
