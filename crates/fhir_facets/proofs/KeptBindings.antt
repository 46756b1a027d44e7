-- What a narrower binding holds of, a wider one does, where unread rules mean something fair; and what a binding holds of, it
-- does where more of the unread rules hold.
use Rattle.std.proofs.Common.{Bool, true, false, Option, Some, None, IsTrue, sym, ap, ◌∙◌}
use Rattle.std.specs.Option.{option_map, option_map_or, option_and_then}
use Rattle.std.specs.FinSet as set
use Rattle.std.specs.Prelude.{codes}
use Rattle.std.specs.Str.{bytes_eq}
use Rattle.std.proofs.lemmas.Bool.{false≢true}
use Rattle.fhir_json.specs.Tree.{Text, Tree}
use Rattle.fhir_json.specs.Fields.{as_text, text_in, items_in}
use Rattle.fhir_codes.specs.Concepts.{Concept, Concepts, concept, has_code}
use Rattle.fhir_schema.specs.Schemas.{SchemaValue, concepts_at}
use Rattle.fhir_facets.specs.declared.lookup.Lookup.{Lookup}
use Rattle.fhir_facets.specs.declared.lookup.Lookup.TheVariants.{ByCode, ByCoding, ByOneCoding}
use Rattle.fhir_facets.specs.Seen.{Seen}
use Rattle.fhir_facets.specs.Bindings.{lookup_of, has_coding, has_one_coding, is_in, Binding, binding_to, decision, binding_holds, lies_within, binding_narrower, IsFair}
use Rattle.fhir_facets.specs.Unread.{Unread, Meaning, binding}
use Rattle.fhir_facets.proofs.Alike.{text_is}
use Rattle.fhir_facets.proofs.Keeping.{mapped}
use Rattle.fhir_facets.proofs.KeptTargets.{either, some_more}

-- ---- a smaller set

module _ (a b : Concepts) (concepts_kept : (c : Concept) → IsTrue (set.contains a c) → IsTrue (set.contains b c))
    (code_kept : (code : Text) → IsTrue (has_code code a) → IsTrue (has_code code b)) where
  coding_kept : (t : Tree) → IsTrue (has_coding a t) → IsTrue (has_coding b t)
  coding_kept t =
      mapped (λ system. option_map_or (λ code. set.contains a (concept system code)) (text_in (codes "code") t) false)
      (λ system. option_map_or (λ code. set.contains b (concept system code)) (text_in (codes "code") t) false)
      (text_in (codes "system") t) false false
      (λ system. mapped (λ code. set.contains a (concept system code)) (λ code. set.contains b (concept system code))
      (text_in (codes "code") t) false false (λ code. concepts_kept (concept system code)) (λ h. h))
      (λ h. h)

  in_kept : (how : Lookup) (x : Seen) → IsTrue (is_in how a x) → IsTrue (is_in how b x)
  in_kept ByCode x =
      mapped (λ code. has_code code a) (λ code. has_code code b) (option_and_then as_text x.json) true true code_kept (λ h. h)
  in_kept ByCoding x = mapped (has_coding a) (has_coding b) x.json false false coding_kept (λ h. h)
  in_kept ByOneCoding x =
      mapped (has_one_coding a) (has_one_coding b) x.json false false
      (λ t. some_more (has_coding a) (has_coding b) coding_kept (items_in (codes "coding") t)) (λ h. h)

  looked_up : (x : Seen) (how : Option Lookup) (d e : Bool) → (IsTrue d → IsTrue e)
      → IsTrue (option_map_or (λ holds. holds) (option_map (λ how. is_in how a x) how) d)
      → IsTrue (option_map_or (λ holds. holds) (option_map (λ how. is_in how b x) how) e)
  looked_up x None d e fair h = fair h
  looked_up x (Some how) d e fair h = in_kept how x h

-- ---- a narrower binding

module _ (concepts_kept : (a b : Concepts) → IsTrue (set.is_subset a b) → (c : Concept) → IsTrue (set.contains a c) → IsTrue (set.contains b c))
    (code_kept : (a b : Concepts) (code : Text) → IsTrue (set.is_subset a b) → IsTrue (has_code code a) → IsTrue (has_code code b))
    (s : SchemaValue) (m : Meaning) (fair : IsFair s m) (x : Seen) where
  within_kept : (own base : Option Concepts) (d e : Bool) → IsTrue (lies_within own base) → (IsTrue d → IsTrue e)
      → IsTrue (option_map_or (λ holds. holds) (option_and_then (λ c. option_map (λ how. is_in how c x) (lookup_of x)) own) d)
      → IsTrue (option_map_or (λ holds. holds) (option_and_then (λ c. option_map (λ how. is_in how c x) (lookup_of x)) base) e)
  within_kept own None d e within gives h = absurd (false≢true within)
  within_kept None (Some b) d e within gives h = absurd (false≢true within)
  within_kept (Some a) (Some b) d e within gives h =
      looked_up a b (concepts_kept a b within) (λ code. code_kept a b code within) x (lookup_of x) d e gives h

  pub binding_kept : (own base : Text) → IsTrue (binding_narrower (binding_to s own) (binding_to s base))
      → IsTrue (binding_holds m (binding_to s own) x) → IsTrue (binding_holds m (binding_to s base) x)
  binding_kept own base narrow h =
      either (bytes_eq own base) (lies_within (concepts_at s own) (concepts_at s base))
      (λ same. sym (ap (λ c. binding_holds m (binding_to s c) x) (text_is own base same)) ∙ h)
      (λ within. within_kept (concepts_at s own) (concepts_at s base) (m (binding own)) (m (binding base)) within (fair own base within) h)
      narrow

-- ---- where more of the unread rules hold

pub binding_more : (m larger : Meaning) → ((u : Unread) → IsTrue (m u) → IsTrue (larger u)) → (b : Binding) (x : Seen)
    → IsTrue (binding_holds m b x) → IsTrue (binding_holds larger b x)
binding_more m larger more b x =
    mapped (λ holds. holds) (λ holds. holds) (decision b x) (m (binding b.canonical)) (larger (binding b.canonical)) (λ holds h. h)
    (more (binding b.canonical))
