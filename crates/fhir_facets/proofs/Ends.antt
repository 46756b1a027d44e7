-- A list that is run through is identical to another where that ends too.
use Rattle.std.proofs.Common.{◌≡◌, suc, List, [], ◌∷◌, length, eqb, refl, sym, arith}
use Rattle.std.proofs.lemmas.Bool.{ne_eqb}
use Rattle.fhir_json.specs.declared.json.Json.{Json}
use Rattle.fhir_json.specs.declared.json.Member.{Member}
use Rattle.fhir_json.specs.Tree.{no_items, no_members}
use Rattle.fhir_json.specs.Views.{items_view, members_view}
use Rattle.fhir_facets.specs.Identity.{items_identical, members_identical}

pub no_items_left : (vs : List Json) → items_identical no_items (items_view vs) ≡ eqb (length vs) 0
no_items_left [] = refl
no_items_left (v ∷ vs) = sym (ne_eqb (suc (length vs)) 0 (λ e. omega arith))

pub no_members_left : (ms : List Member) → members_identical no_members (members_view ms) ≡ eqb (length ms) 0
no_members_left [] = refl
no_members_left (m ∷ ms) = sym (ne_eqb (suc (length ms)) 0 (λ e. omega arith))
