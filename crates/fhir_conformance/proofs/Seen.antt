-- What facets see of items.
use Rattle.std.proofs.Common.{◌≡◌, ◌==◌, Bool, not, List, [], ◌∷◌, length, Option, refl, arith}
use Rattle.fhir_json.specs.Tree.{Text, Tree}
use Rattle.fhir_instance.specs.Items.{Item, item, no_kids, kid, kids_of, kids_in, has_kids}
use Rattle.fhir_instance.specs.View.{named_in}
use Rattle.fhir_instance.specs.declared.typed.Kid.{Kid}
use Rattle.fhir_facets.specs.Seen.{Seen}

pub has_kids_seen : (x : Item) (ks : List Kid) → kids_in (named_in ks) ≡ kids_of x → not (length ks == 0) ≡ has_kids x
has_kids_seen (item type json no_kids) [] e = refl
has_kids_seen (item type json no_kids) (k ∷ ks) e = cc
has_kids_seen (item type json (kid name x kids)) [] e = cc
has_kids_seen (item type json (kid name x kids)) (k ∷ ks) e = grind arith

pub same_seen : (t t' : Text) (j j' : Option Tree) (b b' : Bool) → t ≡ t' → j ≡ j' → b ≡ b'
    → let seen : Seen = record { type = t; json = j; has_kids = b } in
    let seen' : Seen = record { type = t'; json = j'; has_kids = b' } in
    seen ≡ seen'
same_seen t t' j j' b b' e f g = λ i. record { type = e i; json = f i; has_kids = g i }
