-- Trees that are identical are one.
use Rattle.std.proofs.Common.{◌≡◌, Bool, true, false, ◌&&◌, refl, sym, ap, ◌∙◌}
use Rattle.std.specs.Str.{bytes_eq}
use Rattle.std.proofs.lemmas.Bool.{and_parts, false≢true}
use Rattle.std.proofs.lemmas.Slice.Eq.{bytes_eq-Decides}
use Rattle.fhir_json.specs.Tree.{Text, Tree, null, boolean, number, string, array, object, Items, no_items, item, Members, no_members, member}
use Rattle.fhir_matching.specs.Equality.{same_flag}
use Rattle.fhir_facets.specs.Identity.{identical, items_identical, members_identical}

pub text_is : (s t : Text) → bytes_eq s t ≡ true → s ≡ t
text_is s t h = (bytes_eq-Decides s t).0 h

flag_is : (a b : Bool) → same_flag a b ≡ true → a ≡ b
flag_is true b h = sym h
flag_is false true h = absurd (false≢true h)
flag_is false false h = refl

mutual
  pub same_tree : (t u : Tree) → identical t u ≡ true → t ≡ u
  same_tree null null h = refl
  same_tree null _ h = absurd (false≢true h)
  same_tree (boolean a) (boolean b) h = ap boolean (flag_is a b h)
  same_tree (boolean a) _ h = absurd (false≢true h)
  same_tree (number m) (number n) h = ap number (text_is m n h)
  same_tree (number m) _ h = absurd (false≢true h)
  same_tree (string s) (string t) h = ap string (text_is s t h)
  same_tree (string s) _ h = absurd (false≢true h)
  same_tree (array ts) (array us) h = ap array (same_items ts us h)
  same_tree (array ts) _ h = absurd (false≢true h)
  same_tree (object ms) (object ns) h = ap object (same_members ms ns h)
  same_tree (object ms) _ h = absurd (false≢true h)

  same_items : (ts us : Items) → items_identical ts us ≡ true → ts ≡ us
  same_items no_items no_items h = refl
  same_items no_items (item u us) h = absurd (false≢true h)
  same_items (item t ts) no_items h = absurd (false≢true h)
  same_items (item t ts) (item u us) h =
      let both = and_parts _ _ h in
      ap (λ (v : Tree). item v ts) (same_tree t u both.0) ∙ ap (item u) (same_items ts us both.1)

  same_members : (ms ns : Members) → members_identical ms ns ≡ true → ms ≡ ns
  same_members no_members no_members h = refl
  same_members no_members (member name u ns) h = absurd (false≢true h)
  same_members (member name t ms) no_members h = absurd (false≢true h)
  same_members (member name t ms) (member other u ns) h =
      let all = and_parts (bytes_eq name other && identical t u) (members_identical ms ns) h in
      let both = and_parts (bytes_eq name other) (identical t u) all.0 in
      ap (λ (s : Text). member s t ms) (text_is name other both.0)
      ∙ ap (λ (v : Tree). member other v ms) (same_tree t u both.1)
      ∙ ap (member other u) (same_members ms ns all.1)
