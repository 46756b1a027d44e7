-- Sets of pairs, as the checker keeps them.
use Rattle.std.specs.Prelude.{◌≡◌, Bool, true, false, List, [], ◌∷◌, ◌++◌, length, IsTrue, Option, None, if◌then◌else◌}
use Rattle.std.specs.List.{list_any}
use Rattle.fhir_certificate.specs.declared.pair.NodePair.{NodePair}
use Rattle.fhir_certificate.specs.declared.pair.Pair.{Pair}
use Rattle.fhir_certificate.specs.declared.pair.Pair.TheVariants.{Item, Kids}
use Rattle.fhir_certificate.specs.Certificate.{CertificateValue}
use Rattle.fhir_cert_check.specs.Rule.{RuleName}
use Rattle.fhir_cert_check.specs.Checking.{same_nodes}

abbrev pub same_pair : Pair → Pair → Bool
same_pair (Item p) (Item q) = same_nodes p q
same_pair (Kids p) (Kids q) = same_nodes p q
same_pair _ _ = false

-- the pairs of items, and those of children
pub record PairLists : Type 0 where
  pub items : List NodePair
  pub kids : List NodePair

abbrev pub has_pair : PairLists → Pair → Bool
has_pair v (Item p) = list_any (same_nodes p) v.items
has_pair v (Kids p) = list_any (same_nodes p) v.kids

-- ---- the pairs of a certificate (used by private contracts alone)

-- the two lists have the same pairs
abbrev pub AreSame : List NodePair → List NodePair → Type 0
AreSame ps qs = (p : NodePair) → list_any (same_nodes p) ps ≡ list_any (same_nodes p) qs

-- each pair that is marked stands among those before it
abbrev pub AreRepeated : (before : List NodePair) → (marks : List Bool) → List NodePair → Type 0
AreRepeated before (true ∷ marks) (p ∷ ps) = IsTrue (list_any (same_nodes p) before) × AreRepeated (before ++ p ∷ []) marks ps
AreRepeated before (false ∷ marks) (p ∷ ps) = AreRepeated (before ++ p ∷ []) marks ps
AreRepeated before _ _ = Unit {0}

-- a set of the pairs of a list, and marks on those that come again
pub record AreMarked (set : List NodePair) (marks : List Bool) (pairs : List NodePair) : Type 0 where
  pub same : AreSame set pairs
  pub long : length marks ≡ length pairs
  pub repeated : AreRepeated [] marks pairs

-- the same marks on the two lists of a certificate
pub record MarkRepeated (items kids : List Bool) (c : CertificateValue) : Type 0 where
  pub items_repeated : AreRepeated [] items c.items
  pub kids_repeated : AreRepeated [] kids c.kids

-- the first mark, and those behind it; behind the last none is marked
abbrev pub split_mark : List Bool → Bool × List Bool
split_mark [] = (false, [])
split_mark (mark ∷ marks) = (mark, marks)

-- a pair that came before isn't asked again
abbrev pub unless_repeated : Bool → Option RuleName → Option RuleName
unless_repeated repeated rule = if repeated then None else rule
