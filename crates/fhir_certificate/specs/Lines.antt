-- What the pair lines of a certificate say, one after the other (used by private contracts alone).
use Rattle.std.specs.Prelude.{◌≡◌, ◌≤◌, ◌+◌, ◌++◌, ◌&&◌, IsTrue, length, List, [], ◌∷◌, Bool, Option, is_some}
use Rattle.std.specs.Option.{option_map, option_map_or}
use Rattle.std.specs.List.{list_all, flat_map}
use Rattle.fhir_schema.specs.Schemas.{SchemaValue}
use Rattle.fhir_certificate.specs.declared.pair.NodePair.{NodePair}
use Rattle.fhir_certificate.specs.declared.pair.Pair.{Pair}
use Rattle.fhir_certificate.specs.declared.pair.Pair.TheVariants.{Item, Kids}
use Rattle.fhir_certificate.specs.declared.lines.LinesRead.{LinesRead}
use Rattle.fhir_certificate.specs.Format.{Line, item, kids}
use Rattle.fhir_certificate.specs.Judging.{limit, pair_of}

-- the pair of a line, where its nodes are known
abbrev pub pair_in : SchemaValue → Line → Option Pair
pair_in s (item derived base) = option_map Item (pair_of s derived base)
pair_in s (kids derived base) = option_map Kids (pair_of s derived base)

abbrev pub are_known : SchemaValue → List Line → Bool
are_known s lines = list_all (λ line. is_some (pair_in s line)) lines

-- the pairs of those lines whose nodes are known
abbrev pub pairs_of : SchemaValue → List Line → List Pair
pairs_of s [] = []
pairs_of s (line ∷ lines) = option_map_or (λ pair. pair ∷ pairs_of s lines) (pair_in s line) (pairs_of s lines)

abbrev pub item_in : Pair → List NodePair
item_in (Item pair) = pair ∷ []
item_in (Kids pair) = []

abbrev pub kids_in : Pair → List NodePair
kids_in (Item pair) = []
kids_in (Kids pair) = pair ∷ []

-- one line more was read
pub record Reads (s : SchemaValue) (line : Line) (old new : LinesRead) : Type 0 where
  pub count : new.count ≡ old.count + 1
  pub known : new.is_known ≡ (old.is_known && is_some (pair_in s line))
  pub items : IsTrue new.is_known → new.count ≤ limit → new.items.items ≡ old.items.items ++ flat_map item_in (pairs_of s (line ∷ []))
  pub kids : IsTrue new.is_known → new.count ≤ limit → new.kids.items ≡ old.kids.items ++ flat_map kids_in (pairs_of s (line ∷ []))

-- what the lines in front say and what stands in the lines behind make up the lines
pub record LeadsTo (s : SchemaValue) (usable : Bool) (so_far : LinesRead) (behind lines : List Line) : Type 0 where
  pub count : so_far.count + length behind ≡ length lines
  pub known : (so_far.is_known && are_known s behind) ≡ (usable && are_known s lines)
  pub items : IsTrue so_far.is_known → so_far.count ≤ limit
      → so_far.items.items ++ flat_map item_in (pairs_of s behind) ≡ flat_map item_in (pairs_of s lines)
  pub kids : IsTrue so_far.is_known → so_far.count ≤ limit
      → so_far.kids.items ++ flat_map kids_in (pairs_of s behind) ≡ flat_map kids_in (pairs_of s lines)
