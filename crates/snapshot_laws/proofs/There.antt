-- Which ids the elements have that a differential makes of those of its base.
use Rattle.std.proofs.Common.{◌≡◌, ◌<◌, ℕ, zero, suc, List, [], length, true, Option, None, Some, refl, ap, sym, ◌∙◌, subst, arith}
use Rattle.std.proofs.lemmas.Option.{same_Some}
use Rattle.fhir_json.specs.Tree.{Text}
use Rattle.fhir_json.specs.Bytes.{line_feed}
use Rattle.fhir_elements.specs.Element.{Element}
use Rattle.fhir_package.specs.Definitions.{Definitions}
use Rattle.fhir_definition.specs.Snapshot.{up_of}
use Rattle.fhir_asking.specs.Asking.{Has}
use Rattle.fhir_overlay.specs.Overlay.{as_slice}
use Rattle.fhir_inheritance.specs.Keys.{key}
use Rattle.fhir_inheritance.specs.Node.{Node}
use Rattle.fhir_inheritance.specs.Elements.{slices_under}
use Rattle.fhir_inheritance.specs.Sources.{Source, source_at}
use Rattle.fhir_inheritance.specs.Laying.{moved}
use Rattle.fhir_inheritance.specs.Inheriting.{asking}
use Rattle.fhir_snapshot.specs.Order.{IsAt, Lists, roots, IsUpThere, AreThere, IsLaid}
use Rattle.snapshot_laws.proofs.Among.{In, Each, Differ}
use Rattle.snapshot_laws.proofs.Ups.{shorter, up_lacks, up_sliced, up_unsliced, sliced_none}
use Rattle.snapshot_laws.proofs.Finding.{ids, IsPlain, found_id, slice_in, names_plain}
use Rattle.snapshot_laws.proofs.Origins.{ByBase, same_source, not_both, IsMadeOf, Origin, from_written, from_base, from_whole, from_front}
use Rattle.snapshot_laws.proofs.Nodes.{AreSound, each_other, names_hold, node_right}
use Rattle.snapshot_laws.proofs.Coming.{OneAnswer}
use Rattle.snapshot_laws.proofs.Parents.{Q, origin_at, stands}
use Rattle.snapshot_laws.proofs.Once.{there_in}
use Rattle.snapshot_laws.proofs.Rising.{free_roots}
use Rattle.snapshot_laws.proofs.Listed.{IsFit, under_plain, listed_differ, listed_all, listed_plain, listed_under, root_in, in_root, roots_differ}

-- the elements of a snapshot have ids without line feeds that differ, and so have their slices; and each node's id is theirs
pub record IsGood (p : Definitions) (url : Text) (es : List Element) : Type 0 where
  pub plain : Each IsPlain (ids es)
  pub differ : Differ (ids es)
  pub slices : (id : Text) (n : Node) → IsPlain id → IsAt p url id n → Each IsPlain n.slices
  pub listed : (id : Text) (n : Node) → IsPlain id → IsAt p url id n → In id (ids es)

module _ (p : Definitions) (sound : AreSound p) where
  -- ---- a snapshot that is brought

  written_slices : (id url : Text) (s : Source) (n : Node) → source_at p url ≡ Some s → s.written ≡ true → Origin p (Q p) id url n
      → Each IsPlain n.slices
  written_slices id url s n at is (from_written r) =
      subst (λ (m : Node). Each IsPlain m.slices) (sym r.node_is)
      (λ x h. (sound url r.source r.at r.is_written).plain x (slice_in r.source.elements id x h).0)
  written_slices id url s n at is (from_base r) = absurd (not_both p url r.base s r.source at is r.by_base)
  written_slices id url s n at is (from_whole r) = absurd (not_both p url r.base s r.source at is r.by_base)
  written_slices id url s n at is (from_front r) = absurd (not_both p url r.base s r.source at is r.by_base)

  written_listed : (id url : Text) (s : Source) (n : Node) → source_at p url ≡ Some s → s.written ≡ true → Origin p (Q p) id url n
      → In id (ids s.elements)
  written_listed id url s n at is (from_written r) =
      subst (λ (u : Source). In id (ids u.elements)) (same_source p url r.source s r.at at) (found_id r.source.elements id r.own r.finds).1
  written_listed id url s n at is (from_base r) = absurd (not_both p url r.base s r.source at is r.by_base)
  written_listed id url s n at is (from_whole r) = absurd (not_both p url r.base s r.source at is r.by_base)
  written_listed id url s n at is (from_front r) = absurd (not_both p url r.base s r.source at is r.by_base)

  pub good_written : (url : Text) (s : Source) → source_at p url ≡ Some s → s.written ≡ true → IsGood p url s.elements
  good_written url s at is =
      record {
        plain = (sound url s at is).plain;
        differ = (sound url s at is).differ;
        slices = λ id n plain h. written_slices id url s n at is (origin_at p id url n plain h);
        listed = λ id n plain h. written_listed id url s n at is (origin_at p id url n plain h);
      }

  -- ---- one that a differential makes

  module _ (url base : Text) (s : Source) (below : List Element) (based : ByBase p url s base) (good : IsGood p base below)
      (own_plain : Each IsPlain (ids s.elements)) where
    own_source : (t : Source) (other : Text) → ByBase p url t other → (t ≡ s) × (other ≡ base)
    own_source t other by =
        let same = same_source p url t s by.at based.at in
        (same, same_Some other base (sym by.rests ∙ ap (λ (u : Source). u.base) same ∙ based.rests))

    made_slices : (t : Source) (other : Text) (e : Element) (names slices : List Text) (n : Node) → ByBase p url t other
        → IsMadeOf p (Q p) url t.elements e names slices n
        → Each IsPlain slices → Each IsPlain n.slices
    made_slices t other e names slices n by m plain =
        let more : Each IsPlain (ids t.elements) = subst (λ (u : Source). Each IsPlain (ids u.elements)) (sym (own_source t other by).0) own_plain in
        subst (Each IsPlain) (sym m.slices_are)
        (each_other IsPlain slices (slices_under t.elements e.id) plain (λ x h. more x (slice_in t.elements e.id x h).0))

    laid_slices : (id : Text) (n : Node) → IsPlain id → Origin p (Q p) id url n → Each IsPlain n.slices
    laid_slices id n plain (from_written r) = absurd (not_both p url base r.source s r.at r.is_written based)
    laid_slices id n plain (from_base r) =
        made_slices r.source r.base r.below.element r.below.names r.below.slices n r.by_base r.is_made
        (good.slices id r.below plain (subst (λ (b : Text). IsAt p b id r.below) (own_source r.source r.base r.by_base).1 r.has_base.0))
    laid_slices id n plain (from_whole r) =
        made_slices r.source r.base (moved id (as_slice r.sliced.element)) [] [] n r.by_base r.is_made (λ x h. absurd h)
    laid_slices id n plain (from_front r) =
        made_slices r.source r.base (moved id r.like.element) [] [] n r.by_base r.is_made (λ x h. absurd h)

    slices_at : (id : Text) (n : Node) → IsPlain id → IsAt p url id n → Each IsPlain n.slices
    slices_at id n plain at = laid_slices id n plain (origin_at p id url n plain at)

    names_at : (id : Text) (n : Node) → IsAt p url id n → Each IsPlain n.names
    names_at id n at = names_hold p IsPlain (λ url s is brings id. names_plain s.elements id (sound url s is brings).plain) (key id url) n at

    fit : (id : Text) (n : Node) → IsPlain id → IsAt p url id n → IsFit p url id n
    fit id n plain at =
        record {
          right = node_right p sound id url n plain at;
          next = λ es waiting l. under_plain id n plain (names_at id n at) (slices_at id n plain at);
        }

    roots_plain : Each IsPlain (roots below)
    roots_plain x h = good.plain x (root_in below x h).0

    laid_differ : (es : List Element) → Lists p url es (roots below) → Differ (ids es)
    laid_differ es l =
        listed_differ p url fit es (roots below) l roots_plain
        (free_roots (roots below) (roots_differ below good.differ) (λ x h. (root_in below x h).1))

    module _ (one : OneAnswer) (es : List Element) (l : Lists p url es (roots below)) (there : AreThere p url below) where
      -- what stands under an element that is listed is listed
      by_up : (id up : Text) (n m : Node) → IsPlain id → IsAt p url id n → up_of id ≡ Some up → IsAt p url up m → In up (ids es) → In id (ids es)
      by_up id up n m plain at up_is over listed =
          let s = stands p sound one id url up n (Some m) plain at up_is over in
          listed_under p url fit one es (roots below) l roots_plain up id s.0 listed (subst (Has (asking p) (key up url)) s.1 over) s.2

      from_below : (id : Text) (n : Node) → IsPlain id → IsAt p url id n → In id (ids below) → (o : Option Text) → up_of id ≡ o → IsUpThere p url o
          → ((up : Text) (m : Node) → up_of id ≡ Some up → IsAt p url up m → In up (ids es)) → In id (ids es)
      from_below id n plain at i None is up rest = listed_all p url fit es (roots below) l roots_plain id (in_root below id i is)
      from_below id n plain at i (Some up) is over rest = by_up id up n over.0 plain at is over.1 (rest up over.0 is over.1)

      by_origin : (id : Text) (n : Node) → IsPlain id → IsAt p url id n → Origin p (Q p) id url n
          → ((up : Text) (m : Node) → up_of id ≡ Some up → IsAt p url up m → In up (ids es)) → In id (ids es)
      by_origin id n plain at (from_written r) rest =
          absurd (not_both p url base r.source s r.at r.is_written based)
      by_origin id n plain at (from_base r) rest =
          let i = good.listed id r.below plain (subst (λ (b : Text). IsAt p b id r.below) (own_source r.source r.base r.by_base).1 r.has_base.0) in
          from_below id n plain at i (up_of id) refl (there_in p url below id there i).1 rest
      by_origin id n plain at (from_whole r) rest =
          let up_is = up_sliced id r.whole r.sliced_is in
          by_up id r.whole n r.sliced plain at up_is r.has_whole.0 (rest r.whole r.sliced up_is r.has_whole.0)
      by_origin id n plain at (from_front r) rest =
          let up_is = up_unsliced id (sliced_none id r.unsliced) ∙ r.front_is in
          by_up id r.front n r.parent plain at up_is r.has_front.0 (rest r.front r.parent up_is r.has_front.0)

      by_length : (k : ℕ) (id : Text) (n : Node) → length id < k → IsPlain id → IsAt p url id n → In id (ids es)
      by_length zero id n less plain at = absurd (omega arith)
      by_length (suc k) id n less plain at =
          by_origin id n plain at (origin_at p id url n plain at)
          (λ up m is over. let more : length up < length id = shorter id up is in
          by_length k up m (omega arith) (up_lacks line_feed id up is plain) over)

    pub good_laid : OneAnswer → (es : List Element) → IsLaid p url below s.elements es → IsGood p url es
    good_laid one es h =
        record {
          plain = listed_plain p url fit es (roots below) h.2 roots_plain;
          differ = laid_differ es h.2;
          slices = slices_at;
          listed = λ id n plain at. by_length one es h.2 h.0 (suc (length id)) id n (omega arith) plain at;
        }
