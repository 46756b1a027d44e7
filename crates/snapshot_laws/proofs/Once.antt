-- Which ids stand in a snapshot once, where the snapshot at which the chain of bases ends is right.
use Rattle.std.proofs.Common.{◌≡◌, ◌<◌, ℕ, zero, suc, List, [], ◌∷◌, ◌++◌, length, true, Option, None, Some, refl, ap, sym, ◌∙◌, subst, inl, inr, arith}
use Rattle.std.proofs.lemmas.Option.{same_Some}
use Rattle.fhir_json.specs.Tree.{Text}
use Rattle.fhir_json.specs.Bytes.{line_feed}
use Rattle.fhir_names.specs.Texts.{cut_at_last}
use Rattle.fhir_names.proofs.Cuts.{last_found}
use Rattle.fhir_elements.specs.Element.{Element}
use Rattle.fhir_package.specs.Definitions.{Definitions}
use Rattle.fhir_definition.specs.Snapshot.{up_of}
use Rattle.fhir_asking.specs.Asking.{Has}
use Rattle.fhir_inheritance.specs.Keys.{key}
use Rattle.fhir_inheritance.specs.Node.{Node}
use Rattle.fhir_inheritance.specs.Sources.{Source, source_at}
use Rattle.fhir_inheritance.specs.Inheriting.{written_node, asking}
use Rattle.fhir_snapshot.specs.Order.{IsAt, Lists, under, roots, IsThere, IsUpThere, AreThere}
use Rattle.snapshot_laws.proofs.Among.{In, Each, Differ, in_left}
use Rattle.snapshot_laws.proofs.Ups.{shorter}
use Rattle.snapshot_laws.proofs.Finding.{ids, IsPlain, finds, stands_under}
use Rattle.snapshot_laws.proofs.Origins.{ByBase, Origin, from_written, from_base, from_whole, from_front, origin}
use Rattle.snapshot_laws.proofs.Nodes.{key_is, EndsSound, right_where}
use Rattle.snapshot_laws.proofs.Coming.{OneAnswer}
use Rattle.snapshot_laws.proofs.Parents.{Q, comes, written_there, base_answer, under_stays}
use Rattle.snapshot_laws.proofs.Rising.{free_roots}
use Rattle.snapshot_laws.proofs.Listed.{IsFit, waits_there, listed_differ, listed_plain, listed_all, listed_under, listed_uppers, root_in, in_root, roots_differ}

-- the elements of a snapshot have ids without line feeds that differ; and each stands under one that is there
pub record IsOnce (p : Definitions) (url : Text) (es : List Element) : Type 0 where
  pub plain : Each IsPlain (ids es)
  pub differ : Differ (ids es)
  pub uppers : (id up : Text) → In id (ids es) → up_of id ≡ Some up → (m : Node) × In up (ids es) × IsAt p url up m × In id (under up m)

pub there_in : (p : Definitions) (url : Text) (es : List Element) (x : Text) → AreThere p url es → In x (ids es)
    → IsThere p url x × IsUpThere p url (up_of x)
there_in p url [] x h i = absurd i
there_in p url (e ∷ es) x h (inl is) =
    (subst (IsThere p url) (sym is) h.0.0, subst (λ (y : Text). IsUpThere p url (up_of y)) (sym is) h.0.1)
there_in p url (e ∷ es) x h (inr i) = there_in p url es x h.1 i

-- the url of each definition has no line feed
abbrev pub HavePlainUrls : Definitions → Type 0
HavePlainUrls p = (url : Text) (s : Source) → source_at p url ≡ Some s → IsPlain url

module _ (p : Definitions) (urls : HavePlainUrls p) where
  -- ---- an id that is there has no line feed

  url_plain : (id url : Text) (n : Node) → Origin p (Q p) id url n → IsPlain url
  url_plain id url n (from_written r) = urls url r.source r.at
  url_plain id url n (from_base r) = urls url r.source r.by_base.at
  url_plain id url n (from_whole r) = urls url r.source r.by_base.at
  url_plain id url n (from_front r) = urls url r.source r.by_base.at

  id_plain : (id url : Text) (n : Node) → IsPlain url → IsAt p url id n → IsPlain id
  id_plain id url n plain at =
      let o = origin p (Q p) (key id url) n (comes p (key id url) (Some n) at) in
      let k = key_is (key id url) o.0 o.1 o.2 in
      let same = same_Some (id, url) (o.0, o.1)
      (sym (last_found line_feed id url plain) ∙ ap (cut_at_last line_feed) k.0 ∙ last_found line_feed o.0 o.1 (url_plain o.0 o.1 n o.3)) in
      subst IsPlain (sym (ap (λ (q : Text × Text). q.0) same)) k.1

  -- ---- a snapshot that is brought

  written_uppers : (url : Text) (s : Source) → source_at p url ≡ Some s → s.written ≡ true → EndsSound p url → (id up : Text) → In id (ids s.elements)
      → up_of id ≡ Some up → (m : Node) × In up (ids s.elements) × IsAt p url up m × In id (under up m)
  written_uppers url s at is ends id up h up_is =
      let over = (ends [] s tt at is).parents id up h up_is in
      let there = finds s.elements up over in (
        written_node s.elements up there.0,
        over,
        written_there p up url s there.0 ((ends [] s tt at is).plain up over) at is there.1,
        stands_under s.elements id up h up_is,
      )

  pub once_written : (url : Text) (s : Source) → source_at p url ≡ Some s → s.written ≡ true → EndsSound p url → IsOnce p url s.elements
  once_written url s at is ends =
      record {
        plain = (ends [] s tt at is).plain;
        differ = (ends [] s tt at is).differ;
        uppers = written_uppers url s at is ends;
      }

  -- ---- one that a differential makes

  module _ (url base : Text) (s : Source) (below : List Element) (based : ByBase p url s base) (below_once : IsOnce p base below)
      (ends : EndsSound p url) where
    fit : (id : Text) (n : Node) → IsPlain id → IsAt p url id n → IsFit p url id n
    fit id n plain at =
        record {
          right = right_where p id url n plain ends at;
          next = λ es waiting l x h.
              let there = waits_there p url es (under id n ++ waiting) l x (in_left x (under id n) waiting h) in
              id_plain x url there.0 (urls url s based.at) there.1;
        }

    roots_plain : Each IsPlain (roots below)
    roots_plain x h = below_once.plain x (root_in below x h).0

    laid_differ : (es : List Element) → Lists p url es (roots below) → Differ (ids es)
    laid_differ es l =
        listed_differ p url fit es (roots below) l roots_plain
        (free_roots (roots below) (roots_differ below below_once.differ) (λ x h. (root_in below x h).1))

    pub once_laid : (es : List Element) → Lists p url es (roots below) → IsOnce p url es
    once_laid es l =
        record {
          plain = listed_plain p url fit es (roots below) l roots_plain;
          differ = laid_differ es l;
          uppers = listed_uppers p url fit es (roots below) l roots_plain (λ x h. (root_in below x h).1);
        }

    -- each id of the base's snapshot is listed
    module _ (one : OneAnswer) (es : List Element) (l : Lists p url es (roots below)) (there : AreThere p url below) where
      by_upper : (id up : Text) (m n : Node) → IsPlain up → IsAt p base up m → In id (under up m) → IsAt p url up n → In up (ids es) → In id (ids es)
      by_upper id up m n plain below_at here at listed =
          let made = base_answer p one up url base s m (Some n) plain based below_at at in
          listed_under p url fit one es (roots below) l roots_plain up id made.0 listed
          (subst (Has (asking p) (key up url)) made.1 at) (under_stays p up url s.elements m made.0 made.2 id here)

      by_up : (id : Text) → In id (ids below) → (o : Option Text) → up_of id ≡ o
          → ((up : Text) → up_of id ≡ Some up → In up (ids below) → In up (ids es)) → In id (ids es)
      by_up id h None is rest = listed_all p url fit es (roots below) l roots_plain id (in_root below id h is)
      by_up id h (Some up) is rest =
          let u = below_once.uppers id up h is in
          let n = (there_in p url below up there u.1).0 in
          by_upper id up u.0 n.0 (below_once.plain up u.1) u.2 u.3 n.1 (rest up is u.1)

      by_length : (k : ℕ) (id : Text) → length id < k → In id (ids below) → In id (ids es)
      by_length zero id less h = absurd (omega arith)
      by_length (suc k) id less h =
          by_up id h (up_of id) refl
          (λ up is over. let more : length up < length id = shorter id up is in by_length k up (omega arith) over)

      pub below_listed : (id : Text) → In id (ids below) → In id (ids es)
      below_listed id h = by_length (suc (length id)) id (omega arith) h
