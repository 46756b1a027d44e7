-- Pairs that come again change nothing.
use Rattle.std.proofs.Common.{◌≡◌, ◌+◌, ◌<◌, ℕ, zero, suc, Bool, true, false, List, [], ◌∷◌, ◌++◌, length, map, take, drop, get_or, not, cond, Option, Some, None, refl, sym, ap, subst, ◌∙◌, IsTrue}
use Rattle.std.specs.List.{list_any}
use Rattle.std.specs.Option.{option_or, option_map_or}
use Rattle.std.specs.BTreeMap.{is_at}
use Rattle.std.proofs.lemmas.List.{append-nil, append_assoc, length-append, take_more, at_drop_more}
use Rattle.fhir_certificate.specs.declared.pair.NodePair.{NodePair}
use Rattle.fhir_certificate.specs.declared.pair.Pair.{Pair}
use Rattle.fhir_certificate.specs.contracts.pair.NodePairOrd.TheImpl.{cmp-value}
use Rattle.fhir_cert_check.specs.Rule.{RuleName}
use Rattle.fhir_cert_check.specs.Checking.{same_nodes, first_in}
use Rattle.fhir_cert_check.specs.PairSet.{AreRepeated, AreMarked, split_mark, unless_repeated}
use Rattle.fhir_cert_check.proofs.Orders.{any_at_pair, one_more}
use Rattle.fhir_cert_check.proofs.Certified.{first_in-append, none_fails}

-- ---- marks are put on

pred : ℕ → ℕ
pred zero = zero
pred (suc n) = n

marked_push : (before : List NodePair) (marks : List Bool) (ps : List NodePair) (p : NodePair) (b : Bool) → length marks ≡ length ps
    → (b ≡ true → IsTrue (list_any (same_nodes p) (before ++ ps))) → AreRepeated before marks ps → AreRepeated before (marks ++ b ∷ []) (ps ++ p ∷ [])
unfolding pred
marked_push before [] [] p true long h so = (subst (λ (qs : List NodePair). IsTrue (list_any (same_nodes p) qs)) (append-nil before) (h refl), cc)
marked_push before [] [] p false long h so = cc
marked_push before [] (q ∷ ps) p b long h so = absurd cc
marked_push before (m ∷ marks) [] p b long h so = absurd cc
marked_push before (true ∷ marks) (q ∷ ps) p b long h so =
    (so.0, marked_push (before ++ q ∷ []) marks ps p b (ap pred long) (λ (e : b ≡ true). subst (λ (qs : List NodePair). IsTrue (list_any (same_nodes p) qs)) (sym (append_assoc before (q ∷ []) ps)) (h e)) so.1)
marked_push before (false ∷ marks) (q ∷ ps) p b long h so =
    marked_push (before ++ q ∷ []) marks ps p b (ap pred long) (λ (e : b ≡ true). subst (λ (qs : List NodePair). IsTrue (list_any (same_nodes p) qs)) (sym (append_assoc before (q ∷ []) ps)) (h e)) so

twice_not : (b : Bool) → not (not b) ≡ true → b ≡ true
twice_not true e = refl
twice_not false e = absurd cc

pub put_so : (set new : List NodePair) (marks more : List Bool) (ps : List NodePair) (p : NodePair) (is_new : Bool) → is_new ≡ not (list_any (is_at (cmp-value.it p)) set)
    → more ≡ marks ++ not is_new ∷ []
    → ((q : NodePair) → list_any (is_at (cmp-value.it q)) new ≡ cond (is_at (cmp-value.it p) q) true (list_any (is_at (cmp-value.it q)) set))
    → AreMarked set marks ps → AreMarked new more (ps ++ p ∷ [])
put_so set new marks more ps p is_new added pushed updates h = record {
  same = one_more set new ps p updates h.same;
  long = ap length pushed ∙ length-append marks (not is_new ∷ []) ∙ ap (λ (n : ℕ). n + 1) h.long ∙ sym (length-append ps (p ∷ []));
  repeated = subst (λ (ms : List Bool). AreRepeated [] ms (ps ++ p ∷ [])) (sym pushed)
      (marked_push [] marks ps p (not is_new) h.long
      (λ (e : not is_new ≡ true). sym (h.same p) ∙ sym (any_at_pair p set) ∙ twice_not (list_any (is_at (cmp-value.it p)) set) (ap not (sym added) ∙ e)) h.repeated);
}

-- ---- marked pairs are passed over

map-push : (wrap : NodePair → Pair) (ps : List NodePair) (p : NodePair) → map wrap (ps ++ p ∷ []) ≡ map wrap ps ++ wrap p ∷ []
map-push wrap [] p = refl
map-push wrap (x ∷ ps) p = ap (λ (qs : List Pair). wrap x ∷ qs) (map-push wrap ps p)

module _ (wrap : NodePair → Pair) (f : Pair → Option RuleName) where
  -- where none before it fails, what is asked of a pair says whether it does
  pub asked_so : (before : List NodePair) (marks : List Bool) (p : NodePair) (ps : List NodePair) → first_in f (map wrap before) ≡ None
      → AreRepeated before marks (p ∷ ps) → unless_repeated (split_mark marks).0 (f (wrap p)) ≡ f (wrap p)
  asked_so before [] p ps none so = refl
  asked_so before (false ∷ marks) p ps none so = refl
  asked_so before (true ∷ marks) p ps none so = sym (none_fails wrap f before none p so.0)

  pub none_more : (before : List NodePair) (p : NodePair) → first_in f (map wrap before) ≡ None → f (wrap p) ≡ None
      → first_in f (map wrap (before ++ p ∷ [])) ≡ None
  none_more before p none fine =
      ap (first_in f) (map-push wrap before p) ∙ first_in-append f (map wrap before) (wrap p ∷ [])
      ∙ ap (λ (r : Option (Pair × RuleName)). option_or r (first_in f (wrap p ∷ []))) none
      ∙ ap (λ (o : Option RuleName). first_in (λ q. o) (wrap p ∷ [])) fine

pub marks_behind : (before : List NodePair) (marks : List Bool) (p : NodePair) (ps : List NodePair) → AreRepeated before marks (p ∷ ps)
    → AreRepeated (before ++ p ∷ []) (split_mark marks).1 ps
marks_behind before [] p ps so = cc
marks_behind before (false ∷ marks) p ps so = so
marks_behind before (true ∷ marks) p ps so = so.1

-- a pair that fails no rule is passed, and so is one that isn't asked again
pub passed : (wrap : NodePair → Pair) (f : Pair → Option RuleName) (nodes : List NodePair) (i : ℕ) (d : NodePair) (marks rest : List Bool) (is_repeated : Bool)
    (given : Option RuleName) → i < length nodes → (is_repeated, rest) ≡ split_mark marks
    → given ≡ unless_repeated is_repeated (f (wrap (get_or nodes i d))) → given ≡ None
    → (first_in f (map wrap (drop i nodes)) ≡ first_in f (map wrap nodes)) × (first_in f (map wrap (take i nodes)) ≡ None)
    × AreRepeated (take i nodes) marks (drop i nodes)
    → (first_in f (map wrap (drop (i + 1) nodes)) ≡ first_in f (map wrap nodes)) × (first_in f (map wrap (take (i + 1) nodes)) ≡ None)
    × AreRepeated (take (i + 1) nodes) rest (drop (i + 1) nodes)
passed wrap f nodes i d marks rest is_repeated given lt split is none so =
    let p : NodePair = get_or nodes i d in
    let behind : List NodePair = drop (i + 1) nodes in
    let here : AreRepeated (take i nodes) marks (p ∷ behind) =
    subst (λ (ps : List NodePair). AreRepeated (take i nodes) marks ps) (at_drop_more (λ (ps : List NodePair). ps) nodes i d lt) so.2 in
    let fine : f (wrap p) ≡ None =
    sym (asked_so wrap f (take i nodes) marks p behind so.1 here)
    ∙ ap (λ (q : Bool × List Bool). unless_repeated q.0 (f (wrap p))) (sym split) ∙ sym is ∙ none in
    let more : take (i + 1) nodes ≡ take i nodes ++ p ∷ [] = take_more nodes i d lt in (
      sym (ap (λ (o : Option RuleName). option_map_or (λ rule. Some (wrap p, rule)) o (first_in f (map wrap behind))) fine)
          ∙ sym (at_drop_more (λ (ps : List NodePair). first_in f (map wrap ps)) nodes i d lt) ∙ so.0,
      ap (λ (ps : List NodePair). first_in f (map wrap ps)) more ∙ none_more wrap f (take i nodes) p so.1 fine,
      subst (λ (before : List NodePair). AreRepeated before rest behind) (sym more)
          (subst (λ (q : Bool × List Bool). AreRepeated (take i nodes ++ p ∷ []) q.1 behind) (sym split) (marks_behind (take i nodes) marks p behind here)),
    )
