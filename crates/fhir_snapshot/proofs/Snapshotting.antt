-- Laws of chains of bases and of the snapshots along them.
use Rattle.std.proofs.Common.{◌≡◌, ℕ, zero, suc, List, [], ◌∷◌, ◌++◌, Bool, cond, true, false, Option, Some, None, ◌&&◌, Result, Ok, Err, IfOk, refl, ap, sym, ◌∙◌, subst}
use Rattle.std.specs.Prelude.{codes, IfErr}
use Rattle.std.specs.Option.{option_map, option_map_or}
use Rattle.std.proofs.lemmas.Bool.{false≢true}
use Rattle.std.proofs.lemmas.Option.{none-some, same_Some}
use Rattle.fhir_json.specs.Tree.{Text, Tree}
use Rattle.fhir_elements.specs.Element.{Element}
use Rattle.fhir_package.specs.declared.kind.Kind.TheVariants.{StructureDefinition}
use Rattle.fhir_package.specs.Definitions.{Definitions, at_url}
use Rattle.fhir_definition.specs.Snapshot.{ids_differ}
use Rattle.fhir_asking.specs.Asking.{given, Answer, found, run, once, answer, is_wanting, NeedsItself}
use Rattle.fhir_inheritance.specs.Node.{Node}
use Rattle.fhir_inheritance.specs.Sources.{Source, brings_snapshot, elements_in, source_of, source_at, base_of}
use Rattle.fhir_snapshot.specs.Order.{Lists, under, IsLaid}
use Rattle.fhir_snapshot.specs.Snapshots.{SnapshotIn, IsSnapshot, IsMade, HasNone, brings_elements, is_right}
use Rattle.fhir_snapshot.specs.Chains.{asks_base, chain_of, ending, Rests, IsWritten, IsChain, Starts}
use Rattle.fhir_snapshot.proofs.Ordered.{OneAnswer, one_node}

-- ---- what a definition brings

-- a definition that is there brings what its tree says
source_is : (p : Definitions) (url : Text) (t : Tree) (s : Source) → at_url StructureDefinition url p ≡ Some t → source_at p url ≡ Some s → s ≡ source_of p t
source_is p url t s at is = same_Some s (source_of p t) (sym is ∙ ap (option_map (source_of p)) at)

-- ---- down a chain

module _ (p : Definitions) where
  down_made : (n : ℕ) (url base : Text) (t : Tree) (es : List Element) (b : Bool) → b ≡ false → base_of p t ≡ Some base → IsMade (SnapshotIn n p) p url t b es
      → (under : List Element) × SnapshotIn n p base under
  down_made n url base t es true isnt is made = absurd (false≢true (sym isnt))
  down_made n url base t es false isnt is made =
      (made.2.0, subst (λ b. SnapshotIn n p b made.2.0) (same_Some made.0 base (sym made.1 ∙ is)) made.2.1)

  down_in : (n : ℕ) (url base : Text) (es : List Element) → Rests p url base → SnapshotIn (suc n) p url es → (under : List Element) × SnapshotIn n p base under
  down_in n url base es rests h =
      let same = source_is p url h.0 rests.0 h.1 rests.1 in
      down_made n url base h.0 es (brings_snapshot h.0) (ap (λ (s : Source). s.written) (sym same) ∙ rests.2) (ap (λ (s : Source). s.base) (sym same) ∙ rests.3) h.3

  -- where a definition has a snapshot, so has the one on which it rests
  pub none_above : (url base : Text) → Rests p url base → HasNone p base → HasNone p url
  none_above url base rests none es (zero, h) = h
  none_above url base rests none es (suc n, h) = let low = down_in n url base es rests h in none low.0 (n, low.1)

  -- where the last of a chain has none, the first has none
  pub none_up : (urls : List Text) (last url : Text) → IsChain p (urls ++ last ∷ []) → Starts url (urls ++ last ∷ []) → HasNone p last → HasNone p url
  none_up [] last url chain starts none = subst (HasNone p) starts none
  none_up (x ∷ []) last url chain starts none = subst (HasNone p) starts (none_above x last chain.0 none)
  none_up (x ∷ y ∷ urls) last url chain starts none =
      subst (HasNone p) starts (none_above x y chain.0 (none_up (y ∷ urls) last y chain.1 refl none))

  pub no_base_made : (n : ℕ) (url : Text) (t : Tree) (es : List Element) (b : Bool) → b ≡ false → base_of p t ≡ None → IsMade (SnapshotIn n p) p url t b es → ⊥
  no_base_made n url t es true isnt is made = false≢true (sym isnt)
  no_base_made n url t es false isnt is made = none-some made.0 (sym is ∙ made.1)

  -- ---- chains that end

  ends_made : (n : ℕ) (url : Text) (t : Tree) (es : List Element) (b : Bool) → brings_snapshot t ≡ b
      → ((base : Text) (under : List Element) → SnapshotIn n p base under → answer (ending p) n base ≡ found (Some true))
      → IsMade (SnapshotIn n p) p url t b es → run (answer (ending p) n) (cond b (given (Some true)) (asks_base (base_of p t))) ≡ found (Some true)
  ends_made n url t es true is each made = refl
  ends_made n url t es false is each made =
      ap (λ (o : Option Text). run (answer (ending p) n) (asks_base o)) made.1
      ∙ ap (λ (a : Answer Bool). once a (λ (o : Option Bool). found o)) (each made.0 made.2.0 made.2.1)

  ends : (n : ℕ) (url : Text) (es : List Element) → SnapshotIn n p url es → answer (ending p) n url ≡ found (Some true)
  ends zero url es h = absurd h
  ends (suc n) url es h =
      ap (λ (o : Option Tree). run (answer (ending p) n) (option_map_or chain_of (option_map (source_of p) o) (given None))) h.1
      ∙ ends_made n url h.0 es (brings_snapshot h.0) refl (λ base under. ends n base under) h.3

  -- a chain that comes back to itself has no snapshot
  pub no_cycle : (url : Text) → NeedsItself (ending p) url → HasNone p url
  no_cycle url needs es h = false≢true (sym (ap is_wanting (ends h.0 url es h.1)) ∙ needs h.0)

-- ---- one more, and one less

pub chain_push : (p : Definitions) (urls : List Text) (last base : Text) → IsChain p (urls ++ last ∷ []) → Rests p last base → IsChain p ((urls ++ last ∷ []) ++ base ∷ [])
chain_push p [] last base chain rests = (rests, tt)
chain_push p (x ∷ []) last base chain rests = (chain.0, (rests, tt))
chain_push p (x ∷ y ∷ urls) last base chain rests = (chain.0, chain_push p (y ∷ urls) last base chain.1 rests)

pub starts_push : (urls : List Text) (last base url : Text) → Starts url (urls ++ last ∷ []) → Starts url ((urls ++ last ∷ []) ++ base ∷ [])
starts_push [] last base url starts = starts
starts_push (x ∷ urls) last base url starts = starts

pub chain_pop : (p : Definitions) (urls : List Text) (url last : Text) → IsChain p ((urls ++ url ∷ []) ++ last ∷ []) → Rests p url last × IsChain p (urls ++ url ∷ [])
chain_pop p [] url last chain = (chain.0, tt)
chain_pop p (x ∷ []) url last chain = (chain.1.0, (chain.0, tt))
chain_pop p (x ∷ y ∷ urls) url last chain = let rest = chain_pop p (y ∷ urls) url last chain.1 in (rest.0, (chain.0, rest.1))

pub starts_pop : (urls : List Text) (url last first : Text) → Starts first ((urls ++ url ∷ []) ++ last ∷ []) → Starts first (urls ++ url ∷ [])
starts_pop [] url last first starts = starts
starts_pop (x ∷ urls) url last first starts = starts

-- ---- there is one

one_list : OneAnswer → (p : Definitions) (url : Text) (one other : List Element) (ids : List Text) → Lists p url one ids → Lists p url other ids → one ≡ other
one_list answer p url [] [] ids a b = refl
one_list answer p url [] (f ∷ fs) [] a b = absurd b
one_list answer p url [] (f ∷ fs) (id ∷ ids) a b = absurd a
one_list answer p url (e ∷ es) [] [] a b = absurd a
one_list answer p url (e ∷ es) [] (id ∷ ids) a b = absurd b
one_list answer p url (e ∷ es) (f ∷ fs) [] a b = absurd a
one_list answer p url (e ∷ es) (f ∷ fs) (id ∷ ids) a b =
    let same : b.0 ≡ a.0 = one_node answer p _ b.0 a.0 b.1 a.1 in
    let first : e ≡ f = sym a.3 ∙ ap (λ (n : Node). n.element) (sym same) ∙ b.3 in
    let rest : es ≡ fs = one_list answer p url es fs (under id a.0 ++ ids) a.4 (subst (λ n. Lists p url fs (under id n ++ ids)) same b.4) in
    ap (λ (x : Element). x ∷ es) first ∙ ap (λ (xs : List Element). f ∷ xs) rest

module _ (answer : OneAnswer) (p : Definitions) where
  one_made : (n m : ℕ) (url : Text) (t : Tree) (one other : List Element) (b : Bool)
      → ((base : Text) (x y : List Element) → SnapshotIn n p base x → SnapshotIn m p base y → x ≡ y)
      → IsMade (SnapshotIn n p) p url t b one → IsMade (SnapshotIn m p) p url t b other → one ≡ other
  one_made n m url t one other true each a b = a ∙ sym b
  one_made n m url t one other false each a b =
      let base : b.0 ≡ a.0 = same_Some b.0 a.0 (sym b.1 ∙ a.1) in
      let low : SnapshotIn m p a.0 b.2.0 = subst (λ u. SnapshotIn m p u b.2.0) base b.2.1 in
      let same : b.2.0 ≡ a.2.0 = sym (each a.0 a.2.0 b.2.0 a.2.1 low) in
      let laid : IsLaid p url a.2.0 _ other = subst (λ x. IsLaid p url x _ other) same b.2.2 in
      one_list answer p url one other _ a.2.2.2 laid.2

  pub one_snapshot : (n m : ℕ) (url : Text) (one other : List Element) → SnapshotIn n p url one → SnapshotIn m p url other → one ≡ other
  one_snapshot zero m url one other a b = absurd a
  one_snapshot (suc n) zero url one other a b = absurd b
  one_snapshot (suc n) (suc m) url one other a b =
      let tree : b.0 ≡ a.0 = same_Some b.0 a.0 (sym b.1 ∙ a.1) in
      one_made n m url a.0 one other (brings_snapshot a.0) (λ base x y. one_snapshot n m base x y) a.3
      (subst (λ t. IsMade (SnapshotIn m p) p url t (brings_snapshot t) other) tree b.3)

-- ---- one step of a chain

-- what holds of each that passes a test holds of a result that passes it
pub if_ok : {A E : Type 0} (P Q : A → Type 0) → ((x : A) → P x → Q x) → (r : Result A E) → IfOk r P → IfOk r Q
if_ok P Q f (Ok x) h = f x h
if_ok P Q f (Err e) h = tt

pub if_err_both : {A E : Type 0} (P R Q : E → Type 0) → ((e : E) → P e → R e → Q e) → (r : Result A E) → IfErr r P → IfErr r R → IfErr r Q
if_err_both P R Q f (Ok x) h k = tt
if_err_both P R Q f (Err e) h k = f e h k

module _ (p : Definitions) (url : Text) (t : Tree) (at : at_url StructureDefinition url p ≡ Some t) where
  pub wrong : is_right t ≡ false → HasNone p url
  wrong isnt es (zero, h) = h
  wrong isnt es (suc n, h) = false≢true (sym isnt ∙ ap is_right (same_Some t h.0 (sym at ∙ h.1)) ∙ h.2)

  module _ (base : Text) (rests : Rests p url base) where
    pub unbrought : brings_snapshot t ≡ false
    unbrought = ap (λ (s : Source). s.written) (sym (source_is p url t rests.0 at rests.1)) ∙ rests.2

    pub base_is : base_of p t ≡ Some base
    base_is = ap (λ (s : Source). s.base) (sym (source_is p url t rests.0 at rests.1)) ∙ rests.3

    pub elements_are : (s : Source) → source_at p url ≡ Some s → s.elements ≡ elements_in (codes "differential") t
    elements_are s is =
        ap (λ (s : Source). s.elements) (source_is p url t s at is)
        ∙ ap (λ (b : Bool). elements_in (cond b (codes "snapshot") (codes "differential")) t) unbrought

    pub right_is : (s : Source) → source_at p url ≡ Some s → is_right t ≡ (brings_elements (codes "differential") t && ids_differ s.elements)
    right_is s is =
        ap (λ (b : Bool). cond b (brings_elements (codes "snapshot") t) (brings_elements (codes "differential") t && ids_differ (elements_in (codes "differential") t))) unbrought
        ∙ ap (λ (es : List Element). brings_elements (codes "differential") t && ids_differ es) (sym (elements_are s is))

    pub made_is : (s : Source) → source_at p url ≡ Some s → is_right t ≡ true → (under es : List Element) → IsSnapshot p base under → IsLaid p url under s.elements es → IsSnapshot p url es
    made_is s is right under es snapshot laid =
        let made : IsMade (SnapshotIn snapshot.0 p) p url t false es =
        (base, base_is, (under, snapshot.1, subst (λ d. IsLaid p url under d es) (elements_are s is) laid)) in
        (suc snapshot.0, (t, at, right, subst (λ b. IsMade (SnapshotIn snapshot.0 p) p url t b es) (sym unbrought) made))

    none_made : OneAnswer → (n : ℕ) (u : Tree) (under es : List Element) (b : Bool) → b ≡ false → t ≡ u → IsSnapshot p base under
        → ((es : List Element) → IsLaid p url under (elements_in (codes "differential") t) es → ⊥) → IsMade (SnapshotIn n p) p url u b es → ⊥
    none_made answer n u under es true isnt same snapshot none made = false≢true (sym isnt)
    none_made answer n u under es false isnt same snapshot none made =
        let low : SnapshotIn n p base made.2.0 =
        subst (λ x. SnapshotIn n p x made.2.0) (same_Some made.0 base (sym made.1 ∙ ap (base_of p) (sym same) ∙ base_is)) made.2.1 in
        let one : made.2.0 ≡ under = one_snapshot answer p n snapshot.0 base made.2.0 under low snapshot.1 in
        none es (subst (λ x. IsLaid p url x (elements_in (codes "differential") t) es) one
        (subst (λ x. IsLaid p url made.2.0 (elements_in (codes "differential") x) es) (sym same) made.2.2))

    pub none_laid : OneAnswer → (s : Source) → source_at p url ≡ Some s → (under : List Element) → IsSnapshot p base under
        → ((es : List Element) → IsLaid p url under s.elements es → ⊥) → HasNone p url
    none_laid answer s is under snapshot none es (zero, h) = h
    none_laid answer s is under snapshot none es (suc n, h) =
        let same : t ≡ h.0 = same_Some t h.0 (sym at ∙ h.1) in
        none_made answer n h.0 under es (brings_snapshot h.0) (ap brings_snapshot (sym same) ∙ unbrought) same snapshot
        (λ es laid. none es (subst (λ d. IsLaid p url under d es) (sym (elements_are s is)) laid)) h.3

-- what brings a snapshot has it
pub brought_is : (p : Definitions) (url : Text) (t : Tree) (s : Source) → at_url StructureDefinition url p ≡ Some t → source_at p url ≡ Some s
    → IsWritten p url → brings_elements (codes "snapshot") t ≡ true → IsSnapshot p url s.elements
brought_is p url t s at is written right =
    let brings : brings_snapshot t ≡ true = ap (λ (s : Source). s.written) (sym (source_is p url t written.0 at written.1)) ∙ written.2 in
    let same : s.elements ≡ elements_in (codes "snapshot") t =
    ap (λ (s : Source). s.elements) (source_is p url t s at is) ∙ ap (λ (b : Bool). elements_in (cond b (codes "snapshot") (codes "differential")) t) brings in
    let whole : is_right t ≡ true =
    ap (λ (b : Bool). cond b (brings_elements (codes "snapshot") t) (brings_elements (codes "differential") t && ids_differ (elements_in (codes "differential") t))) brings ∙ right in
    (1, (t, at, whole, subst (λ b. IsMade (SnapshotIn 0 p) p url t b s.elements) (sym brings) same))
