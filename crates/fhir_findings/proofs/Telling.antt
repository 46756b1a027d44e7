-- One carrier more is told.
use Rattle.std.proofs.Common.{◌≡◌, ℕ, ◌+◌, ◌<◌, ◌≤◌, List, [], ◌∷◌, ◌++◌, take, length, get_or, None, Some, sym, ap, subst, ◌∙◌, arith}
use Rattle.std.specs.List.{slice_set}
use Rattle.std.proofs.lemmas.List.{map-append, map-set, get_or-map, length-map}
use Rattle.fhir_json.specs.Tree.{Text}
use Rattle.fhir_names.specs.Places.{Places, place_of, Finds}
use Rattle.fhir_findings.specs.declared.carrier.Carrier.{Carrier as CarrierOf}
use Rattle.fhir_findings.specs.declared.once.Told.{Told as ToldOf}
use Rattle.fhir_findings.specs.Carrying.{Carrier, text_of}
use Rattle.fhir_findings.specs.Once.{Told, told_once}
use Rattle.fhir_findings.specs.Telling.{texts_told, with_one}
use Rattle.fhir_findings.specs.Views.{carrier_seen, carriers_seen, told_seen, all_told_seen}
use Rattle.fhir_findings.proofs.Counted.{IsCounted, told_at, new_told, same_texts, told-snoc, count_within}
use Rattle.fhir_findings.proofs.Pushed.{seen_more}

-- ---- a text that is told

pub found_place : (places : Places) (ts : List (Told Carrier)) (x : Carrier) (t : Text) (k : ℕ) → t ≡ text_of x → Finds places (texts_told text_of ts)
    → place_of places t ≡ Some k → IsCounted text_of ts x k
found_place places ts x t k is h e = told_at text_of ts x k (sym (h (text_of x)) ∙ ap (place_of places) (sym is) ∙ e)

pub counted_seen : (items new : List ToldOf) (x : Carrier) (k : ℕ) → IsCounted text_of (all_told_seen items) x k
    → ((d : ToldOf) → new ≡ slice_set items k (record (get_or items k d) { count = (get_or items k d).count + 1 }))
    → all_told_seen new ≡ with_one text_of (all_told_seen items) x
counted_seen [] new x k there put = absurd (omega (arith, there.within))
counted_seen (y ∷ ys) new x k there put =
    let h : k < length (y ∷ ys) = omega (arith, there.within, length-map (y ∷ ys) told_seen) in
    ap all_told_seen (put y)
    ∙ map-set told_seen (y ∷ ys) k (record (get_or (y ∷ ys) k y) { count = (get_or (y ∷ ys) k y).count + 1 })
    ∙ ap (λ (t : Told Carrier). slice_set (all_told_seen (y ∷ ys)) k (record t { count = t.count + 1 })) (sym (get_or-map told_seen (y ∷ ys) k y (told_seen y) h))
    ∙ sym (there.counted_more (told_seen y))

texts_kept : (ts : List (Told Carrier)) (x : Carrier) (k : ℕ) → IsCounted text_of ts x k → texts_told text_of (with_one text_of ts x) ≡ texts_told text_of ts
texts_kept [] x k there = absurd (omega (arith, there.within))
texts_kept (t ∷ ts) x k there = ap (texts_told text_of) (there.counted_more t) ∙ same_texts text_of (t ∷ ts) k ((get_or (t ∷ ts) k t).count + 1) t

-- the index still has the texts that are told
pub counted_found : (places : Places) (items new : List ToldOf) (x : Carrier) (k : ℕ) → IsCounted text_of (all_told_seen items) x k
    → all_told_seen new ≡ with_one text_of (all_told_seen items) x → Finds places (texts_told text_of (all_told_seen items))
    → Finds places (texts_told text_of (all_told_seen new))
counted_found places items new x k there is h =
    subst (Finds places) (sym (ap (texts_told text_of) is ∙ texts_kept (all_told_seen items) x k there)) h

pub within_items : (items : List ToldOf) (x : Carrier) (k : ℕ) → IsCounted text_of (all_told_seen items) x k → k < length items
within_items items x k there = omega (arith, there.within, length-map items told_seen)

-- ---- a text that is new

pub new_seen : (places : Places) (items new : List ToldOf) (o : ToldOf) (t : Text) → t ≡ text_of (carrier_seen o.first) → o.count ≡ 1
    → Finds places (texts_told text_of (all_told_seen items)) → place_of places t ≡ None → new ≡ items ++ o ∷ []
    → all_told_seen new ≡ with_one text_of (all_told_seen items) (carrier_seen o.first)
new_seen places items new o t is one h none pushed =
    ap all_told_seen pushed
    ∙ map-append told_seen items (o ∷ [])
    ∙ ap (λ (n : ℕ). all_told_seen items ++ record { first = carrier_seen o.first; count = n } ∷ []) one
    ∙ sym (new_told text_of (all_told_seen items) (carrier_seen o.first) 0
    (sym (h (text_of (carrier_seen o.first))) ∙ ap (place_of places) (sym is) ∙ none))

pub new_found : (places now : Places) (items new : List ToldOf) (o : ToldOf) (t : Text) (n : ℕ) → t ≡ text_of (carrier_seen o.first)
    → ((names : List Text) → Finds places names → length names ≡ n → Finds now (names ++ t ∷ []))
    → Finds places (texts_told text_of (all_told_seen items)) → n ≡ length items → new ≡ items ++ o ∷ []
    → Finds now (texts_told text_of (all_told_seen new))
new_found places now items new o t n is add h long pushed =
    let texts = texts_told text_of (all_told_seen items) in
    let all : texts_told text_of (all_told_seen new) ≡ texts ++ t ∷ [] =
    ap (λ (l : List ToldOf). texts_told text_of (all_told_seen l)) pushed
    ∙ ap (texts_told text_of) (map-append told_seen items (o ∷ []))
    ∙ map-append (λ (u : Told Carrier). text_of u.first) (all_told_seen items) (told_seen o ∷ [])
    ∙ ap (λ (u : Text). texts ++ u ∷ []) (sym is) in
    subst (Finds now) (sym all)
    (add texts h (length-map (all_told_seen items) (λ (u : Told Carrier). text_of u.first) ∙ length-map items told_seen ∙ sym long))

-- ---- all of them

pub room_left : (items : List ToldOf) (cs : List Carrier) (k : ℕ) (d : ToldOf) → all_told_seen items ≡ told_once text_of cs → k < length items
    → (get_or items k d).count ≤ length cs
room_left items cs k d is h =
    let at : get_or (told_once text_of cs) k (told_seen d) ≡ told_seen (get_or items k d) =
    ap (λ (ts : List (Told Carrier)). get_or ts k (told_seen d)) (sym is) ∙ get_or-map told_seen items k d (told_seen d) h in
    let long : k < length (told_once text_of cs) = omega (arith, h, length-map items told_seen, ap length is) in
    subst (λ (t : Told Carrier). t.count ≤ length cs) at (count_within text_of cs k (told_seen d) long)

pub next_told : (cs : List CarrierOf) (i : ℕ) (x : CarrierOf) (now new : List (Told Carrier)) → i < length cs → x ≡ get_or cs i x
    → now ≡ told_once text_of (carriers_seen (take i cs)) → new ≡ with_one text_of now (carrier_seen x)
    → new ≡ told_once text_of (carriers_seen (take (i + 1) cs))
next_told cs i x now new h is before told =
    told
    ∙ ap (λ (ts : List (Told Carrier)). with_one text_of ts (carrier_seen x)) before
    ∙ sym (told-snoc text_of (carriers_seen (take i cs)) (carrier_seen x))
    ∙ ap (told_once text_of) (sym (seen_more carrier_seen cs i x h is))
