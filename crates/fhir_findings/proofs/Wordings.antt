-- Words that are gone through, and those that are kept.
use Rattle.std.proofs.Common.{◌≡◌, ℕ, zero, suc, ◌+◌, ◌<◌, ◌≤◌, List, [], ◌∷◌, ◌++◌, map, take, drop, length, get_or, Option, None, Some, Bor, refl, sym, ap, subst, ◌∙◌, arith}
use Rattle.std.specs.List.{slice_get, slice_set}
use Rattle.std.specs.Option.{option_or}
use Rattle.std.proofs.lemmas.List.{at_drop_more, map-append, map_more}
use Rattle.fhir_json.specs.Tree.{Text}
use Rattle.fhir_json.specs.Views.{text_seen}
use Rattle.fhir_names.specs.Places.{Places}
use Rattle.fhir_findings.specs.declared.once.Told.{Told as ToldOf}
use Rattle.fhir_findings.specs.declared.saying.Wording.{Wording as WordingOf}
use Rattle.fhir_findings.specs.Carrying.{Carrier}
use Rattle.fhir_findings.specs.Seeking.{AreSaid, said_for, kept_at}
use Rattle.fhir_findings.specs.Sentences.{Wording, first_said}
use Rattle.fhir_findings.specs.Views.{carrier_seen, wording_seen, wordings_seen, texts_seen, firsts_seen}
use Rattle.fhir_findings.proofs.Pushed.{seen_more}

-- one that says nothing is passed over
pub next_said : (said : Wording → Option Text) (ws : List WordingOf) (i : ℕ) (d : WordingOf) (all : Option Text) → i < length ws
    → None ≡ said (wording_seen (get_or ws i d)) → first_said said (wordings_seen (drop i ws)) ≡ all → first_said said (wordings_seen (drop (i + 1) ws)) ≡ all
next_said said ws i d all h none before =
    ap (λ (o : Option Text). option_or o (first_said said (wordings_seen (drop (i + 1) ws)))) none
    ∙ sym (at_drop_more (λ (l : List WordingOf). first_said said (wordings_seen l)) ws i d h)
    ∙ before

-- ---- what is kept at a place

pub kept_set : (told : List ToldOf) (found : List (Option (Bor Text))) (place : ℕ) (w : Wording) (kept old : Option (Bor Text)) (d : ToldOf)
    → place < length told → place < length found → old ≡ get_or found place old
    → text_seen kept ≡ option_or (text_seen old) (said_for (carrier_seen (get_or told place d).first) w)
    → texts_seen (slice_set found place kept) ≡ kept_at (firsts_seen told) (texts_seen found) place w
kept_set [] found place w kept old d h g at e = absurd (omega arith)
kept_set (t ∷ told) [] place w kept old d h g at e = absurd (omega arith)
kept_set (t ∷ told) (o ∷ found) zero w kept old d h g at e =
    ap (λ (p : Option Text). p ∷ texts_seen found) (e ∙ ap (λ (p : Option (Bor Text)). option_or (text_seen p) (said_for (carrier_seen t.first) w)) at)
kept_set (t ∷ told) (o ∷ found) (suc place) w kept old d h g at e =
    ap (λ (l : List (Option Text)). text_seen o ∷ l) (kept_set told found place w kept old d (omega arith) (omega arith) at e)

pub past_told : (cs : List Carrier) (found : List (Option Text)) (place : ℕ) (w : Wording) → length cs ≤ place → found ≡ kept_at cs found place w
past_told [] found place w h = refl
past_told (c ∷ cs) [] place w h = refl
past_told (c ∷ cs) (o ∷ found) zero w h = absurd (omega arith)
past_told (c ∷ cs) (o ∷ found) (suc place) w h = ap (λ (l : List (Option Text)). o ∷ l) (past_told cs found place w (omega arith))

pub past_found : (cs : List Carrier) (found : List (Option Text)) (place : ℕ) (w : Wording) → length found ≤ place → found ≡ kept_at cs found place w
past_found [] found place w h = refl
past_found (c ∷ cs) [] place w h = refl
past_found (c ∷ cs) (o ∷ found) zero w h = absurd (omega arith)
past_found (c ∷ cs) (o ∷ found) (suc place) w h = ap (λ (l : List (Option Text)). o ∷ l) (past_found cs found place w (omega arith))

-- one wording more
pub next_kept : (expressions keys : Places) (cs : List Carrier) (found : List (Option Text)) (ws : List WordingOf) (i : ℕ) (d : WordingOf) → i < length ws
    → AreSaid expressions keys cs found (wordings_seen (take i ws) ++ wording_seen (get_or ws i d) ∷ [])
    → AreSaid expressions keys cs found (wordings_seen (take (i + 1) ws))
next_kept expressions keys cs found ws i d h are =
    let P : List Wording → Type 0 = AreSaid expressions keys cs found in subst P (sym (map_more wording_seen ws i d h)) are

-- ---- what is seen at a place

pub get_seen : {A B : Type 0} (f : A → B) (xs : List A) (i : ℕ) (x : A) → i < length xs → x ≡ get_or xs i x → slice_get (map f xs) i ≡ Some (f x)
get_seen f [] i x h is = absurd (omega arith)
get_seen f (y ∷ xs) zero x h is = ap (λ (z : _). Some (f z)) (sym is)
get_seen f (y ∷ xs) (suc i) x h is = get_seen f xs i x (omega arith) is

-- one sentence more
pub next_sentence : (says : Carrier → Option Text) (told : List ToldOf) (i : ℕ) (x : ToldOf) (now new : List (Option (Bor Text))) (s : Option (Bor Text))
    → i < length told → x ≡ get_or told i x → texts_seen now ≡ map says (firsts_seen (take i told)) → new ≡ now ++ s ∷ []
    → text_seen s ≡ says (carrier_seen x.first) → texts_seen new ≡ map says (firsts_seen (take (i + 1) told))
next_sentence says told i x now new s h is before pushed said =
    ap texts_seen pushed
    ∙ map-append text_seen now (s ∷ [])
    ∙ ap (λ (l : List (Option Text)). l ++ text_seen s ∷ []) before
    ∙ ap (λ (o : Option Text). map says (firsts_seen (take i told)) ++ o ∷ []) said
    ∙ sym (map-append says (firsts_seen (take i told)) (carrier_seen x.first ∷ []))
    ∙ ap (map says) (sym (seen_more (λ (t : ToldOf). carrier_seen t.first) told i x h is))
