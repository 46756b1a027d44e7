-- What is found in the bytes of a JSON text.
use Rattle.std.proofs.Common.{◌≡◌, ℕ, ◌+◌, true, false, List, [], ◌∷◌, ◌++◌, length, take, drop, refl, sym, ap, subst, ◌∙◌, inl, inr, arith}
use Rattle.std.specs.Prelude.{nat_eq}
use Rattle.std.specs.List.{AllZip, starts_with}
use Rattle.std.proofs.lemmas.Bool.{cases_Bool}
use Rattle.std.proofs.lemmas.List.{take_at}
use Rattle.fhir_json.specs.Tree.{Tree}
use Rattle.fhir_json.specs.Grammar.{Reads, mark}
use Rattle.fhir_json.specs.Position.{position_at}
use Rattle.fhir_json.specs.Reading.{text_behind_mark}
use Rattle.fhir_json.proofs.Marks.{read_again}
use Rattle.fhir_json.proofs.Takes.{starts}
use Rattle.fhir_json.proofs.TakesLists.{tree_stands}
use Rattle.fhir_json.specs.declared.position.Position.{Position}
use Rattle.fhir_positions.specs.Positions.{BeginsAt, behind_front, values_in}
use Rattle.fhir_positions.specs.Lexing.{settled, lexed, nothing_seen}
use Rattle.fhir_positions.proofs.Counting.{behind}
use Rattle.fhir_positions.proofs.Found.{Begins, text_found}

zip_weaker : {A B : Type 0} (R S : A → B → Type 0) → ((a : A) (b : B) → R a b → S a b) → (xs : List A) (ps : List B) → AllZip R xs ps → AllZip S xs ps
zip_weaker R S f [] [] h = tt
zip_weaker R S f [] (p ∷ ps) h = absurd h
zip_weaker R S f (x ∷ xs) [] h = absurd h
zip_weaker R S f (x ∷ xs) (p ∷ ps) h = (f x p h.0, zip_weaker R S f xs ps h.1)

module _ (bytes : List ℕ) where
  -- without a mark
  plain_begins : starts_with nat_eq bytes mark ≡ false → (t : Tree) (p : Position) → Begins bytes t p → BeginsAt bytes t p
  plain_begins isnt t p h =
      let front = h.0 in
      let same : take (length front) bytes ≡ front = ap (take (length front)) h.3 ∙ take_at front (h.1 ++ h.2) (length front) refl in
      let at : position_at bytes (length front) ≡ behind_front (take (length front) bytes) = rw isnt refl in
      (front, h.1, h.2, h.3, h.4, h.5 ∙ sym (at ∙ ap behind_front same))

  -- behind a mark
  marked_begins : starts_with nat_eq bytes mark ≡ true → (t : Tree) (p : Position) → Begins (drop 3 bytes) t p → BeginsAt bytes t p
  marked_begins is t p h =
      let front = h.0 in
      let text = drop 3 bytes in
      let same : take (length front) text ≡ front = ap (take (length front)) h.3 ∙ take_at front (h.1 ++ h.2) (length front) refl in
      let whole : bytes ≡ mark ++ (front ++ (h.1 ++ h.2)) = starts bytes mark is ∙ ap (λ (z : List ℕ). mark ++ z) h.3 in
      let three : 3 + length front ≡ length (mark ++ front) = omega arith in
      let at : behind_front front ≡ position_at bytes (length (mark ++ front)) =
      ap behind_front (sym same) ∙ behind bytes (length front) is ∙ ap (position_at bytes) three in
      (mark ++ front, h.1, h.2, whole, h.4, h.5 ∙ at)

  begins_at : (t : Tree) (p : Position) → Begins (text_behind_mark bytes) t p → BeginsAt bytes t p
  begins_at t p h =
      elim (cases_Bool (starts_with nat_eq bytes mark)) [
        | inl is ↦ marked_begins is t p (rw is at h)
        | inr isnt ↦ plain_begins isnt t p (rw isnt at h)
      ]

  -- the values of the tree that the bytes are, in the order of their text
  pub values_found : (t : Tree) (ps : List Position)
      → (let s = lexed nothing_seen [] (text_behind_mark bytes) in ps ≡ settled s.found s.string) → Reads bytes t → AllZip (BeginsAt bytes) (values_in t) ps
  values_found t ps found r =
      let text = text_behind_mark bytes in
      let padded = (tree_stands text t (read_again bytes t r)).0 in
      let all = text_found text t padded in
      let same : ps ≡ all.positions = found ∙ all.ends.is in
      subst (λ (qs : List Position). AllZip (BeginsAt bytes) (values_in t) qs) (sym same)
      (zip_weaker (Begins text) (BeginsAt bytes) begins_at (values_in t) all.positions all.begin)
