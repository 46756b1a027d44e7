-- Texts in pieces, and their order.
use Rattle.std.proofs.Common.{◌≡◌, ℕ, [], ◌∷◌, ◌++◌, length, take, drop, true, false, refl, sym, ap, ◌∙◌, append_assoc, ◌==◌, subst, arith, ◌+◌, ◌<◌, ◌≤◌, get_or, add-one, drop-cons}
use Rattle.std.specs.declared.cmp.Ordering.{Ordering}
use Rattle.std.specs.declared.cmp.Ordering.TheVariants.{Less, Equal, Greater}
use Rattle.std.specs.Ordering.{nat_cmp, ordering_then}
use Rattle.std.specs.Cmp.Lexicographic.{slice_cmp}
use Rattle.std.specs.Str.{bytes_eq}
use Rattle.std.proofs.lemmas.Bool.{false≢true, eqb-true}
use Rattle.std.proofs.lemmas.Cmp.{nat_cmp_total, nat_list_cmp_total, tied_itself, ranked}
use Rattle.std.proofs.lemmas.List.{append-nil, append_cancel_left, drop_all, take_at, take-append-drop}
use Rattle.std.proofs.lemmas.Slice.Eq.{bytes_eq-Decides}
use Rattle.fhir_json.specs.Tree.{Text}
use Rattle.fhir_json.specs.Compact.{escape_byte, escape_text}
use Rattle.fhir_vouching.specs.declared.progress.Progress.{Progress}
use Rattle.fhir_vouching.specs.declared.progress.Progress.TheVariants.{Decided}
use Rattle.fhir_vouching.specs.Progress.{Compares, Adds}

-- two texts with one front stand to each other as what is behind it does
pub same_front : (front a b : Text) → slice_cmp nat_cmp (front ++ a) (front ++ b) ≡ slice_cmp nat_cmp a b
same_front [] a b = refl
same_front (x ∷ front) a b =
    ap (λ r. ordering_then r (slice_cmp nat_cmp (front ++ a) (front ++ b))) (tied_itself nat_cmp_total x) ∙ same_front front a b

-- a text that is no front of another stands to it as it does with more behind it
pub decided : (fed more text : Text) → ((rest : Text) → text ≡ fed ++ rest → ⊥)
    → slice_cmp nat_cmp (fed ++ more) text ≡ slice_cmp nat_cmp fed text
decided [] more text none = absurd (none text refl)
decided (x ∷ fed) more [] none = refl
decided (x ∷ fed) more (y ∷ text) none = go (nat_cmp x y) refl (λ same. decided fed more text (λ rest is. none rest (λ i. sym same i ∷ is i)))
  where
    go : (r : Ordering) → r ≡ nat_cmp x y → (x ≡ y → slice_cmp nat_cmp (fed ++ more) text ≡ slice_cmp nat_cmp fed text)
        → ordering_then r (slice_cmp nat_cmp (fed ++ more) text) ≡ ordering_then r (slice_cmp nat_cmp fed text)
    go Less e rest = refl
    go Equal e rest = rest (ranked x y Equal e)
    go Greater e rest = refl

-- where the piece is the front of what is left, the pieces with it are the front of the text
pub taken : (text fed left piece rest : Text) → text ≡ fed ++ left → bytes_eq (take (length piece) left) piece ≡ true
    → rest ≡ drop (length piece) left → text ≡ (fed ++ piece) ++ rest
taken text fed left piece rest is same behind =
    let front : take (length piece) left ≡ piece = (bytes_eq-Decides (take (length piece) left) piece).0 same in
    let whole : piece ++ rest ≡ left =
    ap (λ w. piece ++ w) behind ∙ ap (λ w. w ++ drop (length piece) left) (sym front) ∙ take-append-drop (length piece) left in
    is ∙ ap (λ w. fed ++ w) (sym whole) ∙ sym (append_assoc fed piece rest)

-- where it isn't, they aren't
pub no_front : (text fed left piece : Text) → text ≡ fed ++ left → bytes_eq (take (length piece) left) piece ≡ false
    → (rest : Text) → text ≡ (fed ++ piece) ++ rest → ⊥
no_front text fed left piece is other rest e =
    let whole : left ≡ piece ++ rest = append_cancel_left fed left (piece ++ rest) (sym is ∙ e ∙ append_assoc fed piece rest) in
    let front : take (length piece) left ≡ piece = ap (take (length piece)) whole ∙ take_at piece rest (length piece) refl in
    false≢true (sym other ∙ (bytes_eq-Decides (take (length piece) left) piece).1 front)

-- the piece stands to what is left as the pieces with it do to the text
pub piece_decides : (text fed left piece : Text) → text ≡ fed ++ left → slice_cmp nat_cmp piece left ≡ slice_cmp nat_cmp (fed ++ piece) text
piece_decides text fed left piece is = sym (same_front fed piece left) ∙ ap (slice_cmp nat_cmp (fed ++ piece)) (sym is)

-- where nothing is left, the pieces are the text
pub all_come : (text fed left : Text) → text ≡ fed ++ left → true ≡ (length left == 0) → Equal ≡ slice_cmp nat_cmp fed text
all_come text fed [] is h = sym (ap (slice_cmp nat_cmp fed) (is ∙ append-nil fed) ∙ tied_itself nat_list_cmp_total fed)
all_come text fed (b ∷ left) is h = let none : length (b ∷ left) ≡ 0 = eqb-true (length (b ∷ left)) 0 (sym h) in absurd (omega arith)

-- where something is left, they are less
pub more_left : (text fed left : Text) → text ≡ fed ++ left → false ≡ (length left == 0) → Less ≡ slice_cmp nat_cmp fed text
more_left text fed [] is h = absurd (false≢true h)
more_left text fed (b ∷ left) is h = piece_decides text fed (b ∷ left) [] is ∙ ap (λ w. slice_cmp nat_cmp w text) (append-nil fed)

-- two pieces in turn are one piece
pub both : (p q r : Progress) (a b : Text) → Adds p a q → Adds q b r → Adds p (a ++ b) r
both p q r a b first second fed text h = subst (λ w. Compares r w text) (append_assoc fed a b) (second (fed ++ a) text (first fed text h))

-- an empty piece changes nothing
pub nothing : (p : Progress) → Adds p [] p
nothing p fed text h = subst (λ w. Compares p w text) (sym (append-nil fed)) h

-- what is decided stays so, whatever comes
pub stays : (order : Ordering) (piece : Text) → Adds (Decided order) piece (Decided order)
stays order piece fed text h =
    (λ rest e. h.0 (piece ++ rest) (e ∙ append_assoc fed piece rest), h.1 ∙ sym (decided fed piece text h.0))

-- what comes for a byte, and then for those behind it, is what comes for all of them
pub one_byte : (p q end : Progress) (bytes : Text) (i : ℕ) → i < length bytes → Adds p (escape_byte (get_or bytes i 0)) q
    → Adds q (escape_text (drop (i + 1) bytes)) end → Adds p (escape_text (drop i bytes)) end
unfolding escape_text
one_byte p q end bytes i lt first rest =
    let step : drop i bytes ≡ get_or bytes i 0 ∷ drop (i + 1) bytes = rw add-one (drop-cons bytes i 0 lt) in
    rw step (both p q end (escape_byte (get_or bytes i 0)) (escape_text (drop (i + 1) bytes)) first rest)

-- behind the last byte nothing comes
pub no_byte : (p : Progress) (bytes : Text) (i : ℕ) → length bytes ≤ i → Adds p (escape_text (drop i bytes)) p
unfolding escape_text
no_byte p bytes i le = let none : drop i bytes ≡ [] = drop_all i bytes le in rw none (nothing p)
