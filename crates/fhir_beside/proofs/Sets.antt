-- The value sets that are put in, one place after another.
use Rattle.std.proofs.Common.{◌≡◌, ℕ, zero, suc, ◌<◌, ◌≤◌, ◌+◌, Bool, List, [], ◌∷◌, ◌++◌, length, get_or, set, drop, replicate, Bor, Option, None, Some}
use Rattle.std.proofs.Common.{refl, ap, sym, ◌∙◌, subst, arith, append_assoc, add-one}
use Rattle.std.specs.List.{slice_get}
use Rattle.std.specs.Option.{option_map_or}
use Rattle.std.proofs.lemmas.List.{length-map, length-set, length-replicate}
use Rattle.fhir_json.specs.Views.{text_seen}
use Rattle.fhir_package.specs.declared.kind.Kind.TheVariants.{ValueSet}
use Rattle.fhir_alike.specs.Naming.{place_named}
use Rattle.fhir_json.specs.Tree.{Text, Tree}
use Rattle.fhir_package.specs.Definitions.{ByUrl, Definitions}
use Rattle.fhir_alike.proofs.Rests.{rest_at, rest_none, append_nothing}
use Rattle.fhir_beside.specs.Made.{IsListed, IsListedIf, IsSetPutIf, concepts_at, canonicals, is_bound, AreSets}
use Rattle.fhir_beside.specs.Naming.{names_seen, name_set, name_all}
use Rattle.fhir_beside.proofs.NamedSets.{concepts_named, none_names, some_names}

-- one definition under its url
abbrev pub entry_of : Text → Tree → ByUrl
entry_of url t = (url, t) ∷ []

pub entry_is : (u v : Text) (s t : Tree) → u ≡ v → s ≡ t → entry_of u s ≡ entry_of v t
entry_is u v s t e f = ap (λ x. entry_of x s) e ∙ ap (entry_of v) f

name_length : (old : Definitions) (c : Text) (names : List (Option Text)) (named : Option ℕ)
    → length (option_map_or (λ place. set names place (Some c)) named names) ≡ length names
name_length old c names None = refl
name_length old c names (Some place) = length-set names place (Some c)

name_all_length : (old : Definitions) (cs : List Text) (names : List (Option Text)) → length (name_all old cs names) ≡ length names
name_all_length old [] names = refl
name_all_length old (c ∷ cs) names =
    name_all_length old cs (name_set old c names) ∙ name_length old c names (place_named ValueSet old c)

seen_at : (names : List (Option (Bor Text))) (i : ℕ) (d : Option (Bor Text)) → i < length names
    → slice_get (names_seen names) i ≡ Some (text_seen (get_or names i d))
seen_at [] i d h = absurd (omega arith)
seen_at (x ∷ names) zero d h = refl
seen_at (x ∷ names) (suc i) d h = seen_at names i d (omega arith)

module _ (old new : Definitions) (keeps : Text → Bool) (mark : Text) where
  -- whatever is put in of the value sets from a place on, it stands behind what was put in of those before
  abbrev pub ArePutUpTo : ℕ → ByUrl → Type 0
  ArePutUpTo place done =
      (rest : ByUrl) → AreSets old new keeps mark place (drop place old.value_sets) rest → AreSets old new keeps mark 0 old.value_sets (done ++ rest)

  if_bound : (place : ℕ) (first : ByUrl) (e : Text × Tree) (o : Option Text) → slice_get old.value_sets place ≡ Some e
      → slice_get (name_all old (canonicals old new keeps) (replicate (length old.value_sets) None)) place ≡ Some o
      → IsSetPutIf old mark place o first → IsListedIf (is_bound old new keeps place) mark e (concepts_at old place) first
  if_bound place first e None there named put =
      let none = none_names old place (canonicals old new keeps) (replicate (length old.value_sets) None) named in
      subst (λ b. IsListedIf b mark e (concepts_at old place) first) (sym none.1) put
  if_bound place first e (Some c) there named put =
      let some = some_names old place (length old.value_sets) (canonicals old new keeps) c named in
      subst (λ b. IsListedIf b mark e (concepts_at old place) first) (sym some.1)
      (subst (λ s. IsListed mark e s first) (concepts_named old place c some.0) (put e there))

  -- one turn of the loop
  pub sets_turn : (place : ℕ) (done next first : ByUrl) (o : Option Text) → place < length old.value_sets
      → slice_get (name_all old (canonicals old new keeps) (replicate (length old.value_sets) None)) place ≡ Some o
      → IsSetPutIf old mark place o first → next ≡ done ++ first → ArePutUpTo place done → ArePutUpTo (place + 1) next
  sets_turn place done next first o h named put now was rest more =
      let r = rest_at old.value_sets place h in
      let behind : AreSets old new keeps mark (suc place) (drop (place + 1) old.value_sets) rest =
      subst (λ k. AreSets old new keeps mark k (drop (place + 1) old.value_sets) rest) (add-one place) more in
      let all : AreSets old new keeps mark place (drop place old.value_sets) (first ++ rest) =
      subst (λ es. AreSets old new keeps mark place es (first ++ rest)) (sym r.2) (first, rest, if_bound place first r.0 o r.1 named put, behind, refl) in
      subst (AreSets old new keeps mark 0 old.value_sets) (sym (append_assoc done first rest) ∙ ap (λ ys. ys ++ rest) (sym now)) (was (first ++ rest) all)

  pub sets_first : ArePutUpTo 0 []
  sets_first rest h = h

  pub sets_last : (place : ℕ) (done : ByUrl) → length old.value_sets ≤ place → ArePutUpTo place done
      → AreSets old new keeps mark 0 old.value_sets done
  sets_last place done h was =
      let none : AreSets old new keeps mark place (drop place old.value_sets) [] =
      subst (λ es. AreSets old new keeps mark place es []) (sym (rest_none old.value_sets place h)) refl in
      subst (AreSets old new keeps mark 0 old.value_sets) (append_nothing done) (was [] none)

  -- the same over the names in memory
  module _ (names : List (Option (Bor Text)))
      (named : names_seen names ≡ name_all old (canonicals old new keeps) (replicate (length old.value_sets) None)) where
    as_many : length names ≡ length old.value_sets
    as_many =
        sym (length-map names text_seen)
        ∙ ap length named
        ∙ name_all_length old (canonicals old new keeps) (replicate (length old.value_sets) None)
        ∙ length-replicate (length old.value_sets) None

    pub sets_step : (place : ℕ) (d : Option (Bor Text)) (done next first : ByUrl) → place < length names
        → IsSetPutIf old mark place (text_seen (get_or names place d)) first → next ≡ done ++ first → ArePutUpTo place done
        → ArePutUpTo (place + 1) next
    sets_step place d done next first h put now was =
        let there : slice_get (name_all old (canonicals old new keeps) (replicate (length old.value_sets) None)) place ≡ Some (text_seen (get_or names place d)) =
        ap (λ ns. slice_get ns place) (sym named) ∙ seen_at names place d h in
        sets_turn place done next first (text_seen (get_or names place d)) (omega (arith, as_many, h)) there put now was

    pub sets_done : (place : ℕ) (done : ByUrl) → length names ≤ place → ArePutUpTo place done → AreSets old new keeps mark 0 old.value_sets done
    sets_done place done h was = sets_last place done (omega (arith, as_many, h)) was
