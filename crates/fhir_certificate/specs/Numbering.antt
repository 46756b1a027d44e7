-- The urls that a certificate's text names as they are found (used by private contracts alone).
use Rattle.std.specs.Prelude.{◌≡◌, List, map}
use Rattle.std.specs.Borrow.{Bor}
use Rattle.fhir_json.specs.Tree.{Text}
use Rattle.fhir_names.specs.Places.{Places, Finds}

abbrev pub texts_seen : List (Bor Text) → List Text
texts_seen xs = map (λ x. x.now) xs

-- these are the urls, and each is found by the place at which it stands
pub record AreFound (urls : List (Bor Text)) (places : Places) (us : List Text) : Type 0 where
  pub urls_are : texts_seen urls ≡ us
  pub found : Finds places us
