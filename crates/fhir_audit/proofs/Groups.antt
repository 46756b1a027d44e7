-- Carriers under the urls of their definitions, one more at a time.
use Rattle.std.proofs.Common.{◌≡◌, ℕ, ◌+◌, ◌<◌, Bool, true, false, cond, List, [], ◌∷◌, ◌++◌, take, get_or, length, filter, sym, ap, ◌∙◌}
use Rattle.std.specs.Prelude.{Vec, if◌then◌else◌}
use Rattle.std.specs.BTreeMap.{BTreeMap}
use Rattle.std.specs.Borrow.{Bor}
use Rattle.std.specs.Str.{bytes_eq}
use Rattle.std.specs.declared.alloc.Global.{Global}
use Rattle.std.proofs.lemmas.List.{append-nil, map-append, map_more}
use Rattle.std.proofs.lemmas.List.Elements.{filter-append}
use Rattle.fhir_json.specs.Tree.{Text}
use Rattle.fhir_findings.specs.declared.carrier.Carrier.{Carrier as CarrierOf}
use Rattle.fhir_findings.specs.Carrying.{Carrier}
use Rattle.fhir_findings.specs.Views.{carrier_seen, carriers_seen}
use Rattle.fhir_audit.specs.Kept.{kept_under}

one_more : (b : Bool) (ys : List CarrierOf) (y : CarrierOf) (before : List Carrier) → carriers_seen ys ≡ before
    → carriers_seen (cond b (ys ++ y ∷ []) ys) ≡ before ++ cond b (carrier_seen y ∷ []) []
one_more true ys y before is = map-append carrier_seen ys (y ∷ []) ∙ ap (λ (l : List Carrier). l ++ carrier_seen y ∷ []) is
one_more false ys y before is = is ∙ sym (append-nil before)

pub put_more : (ys : List CarrierOf) (i : ℕ) (d y : CarrierOf) (old new : BTreeMap (Bor Text) (Vec CarrierOf Global))
    → i < length ys → get_or ys i d ≡ y
    → ((url : Text) → kept_under url new ≡ (if bytes_eq url y.url.now then kept_under url old ++ y ∷ [] else kept_under url old))
    → ((url : Text) → carriers_seen (kept_under url old) ≡ filter (λ z. bytes_eq url z.url) (carriers_seen (take i ys)))
    → (url : Text) → carriers_seen (kept_under url new) ≡ filter (λ z. bytes_eq url z.url) (carriers_seen (take (i + 1) ys))
put_more ys i d y old new lt is puts before url =
    ap carriers_seen (puts url)
    ∙ one_more (bytes_eq url y.url.now) (kept_under url old) y (filter (λ z. bytes_eq url z.url) (carriers_seen (take i ys))) (before url)
    ∙ sym (filter-append (λ z. bytes_eq url z.url) (carriers_seen (take i ys)) (carrier_seen y ∷ []))
    ∙ ap (λ (l : List Carrier). filter (λ z. bytes_eq url z.url) l) (sym (map_more carrier_seen ys i d lt ∙ ap (λ (z : CarrierOf). carriers_seen (take i ys) ++ carrier_seen z ∷ []) is))
