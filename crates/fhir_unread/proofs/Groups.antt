-- Sayings under their keys, one more at a time.
use Rattle.std.proofs.Common.{◌≡◌, ℕ, ◌+◌, ◌<◌, Bool, true, false, cond, List, [], ◌∷◌, ◌++◌, take, get_or, length, filter, sym, ap, ◌∙◌}
use Rattle.std.specs.Prelude.{Vec}
use Rattle.std.specs.BTreeMap.{BTreeMap}
use Rattle.std.specs.Borrow.{Bor}
use Rattle.std.specs.Str.{bytes_eq}
use Rattle.std.specs.declared.alloc.Global.{Global}
use Rattle.std.proofs.lemmas.List.{append-nil, map-append, map_more}
use Rattle.std.proofs.lemmas.List.Elements.{filter-append}
use Rattle.fhir_json.specs.Tree.{Text}
use Rattle.fhir_unread.specs.declared.saying.Saying.{Saying as SayingOf}
use Rattle.fhir_unread.specs.Sayings.{Saying}
use Rattle.fhir_unread.specs.Seen.{saying_seen, sayings_seen, kept_under}

one_more : (b : Bool) (ys : List SayingOf) (y : SayingOf) (before : List Saying) → sayings_seen ys ≡ before
    → sayings_seen (cond b (ys ++ y ∷ []) ys) ≡ before ++ cond b (saying_seen y ∷ []) []
one_more true ys y before is = map-append saying_seen ys (y ∷ []) ∙ ap (λ (l : List Saying). l ++ saying_seen y ∷ []) is
one_more false ys y before is = is ∙ sym (append-nil before)

pub put_more : (ys : List SayingOf) (i : ℕ) (d y : SayingOf) (old new : BTreeMap (Bor Text) (Vec SayingOf Global))
    → i < length ys → get_or ys i d ≡ y
    → ((key : Text) → kept_under key new ≡ cond (bytes_eq key y.key.now) (kept_under key old ++ y ∷ []) (kept_under key old))
    → ((key : Text) → sayings_seen (kept_under key old) ≡ filter (λ z. bytes_eq key z.key) (sayings_seen (take i ys)))
    → (key : Text) → sayings_seen (kept_under key new) ≡ filter (λ z. bytes_eq key z.key) (sayings_seen (take (i + 1) ys))
put_more ys i d y old new lt is puts before key =
    ap sayings_seen (puts key)
    ∙ one_more (bytes_eq key y.key.now) (kept_under key old) y (filter (λ z. bytes_eq key z.key) (sayings_seen (take i ys))) (before key)
    ∙ sym (filter-append (λ z. bytes_eq key z.key) (sayings_seen (take i ys)) (saying_seen y ∷ []))
    ∙ ap (λ (l : List Saying). filter (λ z. bytes_eq key z.key) l) (sym (map_more saying_seen ys i d lt ∙ ap (λ (z : SayingOf). sayings_seen (take i ys) ++ saying_seen z ∷ []) is))
