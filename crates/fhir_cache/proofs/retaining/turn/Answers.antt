use Rattle.std.proofs.Common.{◌≡◌, ◌∙◌, sym, ap, subst, OnOk, refl, Bool}
use Rattle.std.specs.Prelude.{if◌then◌else◌}
use Rattle.lru.specs.LruCache.{lru_cache, put_entries}
use Rattle.fhir_cache.proofs.Turning.{turned_back, none_last}
use Rattle.fhir_cache.proofs.retaining.turn.Goals as goal

pub returns-in-Some-clause-ok : goal.returns-in-Some-clause-ok
returns-in-Some-clause-ok g c =
    let keep : (g.row.Q.Denot × g.row.V.Denot) → Bool = λ e. g.R.Rule.stays c.args.rule.now e.1 in
    let eq = g.Q.PartialEq.eq in
    let pair : g.row.Q.Denot × g.row.V.Denot = (c.in-Some.question, c.in-Some.value) in
    let was = c.args.cache.now in
    let back = ap (λ s. if keep pair then lru_cache (put_entries eq s pair.0 pair.1) s.cap else s) c.in-Some.ensures.entries in
    subst (λ s. OnOk c.put_back.result (c.put_back.new.cache ≡ s)) (back ∙ turned_back keep eq g.met.Q.Eq.laws was.cap pair was.entries c.len-size.ensures.valid (sym c.in-Some.ensures.value)) c.put_back.ensures.ok

pub returns-in-None-clause-ok : goal.returns-in-None-clause-ok
returns-in-None-clause-ok g c =
    let keep : (g.row.Q.Denot × g.row.V.Denot) → Bool = λ e. g.R.Rule.stays c.args.rule.now e.1 in
    let was = c.args.cache.now in
    let none = none_last keep was.entries (sym c.in-None.ensures.value) in
    c.in-None.ensures.entries ∙ rw none refl
