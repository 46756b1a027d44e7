use Rattle.std.proofs.Common.{◌≡◌, true, false, Result, Ok, Err, OnOk, sym, ap, ◌∙◌}
use Rattle.std.specs.Prelude.{is_err}
use Rattle.std.proofs.lemmas.Bool.{false≢true}
use Rattle.fhir_package.specs.Changing.{put_each}
use Rattle.fhir_package.specs.Keeping.{with_places, have_places}
use Rattle.fhir_package.proofs.Kept.{old_again, put_into_places, places_kept}
use Rattle.fhir_package.proofs.package.Package.put_all.Goals as goal

on_ok : {A E P : Type 0} (r : Result A E) → OnOk r P → is_err r ≡ false → P
on_ok (Ok x) h e = h
on_ok (Err x) h e = absurd (false≢true (sym e))

pub returns-then-is_err-clause-unchanged : goal.returns-then-is_err-clause-unchanged
returns-then-is_err-clause-unchanged c =
    c.truncate.ensures
    ∙ old_again c.args.self.now c.keep_places.new.self c.len-structure_definitions.result c.len-value_sets.result c.len-code_systems.result
    c.len-structure_definitions.ensures c.len-value_sets.ensures c.len-code_systems.ensures c.keep_places.ensures.extended

pub returns-clause-put : goal.returns-clause-put
returns-clause-put c =
    let p = c.args.self.now in
    let all = c.args.definitions.items in
    let kept : c.keep_places.new.self ≡ with_places all p =
    on_ok c.keep_places.result c.keep_places.ensures.kept (sym c.is_err.ensures.value ∙ c.if-is_err.false)
    ∙ ap (λ ds. with_places ds p) c.deref.ensures.value in
    let have : have_places all c.keep_places.new.self ≡ true = ap (have_places all) kept ∙ places_kept all p in
    c.set_each.ensures have ∙ ap (put_each all) kept ∙ put_into_places all p
