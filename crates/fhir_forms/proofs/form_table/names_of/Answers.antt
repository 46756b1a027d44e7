use Rattle.std.proofs.Common.{◌≡◌, ◌++◌, true, false, take, arith}
use Rattle.fhir_forms.specs.Forms.{spellings, spellings_of}
use Rattle.fhir_forms.proofs.Spelled.{refused, taken, not_apart, step, whole}
use Rattle.fhir_forms.proofs.form_table.names_of.Goals as goal

pub returns-then-not-branch : goal.returns-then-not-branch
returns-then-not-branch c =
    let isnt : c.in_ok-add_form.field-0 ≡ false = grind arith in
    let xs = spellings (take c.loop-place.place c.args.forms.now) in
    not_apart c.args.forms.now c.loop-place.place c.index-forms-place.result (omega arith) c.index-forms-place.is
    (refused c.in_ok-add_form.field-0 c.add_form.new.self.meanings.items c.add_form.new.self.places
    (xs ++ spellings_of c.loop-place.place c.index-forms-place.result) isnt (c.in_ok-add_form.ensures xs c.loop-place.invariant))

pub loop-place-preserved : goal.loop-place-preserved
loop-place-preserved c =
    let is : c.in_ok-add_form.field-0 ≡ true = grind arith in
    let xs = spellings (take c.loop-place.place c.args.forms.now) in
    step c.args.forms.now c.loop-place.place c.index-forms-place.result (omega arith) c.index-forms-place.is c.add_form.new.self.meanings.items
    c.add_form.new.self.places
    (taken c.in_ok-add_form.field-0 c.add_form.new.self.meanings.items c.add_form.new.self.places
    (xs ++ spellings_of c.loop-place.place c.index-forms-place.result) is (c.in_ok-add_form.ensures xs c.loop-place.invariant))

pub returns : goal.returns
returns c =
    whole c.loop-place.names.meanings.items c.loop-place.names.places c.args.forms.now c.loop-place.place (omega arith) c.loop-place.invariant
