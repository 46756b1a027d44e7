use Rattle.std.proofs.Common.{◌≡◌, true, false, is_some, arith}
use Rattle.fhir_names.specs.Places.{place_of}
use Rattle.fhir_forms.proofs.Spelled.{twice, kept}
use Rattle.fhir_forms.proofs.form_table.Names.add.Goals as goal

pub returns-then-is_some : goal.returns-then-is_some
returns-then-is_some c xs h =
    let there : is_some (place_of c.args.self.now.places c.args.name.now) ≡ true = grind arith in
    twice c.args.self.now.meanings.items c.args.self.now.places xs c.args.name.now c.args.meaning h there

pub returns : goal.returns
returns c xs h =
    let isnt : is_some (place_of c.args.self.now.places c.args.name.now) ≡ false = grind arith in
    kept c.args.self.now.meanings.items c.args.self.now.places xs c.args.name.now c.args.meaning h c.push.new.self.items c.add.new.self
    c.len.result isnt c.in_ok-push.ensures.items (grind arith) c.in_ok-add.ensures.added
