use Rattle.std.proofs.Common.{ℕ, Vec, Global}
use Rattle.fhir_compare.specs.Comparing.{new_in_old, old_in_new}
use Rattle.fhir_compare.specs.Views.{all_owns}
use Rattle.fhir_compare.proofs.Numbered.{marks_count}
use Rattle.fhir_compare.proofs.comparing.blamed_of.Goals as goal

pub spread-requires : goal.spread-requires
spread-requires c =
    let sides = c.args.sides in
    rw (c.deref-2.ensures.value, c.deref.ensures.value)
    (marks_count sides.old.now sides.new.now sides.mark.now new_in_old (all_owns c.args.all.now) c.in_ok-in_old.in_old.items
    c.in_ok-edges.edges.items (λ (v : Vec ℕ Global). v.items) c.requires.owns c.in_ok-in_old.ensures c.in_ok-edges.ensures)

pub spread-requires-2 : goal.spread-requires-2
spread-requires-2 c =
    let sides = c.args.sides in
    rw (c.deref-4.ensures.value, c.deref-3.ensures.value)
    (marks_count sides.old.now sides.new.now sides.mark.now old_in_new (all_owns c.args.all.now) c.in_ok-in_new.in_new.items
    c.in_ok-edges.edges.items (λ (v : Vec ℕ Global). v.items) c.requires.owns c.in_ok-in_new.ensures c.in_ok-edges.ensures)
