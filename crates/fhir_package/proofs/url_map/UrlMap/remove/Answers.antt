use Rattle.std.proofs.Common.{◌≡◌, true, false, is_some, not, filter, string_bytes, sym, ap, subst, ◌∙◌, rules}
use Rattle.std.specs.Map.{keys_of}
use Rattle.std.specs.Str.{bytes_eq}
use Rattle.std.proofs.lemmas.Fn.{filter_same}
use Rattle.fhir_names.specs.Places.{Finds, Knows}
use Rattle.fhir_package.specs.View.{entries_seen}
use Rattle.fhir_package.specs.Changing.{without_url}
use Rattle.fhir_package.proofs.Placed.{has_tree, none_taken, kept_seen, knows_kept}
use Rattle.fhir_package.proofs.url_map.UrlMap.remove.Goals as goal

pub returns-then-is_none-clause-gone : goal.returns-then-is_none-clause-gone
returns-then-is_none-clause-gone c =
    let es = entries_seen c.self.inside.entries.items in
    let none : is_some c.get.result ≡ false = c.is_none.ensures ∙ ap not c.if-is_none.true in
    rw (← c.self.view_is) (none_taken c.args.url.now es (has_tree c.self.inside.urls c.args.url.now es c.get.result c.self.invariant c.get.ensures ∙ none))

pub returns-then-is_none-clause-told : goal.returns-then-is_none-clause-told
returns-then-is_none-clause-told c =
    let none : is_some c.get.result ≡ false = c.is_none.ensures ∙ ap not c.if-is_none.true in
    rw (← c.self.view_is)
    (sym (has_tree c.self.inside.urls c.args.url.now (entries_seen c.self.inside.entries.items) c.get.result c.self.invariant c.get.ensures ∙ none))

pub invariant_of-self : goal.invariant_of-self
invariant_of-self c =
    let all = c.self.inside.entries.items in
    let url = c.args.url.now in
    let kept : c.retain.new.self.items ≡ filter (λ e. not (bytes_eq (string_bytes e.url) url)) all =
    filter_same _ _ _ (λ x b f' k. search rules) all c.retain.new.self.items c.retain.ensures.filtered in
    let seen : entries_seen c.deref.result.now ≡ without_url url (entries_seen all) = ap entries_seen (c.deref.ensures.value ∙ kept) ∙ kept_seen url all in
    let knows : Knows c.remove.new.self (keys_of (entries_seen c.deref.result.now)) =
    subst (λ es. Knows c.remove.new.self (keys_of es)) (sym seen)
    (knows_kept c.self.inside.urls c.remove.new.self url (entries_seen all) c.self.invariant c.remove.ensures) in
    subst (λ es. Finds c.set_places.new.urls (keys_of (entries_seen es))) c.deref.ensures.value (c.set_places.ensures knows)

pub returns-clause-gone : goal.returns-clause-gone
returns-clause-gone c =
    let all = c.self.inside.entries.items in
    let url = c.args.url.now in
    let kept : c.retain.new.self.items ≡ filter (λ e. not (bytes_eq (string_bytes e.url) url)) all =
    filter_same _ _ _ (λ x b f' k. search rules) all c.retain.new.self.items c.retain.ensures.filtered in
    ap entries_seen kept ∙ kept_seen url all ∙ ap (without_url url) c.self.view_is

pub returns-clause-told : goal.returns-clause-told
returns-clause-told c =
    let some : is_some c.get.result ≡ true = c.is_none.ensures ∙ ap not c.if-is_none.false in
    rw (← c.self.view_is)
    (sym (has_tree c.self.inside.urls c.args.url.now (entries_seen c.self.inside.entries.items) c.get.result c.self.invariant c.get.ensures ∙ some))
