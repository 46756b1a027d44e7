use Rattle.std.proofs.Common.{◌≡◌, ◌++◌, [], List, map, string_bytes, reverse, sym, subst, arith, true}
use Rattle.std.proofs.lemmas.List.{append-nil}
use Rattle.fhir_elements.specs.Element.{Element}
use Rattle.fhir_overlay.specs.Overlay.{bounds_fit}
use Rattle.fhir_inheritance.specs.Node.{Node}
use Rattle.fhir_snapshot.specs.Order.{IsAt, Lists}
use Rattle.fhir_snapshot.specs.Listing.{Places}
use Rattle.fhir_snapshot.proofs.Ordered.{nothing_left, last_first, none_so, goes_on, only_so}
use Rattle.fhir_snapshot.proofs.listing.list.Goals as goal

pub returns-then-not-branch-clause-none : goal.returns-then-not-branch-clause-none
returns-then-not-branch-clause-none c = λ memory.
    let p = c.args.sources.now in
    let url = c.args.url.now in
    let id = string_bytes c.in-Some.id in
    let ids = reverse (map string_bytes c.pop.new.self.items) in
    let start = reverse (map string_bytes c.args.left.items) in
    let listed = c.loop-id.listed.items in
    let first = last_first c.pop.new.self.items c.in-Some.id c.loop-id.left.items c.in-Some.ensures.items in
    let told = subst (λ b. Places p url c.as_str.result.now listed c.list_one.new.listed.items (map string_bytes c.pop.new.self.items) (map string_bytes c.list_one.new.left.items) b) c.if-not-branch.true c.in_ok-list_one.ensures.places in
    let bad : (n : Node) → IsAt p url id n → bounds_fit n.element ≡ true → ⊥ = subst (λ t. (n : Node) → IsAt p url t n → bounds_fit n.element ≡ true → ⊥) c.as_str.ensures.value told in
    let only = subst (λ l. (es : List Element) → Lists p url es start → (rest : List Element) × (es ≡ listed ++ rest) × Lists p url rest l) first c.loop-id.invariant.only in
    none_so p url id ids start listed bad only

pub loop-id-preserved : goal.loop-id-preserved
loop-id-preserved c =
    let p = c.args.sources.now in
    let url = c.args.url.now in
    let id = string_bytes c.in-Some.id in
    let ids = reverse (map string_bytes c.pop.new.self.items) in
    let start = reverse (map string_bytes c.args.left.items) in
    let left = reverse (map string_bytes c.list_one.new.left.items) in
    let listed = c.loop-id.listed.items in
    let more = c.list_one.new.listed.items in
    let first = last_first c.pop.new.self.items c.in-Some.id c.loop-id.left.items c.in-Some.ensures.items in
    let told = subst (λ b. Places p url c.as_str.result.now listed more (map string_bytes c.pop.new.self.items) (map string_bytes c.list_one.new.left.items) b) c.if-not-branch.false c.in_ok-list_one.ensures.places in
    let good : Places p url id listed more (map string_bytes c.pop.new.self.items) (map string_bytes c.list_one.new.left.items) true =
    subst (λ t. Places p url t listed more (map string_bytes c.pop.new.self.items) (map string_bytes c.list_one.new.left.items) true) c.as_str.ensures.value told in
    let only = subst (λ l. (es : List Element) → Lists p url es start → (rest : List Element) × (es ≡ listed ++ rest) × Lists p url rest l) first c.loop-id.invariant.only in
    let goes = subst (λ l. (es : List Element) → Lists p url es l → Lists p url (listed ++ es) start) first c.loop-id.invariant.goes in
    record {
      holds = c.list_one.ensures.holds;
      goes = goes_on p url id good.0 ids start left listed more good.1 good.2 good.3 good.4 goes;
      only = only_so c.one_answer.ensures.one p url id good.0 ids start left listed more good.1 good.3 good.4 only;
    }

pub returns-clause-listed : goal.returns-clause-listed
returns-clause-listed c =
    let p = c.args.sources.now in
    let url = c.args.url.now in
    let none : c.loop-id.left.items ≡ [] = nothing_left c.loop-id.left.items (omega (arith, c.in_default.ensures.cases.0)) in
    let start = reverse (map string_bytes c.args.left.items) in
    let end : Lists p url [] (reverse (map string_bytes c.loop-id.left.items)) = subst (λ xs. Lists p url [] (reverse (map string_bytes xs))) (sym none) tt in
    subst (λ es. Lists p url es start) (append-nil c.loop-id.listed.items) (c.loop-id.invariant.goes [] end)
