use Rattle.std.proofs.Common.{◌≡◌, ◌<◌, ℕ, length, take, drop, string_bytes, encode_utf8, ◌++◌, List, sym, ap, ◌∙◌, arith, rules, Some, Option}
use Rattle.std.proofs.lemmas.Result.{err_from_is_err_and}
use Rattle.std.specs.List.{prefix_len}
use Rattle.fhir_fp_syntax.specs.Answers.{◌>>=◌}
use Rattle.fhir_fp_syntax.specs.Strings.{is_plain, text_at, escape_at}
use Rattle.fhir_fp_syntax.proofs.Options.{behind_front, Fails-bind}
use Rattle.fhir_fp_syntax.proofs.Texts.{part_end, part_begins, part_escape}
use Rattle.fhir_fp_syntax.proofs.literal.text_in.Goals as goal

pub returns-then-is_empty : goal.returns-then-is_empty
returns-then-is_empty c =
    let inv = c.parts.invariant in
    let rest = c.parts.rest.now in
    let more : string_bytes c.push_str.new.self ≡ string_bytes c.parts.out ++ take (prefix_len is_plain rest) rest = grind arith in
    let none : length c.plain_of.result.1.now ≡ 0 = grind arith in
    part_end _ inv.1 rest _ _ _ inv.2 inv.3 c.plain_of.ensures.rest more none

pub character_of-requires : goal.character_of-requires
character_of-requires c =
    let inv = c.parts.invariant in
    let rest = c.parts.rest.now in
    let more : string_bytes c.push_str.new.self ≡ string_bytes c.parts.out ++ take (prefix_len is_plain rest) rest = grind arith in
    let some : 0 < length c.plain_of.result.1.now = grind arith in
    (some, part_begins _ inv.1 rest _ _ _ inv.2 inv.3 c.plain_of.ensures.rest more some)

pub returns-in_err-c : goal.returns-in_err-c
returns-in_err-c c =
    let inv = c.parts.invariant in
    let rest = c.parts.rest.now in
    let more : string_bytes c.push_str.new.self ≡ string_bytes c.parts.out ++ take (prefix_len is_plain rest) rest = grind arith in
    let some : 0 < length c.plain_of.result.1.now = grind arith in
    let p = err_from_is_err_and c.from_residual-in_err-c.result c.from_residual-in_err-c.ensures.1 in
    let turn = part_escape _ inv.1 rest _ _ _ inv.2 inv.3 c.plain_of.ensures.rest more some in
    rw (p.1, p.2) (Fails-bind _ _ _ _ turn.2 c.in_err-c.ensures.value)

pub parts-preserved : goal.parts-preserved
parts-preserved c =
    let inv = c.parts.invariant in
    let rest = c.parts.rest.now in
    let at = c.plain_of.result.1.now in
    let more : string_bytes c.push_str.new.self ≡ string_bytes c.parts.out ++ take (prefix_len is_plain rest) rest = grind arith in
    let some : 0 < length c.plain_of.result.1.now = grind arith in
    let turn = part_escape _ inv.1 rest _ _ _ inv.2 inv.3 c.plain_of.ensures.rest more some in
    let done = c.in_ok-c in
    let v : escape_at (drop 1 at) ≡ Some (encode_utf8 done.c, done.after.now) = done.ensures.value in
    let pushed : string_bytes c.push.new.self ≡ string_bytes c.push_str.new.self ++ encode_utf8 done.c = grind arith in (
      search rules,
      turn.0,
      omega (arith, turn.1, done.ensures.shorter),
      turn.2 ∙ ap (λ (r : Option (List ℕ × List ℕ)). r >>= (λ x. behind_front (string_bytes c.push_str.new.self ++ x.0) (text_at turn.0 x.1))) v
          ∙ ap (λ (o : List ℕ). behind_front o (text_at turn.0 done.after.now)) (sym pushed),
    )
