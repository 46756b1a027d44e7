use Rattle.std.proofs.Common.{◌≡◌, ◌<◌, suc, length, [], ap, arith, rules}
use Rattle.std.proofs.lemmas.Result.{err_from_is_err_and}
use Rattle.fhir_fp_syntax.specs.Views.{words_of}
use Rattle.fhir_fp_syntax.proofs.Pieces.{pieces_begin, pieces_end, piece_fails, add_fails, piece_added}
use Rattle.fhir_fp_syntax.proofs.lexer.tokens_in.Goals as goal

pub pieces-init : goal.pieces-init
pieces-init c =
    let none : words_of c.new-tokens.result.items ≡ [] = ap words_of c.new-tokens.ensures.items in (
      search rules,
      suc (length c.args.text.now),
      omega arith,
      rw none (omega arith),
      rw none (pieces_begin c.args.text.now),
    )

pub returns-in_err-piece : goal.returns-in_err-piece
returns-in_err-piece c =
    let inv = c.pieces.invariant in
    let some : 0 < length c.pieces.rest.now = grind arith in
    let p = err_from_is_err_and c.from_residual.result c.from_residual.ensures.1 in
    rw (p.1, p.2) (piece_fails _ inv.1 c.pieces.rest.now _ inv.2 inv.3 inv.4 some _ c.in_err-piece.ensures.value)

pub returns-in_err-add : goal.returns-in_err-add
returns-in_err-add c =
    let inv = c.pieces.invariant in
    let some : 0 < length c.pieces.rest.now = grind arith in
    let p = err_from_is_err_and c.from_residual-in_err-add.result c.from_residual-in_err-add.ensures.1 in
    rw (p.1, p.2) (add_fails _ inv.1 c.pieces.rest.now _ inv.2 inv.3 inv.4 some _ c.in_ok-piece.after.now c.in_ok-piece.ensures.value _ c.in_err-add.ensures)

pub pieces-preserved : goal.pieces-preserved
pieces-preserved c =
    let inv = c.pieces.invariant in
    let some : 0 < length c.pieces.rest.now = grind arith in
    let added = piece_added _ inv.1 c.pieces.rest.now _ inv.2 inv.3 inv.4 some _ c.in_ok-piece.after.now c.in_ok-piece.ensures.value _ c.in_ok-add.ensures c.in_ok-piece.ensures.shorter in
    (search rules, added.0, added.1, added.2, added.3)

pub returns : goal.returns
returns c =
    let inv = c.pieces.invariant in
    let none : length c.pieces.rest.now ≡ 0 = grind arith in
    pieces_end _ inv.1 c.pieces.rest.now _ inv.2 inv.3 inv.4 none
