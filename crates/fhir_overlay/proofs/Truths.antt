-- Tests that hold together, and their parts.
use Rattle.std.proofs.Common.{Bool, IsTrue, arith}
use Rattle.std.specs.Prelude.{◌&&◌}
use Rattle.std.proofs.lemmas.Bool.{and_parts}

pub two : (a b : Bool) → IsTrue (a && b) → IsTrue a × IsTrue b
two a b h = and_parts a b h

pub three : (a b c : Bool) → IsTrue (a && b && c) → IsTrue a × IsTrue b × IsTrue c
three a b c h =
    let last = and_parts (a && b) c h in
    let first = and_parts a b last.0 in (first.0, first.1, last.1)

pub four : (a b c d : Bool) → IsTrue (a && b && c && d) → IsTrue a × IsTrue b × IsTrue c × IsTrue d
four a b c d h =
    let last = and_parts (a && b && c) d h in
    let first = three a b c last.0 in (first.0, first.1, first.2, last.1)

pub both : (a b : Bool) → IsTrue a → IsTrue b → IsTrue (a && b)
both a b h i = grind arith

pub all_three : (a b c : Bool) → IsTrue a → IsTrue b → IsTrue c → IsTrue (a && b && c)
all_three a b c h i j = grind arith

pub all_four : (a b c d : Bool) → IsTrue a → IsTrue b → IsTrue c → IsTrue d → IsTrue (a && b && c && d)
all_four a b c d h i j k = grind arith
