use Prim.Native.Nat.{◌≤◌}
use mathlib.Core.List.{append_assoc}
use native.Mathlib.Omega.{arith}
use lib.ListN.{length}
use Rattle.words.proofs.Output.{wrote_then}
use Rattle.output.specs.Decimal.{place_bytes}
use Rattle.output.proofs.Digits.{place_long}
use Rattle.output.proofs.put_place.Goals as goal

pub put_byte-bracket-requires : goal.put_byte-bracket-requires
put_byte-bracket-requires c =
    omega (arith, place_long c.args.row c.args.column c.args.letter, c.requires)

pub put_byte-digits-requires : goal.put_byte-digits-requires
put_byte-digits-requires c =
    omega (arith, place_long c.args.row c.args.column c.args.letter, c.requires)

pub put_decimal-semicolon-requires : goal.put_decimal-semicolon-requires
put_decimal-semicolon-requires c =
    omega (arith, place_long c.args.row c.args.column c.args.letter, c.requires)

pub put_byte-more_digits-requires : goal.put_byte-more_digits-requires
put_byte-more_digits-requires c =
    omega (arith, place_long c.args.row c.args.column c.args.letter, c.requires)

pub put_decimal-end-requires : goal.put_decimal-end-requires
put_decimal-end-requires c =
    omega (arith, place_long c.args.row c.args.column c.args.letter, c.requires)

pub put_byte-requires : goal.put_byte-requires
put_byte-requires c =
    omega (arith, place_long c.args.row c.args.column c.args.letter, c.requires)

pub returns : goal.returns
unfolding place_bytes
returns c =
    let room : c.args.at ≤ length c.args.out.now = omega (arith, c.requires) in
    let esc = c.put_byte-bracket.ensures in
    let bracket = c.put_byte-digits.ensures in
    let row = c.put_decimal-semicolon.ensures in
    let semicolon = c.put_byte-more_digits.ensures in
    let column = c.put_decimal-end.ensures in
    let f = c.put_byte.ensures in
    simp append_assoc at
    (wrote_then room (wrote_then room (wrote_then room (wrote_then room (wrote_then room esc bracket) row) semicolon) column) f)
