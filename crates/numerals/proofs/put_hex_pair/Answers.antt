use mathlib.Core.Path.{◌≡◌}
use mathlib.Core.List.{flat_map}
use Prim.Native.Nat.{◌/◌, ◌%◌}
use native.Mathlib.Omega.{arith}
use Rattle.numerals.proofs.put_hex_pair.Goals as goal

pub returns : goal.returns
unfolding flat_map
returns c =
    let high : c.args.number / 256 % 256 ≡ c.args.number / 256 = omega arith in
    rw (c.to_be_bytes.ensures, high) at c.put_hex.ensures
