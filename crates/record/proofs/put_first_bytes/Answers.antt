use mathlib.Core.Path.{◌≡◌}
use mathlib.Core.List.{[], ◌∷◌, append_assoc, flat_map}
use Prim.Native.Nat.{ℕ, ◌≤◌, ◌%◌, ◌/◌}
use native.Mathlib.Omega.{arith}
use lib.ListN.{length}
use Rattle.words.proofs.Output.{wrote_then}
use Rattle.record.specs.Bytes.{number_bytes}
use Rattle.record.specs.Record.{first_bytes}
use Rattle.record.proofs.RoundTrip.{flag_is}
use Rattle.record.proofs.put_first_bytes.Goals as goal

-- Two bytes are the same, whatever of the number is past them.
cut : (number : ℕ) → number_bytes 2 (number % 65536) ≡ number_bytes 2 number
unfolding number_bytes
cut number =
    let low : number % 65536 % 256 ≡ number % 256 = omega arith in
    let high : number % 65536 / 256 % 256 ≡ number / 256 % 256 = omega arith in
    λ i. low i ∷ high i ∷ []

pub put_all-requires : goal.put_all-requires
unfolding number_bytes flat_map
put_all-requires c = omega (arith, c.put_numbers-next.ensures.next_is)

pub returns : goal.returns
unfolding first_bytes flat_map
returns c =
    let s = c.args.state in
    let room : c.args.at ≤ length c.args.bytes.now = omega arith in
    let flags = simp flag_is at (rw (c.from.ensures, c.from-2.ensures, c.from-3.ensures, c.from-4.ensures, c.from-5.ensures) at c.put_all.ensures) in
    let numbers = rw (c.two_bytes.ensures, c.two_bytes-2.ensures, c.two_bytes-3.ensures, c.two_bytes-4.ensures, cut s.size.rows, cut s.size.columns, cut s.cursor.row, cut s.cursor.column) at c.put_numbers-next.ensures in
    simp append_assoc (simp append_assoc at (wrote_then room numbers flags))
