use mathlib.Core.Bool.{false}
use borrow.Author.Rules.{rules}
use native.Mathlib.Omega.{arith}
use Prim.Native.Nat.{ℕ, ◌+◌}
use Rattle.record.specs.Bytes.{flag_at}
use Rattle.record.proofs.Made.{made_each}
use Rattle.record.proofs.stops_in.Goals as goal

pub returns : goal.returns
returns c =
    made_each false (flag_at c.args.bytes.now) 1 35 (λ (k : ℕ). 35 + k) (λ k. omega arith)
    (λ x y q called. search rules)
    c.from_fn.ensures.items
