use borrow.Author.Rules.{rules}
use native.Mathlib.Omega.{arith}
use Prim.Native.Nat.{ℕ, ◌+◌, ◌*◌}
use Rattle.record.specs.Bytes.{number_at}
use Rattle.record.proofs.Made.{made_each}
use Rattle.record.proofs.arguments_in.Goals as goal

pub returns : goal.returns
returns c =
    made_each 0 (number_at 2 c.args.bytes.now) 2 19 (λ (k : ℕ). 19 + 2 * k) (λ k. omega arith)
    (λ x y q called. search rules)
    c.from_fn.ensures.items
