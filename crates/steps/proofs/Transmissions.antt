-- Transmissions of different kinds differ, and equal transmissions have equal bytes.
use mathlib.Core.Path.{◌≡◌, refl, sym}
use mathlib.Core.Bool.{Bool, true, false}
use mathlib.Core.List.{List}
use Prim.Native.Nat.{ℕ}
use native.Mathlib.Omega.{arith}
use Rattle.steps.specs.Steps.{silent, report, full_block, changed_block, block_transmission}

pub silent_is_no_full : (bytes : List ℕ) → silent ≡ full_block bytes → ⊥
silent_is_no_full bytes e = let z : ◌≡◌ {A = ℕ} 0 1 = cc in omega arith

pub silent_is_no_changed : (bytes : List ℕ) → silent ≡ changed_block bytes → ⊥
silent_is_no_changed bytes e = let z : ◌≡◌ {A = ℕ} 0 1 = cc in omega arith

pub silent_is_no_report : (bytes : List ℕ) → silent ≡ report bytes → ⊥
silent_is_no_report bytes e = let z : ◌≡◌ {A = ℕ} 0 1 = cc in omega arith

pub report_is_no_full : (said bytes : List ℕ) → report said ≡ full_block bytes → ⊥
report_is_no_full said bytes e = let z : ◌≡◌ {A = ℕ} 0 1 = cc in omega arith

pub report_is_no_changed : (said bytes : List ℕ) → report said ≡ changed_block bytes → ⊥
report_is_no_changed said bytes e = let z : ◌≡◌ {A = ℕ} 0 1 = cc in omega arith

pub full_is_no_changed : (said bytes : List ℕ) → full_block said ≡ changed_block bytes → ⊥
full_is_no_changed said bytes e = let z : ◌≡◌ {A = ℕ} 0 1 = cc in omega arith

pub same_report : (said bytes : List ℕ) → report said ≡ report bytes → bytes ≡ said
same_report said bytes e = cc

pub same_full : (said bytes : List ℕ) → full_block said ≡ full_block bytes → bytes ≡ said
same_full said bytes e = cc

-- Of a block that is sent, full or changed, its transmission tells which and with what bytes.
module _ (said bytes : List ℕ) where
  pub told_full : (full : Bool) → block_transmission full said ≡ full_block bytes → (full ≡ true) × (bytes ≡ said)
  unfolding block_transmission
  told_full true e = (refl, same_full said bytes e)
  told_full false e = absurd (full_is_no_changed bytes said (sym e))

  pub told_changed : (full : Bool) → block_transmission full said ≡ changed_block bytes → (full ≡ false) × (bytes ≡ said)
  unfolding block_transmission
  told_changed true e = absurd (full_is_no_changed said bytes e)
  told_changed false e = (refl, cc)

  -- It is no report.
  pub block_is_no_report : (full : Bool) → block_transmission full said ≡ report bytes → ⊥
  unfolding block_transmission
  block_is_no_report true e = report_is_no_full bytes said (sym e)
  block_is_no_report false e = report_is_no_changed bytes said (sym e)
