-- That all cells are counted, what a page erased whole is, and that the margin keeps a terminal valid.
use mathlib.Core.Path.{◌≡◌, refl, sym}
use mathlib.Core.Bool.{true}
use mathlib.Core.List.{List, []}
use Prim.Native.Nat.{ℕ}
use native.Mathlib.Omega.{arith}
use lib.ListN.{length, replicate}
use Rattle.words.specs.Choice.{If◌then◌else◌, ◌and◌, ◌or◌}
use Rattle.words.specs.Lists.{within, each}
use Rattle.words.proofs.Elements.{run_length}
use Rattle.words.proofs.Writing.{each_last}
use Rattle.page.specs.Page.{Page, page_of, cells, erasable, erased}
use Rattle.page.proofs.Laws.{erases}
use Rattle.state.specs.declared.State.{State}
use Rattle.state.specs.Moves.{to_margin}
use Rattle.state.proofs.Keeping.{margin_keeps_valid}
use Rattle.steps.specs.Steps.{Terminal, Valid, all_cells, with_state}

-- Every cell of the page is counted.
pub all_cells_count : (page : Page) → length (all_cells page) ≡ cells page
all_cells_count page = run_length 0 (cells page)

-- A page erased whole, whatever its marks are, is a fresh one.
all_erased : (v n : ℕ) (marks list : List ℕ) → n ≡ length list → each (λ cell x. If within 0 n cell and erasable true marks cell then v else x) list ≡ replicate (length list) v
unfolding erasable ◌or◌
all_erased v n marks list e =
    each_last _ v [] list (λ k x h. absurd (omega arith)) (λ k x h l. erases true 0 n marks v k x (omega arith) (omega arith) refl)

pub erased_is_fresh : (page : Page) → length page.marks ≡ cells page → erased true 0 (cells page) page ≡ page_of (replicate (length page.characters) 0x20) (replicate (length page.marks) 0)
unfolding erased
erased_is_fresh page same =
    λ i. page_of (all_erased 0x20 _ page.marks page.characters refl i) (all_erased 0 _ page.marks page.marks (sym same) i)

-- The margin leaves a terminal valid.
pub margin_valid : {t : Terminal} {s : State} → Valid t → s ≡ to_margin t.state → Valid (with_state t s)
unfolding to_margin
margin_valid {t} valid is =
    rw is (record { size = valid.size; state = (margin_keeps_valid t.state valid.state).valid; page = valid.page })
