-- What a call given 0 did besides, or left undone, is caught by demand 2, Follows.
use mathlib.Core.Path.{refl, sym, ap}
use mathlib.Core.List.{List, [], ◌∷◌}
use Prim.Native.Nat.{ℕ}
use Prim.Native.Char.{code}
use borrow.Author.Tests.{eqb-false}
use lib.ListN.{get_or, replicate}
use Rattle.words.proofs.Choosing.{true_is_not_false}
use Rattle.page.specs.Page.{Page, page_of}
use Rattle.state.specs.declared.Size.{Size}
use Rattle.state.specs.declared.State.{State}
use Rattle.steps.specs.Steps.{Terminal}
use Rattle.commands.specs.Commands.{fresh_step}
use Rattle.terminal.specs.Calls.{start_step}
use Rattle.promises.specs.Rules.{our_rules}
use Rattle.promises.specs.Demands.{Follows}
use Rattle.wrong.specs.Entries.{paints_start, starts_other_size, skips_same_character, dead_keys, takes_more, writes_past}
use Rattle.wrong.specs.Entries.{hides_refusals, denies_protection}
use Rattle.wrong.proofs.WrongCopies.{clear, before}
use Rattle.promises.proofs.Computing.{host_steps, key_steps, calls, streams}

-- A page of 3,840 cells, which 24 rows of 160 columns have, and 48 rows of 80.
abbrev blank : Page
blank = page_of (replicate 3840 0x20) (replicate 3840 0)

abbrev size : ℕ → ℕ → Size
size rows columns = record { rows = rows; columns = columns }

-- A start takes no byte.
pub paints_start_breaks_follows : Follows our_rules paints_start → ⊥
unfolding calls
paints_start_breaks_follows kept = eqb-false 9 0 refl (kept.of_start (size 48 80) blank refl).taken

-- A start of 48 rows leaves a state of 48 rows.
pub starts_other_size_breaks_follows : Follows our_rules starts_other_size → ⊥
unfolding calls start_step fresh_step
starts_other_size_breaks_follows kept =
    eqb-false 24 48 refl (ap (λ (s : State). s.size.rows) (kept.of_start (size 48 80) blank refl).state)

-- B typed where B stands is one cell stored, and so is an X there.
abbrev on_b : Terminal
on_b = before "B" clear

pub skips_same_character_breaks_follows : Follows our_rules skips_same_character → ⊥
unfolding calls key_steps
skips_same_character_breaks_follows kept = eqb-false 0 1 refl (kept.of_key on_b (code "B") [] refl).stored

pub dead_keys_breaks_follows : Follows our_rules dead_keys → ⊥
unfolding calls key_steps
dead_keys_breaks_follows kept = eqb-false 0 1 refl (kept.of_key on_b (code "X") [] refl).stored

-- Of no host bytes none is taken, and an output to which nothing is sent stays as it was.
pub takes_more_breaks_follows : Follows our_rules takes_more → ⊥
unfolding calls host_steps streams
takes_more_breaks_follows kept = eqb-false 1 0 refl (kept.of_host on_b [] [] refl).bytes_taken

pub writes_past_breaks_follows : Follows our_rules writes_past → ⊥
unfolding calls host_steps streams
writes_past_breaks_follows kept =
    eqb-false 1 0 refl (ap (λ (output : List ℕ). get_or output 9 0) (kept.of_host on_b [] (replicate 10 0) refl).output)

-- A byte of 80 is one refused command, and host text may change protection.
pub hides_refusals_breaks_follows : Follows our_rules hides_refusals → ⊥
unfolding calls host_steps streams
hides_refusals_breaks_follows kept = eqb-false 0 1 refl (kept.of_host on_b (0x80 ∷ []) [] refl).refused

pub denies_protection_breaks_follows : Follows our_rules denies_protection → ⊥
unfolding calls host_steps streams
denies_protection_breaks_follows kept = true_is_not_false (sym (kept.of_host on_b (code "X" ∷ []) [] refl).protection)
