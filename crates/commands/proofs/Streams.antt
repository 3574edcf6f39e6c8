-- Streams of host bytes for the worked examples, and what the steps of their bytes come to.
use mathlib.Core.List.{List, [], ◌∷◌, ◌++◌}
use Prim.Native.Nat.{ℕ, ◌+◌}
use Prim.Native.String.{String}
use lib.ListN.{length, replicate}
use Rattle.words.specs.Text.{bytes}
use Rattle.page.specs.Page.{Page, page_of}
use Rattle.state.specs.State.{fresh_state}
use Rattle.steps.specs.Steps.{Terminal, bytes_of}
use Rattle.commands.specs.Host.{host_step}

-- ESC and the bytes after it.
unfoldable pub esc : String → List ℕ
esc word = 0x1B ∷ bytes word

-- A terminal after a stream, with the cells stored and the bytes sent on the way.
pub record Ran : Type 0 where
  pub terminal : Terminal
  pub count : ℕ
  pub sent : List ℕ

unfoldable pub run_from : Terminal → ℕ → List ℕ → List ℕ → Ran
run_from t count sent [] = record { terminal = t; count = count; sent = sent }
run_from t count sent (byte ∷ later) =
    let step = host_step byte t in
    run_from step.terminal (count + length step.cells) (sent ++ bytes_of step.transmission) later

unfoldable pub run : Terminal → List ℕ → Ran
run t stream = run_from t 0 [] stream

-- A state as fresh, of a size, with a page.
abbrev pub terminal_with : ℕ → ℕ → Page → Terminal
terminal_with rows columns page = record { state = fresh_state (record { rows = rows; columns = columns }); page = page }

-- A fresh page of 24 by 80.
unfoldable pub fresh : Terminal
fresh = terminal_with 24 80 (page_of (replicate 1920 0x20) (replicate 1920 0))

-- All of it, unfolded.
unfoldable pub streams : Unit {0}
unfolding esc run_from run fresh
streams = tt
