-- Document 02, M-106: the private forms, ESC [ > argument final. What each does stands here and nowhere else; every
-- other is a spoilt sequence.
use Rattle.std.specs.Prelude.{ℕ, true, false, eqb}
use Prim.Native.Char.{code}
use Rattle.words.specs.Choice.{If◌then◌else◌, ◌and◌}
use Rattle.state.specs.Pen.{with_full}
use Rattle.sequence.specs.declared.Reason.TheVariants.{BrokenSequence}
use Rattle.steps.specs.Steps.{Terminal, Stepped, goes_to, refusing}

-- >6 (source 001, lines 1543 and 1879 to 1885), Unprotected/Modified: set, 266 sends what changed; reset, all.
unfoldable pub private_step : ℕ → ℕ → Terminal → Stepped
private_step final argument t =
    If eqb argument 6 and eqb final (code "h") then goes_to (with_full t.state false) t  -- SM
    else If eqb argument 6 and eqb final (code "l") then goes_to (with_full t.state true) t  -- RM
    else refusing BrokenSequence final t
