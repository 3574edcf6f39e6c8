-- The three public entries: what each gives and leaves, from all that came in.
use Rattle.std.specs.Prelude.{◌≡◌, List, [], ◌∷◌, ℕ, length}
use Rattle.page.specs.Page.{Page}
use Rattle.state.specs.declared.Size.{Size}
use Rattle.state.specs.State.{fresh_state, zero_state}
use Rattle.steps.specs.Steps.{Terminal, Stepped}
use Rattle.commands.specs.Commands.{fresh_step}
use Rattle.keys.specs.Keys.{key_step}
use Rattle.terminal.specs.Runs.{steps_of, fitting}
use Rattle.terminal.specs.declared.Reply.{Reply}
use Rattle.terminal.specs.Answers.{Outcome, given, gives}
use Rattle.terminal.specs.Tests.{first_of, start_lines, host_lines, key_lines}

-- A start call makes a fresh page, as ESC c does; it is given no state, and one that is refused hands back all zeros.
abbrev pub unstarted : Page → Terminal
unstarted page = record { state = zero_state; page = page }

unfoldable pub start_step : Size → Page → Stepped
start_step size page = fresh_step (record { state = fresh_state size; page = page })

unfoldable pub start_call : Size → Page → Outcome
start_call size page = gives (first_of (start_lines size page)) 0 (unstarted page) [] (start_step size page ∷ [])

-- A host call takes as many bytes as it does steps.
unfoldable pub host_call : Terminal → List ℕ → List ℕ → Outcome
host_call t bytes output =
    let done = fitting (length output) (steps_of t bytes) in
    gives (first_of (host_lines t bytes output)) (length done) t output done

-- A key call is one step, or none.
unfoldable pub key_call : Terminal → ℕ → List ℕ → Outcome
key_call t key output =
    gives (first_of (key_lines t key output)) 0 t output (fitting (length output) (key_step key t ∷ []))

-- What the contract of an entry allows, from all that came in: what is handed back, with the page and the output that
-- are left. (A start is lent no output: what it leaves there is [].)
abbrev pub StartAllows : Size → Page → Reply → Page → List ℕ → Type 0
StartAllows size page reply left output = given reply left output ≡ start_call size page

abbrev pub HostAllows : Terminal → List ℕ → List ℕ → Reply → Page → List ℕ → Type 0
HostAllows t bytes lent reply left output = given reply left output ≡ host_call t bytes lent

abbrev pub KeyAllows : Terminal → ℕ → List ℕ → Reply → Page → List ℕ → Type 0
KeyAllows t key lent reply left output = given reply left output ≡ key_call t key lent
