-- The entries of a terminal, which are what runs: start, host bytes and a key, the last two with the output lent.
use Rattle.std.specs.Prelude.{◌≡◌, false, List, [], ◌∷◌, ◌++◌, map, ℕ, ◌+◌, eqb, take, drop}
use Rattle.words.specs.Choice.{If◌then◌else◌, ◌or◌}
use Rattle.page.specs.Page.{Page}
use Rattle.state.specs.declared.Size.{Size}
use Rattle.steps.specs.Steps.{Terminal}
use Rattle.terminal.specs.Answers.{Outcome, bytes_sent}
use Rattle.terminal.specs.Calls.{start_call, host_call, key_call}
use Rattle.promises.specs.Rules.{Input, byte, press, Total}

pub record Entries : Type 0 where
  pub start : Size → Page → Outcome
  pub host : Terminal → List ℕ → List ℕ → Outcome
  pub key : Terminal → ℕ → List ℕ → Outcome

-- Ours: what the contracts of `start`, `host` and `key` name (StartAllows, HostAllows, KeyAllows).
abbrev pub our_entries : Entries
our_entries = record { start = start_call; host = host_call; key = key_call }

-- A call: host bytes or a key, with an output of its own.
pub data Call : Type 0 where
  read : List ℕ → List ℕ → Call
  key_press : ℕ → List ℕ → Call

unfoldable pub outcome_of : Entries → Call → Terminal → Outcome
outcome_of entries (read bytes output) t = entries.host t bytes output
outcome_of entries (key_press key output) t = entries.key t key output

-- Calls one after another, each on what was left.
unfoldable pub outcomes : Entries → Terminal → List Call → List Outcome
outcomes entries t [] = []
outcomes entries t (call ∷ later) =
    let outcome = outcome_of entries call t in
    outcome ∷ outcomes entries outcome.terminal later

-- What calls leave together.
unfoldable pub total : Terminal → List Outcome → Total
total t [] = record { terminal = t; bytes_sent = []; stored = 0; refused = 0; protection = false }
total t (outcome ∷ later) =
    let rest = total outcome.terminal later in
    record {
      terminal = rest.terminal;
      bytes_sent = bytes_sent outcome ++ rest.bytes_sent;
      stored = outcome.stored + rest.stored;
      refused = outcome.refused + rest.refused;
      protection = outcome.protection or rest.protection;
    }

abbrev pub call_all : Entries → Terminal → List Call → Total
call_all entries t calls = total t (outcomes entries t calls)

-- The inputs that a call did: the bytes taken, also of a host call given 3; the key of a call given 0. Any other call
-- did none.
unfoldable pub inputs_of : Call → Outcome → List Input
inputs_of (read bytes output) outcome = map byte (take outcome.taken bytes)
inputs_of (key_press key output) outcome =
    If eqb outcome.number 0 then press key ∷ []
    else []

unfoldable pub inputs_done : Entries → Terminal → List Call → List Input
inputs_done entries t [] = []
inputs_done entries t (call ∷ later) =
    let outcome = outcome_of entries call t in
    inputs_of call outcome ++ inputs_done entries outcome.terminal later

-- Every call is given 0.
pub data AllDone : List Outcome → Type 0 where
  no_more : AllDone []
  done : (outcome : Outcome) (later : List Outcome) → outcome.number ≡ 0 → AllDone later → AllDone (outcome ∷ later)

-- Reads: the host calls into which a stream is cut. The bytes of all of them, joined; what they leave together.
pub record Read : Type 0 where
  pub bytes : List ℕ
  pub output : List ℕ

abbrev pub reads : List Read → List Call
reads list = map (λ (r : Read). read r.bytes r.output) list

unfoldable pub joined_bytes : List Read → List ℕ
joined_bytes [] = []
joined_bytes (r ∷ later) = r.bytes ++ joined_bytes later

abbrev pub read_all : Entries → Terminal → List Read → Total
read_all entries t list = call_all entries t (reads list)

-- One read; and reads that carry a stream: one given 0 took its bytes; after one given 3 the others carry on with the
-- bytes that it didn't take.
abbrev pub read_one : Entries → Terminal → Read → Outcome
read_one entries t r = entries.host t r.bytes r.output

pub data Carries (entries : Entries) : Terminal → List ℕ → List Read → Type 0 where
  ended : {t : Terminal} → Carries entries t [] []
  taken : {t : Terminal} (r : Read) {later : List ℕ} {further : List Read} → (read_one entries t r).number ≡ 0
      → Carries entries (read_one entries t r).terminal later further
      → Carries entries t (r.bytes ++ later) (r ∷ further)
  stopped : {t : Terminal} (r : Read) (later : List ℕ) {further : List Read} → (read_one entries t r).number ≡ 3
      → Carries entries (read_one entries t r).terminal (drop (read_one entries t r).taken r.bytes ++ later) further
      → Carries entries t (r.bytes ++ later) (r ∷ further)
