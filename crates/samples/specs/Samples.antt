-- Demands 2 and 3, said of calls that run: what a sample gives and leaves is that of its calls, and then the promise.
use Rattle.std.specs.Prelude.{◌≡◌, Bool, true, false, ℕ, ◌+◌, eqb, take, drop, Result, Ok, Err}
use mathlib.Core.List.{List, [], ◌∷◌, ◌++◌, Memᴰ}
use Prim.Native.Char.{code}
use Rattle.words.specs.Choice.{◌and◌, ◌or◌}
use Rattle.output.specs.declared.NoRoom as no_room
use Rattle.page.specs.Page.{Page}
use Rattle.steps.specs.Steps.{Terminal, Stepped}
use Rattle.steps.specs.Seen.{character_at, unprotected_at, block_here}
use Rattle.steps.specs.Claims.{CellKept}
use Rattle.terminal.specs.Answers.{Outcome, number_of, given, bytes_sent}
use Rattle.terminal.specs.Calls.{host_call, key_call}
use Rattle.promises.specs.Rules.{our_rules, byte_steps, total_of}
use Rattle.promises.specs.FeedingBack.{Receives}
use Rattle.copy.specs.Copy.{laying}
use Rattle.samples.specs.declared.Replies.{Replies}
use Rattle.samples.specs.declared.ThreeReplies.{ThreeReplies}
use Rattle.samples.specs.declared.NotKept.{NotKept}
use Rattle.samples.specs.declared.NotKept.TheVariants.{NotSent, NoRoom}
use Rattle.samples.specs.declared.Copied.{Copied}

-- Demand 2, cutting: host bytes in two reads, each with an output of its own. The page between them is the first
-- call's. If neither is refused, they leave, send and store what the rules' steps of all the bytes do.
pub record InTwoReads
    (t : Terminal) (bytes : List ℕ) (cut : ℕ) (lent lent_later : List ℕ)
    (replies : Replies) (page : Page) (output output_later : List ℕ) : Type 0 where
  pub first : given replies.first (host_call t (take cut bytes) lent).terminal.page output
      ≡ host_call t (take cut bytes) lent
  pub second : given replies.second page output_later
      ≡ host_call (host_call t (take cut bytes) lent).terminal (drop cut bytes) lent_later
  pub as_one : number_of replies.first.answer ≡ 0 → number_of replies.second.answer ≡ 0 →
      record {
        terminal = record { state = replies.second.state; page = page };
        bytes_sent = take replies.first.sent output ++ take replies.second.sent output_later;
        stored = replies.first.stored + replies.second.stored;
        refused = replies.first.refused + replies.second.refused;
        protection = replies.first.protection or replies.second.protection;
      } ≡ total_of t (byte_steps our_rules t bytes)

-- Demand 2, feeding back: what a receiver's call gave and left that was fed the sender's full block.
pub record Restored (sender receiver : Terminal) (block : List ℕ) (outcome : Outcome) : Type 0 where
  pub answered : outcome.number ≡ 0
  pub nothing_sent : outcome.sent ≡ 0
  pub nothing_refused : (step : Stepped) → Memᴰ step (byte_steps our_rules receiver block) → step.was_refused ≡ false
  pub characters : (cell : ℕ) → unprotected_at sender cell ≡ true →
      character_at outcome.terminal cell ≡ character_at sender cell
  pub protected_cells : (cell : ℕ) → unprotected_at sender cell ≡ false →
      CellKept receiver.page outcome.terminal.page cell
  pub protection : (cell : ℕ) → unprotected_at outcome.terminal cell ≡ unprotected_at sender cell

-- ESC S, which asks for the full block.
abbrev pub esc_s : List ℕ
esc_s = 0x1B ∷ code "S" ∷ []

-- ESC S at the sender, and the bytes that it sent as host bytes to the receiver.
pub record SentOn (sender receiver : Terminal) (lent lent_there : List ℕ) (sends gets : Outcome) : Type 0 where
  pub first : sends ≡ host_call sender esc_s lent
  pub second : gets ≡ host_call receiver (bytes_sent sends) lent_there
  pub fed_back : sends.number ≡ 0 → Receives sender receiver → Restored sender receiver (bytes_sent sends) gets

-- Demand 3, the copy: ESC S, any key, and 266, each on what the one before left, each with an output of its own.
abbrev pub full_call : Terminal → List ℕ → Outcome
full_call t lent_full = host_call t esc_s lent_full

abbrev pub typed_call : Terminal → ℕ → List ℕ → List ℕ → Outcome
typed_call t key lent_full lent_typed = key_call (full_call t lent_full).terminal key lent_typed

-- By the mode, 266 sends a full block or a changed one.
abbrev pub later_call : Terminal → ℕ → List ℕ → List ℕ → List ℕ → Outcome
later_call t key lent_full lent_typed lent_later =
    key_call (typed_call t key lent_full lent_typed).terminal 266 lent_later

pub record ThreeCalls
    (t : Terminal) (key : ℕ) (lent_full lent_typed lent_later : List ℕ)
    (replies : ThreeReplies) (page : Page) (full typed later : List ℕ) : Type 0 where
  pub first : given replies.full (full_call t lent_full).terminal.page full ≡ full_call t lent_full
  pub second : given replies.typed (typed_call t key lent_full lent_typed).terminal.page typed
      ≡ typed_call t key lent_full lent_typed
  pub third : given replies.later page later ≡ later_call t key lent_full lent_typed lent_later

-- All three are given 0.
unfoldable pub all_answered : ThreeReplies → Bool
all_answered replies =
    eqb (number_of replies.full.answer) 0
    and eqb (number_of replies.typed.answer) 0
    and eqb (number_of replies.later.answer) 0

-- What is laid where all were given 0; else nothing is.
pub record Left : Type 0 where
  pub copy : Result ℕ NotKept
  pub output : List ℕ

abbrev pub kept : Result ℕ no_room.NoRoom → Result ℕ NotKept
kept (Ok bytes) = Ok bytes
kept (Err refusal) = Err NoRoom

unfoldable pub copying : Bool → List ℕ → List ℕ → Left
copying true bytes lent = record { copy = kept (laying bytes lent).answer; output = (laying bytes lent).output }
copying false bytes lent = record { copy = Err NotSent; output = lent }

-- The bytes that the host laid are the full block of the page as it then stands.
pub record CopyKept
    (t : Terminal) (key : ℕ) (lent_full lent_typed lent_later lent : List ℕ)
    (copied : Copied) (page : Page) (full typed later output : List ℕ) : Type 0 where
  pub calls : ThreeCalls t key lent_full lent_typed lent_later copied.replies page full typed later
  pub is_copy : record { copy = copied.copy; output = output }
      ≡ copying (all_answered copied.replies)
      (block_here true (record { state = copied.replies.later.state; page = page })) lent
