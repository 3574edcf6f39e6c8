-- Document 02, M-102, M-106 and M-107: why a host byte is refused. Each line is a proposition about the terminal before
-- the byte, in the request's words, with a clause for each command. Lines may hold together: the first in the order 4,
-- 3, 1, 2 decides.
use Rattle.std.specs.Prelude.{◌≡◌, true, false, List, [], ◌∷◌, ◌↔◌, ℕ, ◌<◌, ◌≤◌, length, take, get_or}
use Prim.Native.Char.{code}
use Rattle.words.specs.Text.{bytes}
use Rattle.sequence.specs.declared.HalfRead.{HalfRead}
use Rattle.sequence.specs.Range.{argument_of}
use Rattle.page.specs.Marks.{is_protected}
use Rattle.steps.specs.Steps.{Terminal, Stepped, Valid}
use Rattle.steps.specs.Claims.{Refusal}
use Rattle.table.specs.Table.{allowed}
use Rattle.terminal.specs.Lines.{TableLine, ◌when◌, Decides}
use Rattle.promises.specs.Rules.{Rules}

-- The number is none of these.
unfoldable pub NoneOf : List ℕ → ℕ → Type 0
NoneOf [] n = Unit {0}
NoneOf (one ∷ others) n = (n ≡ one → ⊥) × NoneOf others n

-- Something is half read.
abbrev pub Inside : HalfRead → Type 0
Inside half = half.kind ≡ 0 → ⊥

-- The byte is the final one of a sequence of ESC [ without >: kinds 3 and 4.
pub record Final (half : HalfRead) (byte : ℕ) : Type 0 where
  pub when_after_bracket : 3 ≤ half.kind
  pub without_mark : half.kind ≤ 4
  pub least : 0x40 ≤ byte
  pub most : byte ≤ 0x7E

-- The arguments of the sequence.
abbrev pub arguments_read : HalfRead → List ℕ
arguments_read half = take half.count half.arguments

-- 4: a byte of 80 hex or above, in a sequence or not.
abbrev pub HighByteCame : ℕ → Type 0
HighByteCame byte = 0x80 ≤ byte

-- M-106: the private forms, by their argument and final byte.
pub data PrivateForm : ℕ → ℕ → Type 0 where
  set_6 : PrivateForm 6 (code "h")
  reset_6 : PrivateForm 6 (code "l")

-- 3: a sequence spoilt, at its final byte, or one with > that is no private form; or broken off by a control byte. 18,
-- 1A and 1B drop it and are not refused.
pub data SpoiltOrBrokenOff (half : HalfRead) (byte : ℕ) : Type 0 where
  spoilt : Final half byte → half.spoilt ≡ true → SpoiltOrBrokenOff half byte
  no_such_form : half.kind ≡ 5 → 0x40 ≤ byte → byte ≤ 0x7E → (PrivateForm (argument_of half 0) byte → ⊥)
      → SpoiltOrBrokenOff half byte
  control_byte : Inside half → byte < 0x20 → NoneOf (0x18 ∷ 0x1A ∷ 0x1B ∷ []) byte → SpoiltOrBrokenOff half byte
  delete : Inside half → byte ≡ 0x7F → SpoiltOrBrokenOff half byte

-- 1: an unknown command: whatever ends ESC and an intermediate; a byte after ESC that isn't listed ([ begins a
-- sequence); a final byte that the table lacks.
pub data Unlisted (half : HalfRead) (byte : ℕ) : Type 0 where
  when_after_intermediate : half.kind ≡ 2 → 0x30 ≤ byte → byte ≤ 0x7E → Unlisted half byte
  when_after_esc : half.kind ≡ 1 → 0x30 ≤ byte → byte ≤ 0x7E → NoneOf (bytes "[DEMHVWSc`b") byte → Unlisted half byte
  when_after_bracket : Final half byte → (allowed byte).most ≡ 0 → Unlisted half byte

-- 2: too many arguments for the command, or one not allowed, by final byte. A to G, I and Z take every value (G past C
-- is ignored); a row or column that is omitted, or 0, is on the page. m, h and l take as many as there can be.
pub data NotAllowed (t : Terminal) : ℕ → Type 0 where
  too_many : (final : ℕ) → 1 ≤ (allowed final).most → (allowed final).most < t.state.half.count → NotAllowed t final
  d_off_page : t.state.size.rows < argument_of t.state.half 0 → NotAllowed t (code "d")
  H_row_off_page : t.state.size.rows < argument_of t.state.half 0 → NotAllowed t (code "H")
  H_column_off_page : t.state.size.columns < argument_of t.state.half 1 → NotAllowed t (code "H")
  f_row_off_page : t.state.size.rows < argument_of t.state.half 0 → NotAllowed t (code "f")
  f_column_off_page : t.state.size.columns < argument_of t.state.half 1 → NotAllowed t (code "f")
  W_value : NoneOf (0 ∷ 2 ∷ 5 ∷ []) (argument_of t.state.half 0) → NotAllowed t (code "W")
  J_value : NoneOf (0 ∷ 1 ∷ 2 ∷ []) (argument_of t.state.half 0) → NotAllowed t (code "J")
  K_value : NoneOf (0 ∷ 1 ∷ 2 ∷ []) (argument_of t.state.half 0) → NotAllowed t (code "K")
  m_value : (i : ℕ) → i < length (arguments_read t.state.half)
      → NoneOf (0 ∷ 1 ∷ 4 ∷ 5 ∷ 7 ∷ 8 ∷ []) (get_or (arguments_read t.state.half) i 0) → NotAllowed t (code "m")
  h_value : (i : ℕ) → i < length (arguments_read t.state.half)
      → (get_or (arguments_read t.state.half) i 0 ≡ 6 → ⊥) → NotAllowed t (code "h")
  l_value : (i : ℕ) → i < length (arguments_read t.state.half)
      → (get_or (arguments_read t.state.half) i 0 ≡ 6 → ⊥) → NotAllowed t (code "l")
  o_value : NoneOf (0 ∷ 1 ∷ 3 ∷ 4 ∷ 20 ∷ []) (argument_of t.state.half 0) → NotAllowed t (code "o")
  o_20_protected : argument_of t.state.half 0 ≡ 20 → is_protected t.state.modes.pen ≡ true
      → NotAllowed t (code "o")
  n_value : NoneOf (5 ∷ 6 ∷ []) (argument_of t.state.half 0) → NotAllowed t (code "n")

-- The four, in order.
abbrev pub reason_table : ℕ → Terminal → List TableLine
reason_table byte t =
    4 when HighByteCame byte
    ∷ 3 when SpoiltOrBrokenOff t.state.half byte
    ∷ 1 when Unlisted t.state.half byte
    ∷ 2 when (Final t.state.half byte × NotAllowed t byte)
    ∷ []

-- What the state tells after a step: a message, and the byte beside it.
pub record Shows (message byte : ℕ) (step : Stepped) : Type 0 where
  pub message_shown : step.terminal.state.locks.message ≡ message
  pub byte_shown : step.terminal.state.locks.byte ≡ byte

-- A command was refused, with a message and at a byte; the soft lock is set, and all else but the half-read record is
-- as it was (`Refusal`).
pub record RefusedWith (message byte : ℕ) (t : Terminal) (step : Stepped) : Type 0 where
  pub was_refused : step.was_refused ≡ true
  pub shows : Shows message byte step
  pub refusal : Refusal byte t step

-- A host byte is refused with a message, and itself kept, exactly when that line decides; and not where none holds.
pub record Reasons (rules : Rules) : Type 1 where
  pub refused : (t : Terminal) → Valid t → (byte message : ℕ) → (message ≡ 0 → ⊥)
      → RefusedWith message byte t (rules.on_byte byte t) ↔ Decides (reason_table byte t) message
  pub not_refused : (t : Terminal) → Valid t → (byte : ℕ)
      → ((rules.on_byte byte t).was_refused ≡ false) ↔ Decides (reason_table byte t) 0

-- What clears message and byte: ESC b, ESC c and key 268. No other host byte that is not refused changes them, nor any
-- other key.
pub data Clears (half : HalfRead) : ℕ → Type 0 where
  esc_b : half.kind ≡ 1 → Clears half (code "b")
  esc_c : half.kind ≡ 1 → Clears half (code "c")

pub record MessageStays (rules : Rules) : Type 0 where
  pub cleared_by_host : (t : Terminal) → Valid t → (byte : ℕ) → Clears t.state.half byte
      → Shows 0 0 (rules.on_byte byte t)
  pub left_by_host : (t : Terminal) → Valid t → (byte : ℕ) → (Clears t.state.half byte → ⊥)
      → (rules.on_byte byte t).was_refused ≡ false
      → Shows t.state.locks.message t.state.locks.byte (rules.on_byte byte t)
  pub cleared_by_268 : (t : Terminal) → Shows 0 0 (rules.on_key 268 t)
  pub left_by_keys : (t : Terminal) (key : ℕ) → (key ≡ 268 → ⊥)
      → Shows t.state.locks.message t.state.locks.byte (rules.on_key key t)
