-- What else is promised, beside the three demands: of contracts, of entries with the rules that they follow, and of
-- rules alone. Why a byte is refused has a page of its own (Reasons.antt). The theorems are in proofs/Theorems.antt;
-- that none is empty, the wrong terminals show (crates/wrong).
use Rattle.std.specs.Prelude.{◌≡◌, Bool, true, false, ◌↔◌, ℕ, ◌+◌, ◌*◌, ◌<◌, ◌≤◌, length, get_or}
use mathlib.Core.List.{List, [], ◌∷◌, map, Memᴰ}
use Prim.Native.Char.{code}
use Rattle.sequence.specs.declared.HalfRead.{HalfRead}
use Rattle.sequence.specs.Range.{argument_of}
use Rattle.page.specs.Marks.{is_protected, is_numeric, is_alphabetic, is_required}
use Rattle.page.specs.Page.{Page, mark_after_block}
use Rattle.fields.specs.Fields.{Field}
use Rattle.state.specs.declared.Size.{Size}
use Rattle.state.specs.Lines.{Line1, Line2}
use Rattle.steps.specs.Steps.{Terminal, full_block, block_transmission, Valid}
use Rattle.steps.specs.Seen.{seen, character_at, unprotected_at, modified_at, takes_at, fields_here, block_here}
use Rattle.steps.specs.Claims.{CellKept}
use Rattle.sending.specs.Sending.{sends_full}
use Rattle.terminal.specs.declared.Reply.{Reply}
use Rattle.terminal.specs.Claims.{SameResult}
use Rattle.terminal.specs.Lines.{Line4, Line5, Line7, Line8, HasRequired, LeftBlank}
use Rattle.promises.specs.Rules.{Rules, Input, byte, press, step_of, steps, byte_steps, total_of}
use Rattle.promises.specs.Entries.{Entries, Call, outcomes, call_all, inputs_done, AllDone, Read, reads}
use Rattle.promises.specs.Entries.{joined_bytes, read_all, Carries}
use Rattle.promises.specs.CallContracts.{Results, Contracts}
use Rattle.promises.specs.Copying.{HostStoresNothing, blocks_sent, standings, copies, OmissionHolds}
use Rattle.promises.specs.Demands.{Demand1, Follows}

-- One result: whatever comes in, any two results that the contract of an entry allows are the same.
abbrev pub AllSame : Results → Type 0
AllSame allowed =
    (one other : Reply) (page other_page : Page) (output other_output : List ℕ) →
    allowed one page output → allowed other other_page other_output →
    SameResult one other page other_page output other_output

pub record OneResult (contracts : Contracts) : Type 0 where
  pub of_start : (size : Size) (page : Page) → AllSame (contracts.start size page)
  pub of_host : (t : Terminal) (bytes lent : List ℕ) → AllSame (contracts.host t bytes lent)
  pub of_key : (t : Terminal) (key : ℕ) (lent : List ℕ) → AllSame (contracts.key t key lent)

-- One terminal: entries that keep demand 1 and follow the rules are the same on every input, whoever wrote them.
pub record SameEntries (one other : Entries) : Type 0 where
  pub of_start : (size : Size) (page : Page) → one.start size page ≡ other.start size page
  pub of_host : (t : Terminal) (bytes lent : List ℕ) → one.host t bytes lent ≡ other.host t bytes lent
  pub of_key : (t : Terminal) (key : ℕ) (lent : List ℕ) → one.key t key lent ≡ other.key t key lent

abbrev pub OneTerminal : Rules → Type 1
OneTerminal rules =
    (one other : Entries) → Demand1 rules one → Follows rules one → Demand1 rules other → Follows rules other →
    SameEntries one other

-- Valid is what lines 1 and 2 of the table let pass.
abbrev pub ValidByTheTable : Type 0
ValidByTheTable =
    (t : Terminal) → Valid t ↔ ((Line1 t.state.size t.page → ⊥) × (Line2 t.state t.page → ⊥))

-- Validity: a start given 0 leaves a valid terminal, and calls leave a valid one valid, so that they never meet 1 or 2.
pub record StaysValid (entries : Entries) : Type 0 where
  pub from_start : (size : Size) (page : Page) → (entries.start size page).number ≡ 0 →
      Valid (entries.start size page).terminal
  pub through_calls : (t : Terminal) → Valid t → (calls : List Call) → Valid (call_all entries t calls).terminal

-- A start given 0 leaves a page that is one field, of R x C cells.
abbrev pub StartsWithOneField : Entries → Type 0
StartsWithOneField entries =
    (size : Size) (page : Page) → (entries.start size page).number ≡ 0 →
    fields_here (entries.start size page).terminal ≡ record { start = 0; length = size.rows * size.columns } ∷ []

-- Two ways to cut a stream into reads, none of them refused, leave, send, store and refuse the same.
abbrev pub SameHoweverCut : Entries → Type 0
SameHoweverCut entries =
    (t : Terminal) (one other : List Read) → joined_bytes one ≡ joined_bytes other →
    AllDone (outcomes entries t (reads one)) → AllDone (outcomes entries t (reads other)) →
    read_all entries t one ≡ read_all entries t other

-- Calls given 3: reads that carry a stream, stopped for room wherever and however often, did the steps of the whole
-- stream.
abbrev pub Continuing : Rules → Entries → Type 0
Continuing rules entries =
    (t : Terminal) (stream : List ℕ) (list : List Read) → Carries entries t stream list →
    read_all entries t list ≡ total_of t (byte_steps rules t stream)

-- With room for 35,138 bytes or more, a host call given 3 has sent something: calling again with the rest comes to an
-- end.
abbrev pub Progress : Entries → Type 0
Progress entries =
    (t : Terminal) (bytes lent : List ℕ) → 35138 ≤ length lent → (entries.host t bytes lent).number ≡ 3 →
    0 < (entries.host t bytes lent).sent

-- Calls are the steps of what they did: their bytes are those transmissions joined, their counts the cells that those
-- steps name and the commands that they refuse.
abbrev pub CallsAreSteps : Rules → Entries → Type 0
CallsAreSteps rules entries =
    (t : Terminal) (calls : List Call) →
    call_all entries t calls ≡ total_of t (steps rules t (inputs_done entries t calls))

-- What a block leaves: every character; every mark, but that unprotected cells lose modified, so that none has it;
-- protected cells keep theirs, modified too.
pub record LeftByBlock (before after : Terminal) : Type 0 where
  pub characters : (cell : ℕ) → character_at after cell ≡ character_at before cell
  pub marks : (cell : ℕ) → get_or (seen after).marks cell 0 ≡ mark_after_block (get_or (seen before).marks cell 0)
  pub none_modified : (cell : ℕ) → unprotected_at after cell ≡ true → modified_at after cell ≡ false
  pub protected_cells : (cell : ℕ) → unprotected_at before cell ≡ false → CellKept before.page after.page cell

abbrev pub BlocksKeep : Rules → Type 0
BlocksKeep rules =
    (t : Terminal) → Valid t → (asks : Input) (full : Bool) (bytes : List ℕ) →
    (step_of rules asks t).transmission ≡ block_transmission full bytes → LeftByBlock t (step_of rules asks t).terminal

-- What asks for a block: 266, full or changed by its mode, where no required field is blank (M-107), and S after ESC,
-- full, be that as it may. A step sends one exactly when it is asked for, and it is that of the page as it stands.
pub data Asks (t : Terminal) : Bool → Input → Type 0 where
  by_266 : (full : Bool) → sends_full t.state ≡ full → ((field : Field) → LeftBlank t field → ⊥)
      → Asks t full (press 266)
  full_by_esc_s : t.state.half.kind ≡ 1 → Asks t true (byte (code "S"))

abbrev pub SendsBlocks : Rules → Type 0
SendsBlocks rules =
    (t : Terminal) → Valid t → (input : Input) (full : Bool) (bytes : List ℕ) →
    ((step_of rules input t).transmission ≡ block_transmission full bytes)
    ↔ (Asks t full input × (bytes ≡ block_here full t))

-- M-107. A field holds a character other than 20, in whichever of its cells.
pub record Filled (t : Terminal) (field : Field) : Type 0 where
  pub cell : ℕ
  pub from_start : field.start ≤ cell
  pub before_end : cell < field.start + field.length
  pub not_20 : character_at t cell ≡ 0x20 → ⊥

-- No line of the table before 9 holds of 266.
pub record PastOtherLines (t : Terminal) : Type 0 where
  pub not_1 : Line1 t.state.size t.page → ⊥
  pub not_2 : Line2 t.state t.page → ⊥
  pub not_4 : Line4 266 → ⊥
  pub not_5 : Line5 266 t.state → ⊥
  pub not_7 : Line7 266 t → ⊥
  pub not_8 : Line8 266 t → ⊥

-- Whenever a key sends a block, every field of the page that has a required cell is filled, be it in the block or not;
-- and 266 is given 9 exactly when one isn't and no line before 9 holds, whatever the room.
pub record Required (rules : Rules) (entries : Entries) : Type 0 where
  pub filled : (t : Terminal) (key : ℕ) (full : Bool) (bytes : List ℕ) →
      (rules.on_key key t).transmission ≡ block_transmission full bytes →
      (field : Field) → Memᴰ field (fields_here t) → HasRequired t field → Filled t field
  pub held_back : (t : Terminal) (lent : List ℕ) →
      ((entries.key t 266 lent).number ≡ 9)
      ↔ (PastOtherLines t
      × ((field : Field) × Memᴰ field (fields_here t) × HasRequired t field × (Filled t field → ⊥)))

-- M-106. Which host bytes say what 266 sends from there on: >6 set (h), what changed; >6 reset (l), all; ESC c, what
-- changed, and so does a start. No other host byte changes it, nor any key.
pub data Chooses (half : HalfRead) : Bool → ℕ → Type 0 where
  set_by_h : half.kind ≡ 5 → argument_of half 0 ≡ 6 → Chooses half false (code "h")
  reset_by_l : half.kind ≡ 5 → argument_of half 0 ≡ 6 → Chooses half true (code "l")
  fresh_by_esc_c : half.kind ≡ 1 → Chooses half false (code "c")

pub record SendModeStays (rules : Rules) (entries : Entries) : Type 0 where
  pub chosen_by_host : (t : Terminal) → Valid t → (full : Bool) (byte : ℕ) → Chooses t.state.half full byte →
      sends_full (rules.on_byte byte t).terminal.state ≡ full
  pub left_by_host : (t : Terminal) → Valid t → (byte : ℕ) →
      ((full : Bool) → Chooses t.state.half full byte → ⊥) →
      sends_full (rules.on_byte byte t).terminal.state ≡ sends_full t.state
  pub left_by_keys : (t : Terminal) (key : ℕ) →
      sends_full (rules.on_key key t).terminal.state ≡ sends_full t.state
  pub fresh_by_start : (size : Size) (page : Page) → (entries.start size page).number ≡ 0 →
      sends_full (entries.start size page).terminal.state ≡ false

-- M-103. After any key each cell that it stored holds a character that the cell takes (20 is taken everywhere), and
-- every cell keeps its bits 0, 7 and 8, and 9 (M-107).
pub record SameKind (before after : ℕ) : Type 0 where
  pub protected : is_protected after ≡ is_protected before
  pub numeric : is_numeric after ≡ is_numeric before
  pub alphabetic : is_alphabetic after ≡ is_alphabetic before
  pub required : is_required after ≡ is_required before

pub record KeysTake (rules : Rules) : Type 0 where
  pub taken : (t : Terminal) → Valid t → (key cell : ℕ) → Memᴰ cell (rules.on_key key t).cells →
      takes_at t cell (character_at (rules.on_key key t).terminal cell) ≡ true
  pub kinds : (t : Terminal) (key cell : ℕ) →
      SameKind (get_or t.page.marks cell 0) (get_or (rules.on_key key t).terminal.page.marks cell 0)

-- No block that is sent exceeds 35,138 bytes.
abbrev pub Bounded : Rules → Type 0
Bounded rules =
    (t : Terminal) → Valid t → (input : Input) (full : Bool) (bytes : List ℕ) →
    (step_of rules input t).transmission ≡ block_transmission full bytes → length bytes ≤ 35138

-- Demand 3 over steps: after a full block, whatever asked for it, keys and host bytes that store in no cell.
abbrev pub CopyingSteps : Rules → Type 0
CopyingSteps rules =
    (t : Terminal) → Valid t → (asks : Input) (block : List ℕ) →
    (step_of rules asks t).transmission ≡ full_block block →
    let there = (step_of rules asks t).terminal in
    (later : List Input) → HostStoresNothing rules there later →
    let run = steps rules there later in
    block ∷ copies block (blocks_sent run) ≡ map (block_here true) (there ∷ standings run)

abbrev pub OmissionSteps : Rules → Type 0
OmissionSteps rules =
    (t : Terminal) → Valid t → (asks : Input) (block : List ℕ) →
    (step_of rules asks t).transmission ≡ full_block block →
    let there = (step_of rules asks t).terminal in
    (later : List Input) → HostStoresNothing rules there later → OmissionHolds there [] (steps rules there later)
