-- The three demands, in their order: of rules (what a step does, by definition) and of entries (what runs).
-- `demands` (proofs/Theorems.antt) is that ours keep them. What else is promised stands in Further.antt and
-- Reasons.antt.
use Rattle.std.specs.Prelude.{◌≡◌, false, List, [], ◌∷◌, ◌++◌, ℕ, length}
use Rattle.page.specs.Page.{Page}
use Rattle.state.specs.declared.Size.{Size}
use Rattle.blocks.specs.Finding.{blocks_in}
use Rattle.steps.specs.Steps.{Terminal, full_block, Valid}
use Rattle.steps.specs.Seen.{unprotected_at}
use Rattle.steps.specs.Claims.{CellKept}
use Rattle.terminal.specs.Runs.{after}
use Rattle.terminal.specs.Calls.{unstarted}
use Rattle.terminal.specs.Lines.{start_table, host_table, key_table}
use Rattle.terminal.specs.Claims.{NumberedBy, Refused, Leaves, StopsShort, Did, Started}
use Rattle.promises.specs.Rules.{Rules, Input, step_of, steps, byte_steps, total_of}
use Rattle.promises.specs.Entries.{Entries, Call, outcomes, call_all, inputs_done, AllDone, Read, reads}
use Rattle.promises.specs.Entries.{joined_bytes, read_all}
use Rattle.promises.specs.FeedingBack.{Receives, FedBack}
use Rattle.promises.specs.Copying.{HostStoresNothing, blocks_sent, CopyHolds}

-- Demand 1. Whatever arrives (the entries ask nothing), a call ends and is given its number by the table.
pub record Numbers (rules : Rules) (entries : Entries) : Type 1 where
  pub of_start : (size : Size) (page : Page) → NumberedBy (start_table size page) (entries.start size page)
  pub of_host : (t : Terminal) (bytes lent : List ℕ) →
      NumberedBy (host_table t bytes (length lent) (byte_steps rules t bytes)) (entries.host t bytes lent)
  pub of_key : (t : Terminal) (key : ℕ) (lent : List ℕ) →
      NumberedBy (key_table t key (length lent) (rules.on_key key t)) (entries.key t key lent)

-- Page, marks, output and state after each refusal: as they were, counts 0; a refused start hands back all zeros; 3 has
-- done the commands before the one that lacks room, and nothing else.
pub record Refusals (rules : Rules) (entries : Entries) : Type 0 where
  pub of_start : (size : Size) (page : Page) → Refused (entries.start size page) →
      Leaves (unstarted page) [] (entries.start size page)
  pub of_host : (t : Terminal) (bytes lent : List ℕ) → Refused (entries.host t bytes lent) →
      ((entries.host t bytes lent).number ≡ 3 → ⊥) → Leaves t lent (entries.host t bytes lent)
  pub of_host_3 : (t : Terminal) (bytes lent : List ℕ) → (entries.host t bytes lent).number ≡ 3 →
      StopsShort t lent (byte_steps rules t bytes) (entries.host t bytes lent)
  pub of_key : (t : Terminal) (key : ℕ) (lent : List ℕ) → Refused (entries.key t key lent) →
      Leaves t lent (entries.key t key lent)

pub record Demand1 (rules : Rules) (entries : Entries) : Type 1 where
  pub numbers : Numbers rules entries
  pub refusals : Refusals rules entries

-- Demand 2. Cells, cursor, modes and bytes sent are document 01's: a call given 0 did the rules' steps and no more.
pub record Follows (rules : Rules) (entries : Entries) : Type 0 where
  pub of_start : (size : Size) (page : Page) → (entries.start size page).number ≡ 0 →
      Started size (entries.start size page)
  pub of_host : (t : Terminal) (bytes lent : List ℕ) → (entries.host t bytes lent).number ≡ 0 →
      Did (length bytes) t lent (byte_steps rules t bytes) (entries.host t bytes lent)
  pub of_key : (t : Terminal) (key : ℕ) (lent : List ℕ) → (entries.key t key lent).number ≡ 0 →
      Did 0 t lent (rules.on_key key t ∷ []) (entries.key t key lent)

-- So it is however the stream was cut into reads, if none is refused.
abbrev pub Cutting : Rules → Entries → Type 0
Cutting rules entries = (t : Terminal) (cut : List Read) → AllDone (outcomes entries t (reads cut)) →
    read_all entries t cut ≡ total_of t (byte_steps rules t (joined_bytes cut))

-- A full block, whatever asked for it, is fed to a terminal of equal size and equal protected cells.
abbrev pub FeedingBack : Rules → Entries → Type 0
FeedingBack rules entries = (sender receiver : Terminal) (asks : Input) (block : List ℕ) (cut : List Read) →
    Valid sender → (step_of rules asks sender).transmission ≡ full_block block → Receives sender receiver →
    joined_bytes cut ≡ block → FedBack rules entries sender receiver block cut

-- No key ever changes a protected cell, nor which cells are protected: in any state, with any slices and room.
pub record KeysKeep (entries : Entries) : Type 0 where
  pub protected_cells : (t : Terminal) (key : ℕ) (lent : List ℕ) (cell : ℕ) → unprotected_at t cell ≡ false →
      CellKept t.page (entries.key t key lent).terminal.page cell
  pub protection : (t : Terminal) (key : ℕ) (lent : List ℕ) (cell : ℕ) →
      unprotected_at (entries.key t key lent).terminal cell ≡ unprotected_at t cell

pub record Demand2 (rules : Rules) (entries : Entries) : Type 0 where
  pub follows : Follows rules entries
  pub cutting : Cutting rules entries
  pub feeding_back : FeedingBack rules entries
  pub keys_keep : KeysKeep entries

-- Demand 3. What the host gets is one stream of bytes: it finds in it (`finds`) the blocks that were sent, in order.
abbrev pub Finding : (List ℕ → List (List ℕ)) → Rules → Entries → Type 0
Finding finds rules entries = (t : Terminal) (calls : List Call) →
    finds (call_all entries t calls).bytes_sent ≡ blocks_sent (steps rules t (inputs_done entries t calls))

-- The calls did some inputs, then one that had a full block sent, then keys and host bytes that store in no cell. The
-- host lays each later block that it finds over its copy: right after each block the copy is the full block of the
-- page; and a changed block omits a field exactly when keys have stored in none of its cells since the block before.
abbrev pub Copying : (List ℕ → List (List ℕ)) → Rules → Entries → Type 0
Copying finds rules entries =
    (t : Terminal) (calls : List Call) (before : List Input) (asks : Input) (later : List Input) (block : List ℕ) →
    inputs_done entries t calls ≡ before ++ (asks ∷ later) →
    let step = step_of rules asks (after t (steps rules t before)) in
    step.transmission ≡ full_block block → HostStoresNothing rules step.terminal later →
    CopyHolds finds rules t (call_all entries t calls).bytes_sent before block step.terminal later

pub record Demand3 (rules : Rules) (entries : Entries) : Type 0 where
  pub finding : Finding blocks_in rules entries
  pub copying : Copying blocks_in rules entries
