-- Demand 2, feeding back: a full block, read by a receiver of equal size, fills its fields with the sender's characters
-- and changes no protected cell.
use mathlib.Core.Path.{◌≡◌, sym, ap, ◌∙◌, subst}
use mathlib.Core.Bool.{true, false, not}
use mathlib.Core.List.{List}
use Prim.Native.Nat.{ℕ, ◌*◌, ◌<◌, ◌≤◌}
use native.Mathlib.Omega.{arith}
use lib.ListN.{length, get_or, get_or-eq_default}
use Rattle.words.proofs.Choosing.{not_both, either_way, less_or_not}
use Rattle.page.specs.Marks.{is_protected, unprotected}
use Rattle.page.specs.Page.{Page, cells}
use Rattle.fields.proofs.Theorems.{all_fields_listed}
use Rattle.blocks.specs.Blocks.{block, encode}
use Rattle.blocks.proofs.Claims.{fields_on}
use Rattle.blocks.proofs.Pages.{all_sent}
use Rattle.state.specs.declared.Size.{Size}
use Rattle.steps.specs.Steps.{Terminal, bytes_of, full_block, Transmission, Valid}
use Rattle.steps.specs.Seen.{unprotected_at}
use Rattle.steps.proofs.Measuring.{measured}
use Rattle.promises.specs.Rules.{our_rules, Input, step_of}
use Rattle.promises.specs.Entries.{our_entries, Read, joined_bytes, read_all}
use Rattle.promises.specs.FeedingBack.{Receives, FedBack}
use Rattle.promises.specs.Demands.{FeedingBack}
use Rattle.promises.proofs.OurLaws.{our_step_laws}
use Rattle.promises.proofs.Keeping.{past_unprotected}
use Rattle.promises.proofs.FeedingRuns.{Leads, leads_validly, leads_sized, none_refused}
use Rattle.promises.proofs.FeedingReads.{ReadThrough, read_through}
use Rattle.promises.proofs.FeedingCells.{Filled, Kept}
use Rattle.promises.proofs.FeedingFields.{fields_feed}

-- The block leads the receiver quietly to a terminal whose unprotected cells are filled and whose protected ones are
-- kept.
record Fed (sender receiver : Terminal) (bytes : List ℕ) : Type 0 where
  end : Terminal
  leads : Leads receiver bytes end
  filled : (cell : ℕ) → cell < cells sender.page → unprotected sender.page.marks cell ≡ true → Filled sender.page end.page cell
  kept : (cell : ℕ) → unprotected sender.page.marks cell ≡ false → Kept receiver.page end.page cell

module _ (sender : Terminal) (valid : Valid sender) where
  fed : (receiver : Terminal) → Receives sender receiver → Fed sender receiver (block true sender.state.size.columns sender.page)
  unfolding block
  fed receiver receives =
      let columns = sender.state.size.columns in
      let lists = all_fields_listed (unprotected sender.page.marks) (cells sender.page) in
      let feeds =
      fields_feed sender valid (fields_on sender.page) lists.only_fields receiver
      (record { valid = receives.valid; size = receives.size; nothing_half_read = receives.nothing_half_read; unprotected_pen = receives.unprotected_pen }) in
      record {
        end = feeds.0;
        leads = subst (λ (bytes : List ℕ). Leads receiver bytes feeds.0) (sym (ap encode (all_sent columns sender.page))) feeds.1.leads;
        filled = λ cell here cell_unprotected. let one = lists.every_cell cell here cell_unprotected in feeds.1.fills cell (one.field, one.listed, one.has_cell);
        kept = λ cell protected. feeds.1.keeps cell (λ some. not_both ((lists.only_fields some.0 some.1).all_unprotected cell some.2) protected);
      }

module _ (sender receiver : Terminal) (asks : Input) (bytes : List ℕ) (cut : List Read) (valid : Valid sender) (sends : (step_of our_rules asks sender).transmission ≡ full_block bytes) (receives : Receives sender receiver) (joined : joined_bytes cut ≡ bytes) where
  reached : Fed sender receiver bytes
  reached = subst (Fed sender receiver) (sym ((our_step_laws.every_step asks sender valid).by_full_block bytes sends).of_page) (fed sender valid receiver receives)

  -- It is no longer than a read may be, whole or cut.
  through : ReadThrough receiver cut reached.end
  unfolding bytes_of
  through =
      let short = (our_step_laws.every_step asks sender valid).short in
      let few : length (joined_bytes cut) ≤ 65536 = omega (arith, ap (length {A = ℕ}) joined, ap (λ (transmission : Transmission). length (bytes_of transmission)) sends, short) in
      read_through cut (subst (λ (b : List ℕ). Leads receiver b reached.end) (sym joined) reached.leads) receives.valid few

  -- What the reads leave of a cell.
  abbrev left : Page
  left = (read_all our_entries receiver cut).terminal.page

  left_character : (cell : ℕ) → get_or left.characters cell 0 ≡ get_or reached.end.page.characters cell 0
  left_character cell = ap (λ (t : Terminal). get_or t.page.characters cell 0) through.terminal

  left_mark : (cell : ℕ) → get_or left.marks cell 0 ≡ get_or reached.end.page.marks cell 0
  left_mark cell = ap (λ (t : Terminal). get_or t.page.marks cell 0) through.terminal

  -- It has as many cells as the sender.
  end_valid : Valid reached.end
  end_valid = leads_validly reached.leads receives.valid

  as_many : cells reached.end.page ≡ cells sender.page
  as_many =
      let same_size = ap (λ (size : Size). size.rows * size.columns) (leads_sized reached.leads receives.valid ∙ receives.size) in
      omega (arith, same_size, (measured end_valid).all_cells, (measured end_valid).as_many, (measured valid).all_cells, (measured valid).as_many)

  fed_characters : (cell : ℕ) → unprotected_at sender cell ≡ true → get_or left.characters cell 0 ≡ get_or sender.page.characters cell 0
  fed_characters cell is_unprotected =
      left_character cell
      ∙ less_or_not cell (cells sender.page)
      (λ here. (reached.filled cell here is_unprotected).character)
      (λ past.
      get_or-eq_default reached.end.page.characters 0 (omega (arith, as_many))
      ∙ sym (get_or-eq_default sender.page.characters 0 past))

  -- Since the pen is unprotected, and the two were protected at the same places, they are so still.
  end_protection : (cell : ℕ) → cell < cells sender.page → unprotected reached.end.page.marks cell ≡ unprotected sender.page.marks cell
  unfolding unprotected
  end_protection cell here =
      either_way (unprotected sender.page.marks cell)
      (λ cell_unprotected. (reached.filled cell here cell_unprotected).cell_unprotected ∙ sym cell_unprotected)
      (λ protected. ap (λ (mark : ℕ). not (is_protected mark)) (reached.kept cell protected).mark ∙ receives.protection cell)

  fed_protection : (cell : ℕ) → unprotected left.marks cell ≡ unprotected sender.page.marks cell
  fed_protection cell =
      ap (λ (t : Terminal). unprotected t.page.marks cell) through.terminal
      ∙ less_or_not cell (cells sender.page)
      (λ here. end_protection cell here)
      (λ past. past_unprotected reached.end.page.marks cell (omega (arith, as_many, (measured end_valid).as_many)) ∙ sym (past_unprotected sender.page.marks cell (omega (arith, (measured valid).as_many))))

  is_fed_back : FedBack our_rules our_entries sender receiver bytes cut
  is_fed_back = record {
    answered = through.answered;
    nothing_sent = through.nothing_sent;
    nothing_refused = none_refused reached.leads;
    characters = fed_characters;
    protected_cells = λ cell protected. record {
      character = left_character cell ∙ (reached.kept cell protected).character;
      mark = left_mark cell ∙ (reached.kept cell protected).mark;
    };
    protection = fed_protection;
  }

pub our_feeding_back : FeedingBack our_rules our_entries
our_feeding_back = is_fed_back
