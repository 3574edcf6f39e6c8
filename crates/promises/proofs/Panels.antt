-- The functions that C calls keep what is promised of them: by the cases of a call, by demand 1, and by what a record
-- is.
use mathlib.Core.Path.{◌≡◌, refl, sym, ap, ◌∙◌, subst}
use mathlib.Core.Bool.{true}
use mathlib.Core.List.{List, [], ◌∷◌, ◌++◌}
use mathlib.Core.Logic.{◌↔◌, inl, inr, ⊎_elim}
use Prim.Native.Nat.{ℕ, ◌*◌}
use native.Mathlib.Omega.{arith}
use borrow.Author.Tests.{eqb-true, eqb-false}
use lib.Dec.{eqb}
use lib.ListN.{length, replicate, length-replicate}
use Rattle.words.specs.Output.{placed}
use Rattle.words.proofs.Choosing.{either_way, not_both}
use Rattle.page.specs.Page.{page_of}
use Rattle.state.specs.declared.Size.{Size}
use Rattle.state.specs.State.{Arrays}
use Rattle.state.specs.Tests.{size_fits}
use Rattle.state.specs.Lines.{Line1}
use Rattle.state.proofs.Lines.{line_1}
use Rattle.steps.specs.Steps.{Terminal, Valid}
use Rattle.steps.proofs.Soundness.{sized}
use Rattle.terminal.specs.Answers.{Outcome}
use Rattle.terminal.specs.Calls.{unstarted, start_call, host_call, key_call}
use Rattle.terminal.specs.Lines.{TableLine, ◌when◌, Decides, this_holds, not_this}
use Rattle.terminal.specs.Claims.{Leaves, CountsFit}
use Rattle.terminal.proofs.Matching.{decides_one}
use Rattle.terminal.proofs.Counts.{start_counts_fit, host_counts_fit, key_counts_fit}
use Rattle.record.specs.Bytes.{number_bytes, AreBytes}
use Rattle.record.specs.Record.{record_of, state_in}
use Rattle.record.proofs.Lengths.{record_length_lem}
use Rattle.record.proofs.RoundTrip.{many, number_back}
use Rattle.record.proofs.Theorems.{reads_back, good_by_test, one_record, zeros}
use Rattle.panel.specs.Panel.{Lent, Left, lent_of, result_bytes, marks_in, mark_bytes, page_in, terminal_in, left_by, on_terminal, panel_start, panel_host, panel_key}
use Rattle.panel.proofs.Marks.{marks_unchanged}
use Rattle.panel.proofs.Cases.{RightLengths, CallCase, StartCase, call_case, start_case}
use Rattle.panel.proofs.Cases as Cases
use Rattle.promises.specs.Rules.{our_rules}
use Rattle.promises.specs.Entries.{our_entries, read, key_press, outcome_of}
use Rattle.promises.specs.Demands.{Demand1}
use Rattle.promises.specs.Further.{StaysValid}
use Rattle.promises.specs.Panel.{our_panel, our_coding, OneRecord, ResultOtherLength, RecordOtherLength, PanelLine1, BadContent, panel_start_table, PanelNumbers, OtherLength, ToldAlone, ToldZeros, RefusedLater, PanelRefusals, Shown, lent_for, AsCalled}
use Rattle.promises.proofs.Laws.{Keeps}
use Rattle.promises.proofs.Staying.{KeepsSize, start_fits, call_stays_valid}
use Rattle.promises.proofs.PanelPages.{page_fits, marks_twice, panel_line_1, page_back, page_left, same_page_left}

-- The record.
pub our_one_record : OneRecord our_coding
our_one_record = record {
  fixed_length = record_length_lem;
  taken = λ s valid. (good_by_test (record_of s)).1 (ap record_of (reads_back s valid.listed valid.valid valid.arrays));
  back = λ s valid. reads_back s valid.listed valid.valid valid.arrays;
  one = λ bytes other good good-too same. one_record bytes other ((good_by_test bytes).0 good) ((good_by_test other).0 good-too) same;
  all_zeros = zeros;
}

-- A line that does not hold decides nothing.
past_line : {row : TableLine} {later : List TableLine} {n : ℕ} → (row.Holds → ⊥) → Decides (row ∷ later) n → Decides later n
past_line fails (this_holds _ _ holds) = absurd (fails holds)
past_line fails (not_this _ _ _ _ rest) = rest

exactly_by : {table : List TableLine} {number : ℕ} → Decides table number → (n : ℕ) → (number ≡ n) ↔ Decides table n
exactly_by {table} decides n = (λ is. subst (Decides table) is decides, λ other. decides_one decides other)

-- The numbers.
module _ (lent : Lent) where
  no_line_1 : {size : Size} → size_fits size (page_in lent) ≡ true → Line1 size (page_in lent) → ⊥
  no_line_1 {size} fits line = not_both fits ((line_1 size (page_in lent)).1 line)

  no_lent_line_1 : {size : Size} → size_fits size (page_in lent) ≡ true → PanelLine1 size lent → ⊥
  no_lent_line_1 {size} fits line = not_both fits ((panel_line_1 size lent).1 line)

  -- Line 1 of what is lent is that of the page there.
  as_lent : {size : Size} {later : List TableLine} {n : ℕ} → Decides (1 when Line1 size (page_in lent) ∷ later) n → Decides (1 when PanelLine1 size lent ∷ later) n
  as_lent {size} (this_holds _ _ line) = this_holds _ _ ((panel_line_1 size lent).0 ((line_1 size (page_in lent)).1 line))
  as_lent {size} (not_this _ _ _ none rest) = not_this _ _ _ (λ (line : PanelLine1 size lent). none ((line_1 size (page_in lent)).0 ((panel_line_1 size lent).1 line))) rest

  start_number : (size : Size) → Decides (1 when Line1 size (page_in lent) ∷ []) (start_call size (page_in lent)).number → Decides (panel_start_table size lent) (panel_start size.rows size.columns lent).number
  start_number size decides = go (start_case lent size.rows size.columns)
    where
      go : StartCase size.rows size.columns lent → Decides (panel_start_table size lent) (panel_start size.rows size.columns lent).number
      go (Cases.other_result other is) = subst (Decides (panel_start_table size lent)) (sym (ap (λ (l : Left). l.number) is)) (this_holds _ _ other)
      go (Cases.other_record same other is) = subst (Decides (panel_start_table size lent)) (sym (ap (λ (l : Left). l.number) is)) (not_this _ _ _ (λ (other : ResultOtherLength lent). other same) (this_holds _ _ other))
      go (Cases.called right is) = subst (Decides (panel_start_table size lent)) (sym (ap (λ (l : Left). l.number) is)) (not_this _ _ _ (λ (other : ResultOtherLength lent). other right.result) (not_this _ _ _ (λ (other : RecordOtherLength lent). other right.packed) (as_lent decides)))

  -- Document 01's table begins with line 1; that of C has two lines before it, and one after.
  module _ (call : Terminal → Outcome) (later : List TableLine) where
    abbrev line1 : TableLine
    line1 = 1 when Line1 (state_in lent.packed).size (page_in lent)

    abbrev lent_line1 : TableLine
    lent_line1 = 1 when PanelLine1 (state_in lent.packed).size lent

    abbrev table : List TableLine
    table = 1 when ResultOtherLength lent ∷ 2 when RecordOtherLength lent ∷ lent_line1 ∷ 2 when BadContent lent ∷ later

    call_number : Decides (line1 ∷ later) (call (terminal_in lent)).number → Decides table (on_terminal call lent).number
    call_number decides = go (call_case lent call)
      where
        lengths_right : {n : ℕ} → RightLengths lent → Decides (lent_line1 ∷ 2 when BadContent lent ∷ later) n → Decides table n
        lengths_right right rest = not_this _ _ _ (λ (other : ResultOtherLength lent). other right.result) (not_this _ _ _ (λ (other : RecordOtherLength lent). other right.packed) rest)

        go : CallCase call lent → Decides table (on_terminal call lent).number
        go (Cases.other_result other is) = subst (Decides table) (sym (ap (λ (l : Left). l.number) is)) (this_holds _ _ other)
        go (Cases.other_record same other is) = subst (Decides table) (sym (ap (λ (l : Left). l.number) is)) (not_this _ _ _ (λ (other : ResultOtherLength lent). other same) (this_holds _ _ other))
        go (Cases.wrong_size right wrong is) = subst (Decides table) (sym (ap (λ (l : Left). l.number) is)) (lengths_right right (this_holds _ _ ((panel_line_1 (state_in lent.packed).size lent).0 wrong)))
        go (Cases.bad_content right fits bad is) = subst (Decides table) (sym (ap (λ (l : Left). l.number) is)) (lengths_right right (not_this _ _ _ (no_lent_line_1 fits) (this_holds _ _ bad)))
        go (Cases.called right fits good is) =
            subst (Decides table) (sym (ap (λ (l : Left). l.number) is))
            (lengths_right right (not_this _ _ _ (no_lent_line_1 fits) (not_this _ _ _ (λ (bad : BadContent lent). bad good) (past_line (no_line_1 fits) decides))))

pub our_panel_numbers : Demand1 our_rules our_entries → PanelNumbers our_rules our_panel
unfolding panel_host panel_key
our_panel_numbers demand = record {
  of_start = λ size lent. exactly_by (start_number lent size ((demand.numbers.of_start size (page_in lent) _).0 refl));
  of_host = λ lent bytes. exactly_by (call_number lent (λ t. host_call t bytes lent.output) _ ((demand.numbers.of_host (terminal_in lent) bytes lent.output _).0 refl));
  of_key = λ lent key. exactly_by (call_number lent (λ t. key_call t key lent.output) _ ((demand.numbers.of_key (terminal_in lent) key lent.output _).0 refl));
}

-- What a refusal leaves.
told_zeros : (number : ℕ) → result_bytes number 0 0 0 ≡ number ∷ replicate 12 0
unfolding result_bytes number_bytes
told_zeros number = refl

module _ (lent : Lent) where
  marks_stay : AreBytes lent.marks → {marks : List ℕ} → marks ≡ (page_in lent).marks → placed 0 (mark_bytes marks) lent.marks ≡ lent.marks
  marks_stay are same =
      ap (λ (l : List ℕ). placed 0 (mark_bytes l) lent.marks) same ∙ marks_unchanged (length lent.characters) lent.marks are

  other_length_no : OtherLength lent → RightLengths lent → ⊥
  other_length_no other right = ⊎_elim (λ (other : ResultOtherLength lent). other right.result) (λ (other : RecordOtherLength lent). other right.packed) other

  start_own : (rows columns : ℕ) → OtherLength lent → (panel_start rows columns lent).lent ≡ lent
  start_own rows columns other = go (start_case lent rows columns)
    where
      go : StartCase rows columns lent → (panel_start rows columns lent).lent ≡ lent
      go (Cases.other_result _ is) = ap (λ (l : Left). l.lent) is
      go (Cases.other_record _ _ is) = ap (λ (l : Left). l.lent) is
      go (Cases.called right is) = absurd (other_length_no other right)

  start_told : (rows columns : ℕ) → lent.output ≡ [] → AreBytes lent.marks → RefusedLater lent (panel_start rows columns lent) → (((start_call (record { rows = rows; columns = columns }) (page_in lent)).number ≡ 0 → ⊥) → Leaves (unstarted (page_in lent)) [] (start_call (record { rows = rows; columns = columns }) (page_in lent))) → ToldZeros (panel_start rows columns lent).number lent (panel_start rows columns lent).lent
  start_told rows columns no_output are refused leaves = go (start_case lent rows columns)
    where
      go : StartCase rows columns lent → ToldZeros (panel_start rows columns lent).number lent (panel_start rows columns lent).lent
      go (Cases.other_result other _) = absurd (refused.0 (inl other))
      go (Cases.other_record _ other _) = absurd (refused.0 (inr other))
      go (Cases.called right is) =
          let outcome = start_call (record { rows = rows; columns = columns }) (page_in lent) in
          let left = leaves (λ zero. refused.1 (ap (λ (l : Left). l.number) is ∙ zero)) in
          subst (λ (l : Left). ToldZeros l.number lent l.lent) (sym is) (record {
            packed = ap (λ (t : Terminal). record_of t.state) left.terminal ∙ zeros;
            characters = ap (λ (t : Terminal). t.page.characters) left.terminal;
            marks = marks_stay are (ap (λ (t : Terminal). t.page.marks) left.terminal);
            output = left.output ∙ sym no_output;
            result = (λ i. result_bytes outcome.number (left.taken i) (left.sent i) (left.stored i)) ∙ told_zeros outcome.number;
          })

  module _ (call : Terminal → Outcome) where
    call_own : OtherLength lent → (on_terminal call lent).lent ≡ lent
    call_own other = go (call_case lent call)
      where
        go : CallCase call lent → (on_terminal call lent).lent ≡ lent
        go (Cases.other_result _ is) = ap (λ (l : Left). l.lent) is
        go (Cases.other_record _ _ is) = ap (λ (l : Left). l.lent) is
        go (Cases.wrong_size right _ is) = absurd (other_length_no other right)
        go (Cases.bad_content right _ _ is) = absurd (other_length_no other right)
        go (Cases.called right _ _ is) = absurd (other_length_no other right)

    -- A number that the entry gives for a refusal which changes nothing.
    module _ (Refuses : ℕ → Type 0) (leaves : Refuses (call (terminal_in lent)).number → Leaves (terminal_in lent) lent.output (call (terminal_in lent))) where
      call_told : AreBytes lent.marks → (OtherLength lent → ⊥) → Refuses (on_terminal call lent).number → ToldAlone (on_terminal call lent).number lent (on_terminal call lent).lent
      call_told are right_lengths refused = go (call_case lent call)
        where
          alone : (number : ℕ) → ToldAlone number lent (lent_of lent.packed lent.characters lent.marks lent.output (result_bytes number 0 0 0))
          alone number = record { packed = refl; characters = refl; marks = refl; output = refl; result = told_zeros number }

          go : CallCase call lent → ToldAlone (on_terminal call lent).number lent (on_terminal call lent).lent
          go (Cases.other_result other _) = absurd (right_lengths (inl other))
          go (Cases.other_record _ other _) = absurd (right_lengths (inr other))
          go (Cases.wrong_size _ _ is) = subst (λ (l : Left). ToldAlone l.number lent l.lent) (sym is) (alone 1)
          go (Cases.bad_content _ _ _ is) = subst (λ (l : Left). ToldAlone l.number lent l.lent) (sym is) (alone 2)
          go (Cases.called _ _ good is) =
              let outcome = call (terminal_in lent) in
              let left = leaves (subst (λ (l : Left). Refuses l.number) is refused) in
              subst (λ (l : Left). ToldAlone l.number lent l.lent) (sym is) (record {
                packed = ap (λ (t : Terminal). record_of t.state) left.terminal ∙ good;
                characters = ap (λ (t : Terminal). t.page.characters) left.terminal;
                marks = marks_stay are (ap (λ (t : Terminal). t.page.marks) left.terminal);
                output = left.output;
                result = (λ i. result_bytes outcome.number (left.taken i) (left.sent i) (left.stored i)) ∙ told_zeros outcome.number;
              })

pub our_panel_refusals : Demand1 our_rules our_entries → PanelRefusals our_panel
unfolding panel_host panel_key
our_panel_refusals demand = record {
  own_start = λ rows columns lent. start_own lent rows columns;
  own_host = λ lent bytes. call_own lent (λ t. host_call t bytes lent.output);
  own_key = λ lent key. call_own lent (λ t. key_call t key lent.output);
  of_start = λ rows columns lent no_output are refused. start_told lent rows columns no_output are refused (demand.refusals.of_start (record { rows = rows; columns = columns }) (page_in lent));
  of_host = λ lent bytes are refused no_3.
      call_told lent (λ t. host_call t bytes lent.output) (λ n. (n ≡ 0 → ⊥) × (n ≡ 3 → ⊥)) (λ is. demand.refusals.of_host (terminal_in lent) bytes lent.output is.0 is.1) are refused.0 (refused.1, no_3);
  of_key = λ lent key are refused.
      call_told lent (λ t. key_call t key lent.output) (λ n. n ≡ 0 → ⊥) (λ is. demand.refusals.of_key (terminal_in lent) key lent.output is) are refused.0 refused.1;
}

-- What C sees of what an entry gave.
shown : (lent : Lent) (outcome : Outcome) → CountsFit outcome → page_in (left_by lent outcome).lent ≡ outcome.terminal.page → Shown lent.marks outcome (left_by lent outcome)
unfolding result_bytes number_bytes many
shown lent outcome fit page =
    let head = outcome.number ∷ [] in
    let taken = number_bytes 4 outcome.taken in
    let sent = number_bytes 4 outcome.sent in
    let stored = number_bytes 4 outcome.stored in
    record {
      number = refl;
      packed = refl;
      characters = refl;
      marks = refl;
      output = refl;
      result = refl;
      page_there = page;
      number_there = refl;
      taken_there = number_back 4 outcome.taken fit.taken head (sent ++ stored);
      sent_there = number_back 4 outcome.sent fit.sent (head ++ taken) stored;
      stored_there = number_back 4 outcome.stored fit.stored (head ++ taken ++ sent) [];
    }

-- The page that a start leaves: a fresh one, or the one that was lent.
module _ (kept : Keeps our_rules our_entries) (stays : StaysValid our_entries) (size : Size) (lent : Lent) where
  abbrev outcome : Outcome
  outcome = start_call size (page_in lent)

  pub start_page : outcome.number ≡ 0 → page_in (left_by lent outcome).lent ≡ outcome.terminal.page
  start_page zero =
      let fits = start_fits ((kept.numbers.of_start size (page_in lent) _).0 refl) zero in
      let marks = ap length (kept.follows.of_start size (page_in lent) zero).marks ∙ length-replicate (size.rows * size.columns) 0 in
      page_left lent outcome (stays.from_start size (page_in lent) zero) (omega (arith, marks, marks_twice size lent fits, (page_fits size (page_in lent) fits).characters))

  refused_page : AreBytes lent.marks → (outcome.number ≡ 0 → ⊥) → page_in (left_by lent outcome).lent ≡ outcome.terminal.page
  refused_page are refused =
      let same = ap (λ (t : Terminal). t.page) (kept.refusals.of_start size (page_in lent) refused).terminal in
      (λ i. page_of (same i).characters (marks_in (length (same i).characters) (placed 0 (mark_bytes (same i).marks) lent.marks)))
      ∙ ap (λ (marks : List ℕ). page_of lent.characters (marks_in (length lent.characters) marks)) (marks_stay lent are refl)
      ∙ sym same

  start_shown : (OtherLength lent → ⊥) → AreBytes lent.marks → Shown lent.marks outcome (panel_start size.rows size.columns lent)
  start_shown right_lengths are = go (start_case lent size.rows size.columns)
    where
      page : page_in (left_by lent outcome).lent ≡ outcome.terminal.page
      page = either_way (eqb outcome.number 0) (λ zero. start_page (eqb-true _ _ zero)) (λ other. refused_page are (eqb-false _ _ other))

      go : StartCase size.rows size.columns lent → Shown lent.marks outcome (panel_start size.rows size.columns lent)
      go (Cases.other_result other _) = absurd (right_lengths (inl other))
      go (Cases.other_record _ other _) = absurd (right_lengths (inr other))
      go (Cases.called _ is) = subst (Shown lent.marks outcome) (sym is) (shown lent outcome (start_counts_fit size (page_in lent)) page)

module _ (t : Terminal) (valid : Valid t) (has : Arrays t.state) (output result : List ℕ) (long : length result ≡ 13) where
  lent_is : terminal_in (lent_for t output result) ≡ t
  lent_is = λ i. record {
    state = reads_back t.state (sized t.state.size t.page valid.size).listed valid.state has i;
    page = page_back t valid i;
  }

  call_shown : (call : Terminal → Outcome) → CountsFit (call t) → Valid (call t).terminal → (call t).terminal.state.size ≡ t.state.size → Shown (mark_bytes t.page.marks) (call t) (on_terminal call (lent_for t output result))
  call_shown call fit still same = go (call_case lent call)
    where
      lent : Lent
      lent = lent_for t output result

      page : page_in (left_by lent (call t)).lent ≡ (call t).terminal.page
      page = same_page_left lent t.state.size (call t) (ap (size_fits t.state.size) (page_back t valid) ∙ valid.size) still same

      go : CallCase call lent → Shown (mark_bytes t.page.marks) (call t) (on_terminal call lent)
      go (Cases.other_result other _) = absurd (other long)
      go (Cases.other_record _ other _) = absurd (other (record_length_lem t.state))
      go (Cases.wrong_size _ wrong _) = absurd (not_both valid.size (ap (λ (u : Terminal). size_fits u.state.size u.page) (sym lent_is) ∙ wrong))
      go (Cases.bad_content _ _ bad _) = absurd (bad (ap (λ (u : Terminal). record_of u.state) lent_is))
      go (Cases.called _ _ _ is) =
          subst (Shown (mark_bytes t.page.marks) (call t)) (sym (is ∙ ap (λ (u : Terminal). left_by lent (call u)) lent_is)) (shown lent (call t) fit page)

pub our_as_called : Keeps our_rules our_entries → StaysValid our_entries → KeepsSize our_entries → AsCalled our_entries our_panel
unfolding panel_host panel_key outcome_of
our_as_called kept stays same_size = record {
  of_start = λ size lent right_lengths _ are. start_shown kept stays size lent right_lengths are;
  of_host = λ t valid has bytes output result long.
      call_shown t valid has output result long (λ t. host_call t bytes output) (host_counts_fit t bytes output)
      (call_stays_valid our_entries stays (read bytes output) t valid) (same_size (read bytes output) t valid);
  of_key = λ t valid has key output result long.
      call_shown t valid has output result long (λ t. key_call t key output) (key_counts_fit t key output)
      (call_stays_valid our_entries stays (key_press key output) t valid) (same_size (key_press key output) t valid);
}
