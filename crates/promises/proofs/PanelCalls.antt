-- Calls of C one after another; what they leave; and that the promises leave one panel.
use mathlib.Core.Path.{◌≡◌, refl, sym, ap, ◌∙◌, subst}
use mathlib.Core.List.{List, [], ◌∷◌}
use mathlib.Core.Logic.{◌⊎◌, inl, inr, ⊎_elim}
use Prim.Native.Nat.{ℕ}
use native.Mathlib.Omega.{arith}
use borrow.Author.Tests.{eqb-true, eqb-false}
use lib.Dec.{eqb}
use lib.ListN.{length, replicate}
use Rattle.words.proofs.Choosing.{either_way, not_both}
use Rattle.page.specs.Page.{Page}
use Rattle.state.specs.declared.Size.{Size}
use Rattle.state.specs.State.{Arrays}
use Rattle.state.specs.Lines.{Line1, Line2}
use Rattle.state.proofs.Lines.{line_1}
use Rattle.steps.specs.Steps.{Terminal, Valid}
use Rattle.terminal.specs.Answers.{Outcome}
use Rattle.terminal.specs.Calls.{start_call, host_call, key_call}
use Rattle.terminal.specs.Lines.{TableLine, ◌when◌, Decides, this_holds, not_this}
use Rattle.terminal.proofs.Arrays.{start_has_arrays, host_call_keeps_arrays, key_call_keeps_arrays}
use Rattle.record.specs.Bytes.{AreBytes}
use Rattle.record.specs.Record.{state_in, Good, is_good}
use Rattle.record.proofs.Theorems.{good_by_test, said_arrays}
use Rattle.panel.specs.Panel.{Lent, Left, lent_of, mark_bytes, page_in, terminal_in, left_by, on_terminal, panel_start, panel_host, panel_key}
use Rattle.panel.proofs.Laws.{result_length_lem}
use Rattle.panel.proofs.Cases.{CallCase, StartCase, call_case, start_case}
use Rattle.panel.proofs.Cases as Cases
use Rattle.promises.specs.Rules.{Rules, our_rules}
use Rattle.promises.specs.Entries.{Entries, our_entries, Call, read, key_press, outcome_of, outcomes}
use Rattle.promises.specs.Further.{ValidByTheTable, StaysValid}
use Rattle.promises.specs.Panel.{Panel, our_panel, PanelLine1, BadContent, PanelNumbers, OtherLength, ToldAlone, PanelRefusals, Shown, lent_for, AsCalled, left_of, left_all, AllShown, no_more, next_shown, AsCalledOn, HoldsValid, LeavesValid, SamePanels}
use Rattle.promises.proofs.Laws.{Keeps}
use Rattle.promises.proofs.Staying.{KeepsSize, call_stays_valid}
use Rattle.promises.proofs.PanelPages.{panel_line_1, same_page_left, bytes_left, page_again}
use Rattle.promises.proofs.Panels.{start_page}

-- As called, one call after another.
module _ (entries : Entries) (stays : StaysValid entries) (panel : Panel) (as_called : AsCalled entries panel) (keeps : (call : Call) (t : Terminal) → Arrays t.state → Arrays (outcome_of entries call t).terminal.state) where
  one_shown : (call : Call) (t : Terminal) → Valid t → Arrays t.state → (output result : List ℕ) → length result ≡ 13 → Shown (mark_bytes t.page.marks) (outcome_of entries call t) (left_of panel call (lent_for t output result))
  unfolding outcome_of left_of
  one_shown (read bytes own) t valid has output result long = as_called.of_host t valid has bytes own result long
  one_shown (key_press key own) t valid has output result long = as_called.of_key t valid has key own result long

  pub as_called_on_of : AsCalledOn entries panel
  unfolding outcomes left_all
  as_called_on_of t valid has [] output result long = no_more _
  as_called_on_of t valid has (call ∷ later) output result long =
      let outcome = outcome_of entries call t in
      let left = left_of panel call (lent_for t output result) in
      let still = call_stays_valid entries stays call t valid in
      let first = one_shown call t valid has output result long in
      let marks = bytes_left outcome.terminal still (mark_bytes t.page.marks) left.lent.characters left.lent.marks first.page_there first.marks in
      let there : lent_for outcome.terminal left.lent.output left.lent.result ≡ left.lent = λ i. lent_of (sym first.packed i) (sym first.characters i) (sym marks i) left.lent.output left.lent.result in
      let as_long : length left.lent.result ≡ 13 = ap length first.result ∙ result_length_lem outcome.number outcome.taken outcome.sent outcome.stored in
      next_shown _ outcome left _ _ first
      (subst (λ (lent : Lent). AllShown lent.marks (outcomes entries outcome.terminal later) (left_all panel lent later)) there
      (as_called_on_of outcome.terminal still (keeps call t has) later left.lent.output left.lent.result as_long))

call_keeps_arrays : (call : Call) (t : Terminal) → Arrays t.state → Arrays (outcome_of our_entries call t).terminal.state
unfolding outcome_of
call_keeps_arrays (read bytes output) t has = host_call_keeps_arrays t bytes output has
call_keeps_arrays (key_press key output) t has = key_call_keeps_arrays t key output has

pub our_as_called_on : StaysValid our_entries → AsCalled our_entries our_panel → AsCalledOn our_entries our_panel
our_as_called_on stays as_called = as_called_on_of our_entries stays our_panel as_called call_keeps_arrays

-- Where 0 or 3 is given, neither line 1 nor line 2 holds.
abbrev Went : ℕ → Type 0
Went n = (n ≡ 0) ⊎ (n ≡ 3)

not_1 : {n : ℕ} → Went n → n ≡ 1 → ⊥
not_1 went one = ⊎_elim (λ zero. omega arith) (λ three. omega arith) went

not_2 : {n : ℕ} → Went n → n ≡ 2 → ⊥
not_2 went two = ⊎_elim (λ zero. omega arith) (λ three. omega arith) went

neither_line : {A B : Type 0} {later : List TableLine} {n : ℕ} → Decides (1 when A ∷ 2 when B ∷ later) n → Went n → (A → ⊥) × (B → ⊥)
neither_line (this_holds _ _ _) went = absurd (not_1 went refl)
neither_line (not_this _ _ _ a (this_holds _ _ _)) went = absurd (not_2 went refl)
neither_line (not_this _ _ _ a (not_this _ _ _ b _)) went = (a, b)

-- The record of a valid state is left.
holds_valid : (lent : Lent) (outcome : Outcome) → Valid outcome.terminal → Arrays outcome.terminal.state → page_in (left_by lent outcome).lent ≡ outcome.terminal.page → HoldsValid (left_by lent outcome).lent
holds_valid lent outcome valid has page = record {
  state = outcome.terminal.state;
  is_its_record = refl;
  arrays = has;
  valid = subst (λ (page : Page). Valid (record { state = outcome.terminal.state; page = page })) (sym page) valid;
}

-- What a call is to leave, from a terminal.
record LeavesWell (t : Terminal) (outcome : Outcome) : Type 0 where
  pub valid : Valid outcome.terminal
  pub size : outcome.terminal.state.size ≡ t.state.size
  pub arrays : Arrays outcome.terminal.state

call_leaves_valid : (lent : Lent) (call : Terminal → Outcome) → (Went (call (terminal_in lent)).number → LeavesWell (terminal_in lent) (call (terminal_in lent))) → Went (on_terminal call lent).number → HoldsValid (on_terminal call lent).lent
call_leaves_valid lent call leaves went = go (call_case lent call)
  where
    go : CallCase call lent → HoldsValid (on_terminal call lent).lent
    go (Cases.other_result _ is) = absurd (not_1 went (ap (λ (l : Left). l.number) is))
    go (Cases.other_record _ _ is) = absurd (not_2 went (ap (λ (l : Left). l.number) is))
    go (Cases.wrong_size _ _ is) = absurd (not_1 went (ap (λ (l : Left). l.number) is))
    go (Cases.bad_content _ _ _ is) = absurd (not_2 went (ap (λ (l : Left). l.number) is))
    go (Cases.called _ fits _ is) =
        let outcome = call (terminal_in lent) in
        let left = leaves (subst (λ (l : Left). Went l.number) is went) in
        subst (λ (l : Left). HoldsValid l.lent) (sym is)
        (holds_valid lent outcome left.valid left.arrays (same_page_left lent (state_in lent.packed).size outcome fits left.valid left.size))

pub our_leaves_valid : Keeps our_rules our_entries → ValidByTheTable → StaysValid our_entries → KeepsSize our_entries → LeavesValid our_panel
unfolding panel_host panel_key outcome_of
our_leaves_valid kept by-table stays same_size = record {
  of_start = λ rows columns lent zero. start_leaves rows columns lent zero (start_case lent rows columns);
  of_host = λ lent bytes. call_leaves_valid lent (λ t. host_call t bytes lent.output) (λ went.
      let t = terminal_in lent in
      let valid = (by-table t).1 (neither_line ((kept.numbers.of_host t bytes lent.output _).0 refl) went) in
      record {
        valid = call_stays_valid our_entries stays (read bytes lent.output) t valid;
        size = same_size (read bytes lent.output) t valid;
        arrays = host_call_keeps_arrays t bytes lent.output (said_arrays lent.packed);
      });
  of_key = λ lent key zero. call_leaves_valid lent (λ t. key_call t key lent.output) (λ went.
      let t = terminal_in lent in
      let valid = (by-table t).1 (neither_line ((kept.numbers.of_key t key lent.output _).0 refl) went) in
      record {
        valid = call_stays_valid our_entries stays (key_press key lent.output) t valid;
        size = same_size (key_press key lent.output) t valid;
        arrays = key_call_keeps_arrays t key lent.output (said_arrays lent.packed);
      }) (inl zero);
}
  where
    start_leaves : (rows columns : ℕ) (lent : Lent) → (panel_start rows columns lent).number ≡ 0 → StartCase rows columns lent → HoldsValid (panel_start rows columns lent).lent
    start_leaves rows columns lent zero (Cases.other_result _ is) = absurd (not_1 (inl zero) (ap (λ (l : Left). l.number) is))
    start_leaves rows columns lent zero (Cases.other_record _ _ is) = absurd (not_2 (inl zero) (ap (λ (l : Left). l.number) is))
    start_leaves rows columns lent zero (Cases.called _ is) =
        let size : Size = record { rows = rows; columns = columns } in
        let done = sym (ap (λ (l : Left). l.number) is) ∙ zero in
        subst (λ (l : Left). HoldsValid l.lent) (sym is)
        (holds_valid lent (start_call size (page_in lent)) (stays.from_start size (page_in lent) done) (start_has_arrays size (page_in lent)) (start_page kept stays size lent done))

-- Two lefts that are told the same way are the same.
same_left : {lent : Lent} {one other : Left} → one.number ≡ other.number → one.lent ≡ lent → other.lent ≡ lent → one ≡ other
same_left number a b = λ i. record { number = number i; lent = (a ∙ sym b) i }

same_told : {lent : Lent} {one other : Left} → one.number ≡ other.number → ToldAlone one.number lent one.lent → ToldAlone other.number lent other.lent → one ≡ other
same_told number a b = λ i. record {
  number = number i;
  lent = lent_of ((a.packed ∙ sym b.packed) i) ((a.characters ∙ sym b.characters) i) ((a.marks ∙ sym b.marks) i) ((a.output ∙ sym b.output) i) ((a.result ∙ ap (λ (n : ℕ). n ∷ replicate 12 0) number ∙ sym b.result) i);
}

same_shown : {marks : List ℕ} {outcome : Outcome} {one other : Left} → Shown marks outcome one → Shown marks outcome other → one ≡ other
same_shown a b = λ i. record {
  number = (a.number ∙ sym b.number) i;
  lent = lent_of ((a.packed ∙ sym b.packed) i) ((a.characters ∙ sym b.characters) i) ((a.marks ∙ sym b.marks) i) ((a.output ∙ sym b.output) i) ((a.result ∙ sym b.result) i);
}

-- A slice has another length, or none has.
lengths_or_not : {A : Type 0} (lent : Lent) → (OtherLength lent → A) → ((OtherLength lent → ⊥) → length lent.result ≡ 13 → A) → A
lengths_or_not lent other right =
    either_way (eqb (length lent.result) 13)
    (λ same. either_way (eqb (length lent.packed) 195)
    (λ same-too. right (λ is. ⊎_elim (λ no_result. no_result (eqb-true _ _ same)) (λ no_record. no_record (eqb-true _ _ same-too)) is) (eqb-true _ _ same))
    (λ differ. other (inr (eqb-false _ _ differ))))
    (λ differ. other (inl (eqb-false _ _ differ)))

-- Content that is not bad is good.
good_or_bad : (bytes : List ℕ) → ((Good bytes → ⊥) → ⊥) → Good bytes
good_or_bad bytes not-bad =
    either_way (is_good bytes) (λ good. (good_by_test bytes).0 good) (λ bad. absurd (not-bad (λ good. not_both ((good_by_test bytes).1 good) bad)))

-- Where 0 or 3 is given, C lent the record of a valid state.
module _ (by-table : ValidByTheTable) (lent : Lent) where
  record Lends : Type 0 where
    pub valid : Valid (terminal_in lent)
    pub good : Good lent.packed

  lends : {later : List TableLine} {A B : Type 0} {n : ℕ} → Decides (1 when A ∷ 2 when B ∷ 1 when PanelLine1 (state_in lent.packed).size lent ∷ 2 when BadContent lent ∷ 2 when Line2 (state_in lent.packed) (page_in lent) ∷ later) n → Went n → Lends
  lends (this_holds _ _ _) went = absurd (not_1 went refl)
  lends (not_this _ _ _ _ (this_holds _ _ _)) went = absurd (not_2 went refl)
  lends (not_this _ _ _ _ (not_this _ _ _ _ (this_holds _ _ _))) went = absurd (not_1 went refl)
  lends (not_this _ _ _ _ (not_this _ _ _ _ (not_this _ _ _ no_1 (this_holds _ _ _)))) went = absurd (not_2 went refl)
  lends (not_this _ _ _ _ (not_this _ _ _ _ (not_this _ _ _ no_1 (not_this _ _ _ not-bad (this_holds _ _ _))))) went = absurd (not_2 went refl)
  lends (not_this _ _ _ _ (not_this _ _ _ _ (not_this _ _ _ no_1 (not_this _ _ _ not-bad (not_this _ _ _ no_2 _))))) went =
      let size = (state_in lent.packed).size in
      let no_line_1 : Line1 size (page_in lent) → ⊥ = λ line. no_1 ((panel_line_1 size lent).0 ((line_1 size (page_in lent)).1 line)) in
      record { valid = (by-table (terminal_in lent)).1 (no_line_1, no_2); good = good_or_bad lent.packed not-bad }

  lent_again : AreBytes lent.marks → Lends → lent_for (terminal_in lent) lent.output lent.result ≡ lent
  lent_again are is = λ i. lent_of (is.good i) lent.characters (page_again (state_in lent.packed).size lent is.valid.size are i) lent.output lent.result

-- One panel.
module _ (by-table : ValidByTheTable) (rules : Rules) (entries : Entries) (one other : Panel) (numbers : PanelNumbers rules one) (numbers-too : PanelNumbers rules other) (refusals : PanelRefusals one) (refusals-too : PanelRefusals other) (called : AsCalled entries one) (called-too : AsCalled entries other) where
  same_starts : (rows columns : ℕ) (lent : Lent) → lent.output ≡ [] → AreBytes lent.marks → one.start rows columns lent ≡ other.start rows columns lent
  same_starts rows columns lent no_output are =
      let size : Size = record { rows = rows; columns = columns } in
      let alike = (numbers.of_start size lent _).1 ((numbers-too.of_start size lent _).0 refl) in
      lengths_or_not lent
      (λ differ. same_left alike (refusals.own_start rows columns lent differ) (refusals-too.own_start rows columns lent differ))
      (λ right _. same_shown (called.of_start size lent right no_output are) (called-too.of_start size lent right no_output are))

  same_hosts : (lent : Lent) (bytes : List ℕ) → AreBytes lent.marks → one.host lent bytes ≡ other.host lent bytes
  same_hosts lent bytes are =
      let decided = (numbers-too.of_host lent bytes _).0 refl in
      let alike = (numbers.of_host lent bytes _).1 decided in
      let t = terminal_in lent in
      lengths_or_not lent
      (λ differ. same_left alike (refusals.own_host lent bytes differ) (refusals-too.own_host lent bytes differ))
      (λ right long.
      let went : Went (other.host lent bytes).number → one.host lent bytes ≡ other.host lent bytes =
      λ is.
      let held = lends by-table lent decided is in
      subst (λ (l : Lent). one.host l bytes ≡ other.host l bytes) (lent_again by-table lent are held)
      (same_shown (called.of_host t held.valid (said_arrays lent.packed) bytes lent.output lent.result long) (called-too.of_host t held.valid (said_arrays lent.packed) bytes lent.output lent.result long)) in
      either_way (eqb (other.host lent bytes).number 0)
      (λ zero. went (inl (eqb-true _ _ zero)))
      (λ some. either_way (eqb (other.host lent bytes).number 3)
      (λ three. went (inr (eqb-true _ _ three)))
      (λ no-three.
      same_told alike (refusals.of_host lent bytes are (right, λ zero. eqb-false _ _ some (sym alike ∙ zero)) (λ three. eqb-false _ _ no-three (sym alike ∙ three)))
      (refusals-too.of_host lent bytes are (right, eqb-false _ _ some) (eqb-false _ _ no-three)))))

  same_keys : (lent : Lent) (key : ℕ) → AreBytes lent.marks → one.key lent key ≡ other.key lent key
  same_keys lent key are =
      let decided = (numbers-too.of_key lent key _).0 refl in
      let alike = (numbers.of_key lent key _).1 decided in
      let t = terminal_in lent in
      lengths_or_not lent
      (λ differ. same_left alike (refusals.own_key lent key differ) (refusals-too.own_key lent key differ))
      (λ right long.
      either_way (eqb (other.key lent key).number 0)
      (λ zero.
      let held = lends by-table lent decided (inl (eqb-true _ _ zero)) in
      subst (λ (l : Lent). one.key l key ≡ other.key l key) (lent_again by-table lent are held)
      (same_shown (called.of_key t held.valid (said_arrays lent.packed) key lent.output lent.result long) (called-too.of_key t held.valid (said_arrays lent.packed) key lent.output lent.result long)))
      (λ some. same_told alike (refusals.of_key lent key are (right, λ zero. eqb-false _ _ some (sym alike ∙ zero))) (refusals-too.of_key lent key are (right, eqb-false _ _ some))))

  pub same_panels : SamePanels one other
  same_panels = record { of_start = same_starts; of_host = same_hosts; of_key = same_keys }
