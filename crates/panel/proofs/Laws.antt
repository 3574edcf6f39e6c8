-- The lines of an exported function, one by one, in the terms of its code.
use mathlib.Core.Path.{◌≡◌, refl, sym, ap, ◌∙◌}
use mathlib.Core.List.{List, [], ◌∷◌}
use Prim.Native.Nat.{ℕ, ◌/◌, ◌%◌, ◌<◌, ◌≤◌}
use native.Mathlib.Omega.{arith}
use borrow.Author.Tests.{not-false, eqb-true, lt-ltb, le-ltb}
use lib.ListN.{length}
use Rattle.std.specs.Prelude.{get_or}
use Rattle.std.specs.Int.{to_le_bytes, w64}
use Rattle.std.proofs.Math.Nat.{div-div-eq-div-mul}
use Rattle.words.specs.Output.{placed}
use Rattle.words.proofs.Choosing.{then_case, else_case, either_line}
use Rattle.page.specs.Page.{Page, page_of}
use Rattle.steps.specs.Steps.{Terminal, terminal_of}
use Rattle.terminal.specs.declared.Answer.TheVariants.{WrongSize, WrongState}
use Rattle.terminal.specs.declared.Reply.{Reply}
use Rattle.terminal.specs.Answers.{Outcome, number_of, given}
use Rattle.terminal.specs.Calls.{start_call}
use Rattle.record.specs.Bytes.{number_bytes}
use Rattle.record.specs.Record.{record_of, state_in}
use Rattle.panel.specs.Panel.{Lent, lent_of, result_length, result_bytes, mark_bytes, page_in, terminal_in, handed_back, untouched, refused_with, left_by, wrong_length, wrong_content, panel_start, on_terminal, RefusedBy, Admitted}

pub result_length_lem : (number taken sent stored : ℕ) → length (result_bytes number taken sent stored) ≡ result_length
unfolding result_bytes number_bytes
result_length_lem number taken sent stored = refl

-- The lowest four of the bytes of a number.
abbrev pub lowest_four : List ℕ → List ℕ
lowest_four bytes = get_or bytes 0 0 ∷ get_or bytes 1 0 ∷ get_or bytes 2 0 ∷ get_or bytes 3 0 ∷ []

four_bytes : (n : ℕ) → lowest_four (to_le_bytes w64 n) ≡ number_bytes 4 n
unfolding number_bytes
four_bytes n =
    let two : n / 65536 ≡ n / 256 / 256 = sym (div-div-eq-div-mul n 256 256) in
    let three : n / 16777216 ≡ n / 256 / 256 / 256 = sym (ap (λ (n : ℕ). n / 256) (div-div-eq-div-mul n 256 256) ∙ div-div-eq-div-mul n 65536 256) in
    λ i. n % 256 ∷ n / 256 % 256 ∷ two i % 256 ∷ three i % 256 ∷ []

pub four_told : {bytes : List ℕ} (n : ℕ) → bytes ≡ to_le_bytes w64 n → lowest_four bytes ≡ number_bytes 4 n
four_told n are = ap lowest_four are ∙ four_bytes n

-- Where neither length is wrong.
pub right_lengths : (packed result : List ℕ) → wrong_length packed result ≤ 0 → (length packed ≡ 195) × (length result ≡ 13)
unfolding wrong_length
right_lengths packed result =
    either_line (λ (wrong : ℕ). wrong ≤ 0 → (length packed ≡ 195) × (length result ≡ 13)) _ _ _
    (λ _ none. absurd (omega arith))
    (λ thirteen. either_line (λ (wrong : ℕ). wrong ≤ 0 → (length packed ≡ 195) × (length result ≡ 13)) _ _ _
    (λ _ none. absurd (omega arith))
    (λ long none. (eqb-true _ _ (not-false _ long), eqb-true _ _ (not-false _ thirteen))))

-- The refusals of this crate's own tests.
pub refused_size : (number : ℕ) → number ≡ 1 → RefusedBy WrongSize number
unfolding number_of
refused_size number is = record { some = omega arith; told = sym is }

pub refused_state : (number : ℕ) → number ≡ 2 → RefusedBy WrongState number
unfolding number_of
refused_state number is = record { some = omega arith; told = sym is }

-- What an entry handed back, told to C.
pub handed_on : (lent : Lent) (reply : Reply) (page : Page) (output : List ℕ) {number : ℕ} {packed marks result : List ℕ} → number ≡ number_of reply.answer → packed ≡ record_of reply.state → marks ≡ placed 0 (mark_bytes page.marks) lent.marks → result ≡ result_bytes (number_of reply.answer) reply.taken reply.sent reply.stored → handed_back number (lent_of packed page.characters marks output result) ≡ left_by lent (given reply page output)
handed_on lent reply page output n p m r = λ i. handed_back (n i) (lent_of (p i) page.characters (m i) output (r i))

module _ (lent : Lent) (wrong : ℕ) (told : wrong ≡ wrong_length lent.packed lent.result) where
  pub start_untouched : (rows columns : ℕ) → 0 < wrong → untouched wrong lent ≡ panel_start rows columns lent
  unfolding panel_start
  start_untouched rows columns some = ap (λ (n : ℕ). untouched n lent) told ∙ sym (then_case _ _ _ (lt-ltb 0 _ (rw told at some)))

  pub start_done : (rows columns : ℕ) → wrong ≤ 0 → (outcome : Outcome) → outcome ≡ start_call (record { rows = rows; columns = columns }) (page_in lent) → left_by lent outcome ≡ panel_start rows columns lent
  unfolding panel_start
  start_done rows columns none outcome did = ap (left_by lent) did ∙ sym (else_case _ _ _ (le-ltb 0 _ (rw told at none)))

  module _ (call : Terminal → Outcome) where
    pub untouched_call : 0 < wrong → untouched wrong lent ≡ on_terminal call lent
    unfolding on_terminal
    untouched_call some = ap (λ (n : ℕ). untouched n lent) told ∙ sym (then_case _ _ _ (lt-ltb 0 _ (rw told at some)))

    module _ (none : wrong ≤ 0) (bad : ℕ) (bad-told : bad ≡ wrong_content lent.packed (page_in lent)) where
      pub refused_call : 0 < bad → {result : List ℕ} → result ≡ result_bytes bad 0 0 0 → handed_back bad (lent_of lent.packed lent.characters lent.marks lent.output result) ≡ on_terminal call lent
      unfolding on_terminal
      refused_call some is =
          (λ i. handed_back bad (lent_of lent.packed lent.characters lent.marks lent.output (is i)))
          ∙ ap (λ (n : ℕ). refused_with n lent) bad-told
          ∙ sym (else_case _ _ _ (le-ltb 0 _ (rw told at none)) ∙ then_case _ _ _ (lt-ltb 0 _ (rw bad-told at some)))

      pub done_call : bad ≤ 0 → (outcome : Outcome) → outcome ≡ call (terminal_in lent) → left_by lent outcome ≡ on_terminal call lent
      unfolding on_terminal
      done_call good outcome did =
          ap (left_by lent) did
          ∙ sym (else_case _ _ _ (le-ltb 0 _ (rw told at none)) ∙ else_case _ _ _ (le-ltb 0 _ (rw bad-told at good)))

-- An entry called on what was admitted, and what it handed back told to C.
pub admitted_call : (lent : Lent) {own : List ℕ} → Admitted lent.packed lent.characters lent.marks lent.result own → (call : Terminal → Outcome) (reply : Reply) (page : Page) (output : List ℕ) → given reply page output ≡ call (terminal_of (state_in lent.packed) lent.characters own) → {number : ℕ} {packed marks result : List ℕ} → number ≡ number_of reply.answer → packed ≡ record_of reply.state → marks ≡ placed 0 (mark_bytes page.marks) lent.marks → result ≡ result_bytes (number_of reply.answer) reply.taken reply.sent reply.stored → handed_back number (lent_of packed page.characters marks output result) ≡ on_terminal call lent
admitted_call lent admitted call reply page output did n p m r =
    let content = sym (ap (λ (l : List ℕ). wrong_content lent.packed (page_of lent.characters l)) admitted.marks_read) ∙ admitted.good_content in
    handed_on lent reply page output n p m r
    ∙ done_call lent 0 (sym admitted.right_lengths) call (omega arith) 0 (sym content) (omega arith) _
    (did ∙ ap (λ (l : List ℕ). call (terminal_of (state_in lent.packed) lent.characters l)) admitted.marks_read)
