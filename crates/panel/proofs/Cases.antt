-- Every call of C is one of a few cases: a slice has another length, the size is wrong, the content is bad, or the
-- entry is called.
use mathlib.Core.Path.{◌≡◌, refl, sym, ap, ◌∙◌}
use mathlib.Core.Bool.{true, false, not}
use Prim.Native.Nat.{ℕ}
use native.Mathlib.Omega.{arith}
use borrow.Author.Tests.{eqb-true, eqb-false}
use lib.Dec.{eqb}
use lib.ListN.{length}
use Rattle.words.proofs.Choosing.{then_case, else_case, either_way, not_both}
use Rattle.state.specs.Tests.{size_fits}
use Rattle.steps.specs.Steps.{Terminal}
use Rattle.terminal.specs.Answers.{Outcome}
use Rattle.terminal.specs.Calls.{start_call}
use Rattle.record.specs.Record.{state_in, Good, is_good}
use Rattle.record.proofs.Theorems.{good_by_test}
use Rattle.panel.specs.Panel.{Lent, page_in, terminal_in, untouched, refused_with, left_by, wrong_length, wrong_content, panel_start, on_terminal}
use Rattle.panel.proofs.Laws.{start_untouched, start_done, untouched_call, refused_call, done_call}

pub record RightLengths (lent : Lent) : Type 0 where
  pub result : length lent.result ≡ 13
  pub packed : length lent.packed ≡ 195

pub data CallCase (call : Terminal → Outcome) (lent : Lent) : Type 0 where
  other_result : (length lent.result ≡ 13 → ⊥) → on_terminal call lent ≡ untouched 1 lent → CallCase call lent
  other_record : length lent.result ≡ 13 → (length lent.packed ≡ 195 → ⊥) → on_terminal call lent ≡ untouched 2 lent → CallCase call lent
  wrong_size : RightLengths lent → size_fits (state_in lent.packed).size (page_in lent) ≡ false → on_terminal call lent ≡ refused_with 1 lent → CallCase call lent
  bad_content : RightLengths lent → size_fits (state_in lent.packed).size (page_in lent) ≡ true → (Good lent.packed → ⊥) → on_terminal call lent ≡ refused_with 2 lent → CallCase call lent
  called : RightLengths lent → size_fits (state_in lent.packed).size (page_in lent) ≡ true → Good lent.packed → on_terminal call lent ≡ left_by lent (call (terminal_in lent)) → CallCase call lent

pub data StartCase (rows columns : ℕ) (lent : Lent) : Type 0 where
  other_result : (length lent.result ≡ 13 → ⊥) → panel_start rows columns lent ≡ untouched 1 lent → StartCase rows columns lent
  other_record : length lent.result ≡ 13 → (length lent.packed ≡ 195 → ⊥) → panel_start rows columns lent ≡ untouched 2 lent → StartCase rows columns lent
  called : RightLengths lent → panel_start rows columns lent ≡ left_by lent (start_call (record { rows = rows; columns = columns }) (page_in lent)) → StartCase rows columns lent

module _ (lent : Lent) where
  result_wrong : eqb (length lent.result) 13 ≡ false → wrong_length lent.packed lent.result ≡ 1
  unfolding wrong_length
  result_wrong other = then_case {A = ℕ} _ _ _ (ap not other)

  record_wrong : eqb (length lent.result) 13 ≡ true → eqb (length lent.packed) 195 ≡ false → wrong_length lent.packed lent.result ≡ 2
  unfolding wrong_length
  record_wrong same other = else_case {A = ℕ} _ _ _ (ap not same) ∙ then_case {A = ℕ} _ _ _ (ap not other)

  none_wrong : eqb (length lent.result) 13 ≡ true → eqb (length lent.packed) 195 ≡ true → wrong_length lent.packed lent.result ≡ 0
  unfolding wrong_length
  none_wrong same same-too = else_case {A = ℕ} _ _ _ (ap not same) ∙ else_case {A = ℕ} _ _ _ (ap not same-too)

  size_wrong : size_fits (state_in lent.packed).size (page_in lent) ≡ false → wrong_content lent.packed (page_in lent) ≡ 1
  unfolding wrong_content
  size_wrong other = then_case {A = ℕ} _ _ _ (ap not other)

  content_bad : size_fits (state_in lent.packed).size (page_in lent) ≡ true → is_good lent.packed ≡ false → wrong_content lent.packed (page_in lent) ≡ 2
  unfolding wrong_content
  content_bad fits bad = else_case {A = ℕ} _ _ _ (ap not fits) ∙ then_case {A = ℕ} _ _ _ (ap not bad)

  content_good : size_fits (state_in lent.packed).size (page_in lent) ≡ true → is_good lent.packed ≡ true → wrong_content lent.packed (page_in lent) ≡ 0
  unfolding wrong_content
  content_good fits good = else_case {A = ℕ} _ _ _ (ap not fits) ∙ else_case {A = ℕ} _ _ _ (ap not good)

  pub start_case : (rows columns : ℕ) → StartCase rows columns lent
  start_case rows columns =
      either_way (eqb (length lent.result) 13)
      (λ same. either_way (eqb (length lent.packed) 195)
      (λ same-too. called (record { result = eqb-true _ _ same; packed = eqb-true _ _ same-too })
      (sym (start_done lent 0 (sym (none_wrong same same-too)) rows columns (omega arith) _ refl)))
      (λ other. other_record (eqb-true _ _ same) (eqb-false _ _ other) (sym (start_untouched lent 2 (sym (record_wrong same other)) rows columns (omega arith)))))
      (λ other. other_result (eqb-false _ _ other) (sym (start_untouched lent 1 (sym (result_wrong other)) rows columns (omega arith))))

  module _ (call : Terminal → Outcome) where
    content_case : eqb (length lent.result) 13 ≡ true → eqb (length lent.packed) 195 ≡ true → CallCase call lent
    content_case same same-too =
        let right : RightLengths lent = record { result = eqb-true _ _ same; packed = eqb-true _ _ same-too } in
        let none = sym (none_wrong same same-too) in
        either_way (size_fits (state_in lent.packed).size (page_in lent))
        (λ fits. either_way (is_good lent.packed)
        (λ good. called right fits ((good_by_test lent.packed).0 good) (sym (done_call lent 0 none call (omega arith) 0 (sym (content_good fits good)) (omega arith) _ refl)))
        (λ bad. bad_content right fits (λ good. not_both ((good_by_test lent.packed).1 good) bad) (sym (refused_call lent 0 none call (omega arith) 2 (sym (content_bad fits bad)) (omega arith) refl))))
        (λ other. wrong_size right other (sym (refused_call lent 0 none call (omega arith) 1 (sym (size_wrong other)) (omega arith) refl)))

    pub call_case : CallCase call lent
    call_case =
        either_way (eqb (length lent.result) 13)
        (λ same. either_way (eqb (length lent.packed) 195) (content_case same)
        (λ other. other_record (eqb-true _ _ same) (eqb-false _ _ other) (sym (untouched_call lent 2 (sym (record_wrong same other)) call (omega arith)))))
        (λ other. other_result (eqb-false _ _ other) (sym (untouched_call lent 1 (sym (result_wrong other)) call (omega arith))))
