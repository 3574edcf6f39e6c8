-- Demand 1 and Follows leave one terminal: whatever comes in, entries that keep both give and leave the same.
use mathlib.Core.Path.{◌≡◌, refl, sym, ◌∙◌, subst}
use mathlib.Core.List.{List}
use Prim.Native.Nat.{ℕ}
use borrow.Author.Tests.{eqb-true, eqb-false}
use lib.Dec.{eqb}
use lib.ListN.{length}
use Rattle.words.proofs.Choosing.{either_way}
use Rattle.page.specs.Page.{Page}
use Rattle.state.specs.declared.Size.{Size}
use Rattle.steps.specs.Steps.{Terminal, Stepped}
use Rattle.terminal.specs.Answers.{Outcome}
use Rattle.terminal.specs.Lines.{TableLine}
use Rattle.terminal.specs.Claims.{NumberedBy, Leaves, Did, Started}
use Rattle.terminal.proofs.Exceeding.{line_3_done}
use Rattle.promises.specs.Rules.{Rules}
use Rattle.promises.specs.Entries.{Entries}
use Rattle.promises.specs.Further.{SameEntries}
use Rattle.promises.proofs.Laws.{Keeps}

same_did : {taken : ℕ} {t : Terminal} {lent : List ℕ} {run : List Stepped} {a b : Outcome} → a.number ≡ b.number → Did taken t lent run a → Did taken t lent run b → a ≡ b
same_did number p q = λ i. record {
  number = number i;
  taken = (p.bytes_taken ∙ sym q.bytes_taken) i;
  sent = (p.sent ∙ sym q.sent) i;
  stored = (p.stored ∙ sym q.stored) i;
  refused = (p.refused ∙ sym q.refused) i;
  protection = (p.protection ∙ sym q.protection) i;
  terminal = (p.terminal ∙ sym q.terminal) i;
  output = (p.output ∙ sym q.output) i;
}

same_left : {t : Terminal} {lent : List ℕ} {a b : Outcome} → a.number ≡ b.number → Leaves t lent a → Leaves t lent b → a ≡ b
same_left number p q = λ i. record {
  number = number i;
  taken = (p.taken ∙ sym q.taken) i;
  sent = (p.sent ∙ sym q.sent) i;
  stored = (p.stored ∙ sym q.stored) i;
  refused = (p.refused ∙ sym q.refused) i;
  protection = (p.protection ∙ sym q.protection) i;
  terminal = (p.terminal ∙ sym q.terminal) i;
  output = (p.output ∙ sym q.output) i;
}

same_start : {size : Size} {a b : Outcome} → a.number ≡ b.number → Started size a → Started size b → a ≡ b
same_start number p q = λ i. record {
  number = number i;
  taken = (p.taken ∙ sym q.taken) i;
  sent = (p.sent ∙ sym q.sent) i;
  stored = (p.stored ∙ sym q.stored) i;
  refused = (p.refused ∙ sym q.refused) i;
  protection = (p.protection ∙ sym q.protection) i;
  terminal = record {
    state = (p.state ∙ sym q.state) i;
    page = record { characters = (p.characters ∙ sym q.characters) i; marks = (p.marks ∙ sym q.marks) i };
  };
  output = (p.output ∙ sym q.output) i;
}

-- One table gives one number.
same_number : {table : List TableLine} (a b : Outcome) → NumberedBy table a → NumberedBy table b → a.number ≡ b.number
same_number a b one other = (one b.number).1 ((other b.number).0 refl)

module _ (rules : Rules) (one other : Entries) (keeps : Keeps rules one) (keeps-too : Keeps rules other) where
  same_starts : (size : Size) (page : Page) → one.start size page ≡ other.start size page
  same_starts size page =
      let alike = same_number (one.start size page) (other.start size page) (keeps.numbers.of_start size page) (keeps-too.numbers.of_start size page) in
      either_way (eqb (other.start size page).number 0)
      (λ done.
      let is = eqb-true _ _ done in
      same_start alike (keeps.follows.of_start size page (alike ∙ is)) (keeps-too.follows.of_start size page is))
      (λ refused.
      let is-not = eqb-false _ _ refused in
      same_left alike (keeps.refusals.of_start size page (λ e. is-not (sym alike ∙ e))) (keeps-too.refusals.of_start size page is-not))

  same_keys : (t : Terminal) (key : ℕ) (lent : List ℕ) → one.key t key lent ≡ other.key t key lent
  same_keys t key lent =
      let alike = same_number (one.key t key lent) (other.key t key lent) (keeps.numbers.of_key t key lent) (keeps-too.numbers.of_key t key lent) in
      either_way (eqb (other.key t key lent).number 0)
      (λ done.
      let is = eqb-true _ _ done in
      same_did alike (keeps.follows.of_key t key lent (alike ∙ is)) (keeps-too.follows.of_key t key lent is))
      (λ refused.
      let is-not = eqb-false _ _ refused in
      same_left alike (keeps.refusals.of_key t key lent (λ e. is-not (sym alike ∙ e))) (keeps-too.refusals.of_key t key lent is-not))

  same_hosts : (t : Terminal) (bytes lent : List ℕ) → one.host t bytes lent ≡ other.host t bytes lent
  same_hosts t bytes lent =
      let alike = same_number (one.host t bytes lent) (other.host t bytes lent) (keeps.numbers.of_host t bytes lent) (keeps-too.numbers.of_host t bytes lent) in
      either_way (eqb (other.host t bytes lent).number 0)
      (λ done.
      let is = eqb-true _ _ done in
      same_did alike (keeps.follows.of_host t bytes lent (alike ∙ is)) (keeps-too.follows.of_host t bytes lent is))
      (λ refused.
      let is-not = eqb-false _ _ refused in
      either_way (eqb (other.host t bytes lent).number 3)
      (λ three.
      let is = eqb-true _ _ three in
      let theirs = keeps.refusals.of_host_3 t bytes lent (alike ∙ is) in
      let ours = keeps-too.refusals.of_host_3 t bytes lent is in
      let before = sym (line_3_done _ _ theirs.0) ∙ line_3_done _ _ ours.0 in
      same_did alike (subst (λ (run : List Stepped). Did (length run) t lent run (one.host t bytes lent)) before theirs.1) ours.1)
      (λ further.
      let is-no-3 = eqb-false _ _ further in
      same_left alike (keeps.refusals.of_host t bytes lent (λ e. is-not (sym alike ∙ e)) (λ e. is-no-3 (sym alike ∙ e)))
      (keeps-too.refusals.of_host t bytes lent is-not is-no-3)))

  pub same_entries : SameEntries one other
  same_entries = record { of_start = same_starts; of_host = same_hosts; of_key = same_keys }
