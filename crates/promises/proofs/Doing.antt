-- A call does the steps of the bytes that it took or of its key, and a refused one does none: by demand 1 and Follows
-- alone.
use mathlib.Core.Path.{◌≡◌, refl, sym, ap, ◌∙◌, subst}
use mathlib.Core.List.{List, [], ◌∷◌, ◌++◌, map}
use mathlib.Core.Logic.{◌⊎◌, inl, inr, ⊎_elim}
use Prim.Native.Nat.{ℕ, zero, suc}
use native.Mathlib.Omega.{arith}
use borrow.Author.Tests.{eqb-true, eqb-false}
use lib.Dec.{eqb}
use lib.ListN.{length, take}
use lib.Seq.{take_at, take-length}
use Rattle.words.specs.Choice.{◌and◌}
use Rattle.words.proofs.Choosing.{not_both, then_case, else_case, either_way, both, both_hold}
use Rattle.page.specs.Page.{valid_page}
use Rattle.state.specs.Lines.{Line1, Line2}
use Rattle.state.specs.Tests.{size_fits, valid_state}
use Rattle.state.proofs.Lines.{line_1, line_2}
use Rattle.steps.specs.Steps.{Terminal, Stepped, Valid}
use Rattle.terminal.specs.Runs.{after, bytes_sent_by, cells_stored_by, refused_by, protection_by}
use Rattle.terminal.specs.Answers.{Outcome}
use Rattle.terminal.specs.Claims.{Leaves, Did}
use Rattle.terminal.specs.Lines.{TableLine, ◌when◌, Decides, this_holds, not_this}
use Rattle.terminal.proofs.Theorems.{bytes_sent_lem}
use Rattle.promises.specs.Rules.{Rules, Input, byte, step_of, steps, byte_steps}
use Rattle.promises.specs.Entries.{Entries, Call, read, key_press, outcome_of, inputs_of, inputs_done}
use Rattle.promises.specs.Further.{ValidByTheTable}
use Rattle.promises.proofs.Laws.{Keeps, DidSteps}

in_steps : {taken : ℕ} {t : Terminal} {lent : List ℕ} {run : List Stepped} {outcome : Outcome} → Did taken t lent run outcome → DidSteps t run outcome
in_steps did = record { terminal = did.terminal; sent = bytes_sent_lem did; stored = did.stored; refused = did.refused; protection = did.protection }

no_steps : {t : Terminal} {lent : List ℕ} {outcome : Outcome} → Leaves t lent outcome → DidSteps t [] outcome
unfolding after bytes_sent_by cells_stored_by refused_by protection_by
no_steps {outcome} left =
    record {
      terminal = left.terminal;
      sent = ap (λ (n : ℕ). take n outcome.output) left.sent;
      stored = left.stored;
      refused = left.refused;
      protection = left.protection;
    }

-- The steps of the first bytes are the first steps.
first_steps : (rules : Rules) (n : ℕ) (t : Terminal) (bytes : List ℕ) → byte_steps rules t (take n bytes) ≡ take n (byte_steps rules t bytes)
unfolding steps step_of
first_steps rules zero t bytes = refl
first_steps rules (suc n) t [] = refl
first_steps rules (suc n) t (b ∷ later) =
    ap (λ (run : List Stepped). rules.on_byte b t ∷ run) (first_steps rules n (rules.on_byte b t).terminal later)

-- The tests that run let pass just what lines 1 and 2 do.
pub by_the_table : ValidByTheTable
by_the_table t = (
  λ valid. (
    λ line. not_both valid.size ((line_1 t.state.size t.page).1 line),
    λ line. not_both (both_hold _ _ valid.state valid.page) ((line_2 t.state t.page).1 line),
  ),
  λ none.
      let fits = either_way (size_fits t.state.size t.page) (λ fits. fits) (λ wrong. absurd (none.0 ((line_1 t.state.size t.page).0 wrong))) in
      let rest = either_way (valid_state t.state and valid_page t.page) (λ fine. fine) (λ wrong. absurd (none.1 ((line_2 t.state t.page).0 wrong))) in
      record { size = fits; state = (both rest).0; page = (both rest).1 },
)

-- Where lines 1 and 2 don't decide, the terminal is valid.
passes : {t : Terminal} {later : List TableLine} {n : ℕ} → Decides (1 when Line1 t.state.size t.page ∷ 2 when Line2 t.state t.page ∷ later) n
    → (n ≡ 1 → ⊥) → (n ≡ 2 → ⊥) → Valid t
passes (this_holds _ _ holds) not_1 not_2 = absurd (not_1 refl)
passes (not_this _ _ _ no_1 (this_holds _ _ holds)) not_1 not_2 = absurd (not_2 refl)
passes {t} (not_this _ _ _ no_1 (not_this _ _ _ no_2 rest)) not_1 not_2 = (by_the_table t).1 (no_1, no_2)

module _ (rules : Rules) (entries : Entries) (kept : Keeps rules entries) where
  module _ (t : Terminal) (bytes lent : List ℕ) where
    abbrev outcome : Outcome
    outcome = entries.host t bytes lent

    -- So many bytes were taken, and their steps are these.
    does_taken : (n : ℕ) (run : List Stepped) → outcome.taken ≡ n → byte_steps rules t (take n bytes) ≡ run → DidSteps t run outcome → DidSteps t (byte_steps rules t (take outcome.taken bytes)) outcome
    does_taken n run taken are did =
        subst (λ (run : List Stepped). DidSteps t run outcome) (sym (ap (λ (k : ℕ). byte_steps rules t (take k bytes)) taken ∙ are)) did

    host_does : DidSteps t (byte_steps rules t (take outcome.taken bytes)) outcome
    unfolding steps
    host_does =
        either_way (eqb outcome.number 0)
        (λ done.
        let did = kept.follows.of_host t bytes lent (eqb-true _ _ done) in
        does_taken (length bytes) (byte_steps rules t bytes) did.bytes_taken (ap (byte_steps rules t) (take-length bytes)) (in_steps did))
        (λ other.
        either_way (eqb outcome.number 3)
        (λ three.
        let stopped = kept.refusals.of_host_3 t bytes lent (eqb-true _ _ three) in
        let line = stopped.0 in
        does_taken (length line.before) line.before stopped.1.bytes_taken
        (first_steps rules (length line.before) t bytes ∙ ap (take (length line.before)) line.are ∙ take_at line.before _ _ refl)
        (in_steps stopped.1))
        (λ further.
        let left = kept.refusals.of_host t bytes lent (eqb-false _ _ other) (eqb-false _ _ further) in
        does_taken 0 [] left.taken refl (no_steps left)))

    pub host_valid : (outcome.number ≡ 1 → ⊥) → (outcome.number ≡ 2 → ⊥) → Valid t
    host_valid not_1 not_2 = passes ((kept.numbers.of_host t bytes lent _).0 refl) not_1 not_2

    -- A read given 0 took all its bytes.
    pub all_taken : outcome.number ≡ 0 → map byte (take outcome.taken bytes) ≡ map byte bytes
    all_taken is-done = rw ((kept.follows.of_host t bytes lent is-done).bytes_taken, take-length)

    -- The terminal is valid, or nothing was done.
    host_valid_or_not : Valid t ⊎ ((map byte (take outcome.taken bytes) ≡ []) × (outcome.terminal ≡ t))
    host_valid_or_not =
        either_way (eqb outcome.number 0)
        (λ done. let is = eqb-true outcome.number 0 done in inl (host_valid (λ e. omega (arith, is, e)) (λ e. omega (arith, is, e))))
        (λ other.
        either_way (eqb outcome.number 3)
        (λ three. let is = eqb-true outcome.number 3 three in inl (host_valid (λ e. omega (arith, is, e)) (λ e. omega (arith, is, e))))
        (λ further.
        let left = kept.refusals.of_host t bytes lent (eqb-false _ _ other) (eqb-false _ _ further) in
        inr (ap (λ (n : ℕ). map byte (take n bytes)) left.taken, left.terminal)))

  module _ (t : Terminal) (key : ℕ) (lent : List ℕ) where
    abbrev pressed : Outcome
    pressed = entries.key t key lent

    key_does : DidSteps t (steps rules t (inputs_of (key_press key lent) pressed)) pressed
    unfolding inputs_of steps step_of
    key_does =
        either_way (eqb pressed.number 0)
        (λ done. rw (then_case _ _ _ done) (in_steps (kept.follows.of_key t key lent (eqb-true _ _ done))))
        (λ other. rw (else_case _ _ _ other) (no_steps (kept.refusals.of_key t key lent (eqb-false _ _ other))))

    pub key_valid : pressed.number ≡ 0 → Valid t
    key_valid is-done = passes ((kept.numbers.of_key t key lent _).0 refl) (λ e. omega (arith, is-done, e)) (λ e. omega (arith, is-done, e))

    key_valid_or_not : Valid t ⊎ ((inputs_of (key_press key lent) pressed ≡ []) × (pressed.terminal ≡ t))
    unfolding inputs_of
    key_valid_or_not =
        either_way (eqb pressed.number 0)
        (λ done. inl (key_valid (eqb-true _ _ done)))
        (λ other. inr (else_case _ _ _ other, (kept.refusals.of_key t key lent (eqb-false _ _ other)).terminal))

  pub does_steps : (call : Call) (t : Terminal) → DidSteps t (steps rules t (inputs_of call (outcome_of entries call t))) (outcome_of entries call t)
  unfolding outcome_of inputs_of
  does_steps (read bytes lent) t = host_does t bytes lent
  does_steps (key_press key lent) t = key_does t key lent

  valid_or_not : (call : Call) (t : Terminal) → Valid t ⊎ ((inputs_of call (outcome_of entries call t) ≡ []) × ((outcome_of entries call t).terminal ≡ t))
  unfolding outcome_of inputs_of
  valid_or_not (read bytes lent) t = host_valid_or_not t bytes lent
  valid_or_not (key_press key lent) t = key_valid_or_not t key lent

  -- Calls that did something began with a valid terminal.
  pub found_valid : (t : Terminal) (calls : List Call) (input : Input) (later : List Input) → inputs_done entries t calls ≡ input ∷ later → Valid t
  unfolding inputs_done
  found_valid t [] input later none = absurd (omega (arith, ap (length {A = Input}) none))
  found_valid t (call ∷ calls) input later are =
      ⊎_elim (λ valid. valid)
      (λ nothing.
      subst Valid nothing.1
      (found_valid (outcome_of entries call t).terminal calls input later
      (sym (ap (λ (now : List Input). now ++ inputs_done entries (outcome_of entries call t).terminal calls) nothing.0) ∙ are)))
      (valid_or_not call t)
