use mathlib.Core.Path.{◌≡◌, refl, sym, ap, ◌∙◌}
use mathlib.Core.Bool.{true, false, not}
use mathlib.Core.List.{List}
use Prim.Native.Nat.{ℕ}
use lib.ListN.{drop}
use Rattle.state.specs.Tests.{size_fits}
use Rattle.steps.specs.Steps.{Terminal}
use Rattle.keys.specs.Keys.{is_known, is_locked_out, lacks_cell, is_not_taken}
use Rattle.terminal.specs.declared.Answer.{Answer}
use Rattle.terminal.specs.declared.Answer.TheVariants.{WrongSize, WrongState, UnknownKey, Locked, NoCell, NotTaken, RequiredBlank}
use Rattle.terminal.specs.Answers.{changes_nothing}
use Rattle.terminal.specs.Tests.{passes_line2, key_refusals, key_lines}
use Rattle.terminal.proofs.Firsts.{First, this, past}
use Rattle.terminal.proofs.Deciding.{is_valid, key_refuses}
use Rattle.terminal.proofs.allows_key.Goals as goal

-- The tests that let the key pass, each with what it leaves to decide.
module _ (t : Terminal) (key : ℕ) (lent : List ℕ) {answer : Answer} where
  past_1 : size_fits t.state.size t.page ≡ true → First (drop 1 (key_lines t key lent)) answer → First (key_lines t key lent) answer
  unfolding key_lines key_refusals
  past_1 fits later = past (ap not fits) later

  past_2 : size_fits t.state.size t.page ≡ true → passes_line2 t ≡ true → First (drop 2 (key_lines t key lent)) answer → First (key_lines t key lent) answer
  unfolding key_lines key_refusals
  past_2 fits valid later = past_1 fits (past (ap not valid) later)

  past_3 : size_fits t.state.size t.page ≡ true → passes_line2 t ≡ true → is_known key ≡ true → First (drop 3 (key_lines t key lent)) answer → First (key_lines t key lent) answer
  unfolding key_lines key_refusals
  past_3 fits valid known later = past_2 fits valid (past (ap not known) later)

  past_4 : size_fits t.state.size t.page ≡ true → passes_line2 t ≡ true → is_known key ≡ true → is_locked_out key t.state ≡ false → First (drop 4 (key_lines t key lent)) answer → First (key_lines t key lent) answer
  unfolding key_lines key_refusals
  past_4 fits valid known unlocked later = past_3 fits valid known (past unlocked later)

  past_5 : size_fits t.state.size t.page ≡ true → passes_line2 t ≡ true → is_known key ≡ true → is_locked_out key t.state ≡ false → lacks_cell key t ≡ false → First (drop 5 (key_lines t key lent)) answer → First (key_lines t key lent) answer
  unfolding key_lines key_refusals
  past_5 fits valid known unlocked has later = past_4 fits valid known unlocked (past has later)

  past_6 : size_fits t.state.size t.page ≡ true → passes_line2 t ≡ true → is_known key ≡ true → is_locked_out key t.state ≡ false → lacks_cell key t ≡ false → is_not_taken key t ≡ false → First (drop 6 (key_lines t key lent)) answer → First (key_lines t key lent) answer
  unfolding key_lines key_refusals
  past_6 fits valid known unlocked has taken later = past_5 fits valid known unlocked has (past taken later)

-- So the first test that holds decides.
pub returns-then-not-fits : goal.returns-then-not-fits
unfolding key_lines key_refusals changes_nothing
returns-then-not-fits c =
    let wrong = sym c.fits.ensures ∙ c.if-not-fits.true in
    λ output. sym (key_refuses _ _ _ WrongSize refl (this (ap not wrong)))

pub returns-then-not-is_valid : goal.returns-then-not-is_valid
unfolding key_lines key_refusals changes_nothing
returns-then-not-is_valid c =
    let fits = sym c.fits.ensures ∙ c.if-not-fits.false in
    let wrong = sym c.is_valid.ensures ∙ c.if-not-is_valid.true in
    λ output. sym (key_refuses _ _ _ WrongState refl (past_1 _ _ _ fits (this (ap not wrong))))

pub returns-then-not-is_known : goal.returns-then-not-is_known
unfolding key_lines key_refusals changes_nothing
returns-then-not-is_known c =
    let fits = sym c.fits.ensures ∙ c.if-not-fits.false in
    let valid = sym c.is_valid.ensures ∙ c.if-not-is_valid.false in
    let unknown = sym c.is_known.ensures ∙ c.if-not-is_known.true in
    λ output. sym (key_refuses _ _ _ UnknownKey refl (past_2 _ _ _ fits valid (this (ap not unknown))))

pub returns-then-is_locked_out : goal.returns-then-is_locked_out
unfolding key_lines key_refusals changes_nothing
returns-then-is_locked_out c =
    let fits = sym c.fits.ensures ∙ c.if-not-fits.false in
    let valid = sym c.is_valid.ensures ∙ c.if-not-is_valid.false in
    let known = sym c.is_known.ensures ∙ c.if-not-is_known.false in
    let locked = sym c.is_locked_out.ensures ∙ c.if-is_locked_out.true in
    λ output. sym (key_refuses _ _ _ Locked refl (past_3 _ _ _ fits valid known (this locked)))

pub lacks_cell-requires : goal.lacks_cell-requires
lacks_cell-requires c =
    is_valid _ (sym c.fits.ensures ∙ c.if-not-fits.false) (sym c.is_valid.ensures ∙ c.if-not-is_valid.false)

pub returns-then-lacks_cell : goal.returns-then-lacks_cell
unfolding key_lines key_refusals changes_nothing
returns-then-lacks_cell c =
    let fits = sym c.fits.ensures ∙ c.if-not-fits.false in
    let valid = sym c.is_valid.ensures ∙ c.if-not-is_valid.false in
    let known = sym c.is_known.ensures ∙ c.if-not-is_known.false in
    let unlocked = sym c.is_locked_out.ensures ∙ c.if-is_locked_out.false in
    let lacks = sym c.lacks_cell.ensures ∙ c.if-lacks_cell.true in
    λ output. sym (key_refuses _ _ _ NoCell refl (past_4 _ _ _ fits valid known unlocked (this lacks)))

pub is_not_taken-requires : goal.is_not_taken-requires
is_not_taken-requires c =
    is_valid _ (sym c.fits.ensures ∙ c.if-not-fits.false) (sym c.is_valid.ensures ∙ c.if-not-is_valid.false)

pub returns-then-is_not_taken : goal.returns-then-is_not_taken
unfolding key_lines key_refusals changes_nothing
returns-then-is_not_taken c =
    let fits = sym c.fits.ensures ∙ c.if-not-fits.false in
    let valid = sym c.is_valid.ensures ∙ c.if-not-is_valid.false in
    let known = sym c.is_known.ensures ∙ c.if-not-is_known.false in
    let unlocked = sym c.is_locked_out.ensures ∙ c.if-is_locked_out.false in
    let has = sym c.lacks_cell.ensures ∙ c.if-lacks_cell.false in
    let not_taken = sym c.is_not_taken.ensures ∙ c.if-is_not_taken.true in
    λ output. sym (key_refuses _ _ _ NotTaken refl (past_5 _ _ _ fits valid known unlocked has (this not_taken)))

pub is_held_back-requires : goal.is_held_back-requires
is_held_back-requires c =
    is_valid _ (sym c.fits.ensures ∙ c.if-not-fits.false) (sym c.is_valid.ensures ∙ c.if-not-is_valid.false)

pub returns-then-is_held_back : goal.returns-then-is_held_back
unfolding key_lines key_refusals changes_nothing
returns-then-is_held_back c =
    let fits = sym c.fits.ensures ∙ c.if-not-fits.false in
    let valid = sym c.is_valid.ensures ∙ c.if-not-is_valid.false in
    let known = sym c.is_known.ensures ∙ c.if-not-is_known.false in
    let unlocked = sym c.is_locked_out.ensures ∙ c.if-is_locked_out.false in
    let has = sym c.lacks_cell.ensures ∙ c.if-lacks_cell.false in
    let taken = sym c.is_not_taken.ensures ∙ c.if-is_not_taken.false in
    let held_back = sym c.is_held_back.ensures ∙ c.if-is_held_back.true in
    λ output. sym (key_refuses _ _ _ RequiredBlank refl (past_6 _ _ _ fits valid known unlocked has taken (this held_back)))

pub returns : goal.returns
returns c =
    record {
      valid = is_valid _ (sym c.fits.ensures ∙ c.if-not-fits.false) (sym c.is_valid.ensures ∙ c.if-not-is_valid.false);
      known = sym c.is_known.ensures ∙ c.if-not-is_known.false;
      not_locked_out = sym c.is_locked_out.ensures ∙ c.if-is_locked_out.false;
      has_cell = sym c.lacks_cell.ensures ∙ c.if-lacks_cell.false;
      taken = sym c.is_not_taken.ensures ∙ c.if-is_not_taken.false;
      not_held_back = sym c.is_held_back.ensures ∙ c.if-is_held_back.false;
    }
