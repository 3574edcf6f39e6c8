use mathlib.Core.Path.{refl, sym, ap, ◌∙◌}
use mathlib.Core.Bool.{not}
use borrow.Author.Tests.{lt-ltb}
use Rattle.terminal.specs.declared.Answer.TheVariants.{WrongSize, WrongState, TooLong}
use Rattle.terminal.specs.Answers.{changes_nothing}
use Rattle.terminal.specs.Tests.{host_refusals, host_lines}
use Rattle.terminal.proofs.Firsts.{this, past}
use Rattle.terminal.proofs.Deciding.{is_valid, host_refuses}
use Rattle.terminal.proofs.allows_bytes.Goals as goal

pub returns-then-not-fits : goal.returns-then-not-fits
unfolding host_lines host_refusals changes_nothing
returns-then-not-fits c =
    let wrong = sym c.fits.ensures ∙ c.if-not-fits.true in
    λ output. sym (host_refuses _ _ _ WrongSize refl (this (ap not wrong)))

pub returns-then-not-is_valid : goal.returns-then-not-is_valid
unfolding host_lines host_refusals changes_nothing
returns-then-not-is_valid c =
    let size = sym c.fits.ensures ∙ c.if-not-fits.false in
    let wrong = sym c.is_valid.ensures ∙ c.if-not-is_valid.true in
    λ output. sym (host_refuses _ _ _ WrongState refl (past (ap not size) (this (ap not wrong))))

pub returns-then-bytes-gt65536 : goal.returns-then-bytes-gt65536
unfolding host_lines host_refusals changes_nothing
returns-then-bytes-gt65536 c =
    let size = sym c.fits.ensures ∙ c.if-not-fits.false in
    let valid = sym c.is_valid.ensures ∙ c.if-not-is_valid.false in
    λ output. sym (host_refuses _ _ _ TooLong refl (past (ap not size) (past (ap not valid) (this (lt-ltb _ _ c.if-bytes-gt65536.true)))))

pub returns : goal.returns
returns c = let size = sym c.fits.ensures ∙ c.if-not-fits.false in (is_valid _ size (sym c.is_valid.ensures ∙ c.if-not-is_valid.false), c.if-bytes-gt65536.false)
