use mathlib.Core.Path.{sym, ◌∙◌}
use mathlib.Core.Bool.{true}
use mathlib.Core.List.{[]}
use native.Mathlib.Omega.{arith}
use Rattle.page.specs.Page.{page_of, cells}
use Rattle.steps.proofs.Soundness.{sized}
use Rattle.terminal.specs.declared.Answer.TheVariants.{WrongSize, Done}
use Rattle.terminal.specs.Answers.{number_of, unchanged}
use Rattle.terminal.proofs.Deciding.{start_wrong_size, start_leaves}
use Rattle.terminal.proofs.start.Goals as goal

pub returns-then-not-fits : goal.returns-then-not-fits
returns-then-not-fits c =
    let page = page_of c.args.characters.now c.args.marks.now in
    let wrong = sym c.fits.ensures ∙ c.if-not-fits.true in
    c.refuse_call.ensures page []
    ∙ (λ i. unchanged WrongSize (record { state = c.zero.ensures i; page = page }) [])
    ∙ sym (start_wrong_size _ page wrong)

pub erase-requires : goal.erase-requires
erase-requires c =
    let fits = sym c.fits.ensures ∙ c.if-not-fits.false in
    let lengths = sized _ (page_of c.args.characters.now c.args.marks.now) fits in
    (omega arith, omega (arith, lengths.marks, lengths.characters), lengths.marks ∙ sym lengths.characters)

pub returns : goal.returns
returns c =
    let page = page_of c.args.characters.now c.args.marks.now in
    let fits = sym c.fits.ensures ∙ c.if-not-fits.false in
    (λ i. record {
      number = number_of Done;
      taken = 0;
      sent = 0;
      stored = cells page;
      refused = 0;
      protection = true;
      terminal = record { state = c.fresh.ensures i; page = c.erase.ensures.page i };
      output = [];
    })
    ∙ sym (start_leaves _ page fits)
