-- Laws of start calls: what the lent cells held makes no difference.
use mathlib.Core.Path.{◌≡◌, refl, sym, ap, ◌∙◌, subst}
use mathlib.Core.Bool.{true, false}
use lib.Dec.{eqb}
use Rattle.std.specs.Bool.{then_some}
use Rattle.std.specs.Prelude.{Option, Some, None}
use Rattle.frames.specs.declared.Held.{Held}
use mathlib.Core.List.{List, [], ◌++◌}
use Prim.Native.Nat.{ℕ, ◌*◌, ◌≤◌, min}
use native.Mathlib.Nat.{mul-le-mul_right}
use native.Mathlib.Omega.{arith}
use borrow.Author.Tests.{eq-eqb, ne_eqb}
use lib.ListN.{length, take, drop, replicate, length-replicate, take-append-drop}
use lib.Seq.{length-take-le}
use Rattle.words.specs.Choice.{If◌then◌else◌}
use Rattle.words.specs.Output.{placed, Wrote}
use Rattle.words.proofs.Choosing.{either_way, both_hold, first_fails}
use Rattle.words.proofs.Output.{wrote_none}
use Rattle.page.specs.Page.{Page, page_of}
use Rattle.state.specs.declared.Size.{Size}
use Rattle.state.specs.State.{fresh_state}
use Rattle.state.specs.Tests.{listed_size, size_fits}
use Rattle.state.proofs.Keeping.{size_bounds}
use Rattle.commands.proofs.Laws.{erased_is_fresh}
use Rattle.terminal.specs.declared.Answer.TheVariants.{WrongSize}
use Rattle.terminal.specs.declared.Reply.{Reply}
use Rattle.terminal.specs.Answers.{Outcome, number_of, given, unchanged, bytes_sent}
use Rattle.terminal.specs.Calls.{start_call, unstarted}
use Rattle.terminal.proofs.Deciding.{start_wrong_size, start_leaves}
use Rattle.frames.specs.Frames.{start}
use Rattle.frames.specs.Printing.{printed}
use Rattle.frames.specs.Sessions.{Session, session, lent_page, started, call_of}
use Rattle.frames.specs.Held.{kept, characters_of, marks_of, session_in, Lent, lent, Enough, CallDone}
use Rattle.frames.proofs.Lending.{placed_front, held_again}
use Rattle.frames.proofs.Calling.{printed_same}
use Rattle.frames.proofs.Answering.{none_in, did_as}

-- Lent pages that are R x C long where the size is listed: the size alone decides.
pub record Sizes (size : Size) (page : Page) : Type 0 where
  pub characters : listed_size size ≡ true → length page.characters ≡ size.rows * size.columns
  pub marks : listed_size size ≡ true → length page.marks ≡ size.rows * size.columns

fits_as_listed : (size : Size) (page : Page) → Sizes size page → size_fits size page ≡ listed_size size
unfolding size_fits
fits_as_listed size page sizes =
    either_way (listed_size size)
    (λ listed. both_hold _ _ listed (both_hold _ _ (eq-eqb _ _ (sizes.characters listed)) (eq-eqb _ _ (sizes.marks listed))) ∙ sym listed)
    (λ unlisted. first_fails _ _ unlisted ∙ sym unlisted)

-- A good start is the same whatever the cells held; a refused one leaves them.
abbrev pub fresh : Size → Outcome
fresh size =
    record {
      number = 0;
      taken = 0;
      sent = 0;
      stored = size.rows * size.columns;
      refused = 0;
      protection = true;
      terminal = record { state = fresh_state size; page = page_of (replicate (size.rows * size.columns) 0x20) (replicate (size.rows * size.columns) 0) };
      output = [];
    }

module _ (size : Size) (page : Page) (sizes : Sizes size page) where
  pub good_start : listed_size size ≡ true → start_call size page ≡ fresh size
  unfolding number_of
  good_start listed =
      let fits = fits_as_listed size page sizes ∙ listed in
      let characters = sizes.characters listed in
      let marks = sizes.marks listed in
      start_leaves size page fits
      ∙ (λ i. record {
        number = 0;
        taken = 0;
        sent = 0;
        stored = characters i;
        refused = 0;
        protection = true;
        terminal = record { state = fresh_state size; page = (erased_is_fresh page (marks ∙ sym characters) ∙ (λ j. page_of (replicate (characters j) 0x20) (replicate (marks j) 0))) i };
        output = [];
      })

  pub refused_start : listed_size size ≡ false → start_call size page ≡ unchanged WrongSize (unstarted page) []
  refused_start unlisted = start_wrong_size size page (fits_as_listed size page sizes ∙ unlisted)

pub start_sends_nothing : (size : Size) (page : Page) → (start_call size page).sent ≡ 0
unfolding unchanged
start_sends_nothing size page =
    either_way (size_fits size page)
    (λ fits. ap (λ (o : Outcome). o.sent) (start_leaves size page fits))
    (λ wrong. ap (λ (o : Outcome). o.sent) (start_wrong_size size page wrong))

-- The page that the definition lends, and the parts that the code lends.
pub lent_sizes : (rows columns : ℕ) → Sizes (record { rows = rows; columns = columns }) (lent_page rows columns)
lent_sizes rows columns = record { characters = λ _. length-replicate (rows * columns) 0; marks = λ _. length-replicate (rows * columns) 0 }

listed_few : (rows columns : ℕ) → listed_size (record { rows = rows; columns = columns }) ≡ true → rows * columns ≤ 7680
listed_few rows columns listed =
    let bounds = size_bounds (record { rows = rows; columns = columns }) listed in
    let fewer = mul-le-mul_right columns bounds.rows_most in
    omega (arith, bounds.columns_most)

part_sizes : (rows columns cells : ℕ) (characters marks : List ℕ) → length characters ≡ 7680 → length marks ≡ 7680 → cells ≡ min (rows * columns) 7680 → Sizes (record { rows = rows; columns = columns }) (page_of (take cells characters) (take cells marks))
part_sizes rows columns cells characters marks long as_long is =
    record {
      characters = λ listed. let few = listed_few rows columns listed in length-take-le cells characters (omega arith) ∙ omega arith;
      marks = λ listed. let few = listed_few rows columns listed in length-take-le cells marks (omega arith) ∙ omega arith;
    }

-- What the code leaves of a start call is what the definition's call leaves.
module _ (rows columns cells from end : ℕ) (before : Lent) (enough : Enough before) (cells_are : cells ≡ min (rows * columns) 7680) (reply : Reply) (characters marks text : List ℕ)
    (is : given reply (page_of characters marks) [] ≡ start_call (record { rows = rows; columns = columns }) (page_of (take cells before.characters) (take cells before.marks)))
    (wrote : (page : Page) → Wrote 0 (printed (given reply page before.out)) before.text end text) (s : Session) where
  abbrev size : Size
  size = record { rows = rows; columns = columns }

  sizes : Sizes size (page_of (take cells before.characters) (take cells before.marks))
  sizes = part_sizes rows columns cells before.characters before.marks enough.characters enough.marks cells_are

  abbrev whole : Lent
  whole = lent (characters ++ drop cells before.characters) (marks ++ drop cells before.marks) before.out text

  -- The line that the code printed is that of an outcome that tells the same and sends nothing.
  line_of : (one : Outcome) → number_of reply.answer ≡ one.number → reply.state ≡ one.terminal.state → reply.stored ≡ one.stored → reply.sent ≡ 0 → bytes_sent one ≡ [] → Wrote 0 (printed one) before.text end text
  line_of one number state stored sent none =
      subst (λ (bytes : List ℕ). Wrote 0 bytes before.text end text)
      (printed_same (given reply (page_of [] []) before.out) one number state stored (ap (λ (n : ℕ). take n before.out) sent ∙ sym none))
      (wrote (page_of [] []))

  good_did : listed_size size ≡ true → CallDone (started (fresh size)) from before (record { held = Some (record { cells = cells; state = reply.state }); end = end; from = from; rest = None }) whole
  unfolding started kept characters_of marks_of If◌then◌else◌
  good_did listed =
      let told = is ∙ good_start size _ sizes listed in
      let few = listed_few rows columns listed in
      let all : cells ≡ rows * columns = omega arith in
      let characters-are = ap (λ (o : Outcome). o.terminal.page.characters) told in
      let marks-are = ap (λ (o : Outcome). o.terminal.page.marks) told in
      let long : length {A = ℕ} (replicate (rows * columns) 0x20) ≡ rows * columns = length-replicate (rows * columns) 0x20 in
      let marks-long : length {A = ℕ} (replicate (rows * columns) 0) ≡ rows * columns = length-replicate (rows * columns) 0 in
      let held : Some (record { cells = cells; state = reply.state }) ≡ kept (session (fresh size).terminal) =
      λ i. Some (record { cells = (all ∙ sym long) i; state = ap (λ (o : Outcome). o.terminal.state) told i }) in
      let all-characters = placed_front characters before.characters cells (ap (length {A = ℕ}) characters-are ∙ long ∙ sym all) ∙ ap (λ (l : List ℕ). placed 0 l before.characters) characters-are in
      let all-marks = placed_front marks before.marks cells (ap (length {A = ℕ}) marks-are ∙ marks-long ∙ sym all) ∙ ap (λ (l : List ℕ). placed 0 l before.marks) marks-are in
      record {
        held = held;
        characters = all-characters;
        marks = all-marks;
        out = (wrote_none 0 before.out).left;
        text = line_of (fresh size) (ap (λ (o : Outcome). o.number) told) (ap (λ (o : Outcome). o.terminal.state) told) (ap (λ (o : Outcome). o.stored) told) (ap (λ (o : Outcome). o.sent) told) refl;
        from_on = omega arith;
        rest = refl;
        going = (λ i. session_in (held i) (all-characters i) (all-marks i)) ∙ held_again (fresh size).terminal before.characters before.marks (marks-long ∙ sym long);
      }

  refused_did : listed_size size ≡ false → CallDone (started (unchanged WrongSize (unstarted (lent_page rows columns)) [])) from before (record { held = None; end = end; from = from; rest = None }) whole
  unfolding started kept characters_of marks_of If◌then◌else◌ unchanged number_of
  refused_did unlisted =
      let told = is ∙ refused_start size _ sizes unlisted in
      let characters-are = ap (λ (o : Outcome). o.terminal.page.characters) told in
      let marks-are = ap (λ (o : Outcome). o.terminal.page.marks) told in
      record {
        held = refl;
        characters = ap (λ (l : List ℕ). l ++ drop cells before.characters) characters-are ∙ take-append-drop cells before.characters ∙ (wrote_none 0 before.characters).left;
        marks = ap (λ (l : List ℕ). l ++ drop cells before.marks) marks-are ∙ take-append-drop cells before.marks ∙ (wrote_none 0 before.marks).left;
        out = (wrote_none 0 before.out).left;
        text = line_of (unchanged WrongSize (unstarted (lent_page rows columns)) []) (ap (λ (o : Outcome). o.number) told) (ap (λ (o : Outcome). o.terminal.state) told) (ap (λ (o : Outcome). o.stored) told) (ap (λ (o : Outcome). o.sent) told) refl;
        from_on = omega arith;
        rest = refl;
        going = none_in _ _ refl;
      }

  good_number : listed_size size ≡ true → number_of reply.answer ≡ 0
  good_number listed = ap (λ (o : Outcome). o.number) (is ∙ good_start size _ sizes listed)

  refused_number : listed_size size ≡ false → number_of reply.answer ≡ 1
  unfolding unchanged number_of
  refused_number unlisted = ap (λ (o : Outcome). o.number) (is ∙ refused_start size _ sizes unlisted)

  pub start_did : {held : Option Held} → held ≡ then_some (eqb (number_of reply.answer) 0) (record { cells = cells; state = reply.state }) → CallDone (call_of (start rows columns) s) from before (record { held = held; end = end; from = from; rest = None }) whole
  unfolding call_of
  start_did held_is =
      rw held_is
      (either_way (listed_size size)
      (λ listed. rw (good_number listed) (did_as (ap started (good_start size (lent_page rows columns) (lent_sizes rows columns) listed)) (good_did listed)))
      (λ unlisted. rw (refused_number unlisted) (did_as (ap started (refused_start size (lent_page rows columns) (lent_sizes rows columns) unlisted)) (refused_did unlisted))))

  -- The same, of a start that was answered 0, and of one that was not.
  pub started_well : number_of reply.answer ≡ 0 → CallDone (call_of (start rows columns) s) from before (record { held = Some (record { cells = cells; state = reply.state }); end = end; from = from; rest = None }) whole
  started_well good = start_did (rw good refl)

  pub started_badly : (number_of reply.answer ≡ 0 → ⊥) → CallDone (call_of (start rows columns) s) from before (record { held = None; end = end; from = from; rest = None }) whole
  started_badly bad = start_did (rw (ne_eqb _ _ bad) refl)
