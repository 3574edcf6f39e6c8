-- The page that C lends, its marks two bytes a cell: when it has the size that the state says, and that what is left
-- there is read as the page that an entry left.
use mathlib.Core.Path.{◌≡◌, refl, sym, ap, ◌∙◌}
use mathlib.Core.Bool.{true, false}
use mathlib.Core.List.{List}
use mathlib.Core.Logic.{◌↔◌}
use Prim.Native.Nat.{ℕ, ◌*◌, ◌<◌, ◌≤◌}
use native.Mathlib.Nat.{mul-le-mul}
use native.Mathlib.Omega.{arith}
use borrow.Author.Tests.{eqb-true, eqb-false}
use lib.Dec.{eqb}
use lib.ListN.{length, replicate, length-replicate}
use Rattle.words.specs.Lists.{every}
use Rattle.words.specs.Output.{placed}
use Rattle.words.proofs.Choosing.{both, either_way, not_both, refuted}
use Rattle.words.proofs.Output.{placed-length}
use Rattle.page.specs.Marks.{valid_mark}
use Rattle.page.specs.Page.{Page, page_of, valid_page}
use Rattle.state.specs.declared.Size.{Size}
use Rattle.state.specs.Tests.{size_fits}
use Rattle.state.specs.Lines.{Line1}
use Rattle.state.specs.Lines as Lines
use Rattle.state.proofs.Keeping.{size_bounds}
use Rattle.state.proofs.Lines.{line_1}
use Rattle.steps.specs.Steps.{Terminal, Valid}
use Rattle.steps.proofs.Soundness.{sized, still_fits}
use Rattle.terminal.specs.Answers.{Outcome}
use Rattle.record.specs.Bytes.{number_at, AreBytes}
use Rattle.record.proofs.Reading.{length-each}
use Rattle.panel.specs.Panel.{Lent, marks_said, marks_in, mark_bytes, page_in, left_by}
use Rattle.panel.proofs.Marks.{all_said, some_said, mark_bytes-length, marks_again, marks_back, placed_whole}
use Rattle.promises.specs.Panel.{PanelLine1, rows_not_listed, columns_not_listed, characters_not_as_long, marks_not_twice_as_long}

-- A page of a listed size has cells, and no more than the largest has.
pub record PageFits (size : Size) (page : Page) : Type 0 where
  pub characters : length page.characters ≡ size.rows * size.columns
  pub marks : length page.marks ≡ size.rows * size.columns
  pub some : 0 < size.rows * size.columns
  pub most : size.rows * size.columns ≤ 7680

pub page_fits : (size : Size) (page : Page) → size_fits size page ≡ true → PageFits size page
page_fits size page fits =
    let lengths = sized size page fits in
    let bounds = size_bounds size lengths.listed in
    record {
      characters = lengths.characters;
      marks = lengths.marks;
      some = omega (arith, mul-le-mul bounds.some_rows bounds.some_columns);
      most = omega (arith, mul-le-mul bounds.rows_most bounds.columns_most);
    }

-- Line 1, of what is lent.
module _ (size : Size) (lent : Lent) where
  pub marks_twice : size_fits size (page_in lent) ≡ true → length lent.marks ≡ length lent.characters * 2
  marks_twice fits =
      let page = page_fits size (page_in lent) fits in
      let cells = length lent.characters in
      let as_many = length-each (number_at 2 lent.marks) 2 0 (marks_said cells (length lent.marks)) in
      (some_said cells (length lent.marks) (omega (arith, as_many, page.marks, page.some))).1

  abbrev cells : ℕ
  cells = size.rows * size.columns

  -- A page of the size, whatever is in it: it fails for the size alone.
  abbrev blank : Page
  blank = page_of (replicate cells 0) (replicate cells 0)

  size_fails : Line1 size blank → PanelLine1 size lent
  size_fails (Lines.rows_not_listed a b c) = rows_not_listed a b c
  size_fails (Lines.columns_not_listed a b c) = columns_not_listed a b c
  size_fails (Lines.characters_not_as_long a) = absurd (a (length-replicate cells 0))
  size_fails (Lines.marks_not_as_long a) = absurd (a (length-replicate cells 0))

  as_long_fits : size_fits size blank ≡ true → length lent.characters ≡ cells → length lent.marks ≡ cells * 2 → size_fits size (page_in lent) ≡ true
  as_long_fits listed as_long twice =
      let count = length lent.characters in
      let said : marks_said count (length lent.marks) ≡ count = all_said count (length lent.marks) (omega (arith, as_long, (page_fits size blank listed).most)) (omega (arith, twice, as_long)) in
      still_fits size size blank (page_in lent) listed refl (record {
        characters = as_long ∙ sym (length-replicate cells 0);
        marks = length-each (number_at 2 lent.marks) 2 0 _ ∙ said ∙ as_long ∙ sym (length-replicate cells 0);
      })

  line_holds : size_fits size (page_in lent) ≡ false → PanelLine1 size lent
  line_holds wrong =
      either_way (size_fits size blank)
      (λ listed. either_way (eqb (length lent.characters) cells)
      (λ as_long. either_way (eqb (length lent.marks) (cells * 2))
      (λ twice. absurd (not_both (as_long_fits listed (eqb-true _ _ as_long) (eqb-true _ _ twice)) wrong))
      (λ other. marks_not_twice_as_long (eqb-false _ _ other)))
      (λ other. characters_not_as_long (eqb-false _ _ other)))
      (λ not_listed. size_fails ((line_1 size blank).0 not_listed))

  no_line : size_fits size (page_in lent) ≡ true → PanelLine1 size lent → ⊥
  no_line fits (rows_not_listed a b c) = not_both fits ((line_1 size (page_in lent)).1 (Lines.rows_not_listed a b c))
  no_line fits (columns_not_listed a b c) = not_both fits ((line_1 size (page_in lent)).1 (Lines.columns_not_listed a b c))
  no_line fits (characters_not_as_long a) = a (page_fits size (page_in lent) fits).characters
  no_line fits (marks_not_twice_as_long a) = a (marks_twice fits ∙ ap (λ (n : ℕ). n * 2) (page_fits size (page_in lent) fits).characters)

  pub panel_line_1 : (size_fits size (page_in lent) ≡ false) ↔ PanelLine1 size lent
  panel_line_1 = (line_holds, λ line. refuted _ (λ fits. no_line fits line))

-- The bytes of a valid page's marks are read as these marks.
marks_valid : (page : Page) → valid_page page ≡ true → every valid_mark page.marks ≡ true
unfolding valid_page
marks_valid page valid = (both valid).1

pub page_back : (t : Terminal) → Valid t → page_of t.page.characters (marks_in (length t.page.characters) (mark_bytes t.page.marks)) ≡ t.page
page_back t valid =
    let page = page_fits t.state.size t.page valid.size in
    ap (page_of t.page.characters)
    (marks_back (length t.page.characters) t.page.marks (marks_valid t.page valid.page) (omega (arith, page.characters, page.most)) (page.marks ∙ sym page.characters))

-- What an entry leaves where marks are lent two bytes a cell: the bytes of its marks, and so its page.
module _ (lent : Lent) (outcome : Outcome) (valid : Valid outcome.terminal) (twice : length lent.marks ≡ length outcome.terminal.page.marks * 2) where
  marks_left : placed 0 (mark_bytes outcome.terminal.page.marks) lent.marks ≡ mark_bytes outcome.terminal.page.marks
  marks_left =
      let written = mark_bytes outcome.terminal.page.marks in
      let as_long : length written ≡ length lent.marks = mark_bytes-length outcome.terminal.page.marks ∙ sym twice in
      placed_whole written lent.marks (placed-length 0 written lent.marks (omega (arith, as_long)) ∙ sym as_long)

  pub page_left : page_in (left_by lent outcome).lent ≡ outcome.terminal.page
  page_left =
      ap (λ (marks : List ℕ). page_of outcome.terminal.page.characters (marks_in (length outcome.terminal.page.characters) marks)) marks_left
      ∙ page_back outcome.terminal valid

-- So it is where an entry keeps the size of the page that was lent.
pub same_page_left : (lent : Lent) (size : Size) (outcome : Outcome) → size_fits size (page_in lent) ≡ true → Valid outcome.terminal → outcome.terminal.state.size ≡ size → page_in (left_by lent outcome).lent ≡ outcome.terminal.page
same_page_left lent size outcome fits valid same =
    let is = page_fits outcome.terminal.state.size outcome.terminal.page valid.size in
    let cells = ap (λ (size : Size). size.rows * size.columns) same in
    page_left lent outcome valid (omega (arith, marks_twice size lent fits, (page_fits size (page_in lent) fits).characters, is.marks, cells))

-- The other way: a page that is read so, of valid marks, is left in the bytes of these marks.
pub bytes_left : (t : Terminal) → Valid t → (before characters marks : List ℕ) → page_of characters (marks_in (length characters) marks) ≡ t.page → marks ≡ placed 0 (mark_bytes t.page.marks) before → marks ≡ mark_bytes t.page.marks
bytes_left t valid before characters marks is left =
    let page = page_fits t.state.size t.page valid.size in
    let cells = length characters in
    let as_many = sym (length-each (number_at 2 marks) 2 0 (marks_said cells (length marks))) ∙ ap (λ (p : Page). length p.marks) is in
    let said = some_said cells (length marks) (omega (arith, as_many, page.marks, page.some)) in
    let written = mark_bytes t.page.marks in
    let as_long : length marks ≡ length written = omega (arith, said.0, said.1, as_many, mark_bytes-length t.page.marks) in
    left ∙ placed_whole written before (sym (ap length left) ∙ as_long)

-- The page of bytes that fit is lent again as it was.
pub page_again : (size : Size) (lent : Lent) → size_fits size (page_in lent) ≡ true → AreBytes lent.marks → mark_bytes (page_in lent).marks ≡ lent.marks
page_again size lent fits are =
    let page = page_fits size (page_in lent) fits in
    marks_again (length lent.characters) lent.marks are (omega (arith, page.characters, page.most)) (marks_twice size lent fits)
