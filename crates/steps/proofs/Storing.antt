-- What each operation that stores cells claims: the page stays valid and as large, and only the cells named are
-- touched.
use mathlib.Core.Path.{◌≡◌, refl, sym, ap, ◌∙◌}
use mathlib.Core.Bool.{Bool, true, false, not}
use mathlib.Core.List.{List, [], ◌∷◌, Memᴰ}
use Prim.Native.Nat.{ℕ, ◌-◌, ◌<◌, ◌≤◌}
use native.Mathlib.Omega.{arith}
use borrow.Author.Tests.{leb-true, ltb-true}
use lib.ListN.{length, get_or, set, replicate, length-replicate}
use lib.Seq.{get_or-set_other}
use Rattle.words.specs.Choice.{◌and◌, ◌or◌}
use Rattle.words.specs.Lists.{within, numbers_from}
use Rattle.words.proofs.Choosing.{true_is_not_false, else_case, either_line, either_way, both, both_hold, range_is}
use Rattle.words.proofs.Writing.{each_at, outside_part}
use Rattle.words.proofs.Passing.{every-replicate}
use Rattle.words.proofs.Elements.{place_listed}
use Rattle.page.specs.Marks.{with_modified, valid_character, valid_mark, is_protected, unprotected}
use Rattle.page.specs.Page.{Page, page_of, cells, valid_page, text_stored, typed, erasable, erased, cells_erased, scrolled_up, scrolled_down, part_stored}
use Rattle.page.proofs.Keeping.{no_mark_valid, SameSize, KeepsPart, text_same_size, typed_same_size, erased_same_size, scrolled_up_same_size, scrolled_down_same_size, part_same_size, text_keeps_valid, typed_keeps_valid, erased_keeps_valid, scrolled_up_keeps_valid, scrolled_down_keeps_valid, part_keeps_valid}
use Rattle.page.proofs.Protecting.{typed_protection, untagged, tagged_protection}
use Rattle.steps.specs.Steps.{silent, all_cells}
use Rattle.steps.specs.Claims.{Rising, none, next, mark_left, TouchesOnly, KeepsProtection}
use Rattle.steps.proofs.Naming.{from_earlier, places_rise}

-- Cells were stored; `unlocks` says whether protection may have changed.
pub record Stored (before : Page) (cells : List ℕ) (unlocks : Bool) (after : Page) : Type 0 where
  pub size : SameSize before after
  pub valid : valid_page after ≡ true
  pub touches : TouchesOnly cells silent before after
  pub once : Rising (length before.marks) 0 cells
  pub protection : unlocks ≡ false → KeepsProtection before after

-- A page of 20s with marks 0 is valid.
pub blank_page_valid : (cells marks : ℕ) → valid_page (page_of (replicate cells 0x20) (replicate marks 0)) ≡ true
unfolding valid_page
blank_page_valid cells marks =
    both_hold _ _
    (every-replicate valid_character cells 0x20 (range_is 0x20 0x20 0x7E (omega arith) (omega arith)))
    (every-replicate valid_mark marks 0 no_mark_valid)

module _ (page : Page) (valid : valid_page page ≡ true) where
  -- one cell
  set_touches : (cell character mark : ℕ) → TouchesOnly (cell ∷ []) silent page (page_of (set page.characters cell character) (set page.marks cell mark))
  unfolding mark_left
  set_touches cell character mark other _ unnamed = record {
    character = get_or-set_other page.characters cell other character 0 (λ e. unnamed (Memᴰ.head e));
    mark = get_or-set_other page.marks cell other mark 0 (λ e. unnamed (Memᴰ.head e));
  }

  pub text_stored_lem : (cell character pen : ℕ) → cell < length page.marks → valid_character character ≡ true → valid_mark pen ≡ true → Stored page (cell ∷ []) true (text_stored cell character pen page)
  unfolding text_stored
  text_stored_lem cell character pen here p q = record {
    size = text_same_size page cell character pen;
    valid = text_keeps_valid page valid cell character pen p q;
    touches = set_touches cell character pen;
    once = next {first = 0} cell (omega arith) here none;
    protection = λ e. absurd (true_is_not_false e);
  }

  pub typed_stored : (cell character : ℕ) → cell < length page.marks → valid_character character ≡ true → Stored page (cell ∷ []) false (typed cell character page)
  unfolding typed
  typed_stored cell character here p = record {
    size = typed_same_size page cell character;
    valid = typed_keeps_valid page valid cell character here p;
    touches = set_touches cell character (with_modified (get_or page.marks cell 0));
    once = next {first = 0} cell (omega arith) here none;
    protection = λ _ other _. typed_protection page cell character other;
  }

  module _ (same : length page.marks ≡ cells page) where
    -- all cells
    all_stored : (after : Page) → SameSize page after → valid_page after ≡ true → Stored page (all_cells page) true after
    all_stored after size p = record {
      size = size;
      valid = p;
      touches = λ cell here unnamed. absurd (unnamed (place_listed (λ _. true) cell 0 (cells page) (omega arith) (omega arith) refl));
      once = places_rise (λ _. true) (length page.marks) 0 (cells page) (omega arith);
      protection = λ e. absurd (true_is_not_false e);
    }

    pub blank_stored : Stored page (all_cells page) true (page_of (replicate (length page.characters) 0x20) (replicate (length page.marks) 0))
    blank_stored =
        all_stored (page_of (replicate (length page.characters) 0x20) (replicate (length page.marks) 0))
        (record { characters = length-replicate (length page.characters) 0x20; marks = length-replicate (length page.marks) 0 })
        (blank_page_valid (length page.characters) (length page.marks))

    pub up_stored : (columns : ℕ) → columns ≤ length page.characters → Stored page (all_cells page) true (scrolled_up columns page)
    up_stored columns fits = all_stored (scrolled_up columns page) (scrolled_up_same_size page columns fits same) (scrolled_up_keeps_valid page valid columns)

    pub down_stored : (columns : ℕ) → columns ≤ length page.characters → Stored page (all_cells page) true (scrolled_down columns page)
    down_stored columns fits = all_stored (scrolled_down columns page) (scrolled_down_same_size page columns fits same) (scrolled_down_keeps_valid page valid columns)

    -- a part, by any change that keeps its length and validity
    pub part_stored_lem : {change : List ℕ → List ℕ} → KeepsPart change → (from to : ℕ) → from < to → to ≤ length page.marks → Stored page (numbers_from (λ _. true) from (to - from)) false (part_stored change from to page)
    unfolding mark_left
    part_stored_lem {change} keeps from to some fits = record {
      size = part_same_size page keeps from to some (omega arith);
      valid = part_keeps_valid page valid keeps from to;
      touches = λ cell here unnamed.
          let outside : from ≤ cell → cell < to → ⊥ = λ low high. unnamed (place_listed (λ _. true) cell from (to - from) low (omega arith) refl) in
          record {
            character = outside_part from to change page.characters some keeps.size cell (omega arith) outside;
            mark = untagged from to page.marks cell outside;
          };
      once = from_earlier (omega arith) (places_rise _ _ from (to - from) (omega arith));
      protection = λ _ cell _. tagged_protection from to page.marks cell;
    }

    -- erasing
    module _ (mode : Bool) (from to : ℕ) where
      passed_by : (cell : ℕ) → (Memᴰ cell (cells_erased mode from to page) → ⊥) → (within from to cell and erasable mode page.marks cell) ≡ false
      unfolding cells_erased within
      passed_by cell unnamed =
          either_way (within from to cell and erasable mode page.marks cell)
          (λ t.
          let inside = both (both t).0 in
          let low = leb-true from cell inside.0 in
          let high = ltb-true cell to inside.1 in
          absurd (unnamed (place_listed (erasable mode page.marks) cell from (to - from) low (omega arith) (both t).1)))
          (λ f. f)

      erasing_touches : TouchesOnly (cells_erased mode from to page) silent page (erased mode from to page)
      unfolding erased mark_left
      erasing_touches cell here unnamed = record {
        character = each_at _ page.characters cell (omega arith) ∙ else_case _ _ _ (passed_by cell unnamed);
        mark = each_at _ page.marks cell here ∙ else_case _ _ _ (passed_by cell unnamed);
      }

      erasing_protects : mode ≡ false → KeepsProtection page (erased mode from to page)
      unfolding erased unprotected erasable ◌or◌
      erasing_protects reset cell here =
          ap (λ (mark : ℕ). not (is_protected mark)) (each_at _ page.marks cell here)
          ∙ either_line (λ (mark : ℕ). not (is_protected mark) ≡ unprotected page.marks cell) _ _ _
          (λ t. sym (ap (λ (m : Bool). erasable m page.marks cell) (sym reset) ∙ (both t).1))
          (λ _. refl)

      pub erasing_stored : from ≤ to → to ≤ length page.marks → Stored page (cells_erased mode from to page) mode (erased mode from to page)
      unfolding cells_erased
      erasing_stored h fits = record {
        size = erased_same_size page mode from to;
        valid = erased_keeps_valid page valid mode from to;
        touches = erasing_touches;
        once = from_earlier (omega arith) (places_rise _ _ from (to - from) (omega arith));
        protection = erasing_protects;
      }
