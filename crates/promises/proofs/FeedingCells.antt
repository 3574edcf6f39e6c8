-- What bytes store of a sender's page: some cells get its characters, and the others stay as they are.
use mathlib.Core.Path.{◌≡◌, refl, sym, ap, ◌∙◌, subst}
use mathlib.Core.Bool.{true, false}
use mathlib.Core.List.{List, ◌++◌}
use mathlib.Core.Logic.{◌⊎◌, ⊎_elim}
use Prim.Native.Nat.{ℕ, ◌*◌}
use lib.ListN.{length, get_or}
use Rattle.sequence.specs.Record.{nothing_read}
use Rattle.page.specs.Marks.{is_protected, unprotected}
use Rattle.page.specs.Page.{Page}
use Rattle.state.specs.declared.Size.{Size}
use Rattle.steps.specs.Steps.{Terminal, Valid}
use Rattle.steps.proofs.Soundness.{sized}
use Rattle.promises.proofs.FeedingRuns.{Leads, leads_then, leads_validly, leads_sized}

-- A cell has the sender's character and is unprotected; a cell keeps its character and mark.
pub record Filled (sender page : Page) (cell : ℕ) : Type 0 where
  pub character : get_or page.characters cell 0 ≡ get_or sender.characters cell 0
  pub cell_unprotected : unprotected page.marks cell ≡ true

pub record Kept (before after : Page) (cell : ℕ) : Type 0 where
  pub character : get_or after.characters cell 0 ≡ get_or before.characters cell 0
  pub mark : get_or after.marks cell 0 ≡ get_or before.marks cell 0

-- A terminal that can be fed: valid, of the sender's size, with nothing half read and an unprotected pen.
pub record Ready (sender t : Terminal) : Type 0 where
  pub valid : Valid t
  pub size : t.state.size ≡ sender.state.size
  pub nothing_half_read : t.state.half ≡ nothing_read
  pub unprotected_pen : is_protected t.state.modes.pen ≡ false

-- The bytes lead quietly to `end`: there each cell that they feed is filled, each that was filled is so still, and all
-- others are kept.
pub record Feeds (sender t : Terminal) (bytes : List ℕ) (end : Terminal) (Fed : ℕ → Type 0) : Type 0 where
  pub leads : Leads t bytes end
  pub nothing_half_read : end.state.half ≡ nothing_read
  pub same_pen : end.state.modes.pen ≡ t.state.modes.pen
  pub fills : (cell : ℕ) → Fed cell → Filled sender.page end.page cell
  pub stays_filled : (cell : ℕ) → Filled sender.page t.page cell → Filled sender.page end.page cell
  pub keeps : (cell : ℕ) → (Fed cell → ⊥) → Kept t.page end.page cell

pub ready_again : {sender t end : Terminal} {bytes : List ℕ} {Fed : ℕ → Type 0} → Ready sender t → Feeds sender t bytes end Fed → Ready sender end
ready_again ready feeds =
    record {
      valid = leads_validly feeds.leads ready.valid;
      size = leads_sized feeds.leads ready.valid ∙ ready.size;
      nothing_half_read = feeds.nothing_half_read;
      unprotected_pen = ap is_protected feeds.same_pen ∙ ready.unprotected_pen;
    }

-- Its page has as many cells as the sender's.
pub same_lengths : {sender t : Terminal} → Valid sender → Ready sender t → (length t.page.marks ≡ length sender.page.marks) × (length t.page.characters ≡ length sender.page.characters)
same_lengths {sender} {t} valid ready =
    let mine = sized t.state.size t.page ready.valid.size in
    let theirs = sized sender.state.size sender.page valid.size in
    let cells = ap (λ (size : Size). size.rows * size.columns) ready.size in
    (mine.marks ∙ cells ∙ sym theirs.marks, mine.characters ∙ cells ∙ sym theirs.characters)

-- Bytes that leave the page.
pub feeds_none : {sender t end : Terminal} {bytes : List ℕ} {Fed : ℕ → Type 0} → Leads t bytes end → end.state.half ≡ nothing_read → end.state.modes.pen ≡ t.state.modes.pen → end.page ≡ t.page → ((cell : ℕ) → Fed cell → ⊥) → Feeds sender t bytes end Fed
feeds_none {sender} {t} leads nothing pen same none =
    record {
      leads = leads;
      nothing_half_read = nothing;
      same_pen = pen;
      fills = λ cell fed. absurd (none cell fed);
      stays_filled = λ cell. subst (λ (page : Page). Filled sender.page page cell) (sym same);
      keeps = λ cell _. subst (λ (page : Page). Kept t.page page cell) (sym same) (record { character = refl; mark = refl });
    }

-- Bytes after bytes.
pub feeds_then : {sender t between end : Terminal} {one other : List ℕ} {First Second Fed : ℕ → Type 0}
    → Feeds sender t one between First → Feeds sender between other end Second
    → ((cell : ℕ) → Fed cell → First cell ⊎ Second cell) → ((cell : ℕ) → First cell → Fed cell) → ((cell : ℕ) → Second cell → Fed cell)
    → Feeds sender t (one ++ other) end Fed
feeds_then a b either first second =
    record {
      leads = leads_then a.leads b.leads;
      nothing_half_read = b.nothing_half_read;
      same_pen = b.same_pen ∙ a.same_pen;
      fills = λ cell fed. ⊎_elim (λ f. b.stays_filled cell (a.fills cell f)) (b.fills cell) (either cell fed);
      stays_filled = λ cell filled. b.stays_filled cell (a.stays_filled cell filled);
      keeps = λ cell unfed.
          let before = a.keeps cell (λ f. unfed (first cell f)) in
          let after = b.keeps cell (λ s. unfed (second cell s)) in
          record { character = after.character ∙ before.character; mark = after.mark ∙ before.mark };
    }
