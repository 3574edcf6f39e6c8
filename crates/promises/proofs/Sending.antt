-- What every block leaves, how long it is, and that a call stopped for room has sent something: by the laws alone.
use mathlib.Core.Path.{◌≡◌, refl, sym, ap, ◌∙◌}
use mathlib.Core.Bool.{Bool, true, false}
use mathlib.Core.List.Memᴰ
use mathlib.Core.List.{List, [], ◌∷◌, ◌++◌}
use Prim.Native.Nat.{ℕ, ◌≤◌}
use native.Mathlib.Omega.{arith}
use lib.ListN.{length, get_or, get_or-eq_default}
use Rattle.words.specs.Choice.{If◌then◌else◌}
use Rattle.words.proofs.Choosing.{less_or_not}
use Rattle.page.specs.Marks.{is_modified}
use Rattle.page.specs.Page.{cells, mark_after_block}
use Rattle.steps.specs.Steps.{Terminal, Transmission, bytes_of, block_transmission, Stepped, Valid}
use Rattle.steps.specs.Claims.{mark_left, TouchesOnly}
use Rattle.steps.proofs.Measuring.{measured}
use Rattle.steps.proofs.Writing.{block-bytes}
use Rattle.promises.specs.Rules.{Rules, Input, step_of, steps}
use Rattle.promises.specs.Entries.{Entries}
use Rattle.promises.specs.Further.{BlocksKeep, Bounded, Progress}
use Rattle.promises.proofs.Laws.{BlockOfPage, StepLaw, StepLaws, Keeps}
use Rattle.promises.proofs.Keeping.{leaves, same_size, protected_kept, nothing_modified}
use Rattle.promises.proofs.Doing.{host_valid}

-- A block of either kind.
is_block : (t : Terminal) (step : Stepped) → StepLaw t step → (full : Bool) (bytes : List ℕ) → step.transmission ≡ block_transmission full bytes → BlockOfPage full t step bytes
unfolding block_transmission
is_block t step law true bytes sends = law.by_full_block bytes sends
is_block t step law false bytes sends = law.by_changed_block bytes sends

block_clears : (full : Bool) (bytes : List ℕ) (mark : ℕ) → mark_left (block_transmission full bytes) mark ≡ mark_after_block mark
unfolding block_transmission mark_left
block_clears true bytes mark = refl
block_clears false bytes mark = refl

-- Past the page there is no cell: its character and its mark are told as 0.
past_alike : (after before : List ℕ) (cell : ℕ) → length after ≤ cell → length before ≤ cell → get_or after cell 0 ≡ get_or before cell 0
past_alike after before cell past past-too = get_or-eq_default after 0 past ∙ sym (get_or-eq_default before 0 past-too)

past_unmarked : (after before : List ℕ) (cell : ℕ) → length after ≤ cell → length before ≤ cell → get_or after cell 0 ≡ mark_after_block (get_or before cell 0)
unfolding mark_after_block If◌then◌else◌
past_unmarked after before cell past past-too = get_or-eq_default after 0 past ∙ sym (ap mark_after_block (get_or-eq_default before 0 past-too))

-- Of a run: how many bytes the first step sends (0 where there is none), and the other steps.
unfoldable first_sent : List Stepped → ℕ
first_sent [] = 0
first_sent (step ∷ later) = length (bytes_of step.transmission)

unfoldable others : List Stepped → List Stepped
others [] = []
others (step ∷ later) = later

module _ (rules : Rules) (laws : StepLaws rules) where
  pub blocks_keep_of : BlocksKeep rules
  blocks_keep_of t valid asks full bytes sends =
      let step = step_of rules asks t in
      let law = laws.every_step asks t valid in
      let sent = is_block t step law full bytes sends in
      let touches : TouchesOnly [] step.transmission t.page step.terminal.page = rw sent.no_cell at law.touches in
      let same = same_size t valid step law in
      let clears : (mark : ℕ) → mark_left step.transmission mark ≡ mark_after_block mark = λ mark. leaves step sends mark ∙ block_clears full bytes mark in
      let as_many = (measured valid).as_many in
      record {
        characters = λ cell.
            less_or_not cell (length t.page.marks)
            (λ here. (touches cell here Memᴰ.not-nil).character)
            (λ past. past_alike step.terminal.page.characters t.page.characters cell (omega (arith, same.characters, as_many)) (omega (arith, as_many)));
        marks = λ cell.
            less_or_not cell (length t.page.marks)
            (λ here. (touches cell here Memᴰ.not-nil).mark ∙ clears (get_or t.page.marks cell 0))
            (λ past. past_unmarked step.terminal.page.marks t.page.marks cell (omega (arith, same.marks)) past);
        none_modified = λ cell is_unprotected.
            less_or_not cell (cells step.terminal.page)
            (λ here. nothing_modified t valid step law sent.no_cell clears cell here is_unprotected)
            (λ past. ap is_modified (get_or-eq_default step.terminal.page.marks 0 (omega (arith, (measured law.valid).as_many))));
        protected_cells = λ cell protected. protected_kept t valid step law cell protected (rw sent.no_cell Memᴰ.not-nil);
      }

  pub bounded_of : Bounded rules
  bounded_of t valid input full bytes sends =
      let short = (laws.every_step input t valid).short in
      omega (arith, short, ap (λ (transmission : Transmission). length (bytes_of transmission)) sends, ap (length {A = ℕ}) (block-bytes full bytes))

  -- Every step of a run is short.
  all_short : (t : Terminal) → Valid t → (inputs : List Input) (before : List Stepped) (next : Stepped) (later : List Stepped) → steps rules t inputs ≡ before ++ (next ∷ later) → length (bytes_of next.transmission) ≤ 35138
  unfolding steps first_sent others
  all_short t valid [] [] next later are = omega (arith, ap first_sent are)
  all_short t valid [] (first ∷ before) next later are = absurd (omega (arith, ap (length {A = Stepped}) are))
  all_short t valid (input ∷ inputs) [] next later are =
      omega (arith, (laws.every_step input t valid).short, ap first_sent are)
  all_short t valid (input ∷ inputs) (first ∷ before) next later are =
      all_short (step_of rules input t).terminal (laws.every_step input t valid).valid inputs before next later (ap others are)

  pub progress_of : (entries : Entries) → Keeps rules entries → Progress entries
  progress_of entries kept t bytes lent room three =
      let stopped = kept.refusals.of_host_3 t bytes lent three in
      let line = stopped.0 in
      let valid = host_valid rules entries kept t bytes lent (λ e. omega (arith, three, e)) (λ e. omega (arith, three, e)) in
      let short = all_short t valid _ line.before line.next line.later line.are in
      omega (arith, room, short, line.exceeds, stopped.1.sent)
