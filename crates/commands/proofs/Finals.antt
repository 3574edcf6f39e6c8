-- Which line of the table a final byte comes to.
use mathlib.Core.Path.{◌≡◌, sym, ap, ◌∙◌}
use mathlib.Core.Bool.{true, false}
use mathlib.Core.List.{List}
use Prim.Native.Nat.{ℕ, ◌+◌, ◌<◌, ◌≤◌, min}
use borrow.Author.Tests.{eq-eqb, ne_eqb, lt-ltb, le-ltb}
use lib.Dec.{ltb, eqb}
use lib.ListN.{length, take}
use Rattle.std.proofs.lemmas.List.{take_min}
use Rattle.words.specs.Choice.{If◌then◌else◌, ◌and◌, ◌or◌, ◌is◌to◌}
use Rattle.words.proofs.Choosing.{then_case, else_case}
use Rattle.sequence.specs.declared.HalfRead.{HalfRead}
use Rattle.page.specs.Page.{cells}
use Rattle.sequence.specs.declared.Reason.TheVariants.{UnknownCommand, WrongArguments}
use Rattle.state.specs.Tabs.{tabbed_on, tabbed_back}
use Rattle.steps.specs.Steps.{Terminal, goes_to, refusing, row_start}
use Rattle.table.specs.Table.{allowed, value_of}
use Rattle.table.specs.Moves.{is_move, move_step}
use Rattle.table.specs.Settings.{tab_control, area_qualified, rendition, set_mode}
use Rattle.commands.specs.Commands.{erase_part, listed_step, bracket_step}
use Rattle.sending.specs.Sending.{status_report}

-- The table doesn't list the command, or refuses it, or lets it pass.
module _ (final : ℕ) (half : HalfRead) (t : Terminal) (most : ℕ) (asked : most ≡ (allowed final).most) where
  pub not_listed : most ≡ 0 → bracket_step final half t ≡ refusing UnknownCommand final t
  unfolding bracket_step
  not_listed none = then_case _ _ _ (eq-eqb _ _ (sym asked ∙ none))

  module _ (some : most ≡ 0 → ⊥) where
    listed : eqb (allowed final).most 0 ≡ false
    listed = ne_eqb _ _ (λ none. some (asked ∙ none))

    pub too_many : most < half.count → bracket_step final half t ≡ refusing WrongArguments final t
    unfolding bracket_step
    too_many more = else_case _ _ _ listed ∙ then_case _ _ _ (ap (λ (m : ℕ). ltb m half.count) (sym asked) ∙ lt-ltb _ _ more)

    pub not_too_many : half.count ≤ most → bracket_step final half t ≡ listed_step final half.arguments half.count t
    unfolding bracket_step
    not_too_many few = else_case _ _ _ listed ∙ else_case _ _ _ (ap (λ (m : ℕ). ltb m half.count) (sym asked) ∙ le-ltb _ _ few)

-- As many arguments as the record counts, or all.
pub as_many_arguments : (count size n : ℕ) (arguments : List ℕ) → length arguments ≡ size → n ≡ min count size → take n arguments ≡ take count arguments
as_many_arguments count size n arguments long few = ap (λ (m : ℕ). take m arguments) (few ∙ ap (min count) (sym long)) ∙ take_min count arguments

-- By final byte.
module _ (final what : ℕ) (arguments : List ℕ) (count : ℕ) (t : Terminal) (given : what ≡ value_of final arguments 0) where
  pub final_I : final ≡ 0x49 → listed_step final arguments count t ≡ goes_to (tabbed_on what t.state) t
  unfolding listed_step is_move move_step If◌then◌else◌ ◌and◌ ◌or◌ ◌is◌to◌
  final_I e = rw (given, e)

  pub final_Z : final ≡ 0x5A → listed_step final arguments count t ≡ goes_to (tabbed_back what t.state) t
  unfolding listed_step is_move move_step If◌then◌else◌ ◌and◌ ◌or◌ ◌is◌to◌
  final_Z e = rw (given, e)

  pub final_W : final ≡ 0x57 → listed_step final arguments count t ≡ tab_control final what t
  unfolding listed_step is_move If◌then◌else◌ ◌and◌ ◌or◌ ◌is◌to◌
  final_W e = rw (given, e)

  pub final_J : final ≡ 0x4A → listed_step final arguments count t ≡ erase_part final what 0 (cells t.page) t
  unfolding listed_step is_move If◌then◌else◌ ◌and◌ ◌or◌ ◌is◌to◌
  final_J e = rw (given, e)

  pub final_K : final ≡ 0x4B → listed_step final arguments count t ≡ erase_part final what (row_start t.state) (row_start t.state + t.state.size.columns) t
  unfolding listed_step is_move If◌then◌else◌ ◌and◌ ◌or◌ ◌is◌to◌
  final_K e = rw (given, e)

  pub final_o : final ≡ 0x6F → listed_step final arguments count t ≡ area_qualified final what t
  unfolding listed_step is_move If◌then◌else◌ ◌and◌ ◌or◌ ◌is◌to◌
  final_o e = rw (given, e)

  -- No other line is left for a final byte that is none of the listed ones but n.
  pub final_n : is_move final ≡ false → (final ≡ 0x57 → ⊥) → (final ≡ 0x4A → ⊥) → (final ≡ 0x4B → ⊥) → (final ≡ 0x6F → ⊥) → (final ≡ 0x6D → ⊥) → (final ≡ 0x68 → ⊥) → (final ≡ 0x6C → ⊥) → listed_step final arguments count t ≡ status_report final what t
  unfolding listed_step
  final_n other w j k o m h l =
      else_case _ _ _ other
      ∙ else_case _ _ _ (ne_eqb _ _ w)
      ∙ else_case _ _ _ (ne_eqb _ _ j)
      ∙ else_case _ _ _ (ne_eqb _ _ k)
      ∙ else_case _ _ _ (ne_eqb _ _ o)
      ∙ else_case _ _ _ (ne_eqb _ _ m)
      ∙ else_case _ _ _ (ne_eqb _ _ h)
      ∙ else_case _ _ _ (ne_eqb _ _ l)
      ∙ ap (λ (n : ℕ). status_report final n t) (sym given)

module _ (final : ℕ) (arguments : List ℕ) (count : ℕ) (t : Terminal) where
  pub final_move : is_move final ≡ true → listed_step final arguments count t ≡ move_step final arguments t
  unfolding listed_step
  final_move move = then_case _ _ _ move

  pub final_m : final ≡ 0x6D → listed_step final arguments count t ≡ rendition final (take count arguments) t
  unfolding listed_step is_move If◌then◌else◌ ◌and◌ ◌or◌ ◌is◌to◌
  final_m e = rw e

  pub final_h : final ≡ 0x68 → listed_step final arguments count t ≡ set_mode final true (take count arguments) t
  unfolding listed_step is_move If◌then◌else◌ ◌and◌ ◌or◌ ◌is◌to◌
  final_h e = rw e

  pub final_l : final ≡ 0x6C → listed_step final arguments count t ≡ set_mode final false (take count arguments) t
  unfolding listed_step is_move If◌then◌else◌ ◌and◌ ◌or◌ ◌is◌to◌
  final_l e = rw e
