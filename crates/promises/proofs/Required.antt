-- A key sends no block while a required field is blank, and 266 is then given 9, and only then.
use mathlib.Core.Path.{◌≡◌, refl, sym, ◌∙◌}
use mathlib.Core.Bool.{Bool, true, false}
use mathlib.Core.List.{List, Memᴰ}
use mathlib.Core.Logic.{◌↔◌}
use Prim.Native.Nat.{ℕ}
use native.Mathlib.Omega.{arith}
use borrow.Author.Tests.{eqb-false}
use lib.Dec.{eqb}
use lib.ListN.{length}
use Rattle.words.proofs.Choosing.{either_way, first_decides, refuted}
use Rattle.words.proofs.Ranges.{some_place_fails}
use Rattle.fields.specs.Fields.{Field}
use Rattle.fields.specs.Required.{is_left_blank, some_left_blank}
use Rattle.steps.specs.Steps.{Terminal, Stepped, block_transmission}
use Rattle.steps.specs.Seen.{seen, character_at, fields_here}
use Rattle.keys.specs.Keys.{key_step}
use Rattle.keys.proofs.Theorems.{key_sends_full, key_sends_changed}
use Rattle.terminal.specs.Lines.{HasRequired, LeftBlank, required_blank, key_table, Decides, none_holds, this_holds, not_this}
use Rattle.terminal.proofs.Lines.{left_blank, some_required_lem, none_left_blank}
use Rattle.promises.specs.Rules.{Rules, our_rules}
use Rattle.promises.specs.Entries.{Entries, our_entries}
use Rattle.promises.specs.Demands.{Numbers}
use Rattle.promises.specs.Further.{Filled, PastOtherLines, Required}
use Rattle.promises.proofs.OurLaws.{our_keeps}

-- A field with a required cell is left blank, or it is filled.
module _ (t : Terminal) (field : Field) where
  fills : HasRequired t field → is_left_blank (seen t) field ≡ false → Filled t field
  unfolding is_left_blank
  fills has not-blank =
      let found = some_place_fails (λ k. eqb (character_at t k) 0x20) field.start field.length (sym (first_decides _ _ (some_required_lem t field has)) ∙ not-blank) in
      record { cell = found.0; from_start = found.1; before_end = found.2; not_20 = eqb-false _ 0x20 found.3 }

  unless_filled : Memᴰ field (fields_here t) → HasRequired t field → (Filled t field → ⊥) → LeftBlank t field
  unless_filled listed has unfilled =
      either_way (is_left_blank (seen t) field) (left_blank t field listed) (λ not-blank. absurd (unfilled (fills has not-blank)))

  not_filled : LeftBlank t field → Filled t field → ⊥
  not_filled blank filled = filled.not_20 (blank.only_20s filled.cell filled.from_start filled.before_end)

-- Line 9 decides where the lines before it don't hold.
abbrev Blank : Terminal → Type 0
Blank t = (field : Field) × Memᴰ field (fields_here t) × HasRequired t field × (Filled t field → ⊥)

decided_by_9 : {t : Terminal} {room n : ℕ} {step : Stepped} → Decides (key_table t 266 room step) n → n ≡ 9 → PastOtherLines t × Blank t
decided_by_9 (this_holds _ _ _) nine = absurd (omega arith)
decided_by_9 (not_this _ _ _ _ (this_holds _ _ _)) nine = absurd (omega arith)
decided_by_9 (not_this _ _ _ _ (not_this _ _ _ _ (this_holds _ _ _))) nine = absurd (omega arith)
decided_by_9 (not_this _ _ _ _ (not_this _ _ _ _ (not_this _ _ _ _ (this_holds _ _ _)))) nine = absurd (omega arith)
decided_by_9 (not_this _ _ _ _ (not_this _ _ _ _ (not_this _ _ _ _ (not_this _ _ _ _ (this_holds _ _ _))))) nine = absurd (omega arith)
decided_by_9 (not_this _ _ _ _ (not_this _ _ _ _ (not_this _ _ _ _ (not_this _ _ _ _ (not_this _ _ _ _ (this_holds _ _ _)))))) nine = absurd (omega arith)
decided_by_9 {t} (not_this _ _ _ a (not_this _ _ _ b (not_this _ _ _ c (not_this _ _ _ d (not_this _ _ _ e (not_this _ _ _ f (this_holds _ _ (required_blank _ field blank)))))))) nine =
    (record { not_1 = a; not_2 = b; not_4 = c; not_5 = d; not_7 = e; not_8 = f }, (field, blank.on_page, blank.has_required, not_filled t field blank))
decided_by_9 (not_this _ _ _ _ (not_this _ _ _ _ (not_this _ _ _ _ (not_this _ _ _ _ (not_this _ _ _ _ (not_this _ _ _ _ (not_this _ _ _ _ (this_holds _ _ _)))))))) nine = absurd (omega arith)
decided_by_9 (not_this _ _ _ _ (not_this _ _ _ _ (not_this _ _ _ _ (not_this _ _ _ _ (not_this _ _ _ _ (not_this _ _ _ _ (not_this _ _ _ _ (not_this _ _ _ _ none_holds)))))))) nine = absurd (omega arith)

decides_9 : (t : Terminal) (room : ℕ) (step : Stepped) → PastOtherLines t → Blank t → Decides (key_table t 266 room step) 9
decides_9 t room step past (field, listed, has, unfilled) =
    not_this _ _ _ past.not_1
    (not_this _ _ _ past.not_2
    (not_this _ _ _ past.not_4
    (not_this _ _ _ past.not_5
    (not_this _ _ _ past.not_7
    (not_this _ _ _ past.not_8
    (this_holds _ _ (required_blank refl field (unless_filled t field listed has unfilled))))))))

-- What a key sends.
none_blank : (t : Terminal) (key : ℕ) (full : Bool) (bytes : List ℕ) → (key_step key t).transmission ≡ block_transmission full bytes → some_left_blank (seen t) ≡ false
unfolding block_transmission
none_blank t key true bytes sends = (key_sends_full key t bytes sends).asked.none_blank
none_blank t key false bytes sends = (key_sends_changed key t bytes sends).asked.none_blank

our_filled : (t : Terminal) (key : ℕ) (full : Bool) (bytes : List ℕ) → (key_step key t).transmission ≡ block_transmission full bytes → (field : Field) → Memᴰ field (fields_here t) → HasRequired t field → Filled t field
our_filled t key full bytes sends field listed has =
    fills t field has (refuted _ (λ blank. none_left_blank t (none_blank t key full bytes sends) field (left_blank t field listed blank)))

-- Entries that are numbered by the table give 9 so, whatever their rules.
held_back_of : (rules : Rules) (entries : Entries) → Numbers rules entries → (t : Terminal) (lent : List ℕ) → ((entries.key t 266 lent).number ≡ 9) ↔ (PastOtherLines t × Blank t)
held_back_of rules entries numbers t lent = (
  λ nine. decided_by_9 ((numbers.of_key t 266 lent 9).0 nine) refl,
  λ is. (numbers.of_key t 266 lent 9).1 (decides_9 t (length lent) (rules.on_key 266 t) is.0 is.1),
)

pub our_required : Required our_rules our_entries
our_required = record { filled = our_filled; held_back = held_back_of our_rules our_entries our_keeps.numbers }
