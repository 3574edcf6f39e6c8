-- Which line of a table a light event comes to, and one that is not light.
use mathlib.Core.Path.{◌≡◌, sym, ◌∙◌}
use mathlib.Core.Bool.{true, false}
use Prim.Native.Nat.{ℕ}
use native.Mathlib.Omega.{arith}
use borrow.Author.Tests.{eqb-true, eqb-false, ne_eqb, eq-eqb}
use lib.Dec.{ltb, eqb}
use Rattle.words.specs.Choice.{◌is◌to◌}
use Rattle.words.proofs.Testing.{code_tests}
use Rattle.words.proofs.Choosing.{true_is_not_false, then_case, else_case, either_way, neither, refuted, second_decides}
use Rattle.state.specs.declared.Size.{Size}
use Rattle.state.specs.declared.Cursor.{Cursor}
use Rattle.table.specs.Table.{allowed}
use Rattle.table.specs.Moves.{is_move, is_plain_move}
use Rattle.commands.specs.Light.{is_light_control, is_light_letter, is_light_final}

-- Of the control bytes HT and LF are not light.
pub heavy_control : (size : Size) (cursor : Cursor) (byte : ℕ) → is_light_control size cursor byte ≡ false → (byte ≡ 0x09 → ⊥) → byte ≡ 0x0A
unfolding is_light_control
heavy_control size cursor byte heavy other =
    eqb-true byte 0x0A
    (either_way (eqb byte 0x0A) (λ lf. lf)
    (λ none. absurd (true_is_not_false (sym (else_case _ _ _ (ne_eqb byte 0x09 other) ∙ else_case _ _ _ none) ∙ heavy))))

module _ (size : Size) (cursor : Cursor) (byte : ℕ) (light : is_light_control size cursor byte ≡ true) where
  pub light_control_is_no_tab : eqb byte 0x09 ≡ false
  unfolding is_light_control
  light_control_is_no_tab = refuted (eqb byte 0x09) (λ tab. true_is_not_false (sym light ∙ then_case _ _ _ tab))

  -- A line feed that is light scrolls nothing.
  pub light_line_feed : byte ≡ 0x0A → ltb cursor.row size.rows ≡ true
  unfolding is_light_control
  light_line_feed lf = sym (else_case _ _ _ light_control_is_no_tab ∙ then_case _ _ _ (eq-eqb byte 0x0A lf)) ∙ light

-- A letter that is light and not V is W.
pub light_letter_left : (letter : ℕ) → is_light_letter letter ≡ true → (letter ≡ 0x56 → ⊥) → letter ≡ 0x57
unfolding is_light_letter
light_letter_left letter light other = eqb-true letter 0x57 (sym (second_decides _ _ (ne_eqb letter 0x56 other)) ∙ light)

module _ (final : ℕ) where
  -- A final byte that is light is listed, and but for o, m, h and l it is a move.
  pub light_listed : is_light_final final ≡ true → (allowed final).most ≡ 0 → ⊥
  unfolding is_light_final is_plain_move allowed ◌is◌to◌
  light_listed light none = grind (arith, code_tests)

  pub plain_is_move : is_plain_move final ≡ true → is_move final ≡ true
  unfolding is_plain_move is_move ◌is◌to◌
  plain_is_move plain = grind (arith, code_tests)

  -- And a move that is not light is one by tab stops.
  pub no_move_left : is_light_final final ≡ false → (final ≡ 0x49 → ⊥) → (final ≡ 0x5A → ⊥) → is_move final ≡ false
  unfolding is_light_final is_plain_move is_move ◌is◌to◌
  no_move_left heavy i z = grind (arith, code_tests)

  pub plain_left : is_light_final final ≡ true → (final ≡ 0x6F → ⊥) → (final ≡ 0x6D → ⊥) → (final ≡ 0x68 → ⊥) → (final ≡ 0x6C → ⊥) → is_plain_move final ≡ true
  unfolding is_light_final
  plain_left light o m h l =
      either_way (is_plain_move final) (λ yes. yes)
      (λ none. absurd (true_is_not_false (sym light ∙ second_decides _ _ none ∙ second_decides _ _ (ne_eqb final 0x6F o) ∙ second_decides _ _ (ne_eqb final 0x6D m) ∙ second_decides _ _ (ne_eqb final 0x68 h) ∙ ne_eqb final 0x6C l)))

  pub no_setting_left : is_light_final final ≡ false → (final ≡ 0x6F → ⊥) × (final ≡ 0x6D → ⊥) × (final ≡ 0x68 → ⊥) × (final ≡ 0x6C → ⊥)
  unfolding is_light_final
  no_setting_left heavy =
      let o = neither (neither heavy).1 in
      let m = neither o.1 in
      let h = neither m.1 in
      (eqb-false final 0x6F o.0, eqb-false final 0x6D m.0, eqb-false final 0x68 h.0, eqb-false final 0x6C h.1)
