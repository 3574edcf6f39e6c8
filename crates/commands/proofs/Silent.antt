-- Which steps send nothing: all but ESC S and DSR.
use mathlib.Core.Path.{◌≡◌, refl}
use mathlib.Core.Bool.{Bool, false}
use mathlib.Core.List.{List}
use Prim.Native.Nat.{ℕ}
use lib.Dec.{eqb}
use Rattle.words.proofs.Choosing.{not_both, either_line}
use Rattle.steps.proofs.Writing.{Silent}
use Rattle.steps.specs.Steps.{Terminal, bytes_of}
use Rattle.commands.specs.Text.{text_step, line_down, line_up, next_line, control_step}
use Rattle.commands.specs.Commands.{fresh_step, esc_step, erasing, erase_part}
use Rattle.table.specs.Moves.{to_column, to_row, to_place, move_step}
use Rattle.table.specs.PrivateForms.{private_step}
use Rattle.table.specs.Settings.{tab_control, area_set, area_qualified, rendition, set_mode}

pub text_silent : (character : ℕ) (t : Terminal) → Silent (text_step character t)
unfolding text_step bytes_of
text_silent character t = refl

line_down_silent : (t : Terminal) → Silent (line_down t)
unfolding line_down bytes_of
line_down_silent t = either_line Silent _ _ _ (λ _. refl) (λ _. refl)

line_up_silent : (t : Terminal) → Silent (line_up t)
unfolding line_up bytes_of
line_up_silent t = either_line Silent _ _ _ (λ _. refl) (λ _. refl)

next_line_silent : (t : Terminal) → Silent (next_line t)
unfolding next_line
next_line_silent t = line_down_silent _

pub control_silent : (byte : ℕ) (t : Terminal) → Silent (control_step byte t)
unfolding control_step bytes_of
control_silent byte t =
    either_line Silent _ _ _ (λ _. refl)
    (λ _. either_line Silent _ _ _ (λ _. refl)
    (λ _. either_line Silent _ _ _ (λ _. line_down_silent t) (λ _. refl)))

pub esc_silent : (byte : ℕ) (t : Terminal) → eqb byte 0x53 ≡ false → Silent (esc_step byte t)
unfolding esc_step area_set fresh_step bytes_of
esc_silent byte t other =
    either_line Silent _ _ _ (λ _. line_down_silent t)
    (λ _. either_line Silent _ _ _ (λ _. next_line_silent t)
    (λ _. either_line Silent _ _ _ (λ _. line_up_silent t)
    (λ _. either_line Silent _ _ _ (λ _. refl)
    (λ _. either_line Silent _ _ _ (λ _. refl)
    (λ _. either_line Silent _ _ _ (λ _. refl)
    (λ _. either_line Silent _ _ _ (λ is. absurd (not_both is other))
    (λ _. either_line Silent _ _ _ (λ _. refl)
    (λ _. either_line Silent _ _ _ (λ _. refl)
    (λ _. either_line Silent _ _ _ (λ _. refl) (λ _. refl))))))))))

pub tab_silent : (final what : ℕ) (t : Terminal) → Silent (tab_control final what t)
unfolding tab_control bytes_of
tab_silent final what t =
    either_line Silent _ _ _ (λ _. refl)
    (λ _. either_line Silent _ _ _ (λ _. refl)
    (λ _. either_line Silent _ _ _ (λ _. refl) (λ _. refl)))

pub erase_silent : (final what first end : ℕ) (t : Terminal) → Silent (erase_part final what first end t)
unfolding erase_part erasing bytes_of
erase_silent final what first end t =
    either_line Silent _ _ _ (λ _. refl)
    (λ _. either_line Silent _ _ _ (λ _. refl)
    (λ _. either_line Silent _ _ _ (λ _. refl) (λ _. refl)))

pub area_silent : (final value : ℕ) (t : Terminal) → Silent (area_qualified final value t)
unfolding area_qualified area_set bytes_of
area_silent final value t = either_line Silent _ _ _ (λ _. refl) (λ _. refl)

pub rendition_silent : (final : ℕ) (values : List ℕ) (t : Terminal) → Silent (rendition final values t)
unfolding rendition bytes_of
rendition_silent final values t = either_line Silent _ _ _ (λ _. refl) (λ _. refl)

pub mode_silent : (final : ℕ) (on : Bool) (values : List ℕ) (t : Terminal) → Silent (set_mode final on values t)
unfolding set_mode bytes_of
mode_silent final on values t = either_line Silent _ _ _ (λ _. refl) (λ _. refl)

pub private_silent : (final argument : ℕ) (t : Terminal) → Silent (private_step final argument t)
unfolding private_step bytes_of
private_silent final argument t = either_line Silent _ _ _ (λ _. refl) (λ _. either_line Silent _ _ _ (λ _. refl) (λ _. refl))

pub move_silent : (final : ℕ) (arguments : List ℕ) (t : Terminal) → Silent (move_step final arguments t)
unfolding move_step to_column to_row to_place bytes_of
move_silent final arguments t =
    either_line Silent _ _ _ (λ _. refl)
    (λ _. either_line Silent _ _ _ (λ _. refl)
    (λ _. either_line Silent _ _ _ (λ _. refl)
    (λ _. either_line Silent _ _ _ (λ _. refl)
    (λ _. either_line Silent _ _ _ (λ _. refl)
    (λ _. either_line Silent _ _ _ (λ _. refl)
    (λ _. either_line Silent _ _ _ (λ _. either_line Silent _ _ _ (λ _. refl) (λ _. refl))
    (λ _. either_line Silent _ _ _ (λ _. either_line Silent _ _ _ (λ _. refl) (λ _. refl))
    (λ _. either_line Silent _ _ _ (λ _. either_line Silent _ _ _ (λ _. refl) (λ _. refl))
    (λ _. either_line Silent _ _ _ (λ _. either_line Silent _ _ _ (λ _. refl) (λ _. refl))
    (λ _. either_line Silent _ _ _ (λ _. refl) (λ _. refl)))))))))))
