-- Document 01, "Commands", and document 02, M-103 and M-107: the commands of the table that set tab stops, the pen and
-- the mode.
-- `final` is the final byte, which is named where the command is refused.
use Rattle.std.specs.Prelude.{Bool, not, List, [], ◌∷◌, ℕ, eqb}
use Rattle.words.specs.Choice.{If◌then◌else◌, ◌and◌, ◌or◌}
use Rattle.words.specs.Lists.{every}
use Rattle.state.specs.Tabs.{stop_set, stop_cleared, stops_cleared}
use Rattle.page.specs.Marks.{is_protected}
use Rattle.state.specs.Pen.{pen_unprotected, pen_protected, pen_numeric, pen_alphabetic, pen_required}
use Rattle.state.specs.Pen.{pen_plain, pen_bold, pen_underlined, pen_blinking, pen_reversed, pen_concealed}
use Rattle.state.specs.Pen.{with_pen, with_erasure}
use Rattle.sequence.specs.declared.Reason.TheVariants.{WrongArguments}
use Rattle.steps.specs.Steps.{Terminal, Stepped, goes_to, refusing}

-- CTC (lines 2296 to 2310): 0 set, 2 clear here, 5 clear all.
unfoldable pub tab_control : ℕ → ℕ → Terminal → Stepped
tab_control final what t =
    If eqb what 0 then goes_to (stop_set t.state) t
    else If eqb what 2 then goes_to (stop_cleared t.state) t
    else If eqb what 5 then goes_to (stops_cleared t.state) t
    else refusing WrongArguments final t

-- SGR: the values listed, and what each does to the pen.
unfoldable pub is_visual : ℕ → Bool
is_visual value = eqb value 0 or eqb value 1 or eqb value 4 or eqb value 5 or eqb value 7 or eqb value 8

unfoldable pub pen_after : ℕ → ℕ → ℕ
pen_after value pen =
    If eqb value 0 then pen_plain pen
    else If eqb value 1 then pen_bold pen
    else If eqb value 4 then pen_underlined pen
    else If eqb value 5 then pen_blinking pen
    else If eqb value 7 then pen_reversed pen
    else pen_concealed pen

unfoldable pub pen_after_all : List ℕ → ℕ → ℕ
pen_after_all [] pen = pen
pen_after_all (value ∷ later) pen = pen_after_all later (pen_after value pen)

unfoldable pub rendition : ℕ → List ℕ → Terminal → Stepped
rendition final values t =
    If every is_visual values then goes_to (with_pen t.state (pen_after_all values t.state.modes.pen)) t
    else refusing WrongArguments final t

-- DAQ: the values that a pen takes, and the pen that each leaves. ESC V is 1, and ESC W is 0. 20, a value of the house
-- (M-107), adds required to a pen that is not protected.
unfoldable pub is_area : ℕ → ℕ → Bool
is_area pen value =
    eqb value 0
    or eqb value 1
    or eqb value 3
    or eqb value 4
    or (eqb value 20 and not (is_protected pen))

unfoldable pub pen_of_area : ℕ → ℕ → ℕ
pen_of_area value pen =
    If eqb value 0 then pen_unprotected pen
    else If eqb value 1 then pen_protected pen
    else If eqb value 3 then pen_numeric pen
    else If eqb value 4 then pen_alphabetic pen
    else pen_required pen

unfoldable pub area_set : ℕ → Terminal → Stepped
area_set value t = goes_to (with_pen t.state (pen_of_area value t.state.modes.pen)) t

unfoldable pub area_qualified : ℕ → ℕ → Terminal → Stepped
area_qualified final value t =
    If is_area t.state.modes.pen value then area_set value t
    else refusing WrongArguments final t

-- SM and RM: mode 6, erasure.
unfoldable pub set_mode : ℕ → Bool → List ℕ → Terminal → Stepped
set_mode final on values t =
    If every (λ value. eqb value 6) values then goes_to (with_erasure t.state on) t
    else refusing WrongArguments final t
