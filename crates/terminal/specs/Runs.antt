-- A call is the steps of its bytes, or of its key, as far as the output has room for their transmissions.
use Rattle.std.specs.Prelude.{Bool, true, false, List, [], ◌∷◌, ◌++◌, ℕ, ◌+◌, ◌-◌, leb, length}
use Rattle.words.specs.Choice.{If◌then◌else◌, ◌or◌}
use Rattle.steps.specs.Steps.{Terminal, Stepped, bytes_of}
use Rattle.commands.specs.Host.{host_step}

-- The steps of host bytes, each from the terminal that the one before left.
unfoldable pub steps_of : Terminal → List ℕ → List Stepped
steps_of t [] = []
steps_of t (byte ∷ later) = let step = host_step byte t in step ∷ steps_of step.terminal later

-- The steps up to the first whose transmission exceeds the room left, and without it.
unfoldable pub fitting : ℕ → List Stepped → List Stepped
fitting room [] = []
fitting room (step ∷ later) =
    let further = fitting (room - length (bytes_of step.transmission)) later in
    If leb (length (bytes_of step.transmission)) room then step ∷ further
    else []

-- What steps leave of a terminal; their transmissions' bytes, joined in order; the cells that they name, joined in
-- order.
unfoldable pub after : Terminal → List Stepped → Terminal
after t [] = t
after t (step ∷ later) = after step.terminal later

unfoldable pub bytes_sent_by : List Stepped → List ℕ
bytes_sent_by [] = []
bytes_sent_by (step ∷ later) = bytes_of step.transmission ++ bytes_sent_by later

unfoldable pub cells_stored_by : List Stepped → List ℕ
cells_stored_by [] = []
cells_stored_by (step ∷ later) = step.cells ++ cells_stored_by later

-- How many of them refused a command; whether protection may have changed in one of them.
unfoldable pub count_of : Bool → ℕ
count_of true = 1
count_of false = 0

unfoldable pub refused_by : List Stepped → ℕ
refused_by [] = 0
refused_by (step ∷ later) = count_of step.was_refused + refused_by later

unfoldable pub protection_by : List Stepped → Bool
protection_by [] = false
protection_by (step ∷ later) = step.protection or protection_by later
