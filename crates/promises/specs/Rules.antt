-- A kind of terminal by its rules: what one host byte does, and one key. What was stored, sent and refused is told by
-- the rules alone, never by what runs.
use Rattle.std.specs.Prelude.{Bool, List, [], ◌∷◌, map, ℕ, length}
use Rattle.steps.specs.Steps.{Terminal, Stepped}
use Rattle.commands.specs.Host.{host_step}
use Rattle.keys.specs.Keys.{key_step}
use Rattle.terminal.specs.Runs.{after, bytes_sent_by, cells_stored_by, refused_by, protection_by}

pub record Rules : Type 0 where
  pub on_byte : ℕ → Terminal → Stepped
  pub on_key : ℕ → Terminal → Stepped

-- Those of documents 01 and 02.
abbrev pub our_rules : Rules
our_rules = record { on_byte = host_step; on_key = key_step }

-- Host bytes and keys, in any order, and their steps, each from the terminal that the one before left.
pub data Input : Type 0 where
  byte : ℕ → Input
  press : ℕ → Input

unfoldable pub step_of : Rules → Input → Terminal → Stepped
step_of rules (byte b) t = rules.on_byte b t
step_of rules (press key) t = rules.on_key key t

unfoldable pub steps : Rules → Terminal → List Input → List Stepped
steps rules t [] = []
steps rules t (input ∷ later) = let step = step_of rules input t in step ∷ steps rules step.terminal later

-- The steps of host bytes.
abbrev pub byte_steps : Rules → Terminal → List ℕ → List Stepped
byte_steps rules t bytes = steps rules t (map byte bytes)

-- What steps leave together, from a terminal: state and page; the bytes sent, joined; how many cells were stored, and
-- how many commands refused; whether protection may have changed.
pub record Total : Type 0 where
  pub terminal : Terminal
  pub bytes_sent : List ℕ
  pub stored : ℕ
  pub refused : ℕ
  pub protection : Bool

abbrev pub total_of : Terminal → List Stepped → Total
total_of t run =
    record {
      terminal = after t run;
      bytes_sent = bytes_sent_by run;
      stored = length (cells_stored_by run);
      refused = refused_by run;
      protection = protection_by run;
    }
