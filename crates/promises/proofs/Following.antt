-- What follows the first full block, for demand 3: keys, and host bytes that store nothing.
use mathlib.Core.List.{List, [], ◌∷◌}
use Rattle.steps.specs.Steps.{Terminal, Stepped, Valid}
use Rattle.promises.specs.Rules.{Rules, Input, byte, press, step_of, steps}
use Rattle.promises.specs.Copying.{HostStoresNothing}
use Rattle.promises.proofs.Laws.{StepLaw, TagLaw, StepLaws}
use Rattle.promises.proofs.Keeping.{names_none}

-- Steps from valid terminals, one after another, that keep protection and leave each cell that they name modified.
pub data Follow : Terminal → List Stepped → Type 0 where
  no_more : {t : Terminal} → Follow t []
  one_more : {t : Terminal} {step : Stepped} {later : List Stepped} → Valid t → StepLaw t step → TagLaw t step → Follow step.terminal later → Follow t (step ∷ later)

-- So do keys, and host bytes that name no cell.
pub follow : (rules : Rules) → StepLaws rules → (t : Terminal) → Valid t → (inputs : List Input) → HostStoresNothing rules t inputs → Follow t (steps rules t inputs)
unfolding HostStoresNothing steps step_of
follow rules laws t valid [] nothing = no_more
follow rules laws t valid (byte b ∷ later) nothing =
    let law : StepLaw t (rules.on_byte b t) = laws.every_step (byte b) t valid in
    one_more valid law (names_none t valid (rules.on_byte b t) law nothing.0) (follow rules laws (rules.on_byte b t).terminal law.valid later nothing.1)
follow rules laws t valid (press key ∷ later) nothing =
    let law : StepLaw t (rules.on_key key t) = laws.every_step (press key) t valid in
    one_more valid law (laws.every_key key t valid).tag_law (follow rules laws (rules.on_key key t).terminal law.valid later nothing)
