use mathlib.Core.Path.{◌≡◌, refl, sym, ap, ◌∙◌}
use mathlib.Core.Bool.{true}
use mathlib.Core.List.{List}
use Prim.Native.Nat.{ℕ}
use native.Mathlib.Omega.{arith}
use lib.ListN.{get_or}
use Rattle.std.proofs.lemmas.Option.{IfSome_then}
use Rattle.words.specs.Choice.{◌is◌to◌}
use Rattle.words.proofs.Choosing.{range_is}
use Rattle.sequence.specs.Record.{argument_read, bracket_read}
use Rattle.reading.specs.declared.Reading.{Reading}
use Rattle.reading.specs.Ahead.{is_nothing, ReadWhole}
use Rattle.reading.proofs.Laws.{from_argument, to_final_at_once}
use Rattle.reading.proofs.read_bracket.Goals as goal

pub returns-in-48-to-59 : goal.returns-in-48-to-59
returns-in-48-to-59 c =
    let bytes : List ℕ = c.args.bytes.now in
    let read = c.in_ok-byte.ensures.lookup.3 in
    let argument : (get_or bytes c.args.from 0 is 0x30 to 0x3B) ≡ true = rw (← read.1 0) (range_is _ _ _ (omega arith) (omega arith)) in
    IfSome_then _ {P = ReadWhole argument_read bytes c.args.from} {Q = ReadWhole bracket_read bytes c.args.from} c.read_arguments.ensures
    (λ r told.
    let something = sym (ap (λ (r : Reading). is_nothing r.event) told.same) ∙ told.something in
    record { something = told.something; here = told.here; same = told.same ∙ from_argument bytes _ told.here argument something })

pub returns-in-64-to-126 : goal.returns-in-64-to-126
unfolding is_nothing
returns-in-64-to-126 c =
    let bytes : List ℕ = c.args.bytes.now in
    let read = c.in_ok-byte.ensures.lookup.3 in
    let final : (get_or bytes c.args.from 0 is 0x40 to 0x7E) ≡ true = rw (← read.1 0) (range_is _ _ _ (omega arith) (omega arith)) in
    rw (read.1 0) (record { something = refl; here = read.0; same = sym (to_final_at_once bytes _ read.0 final) })
