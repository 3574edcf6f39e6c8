use mathlib.Core.Path.{◌≡◌, sym, ◌∙◌}
use mathlib.Core.Bool.{true}
use mathlib.Core.List.{List}
use Prim.Native.Nat.{ℕ, ◌+◌}
use native.Mathlib.Omega.{arith}
use lib.ListN.{get_or, drop}
use Rattle.std.proofs.lemmas.Option.{IfSome_then}
use Rattle.words.specs.Choice.{◌is◌to◌}
use Rattle.words.proofs.Choosing.{range_is}
use Rattle.sequence.specs.declared.HalfRead.{HalfRead}
use Rattle.sequence.specs.Record.{bracket_read}
use Rattle.reading.specs.Ahead.{read_from, reading_of, ReadWhole}
use Rattle.reading.proofs.Laws.{over_bracket, to_command}
use Rattle.reading.proofs.read_command.Goals as goal

pub returns-in-91 : goal.returns-in-91
returns-in-91 c =
    let bytes : List ℕ = c.args.bytes.now in
    let read = c.in_ok-byte.ensures.lookup.3 in
    IfSome_then _ {P = ReadWhole bracket_read bytes (c.args.from + 1 + 1)} {Q = λ r. (half : HalfRead) → half.kind ≡ 0 → reading_of r ≡ read_from half (drop c.args.from bytes) c.args.from} c.read_bracket.ensures
    (λ r told half outside. told.same ∙ sym (over_bracket half outside bytes _ c.requires.from_value told.here (sym (read.1 0) ∙ c.in-91.is)))

pub returns-in-48-to-126 : goal.returns-in-48-to-126
returns-in-48-to-126 c =
    let bytes : List ℕ = c.args.bytes.now in
    let read = c.in_ok-byte.ensures.lookup.3 in
    let command : (get_or bytes (c.args.from + 1) 0 is 0x30 to 0x7E) ≡ true = rw (← read.1 0) (range_is _ _ _ (omega arith) (omega arith)) in
    λ half outside. rw (read.1 0) (sym (to_command half outside bytes _ c.requires.from_value read.0 command (λ e. omega (arith, e, read.1 0))))
