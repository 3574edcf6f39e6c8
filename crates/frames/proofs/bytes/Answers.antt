use mathlib.Core.Path.{sym, subst, ◌∙◌}
use mathlib.Core.List.{List}
use Prim.Native.Nat.{ℕ}
use native.Mathlib.Omega.{arith}
use lib.ListN.{take}
use lib.Seq.{length-take-le}
use Rattle.words.specs.Output.{Wrote}
use Rattle.words.proofs.Choosing.{both}
use Rattle.words.proofs.Output.{wrote_none}
use Rattle.numerals.specs.Hexadecimal.{is_hexadecimal}
use Rattle.numerals.proofs.Digits.{pairs_most}
use Rattle.frames.proofs.Lines.{line_too_long, not_hexadecimal, is_hexadecimal_lem}
use Rattle.frames.proofs.bytes.Goals as goal

-- a line that is no bytes stays
pub returns-then-digits-gt512 : goal.returns-then-digits-gt512
returns-then-digits-gt512 c =
    let line = c.args.line.now in
    (subst (λ (said : List ℕ). Wrote 0 said line 0 line) (sym (line_too_long _ _ c.if-digits-gt512.true)) (wrote_none 0 line), omega arith)

pub returns-then-not-is_hexadecimal : goal.returns-then-not-is_hexadecimal
returns-then-not-is_hexadecimal c =
    let line = c.args.line.now in
    let none = not_hexadecimal _ _ c.if-digits-gt512.false (sym c.is_hexadecimal.ensures ∙ c.if-not-is_hexadecimal.true) in
    (subst (λ (said : List ℕ). Wrote 0 said line 0 line) (sym none) (wrote_none 0 line), omega arith)

pub decode-requires : goal.decode-requires
unfolding is_hexadecimal
decode-requires c = let is = sym c.is_hexadecimal.ensures ∙ c.if-not-is_hexadecimal.false in record { digits_in_bounds = omega arith; text_value = (both is).1 }

pub returns : goal.returns
returns c =
    let line = c.args.line.now in
    let fits = c.if-digits-gt512.false in
    let all = is_hexadecimal_lem line _ fits (sym c.is_hexadecimal.ensures ∙ c.if-not-is_hexadecimal.false) in
    let wrote = c.decode.ensures in
    let digits = take c.args.digits line in
    (rw (← all) at wrote, omega (arith, wrote.next_is, pairs_most digits, length-take-le c.args.digits line (omega (arith, fits, c.requires)), fits))
