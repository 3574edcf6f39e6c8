use mathlib.Core.Path.{◌≡◌, sym, ap, ◌∙◌}
use mathlib.Core.Bool.{Bool, true, false}
use mathlib.Core.List.{List, reverse}
use Prim.Native.Nat.{ℕ, ◌+◌, ◌-◌, ◌<◌, ◌≤◌}
use native.Mathlib.Omega.{arith}
use borrow.Author.Rules.{rules}
use lib.ListN.{length, get_or, take}
use lib.Seq.{get_or-take}
use Rattle.std.proofs.lemmas.List.{get_or-reverse, length-reverse, length-take-le}
use Rattle.std.proofs.lemmas.Iterator.{IsFirst-from_position}
use Rattle.std.proofs.lemmas.Iterator.Adapters.{YieldsList-from_rev_slice}
use Rattle.state.proofs.Laws.{left_found, left_none}
use Rattle.state.proofs.tabs.stop_left.Goals as goal

-- the stops to the left of the column, the nearest first, of which `position` tells
module _ (stops : List Bool) (column : ℕ) (known : column - 1 ≤ length stops) where
  on_left : (k : ℕ) → k < column - 1 → get_or (reverse (take (column - 1) stops)) k false ≡ get_or stops (column - 1 - 1 - k) false
  on_left k h =
      let many = length-take-le (column - 1) stops known in
      get_or-reverse (take (column - 1) stops) k false (omega (arith, many))
      ∙ ap (λ (n : ℕ). get_or (take (column - 1) stops) (n - 1 - k) false) many
      ∙ get_or-take (column - 1) stops (column - 1 - 1 - k) false (omega arith)

  how_many : length (reverse (take (column - 1) stops)) ≡ column - 1
  how_many = length-reverse (take (column - 1) stops) ∙ length-take-le (column - 1) stops known

pub returns-in-Some : goal.returns-in-Some
returns-in-Some c =
    let a = c.args in
    let part : List Bool = take (a.column - 1) a.stops.now in
    let many : length (reverse part) ≡ a.column - 1 = how_many a.stops.now a.column (omega arith) in
    let first = rw c.in-Some.is at (IsFirst-from_position _ _ c.position.result (λ stop. stop ≡ true) (λ stop. stop ≡ false) c.position.ensures.ran (YieldsList-from_rev_slice part cc) (λ x q k. search rules) (λ x q k. search rules)) in
    let near : c.in-Some.between < a.column - 1 = omega (arith, first.0) in
    let there : a.column - 1 - 1 - c.in-Some.between + 1 ≡ a.column - 1 - c.in-Some.between = omega arith in
    sym
    (left_found a.stops.now a.column (a.column - 1 - 1 - c.in-Some.between) (omega arith)
    (sym (on_left a.stops.now a.column (omega arith) _ near) ∙ first.1 false)
    (λ k h l.
    let back : a.column - 1 - 1 - (a.column - 1 - 1 - k) ≡ k = omega arith in
    rw back at (sym (on_left a.stops.now a.column (omega arith) (a.column - 1 - 1 - k) (omega arith)) ∙ first.2 (a.column - 1 - 1 - k) false (omega arith) (omega arith)))
    ∙ there)

pub returns-in-None : goal.returns-in-None
returns-in-None c =
    let a = c.args in
    let part : List Bool = take (a.column - 1) a.stops.now in
    let many : length (reverse part) ≡ a.column - 1 = how_many a.stops.now a.column (omega arith) in
    let none = rw c.in-None.is at (IsFirst-from_position _ _ c.position.result (λ stop. stop ≡ true) (λ stop. stop ≡ false) c.position.ensures.ran (YieldsList-from_rev_slice part cc) (λ x q k. search rules) (λ x q k. search rules)) in
    sym
    (left_none a.stops.now a.column
    (λ k h.
    let back : a.column - 1 - 1 - (a.column - 1 - 1 - k) ≡ k = omega arith in
    rw back at (sym (on_left a.stops.now a.column (omega arith) (a.column - 1 - 1 - k) (omega arith)) ∙ none (a.column - 1 - 1 - k) false (omega arith) (omega arith))))
