use mathlib.Core.Path.{◌≡◌, sym, ◌∙◌}
use mathlib.Core.Bool.{Bool, true, false}
use mathlib.Core.List.{List}
use Prim.Native.Nat.{ℕ, ◌+◌, ◌-◌, ◌<◌, ◌≤◌}
use native.Mathlib.Omega.{arith}
use borrow.Author.Rules.{rules}
use lib.ListN.{length, get_or, take, drop, length-drop}
use Rattle.std.proofs.lemmas.List.{length-take-le}
use lib.Seq.{get_or-take, get_or-drop}
use Rattle.std.proofs.lemmas.Iterator.{IsFirst-from_position, YieldsList-from_slice}
use Rattle.state.proofs.Laws.{right_found, right_none}
use Rattle.state.proofs.tabs.stop_right.Goals as goal

-- the stops to the right of the column, of which `position` tells
module _ (stops : List Bool) (last column : ℕ) where
  on_right : (k : ℕ) → k < last - column → get_or (take (last - column) (drop column stops)) k false ≡ get_or stops (column + k) false
  on_right k h = get_or-take (last - column) (drop column stops) k false h ∙ get_or-drop column stops k false

  how_many : column ≤ last → last ≤ length stops → length (take (last - column) (drop column stops)) ≡ last - column
  how_many h k = length-take-le (last - column) (drop column stops) (omega (arith, length-drop column stops))

pub returns-in-Some : goal.returns-in-Some
returns-in-Some c =
    let a = c.args in
    let part : List Bool = take (a.last - a.column) (drop a.column a.stops.now) in
    let many : length part ≡ a.last - a.column = how_many a.stops.now a.last a.column (omega arith) (omega arith) in
    let first = rw c.in-Some.is at (IsFirst-from_position _ _ c.position.result (λ stop. stop ≡ true) (λ stop. stop ≡ false) c.position.ensures.ran (YieldsList-from_slice part cc) (λ x q k. search rules) (λ x q k. search rules)) in
    let near : c.in-Some.between < a.last - a.column = omega (arith, first.0) in
    sym
    (right_found a.stops.now a.column _ c.in-Some.between near
    (sym (on_right a.stops.now a.last a.column _ near) ∙ first.1 false)
    (λ k h. sym (on_right a.stops.now a.last a.column k (omega arith)) ∙ first.2 k false (omega arith) h))

pub returns-in-None : goal.returns-in-None
returns-in-None c =
    let a = c.args in
    let part : List Bool = take (a.last - a.column) (drop a.column a.stops.now) in
    let many : length part ≡ a.last - a.column = how_many a.stops.now a.last a.column (omega arith) (omega arith) in
    let none = rw c.in-None.is at (IsFirst-from_position _ _ c.position.result (λ stop. stop ≡ true) (λ stop. stop ≡ false) c.position.ensures.ran (YieldsList-from_slice part cc) (λ x q k. search rules) (λ x q k. search rules)) in
    let all : a.column + (a.last - a.column) ≡ a.last = omega arith in
    sym
    (right_none a.stops.now a.column (a.last - a.column)
    (λ k h. sym (on_right a.stops.now a.last a.column k h) ∙ none k false (omega arith) (omega arith))
    ∙ all)
