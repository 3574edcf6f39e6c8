-- What goes wrong where a stream is cut, stopped or counted is caught by cutting, continuing, progress, and by calls
-- being steps.
use mathlib.Core.Path.{refl, sym, ap}
use mathlib.Core.List.{List, [], ◌∷◌}
use Prim.Native.Nat.{ℕ}
use Prim.Native.Char.{code}
use borrow.Author.Tests.{eqb-false}
use lib.ListN.{length, get_or, replicate}
use Rattle.words.proofs.Choosing.{true_is_not_false}
use Rattle.steps.specs.Steps.{Terminal}
use Rattle.words.specs.Text.{bytes}
use Rattle.promises.specs.Rules.{our_rules, Total}
use Rattle.promises.specs.Entries.{read, no_more, done, Read, ended, taken, stopped}
use Rattle.promises.specs.Demands.{Cutting}
use Rattle.promises.specs.Further.{SameHoweverCut, Continuing, CallsAreSteps}
use Rattle.wrong.specs.Entries.{drops_half_read, acts_on_first_byte, forgets_count_on3, takes_last_byte_on3, invents_count, sends_backwards}
use Rattle.promises.proofs.Sheets.{sheet, at}
use Rattle.promises.proofs.Computing.{host_steps, calls, streams}

abbrev form : Terminal
form = at 1 (sheet (replicate 5 0x20) (replicate 5 0))

-- A read with no room.
abbrev roomless : List ℕ → Read
roomless list = record { bytes = list; output = [] }

-- ESC ` disables manual input; cut after its ESC, it doesn't.
pub drops_half_read_breaks_cutting : Cutting our_rules drops_half_read → ⊥
unfolding calls host_steps streams
drops_half_read_breaks_cutting kept =
    let same = kept form (roomless (bytes "\u{1b}") ∷ roomless (bytes "`") ∷ []) (done _ _ refl (done _ _ refl no_more)) in
    true_is_not_false (sym (ap (λ (left : Total). left.terminal.state.locks.manual) same))

-- Two texts store two cells; in one read, one.
pub acts_on_first_byte_breaks_cutting : Cutting our_rules acts_on_first_byte → ⊥
unfolding calls host_steps streams
acts_on_first_byte_breaks_cutting kept =
    let same = kept form (roomless (bytes "AB") ∷ []) (done _ _ refl no_more) in
    eqb-false 1 2 refl (ap (λ (left : Total). left.stored) same)

-- So ESC ` in one read and in two don't leave the same, nor do the two texts.
pub drops_half_read_breaks_same_however_cut : SameHoweverCut drops_half_read → ⊥
unfolding calls host_steps streams
drops_half_read_breaks_same_however_cut kept =
    let same = kept form (roomless (bytes "\u{1b}`") ∷ []) (roomless (bytes "\u{1b}") ∷ roomless (bytes "`") ∷ []) refl (done _ _ refl no_more) (done _ _ refl (done _ _ refl no_more)) in
    true_is_not_false (ap (λ (left : Total). left.terminal.state.locks.manual) same)

pub acts_on_first_byte_breaks_same_however_cut : SameHoweverCut acts_on_first_byte → ⊥
unfolding calls host_steps streams
acts_on_first_byte_breaks_same_however_cut kept =
    let same = kept form (roomless (bytes "AB") ∷ []) (roomless (bytes "A") ∷ roomless (bytes "B") ∷ []) refl (done _ _ refl no_more) (done _ _ refl (done _ _ refl no_more)) in
    eqb-false 1 2 refl (ap (λ (left : Total). left.stored) same)

-- A text and ESC [ 5 n, first with no room, then with room for its four bytes.
abbrev text_and_ask : List ℕ
text_and_ask = bytes "A\u{1b}[5n"

abbrev no_room : Read
no_room = roomless text_and_ask

pub forgets_count_on3_breaks_continuing : Continuing our_rules forgets_count_on3 → ⊥
unfolding calls host_steps streams
forgets_count_on3_breaks_continuing kept =
    let same = kept form text_and_ask _ (stopped no_room [] refl (taken (record { bytes = bytes "n"; output = replicate 4 0 }) refl ended)) in
    eqb-false 0 1 refl (ap (λ (left : Total). left.stored) same)

pub takes_last_byte_on3_breaks_continuing : Continuing our_rules takes_last_byte_on3 → ⊥
unfolding calls host_steps streams
takes_last_byte_on3_breaks_continuing kept =
    let same = kept form text_and_ask _ (stopped no_room [] refl ended) in
    eqb-false 0 4 refl (ap (λ (left : Total). length left.bytes_sent) same)

-- An empty host call stores nothing.
pub invents_count_breaks_calls_are_steps : CallsAreSteps our_rules invents_count → ⊥
unfolding calls host_steps streams
invents_count_breaks_calls_are_steps kept = eqb-false 1 0 refl (ap (λ (left : Total). left.stored) (kept form (read [] [] ∷ [])))

-- ESC [ 5 n and ESC [ 6 n: the first report ends with n, in the fourth byte.
abbrev ask_twice : List ℕ
ask_twice = bytes "\u{1b}[5n\u{1b}[6n"

pub sends_backwards_breaks_calls_are_steps : CallsAreSteps our_rules sends_backwards → ⊥
unfolding calls host_steps streams
sends_backwards_breaks_calls_are_steps kept =
    let same = kept form (read ask_twice (replicate 10 0) ∷ []) in
    eqb-false (code ";") (code "n") refl (ap (λ (left : Total). get_or left.bytes_sent 3 0) same)
