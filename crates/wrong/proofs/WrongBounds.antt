-- On the page that reaches the bound: blocks that are too long, a block withheld, and calls that stop and have sent
-- nothing.
use mathlib.Core.Path.{◌≡◌, refl, sym, ap, ◌∙◌}
use mathlib.Core.Bool.{true, false}
use mathlib.Core.List.{List, [], ◌∷◌, ◌++◌, append-nil}
use Prim.Native.Nat.{ℕ, ◌*◌, ◌<◌, ◌≤◌}
use Prim.Native.Char.{code}
use native.Mathlib.Omega.{arith}
use borrow.Author.Tests.{eq-eqb}
use lib.Dec.{eqb}
use lib.ListN.{length, take, replicate, length-append, length-replicate}
use Rattle.words.specs.Lists.{each_from}
use Rattle.words.proofs.Choosing.{true_is_not_false, then_case}
use Rattle.places.specs.Places.{place_of}
use Rattle.blocks.specs.Blocks.{Entry, entry_bytes, encode, block}
use Rattle.blocks.proofs.Claims.{blank_form, first_and_even}
use Rattle.blocks.proofs.Theorems.{longest_reached}
use Rattle.state.specs.State.{fresh_state}
use Rattle.fields.specs.Required.{some_left_blank}
use Rattle.steps.specs.Steps.{Terminal, Stepped, bytes_of, Valid}
use Rattle.steps.specs.Seen.{seen}
use Rattle.commands.specs.Host.{host_step}
use Rattle.terminal.specs.Runs.{bytes_sent_by}
use Rattle.terminal.specs.Answers.{Outcome}
use Rattle.terminal.specs.Calls.{host_call}
use Rattle.terminal.specs.Lines.{Line3, this_holds, not_this}
use Rattle.terminal.proofs.Lines.{none_left_blank}
use Rattle.words.specs.Text.{bytes}
use Rattle.promises.specs.Rules.{our_rules, press, byte_steps}
use Rattle.promises.specs.Further.{by_266, Progress, SendsBlocks, Bounded}
use Rattle.wrong.specs.Entries.{stops_at_once, hides_sent_on3}
use Rattle.wrong.specs.Rules.{is_block, withholds_changed, ends_twice, sends_fixed_block}
use Rattle.promises.proofs.Theorems.{demand_1, valid_by_the_table}
use Rattle.promises.proofs.Worked.{in_full}
use Rattle.wrong.proofs.WrongModes.{in_full_valid}
use Rattle.promises.proofs.Computing.{validity, host_steps, key_steps, calls, streams}

-- 48 rows of 160 columns with a field in each even column; the first begins in column 1.
abbrev pub many_fields : Terminal
many_fields = record { state = fresh_state (record { rows = 48; columns = 160 }); page = blank_form first_and_even (48 * 160) }

pub many_valid : Valid many_fields
unfolding validity each_from first_and_even place_of
many_valid = record { size = refl; state = refl; page = refl }

-- The same where 266 sends all.
abbrev pub many_in_full : Terminal
many_in_full = in_full many_fields

pub many_in_full_valid : Valid many_in_full
many_in_full_valid = in_full_valid many_valid

pub ends_twice_breaks_bounded : Bounded ends_twice → ⊥
unfolding key_steps streams each_from first_and_even place_of
ends_twice_breaks_bounded kept =
    let longest = block true 160 many_fields.page in
    let bound : length (longest ++ (0x03 ∷ [])) ≤ 35138 = kept many_in_full many_in_full_valid (press 266) true (longest ++ (0x03 ∷ [])) refl in
    omega (arith, bound, length-append longest (0x03 ∷ []), longest_reached)

pub sends_fixed_block_breaks_bounded : Bounded sends_fixed_block → ⊥
unfolding key_steps streams each_from first_and_even place_of
sends_fixed_block_breaks_bounded kept =
    let long : List ℕ = replicate 35139 0x03 in
    let bound : length long ≤ 35138 = kept many_fields many_valid (press 266) false long refl in
    omega (arith, bound, length-replicate {A = ℕ} 35139 0x03)

pub ends_twice_breaks_sends_blocks : SendsBlocks ends_twice → ⊥
unfolding key_steps streams each_from first_and_even place_of
ends_twice_breaks_sends_blocks kept =
    let longest = block true 160 many_fields.page in
    let block_is = ((kept many_in_full many_in_full_valid (press 266) true (longest ++ (0x03 ∷ []))).0 refl).1 in
    omega (arith, ap length block_is, length-append longest (0x03 ∷ []))

many_not_required : some_left_blank (seen many_fields) ≡ false
unfolding key_steps each_from first_and_even place_of
many_not_required = refl

pub withholds_changed_breaks_sends_blocks : SendsBlocks withholds_changed → ⊥
unfolding key_steps streams is_block each_from first_and_even place_of
withholds_changed_breaks_sends_blocks kept =
    let sent = (kept many_fields many_valid (press 266) false (block false 160 many_fields.page)).1 (by_266 false refl (none_left_blank many_fields many_not_required), refl) in
    true_is_not_false (sym (ap is_block sent))

-- With room for the longest block, a call that is given 3 has sent something: of two blocks, asked for in one call, the
-- first.
abbrev longest_room : List ℕ
longest_room = replicate 35138 0

room_long : length longest_room ≡ 35138
room_long = length-replicate {A = ℕ} 35138 0

pub stops_at_once_breaks_progress : Progress stops_at_once → ⊥
unfolding calls
stops_at_once_breaks_progress kept = absurd (omega (arith, kept many_fields [] longest_room (omega (arith, room_long)) refl))

abbrev twice : List ℕ
twice = bytes "\u{1b}S\u{1b}S"

abbrev first_three : List Stepped
first_three = take 3 (byte_steps our_rules many_fields twice)

abbrev after_three : Terminal
after_three = (host_step 0x1B (host_step (code "S") (host_step 0x1B many_fields).terminal).terminal).terminal

first_sent : length (bytes_sent_by first_three) ≡ 35138
unfolding host_steps streams bytes_sent_by
first_sent = ap (length {A = ℕ}) (append-nil (block true 160 many_fields.page)) ∙ longest_reached

-- A block has one byte at least.
some_bytes : (entries : List Entry) → 0 < length (encode entries)
unfolding encode
some_bytes [] = omega arith
some_bytes (entry ∷ later) = omega (arith, some_bytes later, length-append (entry_bytes entry) (encode later))

next_sends : 0 < length (bytes_of (host_step (code "S") after_three).transmission)
unfolding host_steps block
next_sends = some_bytes _

no_room : Line3 (length longest_room) (byte_steps our_rules many_fields twice)
unfolding streams
no_room = record {
  before = first_three;
  next = host_step (code "S") after_three;
  later = [];
  are = refl;
  fit = omega (arith, first_sent, room_long);
  exceeds = omega (arith, first_sent, next_sends, room_long);
}

given_3 : (host_call many_fields twice longest_room).number ≡ 3
given_3 =
    let none = (valid_by_the_table many_fields).0 many_valid in
    (demand_1.numbers.of_host many_fields twice longest_room 3).1
    (not_this _ _ _ none.0 (not_this _ _ _ none.1 (not_this _ _ _ (λ long. omega (arith, long)) (this_holds _ _ no_room))))

pub hides_sent_on3_breaks_progress : Progress hides_sent_on3 → ⊥
hides_sent_on3_breaks_progress kept =
    let outcome = host_call many_fields twice longest_room in
    let hidden = then_case {A = Outcome} (eqb outcome.number 3) _ outcome (eq-eqb _ _ given_3) in
    let sent = kept many_fields twice longest_room (omega (arith, room_long)) (ap (λ (o : Outcome). o.number) hidden ∙ given_3) in
    omega (arith, sent, ap (λ (o : Outcome). o.sent) hidden)
