-- Demand 3: the block that 266 sent, laid over the full block that ESC S sent before one key, is the page's copy.
use mathlib.Core.Path.{◌≡◌, refl, sym, ap, ◌∙◌, subst}
use mathlib.Core.Bool.{Bool, true, false}
use mathlib.Core.List.{List, [], ◌∷◌, ◌++◌, map, append-nil}
use Prim.Native.Nat.{ℕ, zero, suc, ◌≤◌}
use Prim.Native.Char.{code}
use borrow.Author.Tests.{eqb-true}
use lib.Dec.{eqb}
use lib.ListN.{length, take}
use Rattle.std.specs.Prelude.{Result, Err}
use Rattle.output.specs.declared.NoRoom as no_room
use Rattle.words.proofs.Choosing.{either_way, not_both, both}
use Rattle.page.specs.Page.{Page}
use Rattle.blocks.specs.Blocks.{entries_sent, block}
use Rattle.blocks.specs.Lay.{lay}
use Rattle.blocks.proofs.Pages.{valid_entries}
use Rattle.steps.specs.Steps.{Terminal, Transmission, silent, report, full_block, changed_block, Stepped, bytes_of, block_transmission, Valid}
use Rattle.steps.specs.Seen.{block_here}
use Rattle.steps.proofs.Writing.{block-bytes}
use Rattle.sending.specs.Sending.{sends_full}
use Rattle.keys.specs.Keys.{is_held_back, key_step}
use Rattle.terminal.specs.declared.Answer.{Answer}
use Rattle.terminal.specs.declared.Answer.TheVariants.{Done, WrongSize, WrongState, NoRoom, UnknownKey, Locked, TooLong, NoCell, NotTaken, RequiredBlank}
use Rattle.terminal.specs.declared.Reply.{Reply}
use Rattle.terminal.specs.Runs.{after, bytes_sent_by}
use Rattle.terminal.specs.Answers.{Outcome, number_of, given, unchanged, bytes_sent}
use Rattle.terminal.specs.Tests.{Passes}
use Rattle.terminal.specs.Lines.{required_blank}
use Rattle.terminal.specs.Calls.{host_call, key_call}
use Rattle.terminal.proofs.Cases
use Rattle.terminal.proofs.Cases.{KeyCase, key_case}
use Rattle.terminal.proofs.Lines.{line_9}
use Rattle.terminal.proofs.Theorems.{key_done, key_found_valid, bytes_sent_lem}
use Rattle.promises.specs.Rules.{byte, press, step_of, steps}
use Rattle.promises.specs.Copying.{HostStoresNothing, block_in, blocks_sent, standings, copies}
use Rattle.promises.specs.Further.{by_266}
use Rattle.promises.proofs.Asking.{block_asked}
use Rattle.promises.proofs.Keeping.{sendable, same_full_block}
use Rattle.promises.proofs.OurLaws.{our_step_laws}
use Rattle.promises.proofs.Theorems as Promised
use Rattle.copy.specs.Copy.{IsBlock, laying}
use Rattle.copy.proofs.Laws.{is_block}
use Rattle.samples.specs.declared.ThreeReplies.{ThreeReplies}
use Rattle.samples.specs.declared.NotKept.{NotKept}
use Rattle.samples.specs.declared.NotKept.TheVariants.{NotSent}
use Rattle.samples.specs.Samples.{esc_s, full_call, typed_call, later_call, ThreeCalls, all_answered, kept, copying, CopyKept}
use Rattle.samples.proofs.Asking.{after_esc, on_s, valid_after_esc, full_sent, FullAsked, full_asked}
use Rattle.samples.proofs.Laws.{host_fits, key_fits}

-- Every answer but the first has another number than 0.
pub not_done : (answer : Answer) → (answer ≡ Done → ⊥) → false ≡ eqb (number_of answer) 0
unfolding number_of
not_done Done others = absurd (others refl)
not_done WrongSize others = refl
not_done WrongState others = refl
not_done NoRoom others = refl
not_done UnknownKey others = refl
not_done Locked others = refl
not_done TooLong others = refl
not_done NoCell others = refl
not_done NotTaken others = refl
not_done RequiredBlank others = refl

-- What the code makes of the answer of `copy::lay`, and where a call was refused.
module _ (all : Bool) (bytes lent : List ℕ) where
  pub lays_where_answered : {answer : Result ℕ no_room.NoRoom} {output : List ℕ} → all ≡ true → record { answer = answer; output = output } ≡ laying bytes lent → record { copy = kept answer; output = output } ≡ copying all bytes lent
  unfolding copying
  lays_where_answered answered made = rw answered (λ i. record { copy = kept (made i).answer; output = (made i).output })

  pub lays_nothing : all ≡ false → record { copy = Err NotSent; output = lent } ≡ copying all bytes lent
  unfolding copying
  lays_nothing refused = rw refused

-- The three calls, each on what the one before left.
module _ (t : Terminal) (key : ℕ) (lent_full lent_typed lent_later : List ℕ) where
  pub three_calls : {first second third : Reply} {after_first after_second page : Page} {full typed later : List ℕ} →
      given first after_first full ≡ host_call t esc_s lent_full →
      given second after_second typed ≡ key_call (record { state = first.state; page = after_first }) key lent_typed →
      given third page later ≡ key_call (record { state = second.state; page = after_second }) 266 lent_later →
      ThreeCalls t key lent_full lent_typed lent_later (record { full = first; typed = second; later = third }) page full typed later
  three_calls {first} {second} {third} {full} {typed} one is-second is-third =
      let left = ap (λ (o : Outcome). o.terminal) one in
      let two = is-second ∙ ap (λ (u : Terminal). key_call u key lent_typed) left in
      let left-then = ap (λ (o : Outcome). o.terminal) two in
      record {
        first = (λ i. given first (sym left i).page full) ∙ one;
        second = (λ i. given second (sym left-then i).page typed) ∙ two;
        third = is-third ∙ ap (λ (u : Terminal). key_call u 266 lent_later) left-then;
      }

-- What 266 sends, by its mode, where it is not held back: a block of the page.
module _ (t : Terminal) where
  abbrev later_block : List ℕ
  later_block = block_here (sends_full t.state) t

  later_sent : is_held_back 266 t ≡ false → (key_step 266 t).transmission ≡ block_transmission (sends_full t.state) later_block
  unfolding step_of
  later_sent free =
      block_asked t (sends_full t.state) (press 266) (by_266 _ refl (λ field blank. not_both ((line_9 266 t).1 (required_blank refl field blank)) free))

  block_is_block : Valid t → (full : Bool) → IsBlock (block_here full t)
  unfolding block
  block_is_block valid full = is_block (entries_sent full t.state.size.columns t.page) (valid_entries t.state.size.columns t.page (sendable valid) full)

block_in_lem : (full : Bool) (bytes : List ℕ) → block_in (block_transmission full bytes) ≡ bytes ∷ []
unfolding block_in block_transmission
block_in_lem true bytes = refl
block_in_lem false bytes = refl

-- The block at a place of a list, counted from 0.
unfoldable place : ℕ → List (List ℕ) → List ℕ
place n [] = []
place zero (block ∷ later) = block
place (suc n) (block ∷ later) = place n later

-- The three steps that count: S after ESC, the key, 266.
module _ (t : Terminal) (valid : Valid t) (key : ℕ) where
  abbrev one : Stepped
  one = on_s t

  abbrev two : Stepped
  two = key_step key one.terminal

  abbrev three : Stepped
  three = key_step 266 two.terminal

  abbrev first_block : List ℕ
  first_block = block_here true t

  one_valid : Valid one.terminal
  unfolding step_of
  one_valid = (our_step_laws.every_step (byte (code "S")) (after_esc t) (valid_after_esc t valid)).valid

  -- After S, the key and 266, each block laid over what the host had.
  holds : first_block ∷ copies first_block (block_in two.transmission ++ (block_in three.transmission ++ []))
      ≡ map (block_here true) (one.terminal ∷ (map (λ (b : List ℕ). two.terminal) (block_in two.transmission) ++ (map (λ (b : List ℕ). three.terminal) (block_in three.transmission) ++ [])))
  unfolding step_of steps HostStoresNothing blocks_sent standings
  holds = Promised.copying-steps (after_esc t) (valid_after_esc t valid) (byte (code "S")) first_block (full_sent t) (press key ∷ press 266 ∷ []) tt

  -- Where the key sent nothing that is a block, where it sent one, and 266 its own.
  copies_then : is_held_back 266 two.terminal ≡ false → (sent : List (List ℕ)) → block_in two.transmission ≡ sent
      → first_block ∷ copies first_block (sent ++ (later_block two.terminal ∷ [])) ≡ map (block_here true) (one.terminal ∷ (map (λ (b : List ℕ). two.terminal) sent ++ (three.terminal ∷ [])))
  copies_then free sent told =
      let last = ap block_in (later_sent two.terminal free) ∙ block_in_lem _ _ in
      subst (λ (blocks : List (List ℕ)). first_block ∷ copies first_block (sent ++ (blocks ++ [])) ≡ map (block_here true) (one.terminal ∷ (map (λ (b : List ℕ). two.terminal) sent ++ (map (λ (b : List ℕ). three.terminal) blocks ++ [])))) last
      (subst (λ (blocks : List (List ℕ)). first_block ∷ copies first_block (blocks ++ (block_in three.transmission ++ [])) ≡ map (block_here true) (one.terminal ∷ (map (λ (b : List ℕ). two.terminal) blocks ++ (map (λ (b : List ℕ). three.terminal) (block_in three.transmission) ++ [])))) told holds)

  -- A key that sends a block itself stores nothing, so the page has the first block still.
  page_unstored : two.cells ≡ [] → block_here true two.terminal ≡ block_here true one.terminal
  unfolding step_of
  page_unstored no_cell =
      sym (same_full_block one.terminal one_valid two (our_step_laws.every_step (press key) one.terminal one_valid) no_cell)

  unsent : is_held_back 266 two.terminal ≡ false → block_in two.transmission ≡ [] → lay (later_block two.terminal) first_block ≡ block_here true three.terminal
  unfolding copies place
  unsent free none = ap (place 1) (copies_then free [] none)

  sent_itself : is_held_back 266 two.terminal ≡ false → (bytes : List ℕ) → block_in two.transmission ≡ bytes ∷ [] → two.cells ≡ [] → lay (later_block two.terminal) first_block ≡ block_here true three.terminal
  unfolding copies place
  sent_itself free bytes sent no_cell =
      let all = copies_then free (bytes ∷ []) sent in
      let same : first_block ≡ lay bytes first_block = ap (place 0) all ∙ sym (page_unstored no_cell) ∙ sym (ap (place 1) all) in
      ap (lay (later_block two.terminal)) same ∙ ap (place 2) all

  copy_right : is_held_back 266 two.terminal ≡ false → (transmission : Transmission) → two.transmission ≡ transmission → lay (later_block two.terminal) first_block ≡ block_here true three.terminal
  unfolding block_in step_of
  copy_right free silent sends = unsent free (ap block_in sends)
  copy_right free (report bytes) sends = unsent free (ap block_in sends)
  copy_right free (full_block bytes) sends = sent_itself free bytes (ap block_in sends) ((our_step_laws.every_step (press key) one.terminal one_valid).by_full_block bytes sends).no_cell
  copy_right free (changed_block bytes) sends = sent_itself free bytes (ap block_in sends) ((our_step_laws.every_step (press key) one.terminal one_valid).by_changed_block bytes sends).no_cell

-- A key call given 0 is its key's step.
record Pressed (t : Terminal) (key : ℕ) (outcome : Outcome) : Type 0 where
  valid : Valid t
  terminal : outcome.terminal ≡ (key_step key t).terminal
  sent : bytes_sent outcome ≡ bytes_of (key_step key t).transmission
  let_go : is_held_back key t ≡ false

passed : {t : Terminal} {key : ℕ} {lent : List ℕ} → KeyCase t key lent → (key_call t key lent).number ≡ 0 → Passes t key
unfolding unchanged
passed (Cases.refused answer some is) is-done = absurd (some (sym (ap (λ (o : Outcome). o.number) is) ∙ is-done))
passed (Cases.pressed passes fits is) is-done = passes

key_pressed : (t : Terminal) (key : ℕ) (lent : List ℕ) → (key_call t key lent).number ≡ 0 → Pressed t key (key_call t key lent)
unfolding after bytes_sent_by
key_pressed t key lent is-done =
    let did = key_done t key lent is-done in
    record { valid = key_found_valid t key lent is-done; terminal = did.terminal; sent = bytes_sent_lem did ∙ append-nil _; let_go = (passed (key_case t key lent) is-done).not_held_back }

-- What the calls sent, and where all were given 0, what that is.
module _ {t : Terminal} {key : ℕ} {lent_full lent_typed lent_later : List ℕ} {replies : ThreeReplies} {page : Page} {full typed later : List ℕ} (calls : ThreeCalls t key lent_full lent_typed lent_later replies page full typed later) where
  pub full_fits : replies.full.sent ≤ length full
  full_fits = host_fits t esc_s lent_full calls.first

  pub later_fits : replies.later.sent ≤ length later
  later_fits = key_fits (typed_call t key lent_full lent_typed).terminal 266 lent_later calls.third

  module _ (answered : all_answered replies ≡ true) where
    numbers : (number_of replies.full.answer ≡ 0) × (number_of replies.typed.answer ≡ 0) × (number_of replies.later.answer ≡ 0)
    unfolding all_answered
    numbers = let p = both answered in let q = both p.1 in (eqb-true _ _ p.0, eqb-true _ _ q.0, eqb-true _ _ q.1)

    first_asked : FullAsked t (full_call t lent_full)
    first_asked = full_asked t lent_full (sym (ap (λ (o : Outcome). o.number) calls.first) ∙ numbers.0)

    second_pressed : Pressed (full_call t lent_full).terminal key (typed_call t key lent_full lent_typed)
    second_pressed = key_pressed _ key lent_typed (sym (ap (λ (o : Outcome). o.number) calls.second) ∙ numbers.1)

    third_pressed : Pressed (typed_call t key lent_full lent_typed).terminal 266 (later_call t key lent_full lent_typed lent_later)
    third_pressed = key_pressed _ 266 lent_later (sym (ap (λ (o : Outcome). o.number) calls.third) ∙ numbers.2)

    before_later : (typed_call t key lent_full lent_typed).terminal ≡ (two t first_asked.valid key).terminal
    before_later = second_pressed.terminal ∙ ap (λ (u : Terminal). (key_step key u).terminal) first_asked.terminal

    full_bytes : take replies.full.sent full ≡ block_here true t
    full_bytes = ap bytes_sent calls.first ∙ first_asked.sent

    later_bytes : take replies.later.sent later ≡ later_block (typed_call t key lent_full lent_typed).terminal
    later_bytes = ap bytes_sent calls.third ∙ third_pressed.sent ∙ ap bytes_of (later_sent (typed_call t key lent_full lent_typed).terminal third_pressed.let_go) ∙ block-bytes _ _

    pub full_is_block : IsBlock (take replies.full.sent full)
    full_is_block = subst IsBlock (sym full_bytes) (block_is_block t first_asked.valid true)

    pub later_is_block : IsBlock (take replies.later.sent later)
    later_is_block = subst IsBlock (sym later_bytes) (block_is_block (typed_call t key lent_full lent_typed).terminal third_pressed.valid _)

    laid_right : lay (take replies.later.sent later) (take replies.full.sent full) ≡ block_here true (record { state = replies.later.state; page = page })
    laid_right =
        (λ i. lay (later_bytes i) (full_bytes i))
        ∙ ap (λ (u : Terminal). lay (later_block u) (block_here true t)) before_later
        ∙ copy_right t first_asked.valid key (subst (λ (u : Terminal). is_held_back 266 u ≡ false) before_later third_pressed.let_go) (two t first_asked.valid key).transmission refl
        ∙ ap (λ (u : Terminal). block_here true (key_step 266 u).terminal) (sym before_later)
        ∙ ap (block_here true) (sym third_pressed.terminal)
        ∙ ap (λ (o : Outcome). block_here true o.terminal) (sym calls.third)

  abbrev bytes_laid : List ℕ
  bytes_laid = lay (take replies.later.sent later) (take replies.full.sent full)

  -- Where a call was refused it doesn't matter what would have been laid.
  same_copy : (lent : List ℕ) → copying (all_answered replies) bytes_laid lent ≡ copying (all_answered replies) (block_here true (record { state = replies.later.state; page = page })) lent
  unfolding copying
  same_copy lent =
      either_way (all_answered replies)
      (λ answered. ap (λ (bytes : List ℕ). copying (all_answered replies) bytes lent) (laid_right answered))
      (λ refused. rw refused)

  pub copy_made : (lent : List ℕ) {output : List ℕ} {copy : Result ℕ NotKept} →
      record { copy = copy; output = output } ≡ copying (all_answered replies) bytes_laid lent →
      CopyKept t key lent_full lent_typed lent_later lent (record { replies = replies; copy = copy }) page full typed later output
  copy_made lent made = record { calls = calls; is_copy = made ∙ same_copy lent }
