-- Wrong codings of the state and wrong panels are caught by what M-100 promises of the functions that C calls.
use mathlib.Core.Path.{◌≡◌, refl, sym, ap, ◌∙◌}
use mathlib.Core.Bool.{Bool, true, false, not}
use mathlib.Core.List.{List, [], ◌∷◌, flat_map}
use mathlib.Core.Logic.{inl, ⊎_elim}
use Prim.Native.Nat.{ℕ, ◌%◌}
use native.Mathlib.Omega.{arith}
use borrow.Author.Tests.{eqb-false, eq-eqb}
use lib.Dec.{ltb}
use lib.ListN.{length, get_or, set, replicate}
use Rattle.words.specs.Choice.{If◌then◌else◌}
use Rattle.words.specs.Output.{placed}
use Rattle.words.specs.Lists.{exactly}
use Rattle.words.proofs.Choosing.{true_is_not_false, not_both, both, then_case, else_case}
use Rattle.page.specs.Page.{Page}
use Rattle.state.specs.declared.Size.{Size}
use Rattle.state.specs.declared.State.{State}
use Rattle.state.specs.State.{Arrays, fresh_state, with_cursor, cursor_at}
use Rattle.state.specs.Tabs.{stop_set}
use Rattle.state.specs.Tests.{listed_rows, listed_size, size_fits}
use Rattle.state.proofs.Keeping.{rows_listed}
use Rattle.terminal.specs.Answers.{Outcome}
use Rattle.terminal.specs.Calls.{host_call, key_call}
use Rattle.terminal.specs.Lines.{this_holds, not_this}
use Rattle.terminal.proofs.Matching.{decides_one}
use Rattle.record.specs.Bytes.{number_bytes, number_at, flag_byte, read_each, same_bytes}
use Rattle.record.specs.Record.{first_bytes, record_of, state_in, Good, is_good}
use Rattle.panel.specs.Panel.{Lent, Left, lent_of, result_bytes, marks_said, mark_bytes, page_in, untouched, refused_with, left_by, wrong_length, wrong_content, panel_start, on_terminal, panel_host, panel_key}
use Rattle.promises.specs.Rules.{our_rules}
use Rattle.promises.specs.Entries.{our_entries, read}
use Rattle.promises.specs.Panel.{rows_not_listed, marks_not_twice_as_long, ValidState, OneRecord, PanelNumbers, PanelRefusals, Shown, lent_for, AsCalled, left_of, left_all, AllShown, next_shown, AsCalledOn, LeavesValid}
use Rattle.wrong.specs.Panels.{with_record, first_two_swapped, counts_reversed, takes_any_flag, loses_last_stop, high_byte_first, takes_bad_content, takes_one_byte_marks, record_before_result, content_before_size, zeroes_results, refused_start_keeps_record, forgets_the_record, marks_high_byte_first, counts_high_byte_first, leaves_flag2, leaves_no_size}
use Rattle.promises.proofs.PanelPages.{panel_line_1, page_back}
use Rattle.promises.proofs.Theorems.{panel_kept}
use Rattle.promises.proofs.Computing.{tests, validity, host_steps, key_steps, calls, streams}
use Rattle.wrong.proofs.WrongAnswers.{one_field, one_field_valid}

-- What is opened where records are written, read and compared, and where a panel is called.
unfoldable records : Unit {0}
unfolding tests flat_map exactly number_bytes number_at flag_byte read_each same_bytes first_bytes record_of state_in is_good
records = tt

unfoldable panels : Unit {0}
unfolding records calls result_bytes marks_said wrong_length wrong_content panel_start on_terminal panel_host panel_key
panels = tt

-- A record of zeros but for the erasure mode's flag.
abbrev flagged : ℕ → List ℕ
flagged byte = set (replicate 195 0) 10 byte

-- 1 and 2 in that flag are two records of one state.
pub takes_any_flag_breaks_one_record : OneRecord takes_any_flag → ⊥
unfolding records
takes_any_flag_breaks_one_record kept =
    let same = kept.one (flagged 1) (flagged 2) refl refl refl in
    eqb-false 1 2 refl (ap (λ (bytes : List ℕ). get_or bytes 10 0) same)

-- A page of 160 columns with a tab stop in the last one.
abbrev last_stop : State
last_stop = stop_set (with_cursor (fresh_state (record { rows = 48; columns = 160 })) (cursor_at 1 160))

last_stop_valid : ValidState last_stop
unfolding validity stop_set
last_stop_valid = record { listed = refl; valid = refl; arrays = record { stops = refl; arguments = refl } }

pub loses_last_stop_breaks_one_record : OneRecord loses_last_stop → ⊥
unfolding records stop_set
loses_last_stop_breaks_one_record kept =
    let lost : true ≡ false = ap (λ (s : State). get_or s.stops 159 false) (sym (kept.back last_stop last_stop_valid)) in
    true_is_not_false lost

-- 48 rows are read back as 12,288.
pub high_byte_first_breaks_one_record : OneRecord high_byte_first → ⊥
unfolding records stop_set
high_byte_first_breaks_one_record kept =
    eqb-false 12288 48 refl (ap (λ (s : State). s.size.rows) (kept.back last_stop last_stop_valid))

-- A valid terminal, lent by C; and with a 2 in the erasure mode's flag of its record.
abbrev form_lent : Lent
form_lent = lent_for one_field [] (replicate 13 0)

abbrev bad_lent : Lent
bad_lent = lent_of (set form_lent.packed 10 2) form_lent.characters form_lent.marks [] (replicate 13 0)

-- What C sees of ours there is what the entries give; and the page is read there as it is.
one_field_arrays : Arrays one_field.state
one_field_arrays = record { stops = refl; arguments = refl }

host_shown : (bytes : List ℕ) → Shown form_lent.marks (host_call one_field bytes []) (panel_host form_lent bytes)
host_shown bytes = panel_kept.as_called.of_host one_field one_field_valid one_field_arrays bytes [] (replicate 13 0) refl

key_shown : (key : ℕ) → Shown form_lent.marks (key_call one_field key []) (panel_key form_lent key)
key_shown key = panel_kept.as_called.of_key one_field one_field_valid one_field_arrays key [] (replicate 13 0) refl

form_page : page_in form_lent ≡ one_field.page
form_page = page_back one_field one_field_valid

-- An empty host call is given 2 for its content, and not 0.
abbrev bad_size : Size
bad_size = (state_in bad_lent.packed).size

bad_fits : size_fits bad_size one_field.page ≡ true
unfolding records validity
bad_fits = refl

bad_done : (host_call (record { state = state_in bad_lent.packed; page = one_field.page }) [] []).number ≡ 0
unfolding records calls
bad_done = refl

bad_length : length bad_lent.packed ≡ 195
unfolding records
bad_length = refl

bad_is_bad : Good bad_lent.packed → ⊥
unfolding records
bad_is_bad good = eqb-false 0 2 refl (ap (λ (bytes : List ℕ). get_or bytes 10 0) good)

-- What the wrong one gives, by the page that is read.
abbrev taken_with : Page → Left
taken_with page =
    If ltb 0 (wrong_length bad_lent.packed bad_lent.result) then untouched (wrong_length bad_lent.packed bad_lent.result) bad_lent
    else If not (size_fits bad_size page) then refused_with 1 bad_lent
    else left_by bad_lent (host_call (record { state = state_in bad_lent.packed; page = page }) [] [])

right_lengths : wrong_length bad_lent.packed bad_lent.result ≡ 0
unfolding records wrong_length
right_lengths = refl

taken_done : (taken_with one_field.page).number ≡ 0
taken_done =
    ap (λ (l : Left). l.number)
    (else_case _ _ _ (ap (ltb 0) right_lengths) ∙ else_case _ _ _ (ap not bad_fits))
    ∙ bad_done

pub takes_bad_content_breaks_numbers : PanelNumbers our_rules takes_bad_content → ⊥
takes_bad_content_breaks_numbers kept =
    let done : (takes_bad_content.host bad_lent []).number ≡ 0 = ap (λ (page : Page). (taken_with page).number) form_page ∙ taken_done in
    let fits : size_fits bad_size (page_in bad_lent) ≡ true = ap (size_fits bad_size) form_page ∙ bad_fits in
    eqb-false 0 2 refl
    (decides_one ((kept.of_host bad_lent [] 0).0 done)
    (not_this _ _ 2 (λ other. other refl)
    (not_this _ _ 2 (λ other. other bad_length)
    (not_this _ _ 2 (λ line. not_both fits ((panel_line_1 bad_size bad_lent).1 line))
    (this_holds _ _ bad_is_bad)))))

-- Nothing at all is lent: the result slice's line is the first.
abbrev nothing_lent : Lent
nothing_lent = lent_of [] [] [] [] []

pub record_before_result_breaks_numbers : PanelNumbers our_rules record_before_result → ⊥
unfolding panels
record_before_result_breaks_numbers kept =
    eqb-false 2 1 refl (decides_one ((kept.of_host nothing_lent [] 2).0 refl) (this_holds _ _ (eqb-false 0 13 refl)))

-- A record of zeros with a 2 in a flag: 0 rows are not listed, and this line comes first.
abbrev flag2_lent : Lent
flag2_lent = lent_of (flagged 2) [] [] [] (replicate 13 0)

pub content_before_size_breaks_numbers : PanelNumbers our_rules content_before_size → ⊥
unfolding panels
content_before_size_breaks_numbers kept =
    eqb-false 2 1 refl
    (decides_one ((kept.of_host flag2_lent [] 2).0 refl)
    (not_this _ _ 1 (λ other. other refl)
    (not_this _ _ 1 (λ other. other refl)
    (this_holds _ _ (rows_not_listed (eqb-false 0 24 refl) (eqb-false 0 27 refl) (eqb-false 0 48 refl))))))

-- A page whose marks have one byte a cell is given 1.
abbrev one_byte_lent : Lent
one_byte_lent = lent_of (record_of one_field.state) one_field.page.characters one_field.page.marks [] (replicate 13 0)

one_byte_done : (takes_one_byte_marks.host one_byte_lent []).number ≡ 0
unfolding records calls
one_byte_done = refl

pub takes_one_byte_marks_breaks_numbers : PanelNumbers our_rules takes_one_byte_marks → ⊥
unfolding records
takes_one_byte_marks_breaks_numbers kept =
    eqb-false 0 1 refl
    (decides_one ((kept.of_host one_byte_lent [] 0).0 one_byte_done)
    (not_this _ _ 1 (λ other. other refl)
    (not_this _ _ 1 (λ other. other refl)
    (this_holds _ _ (marks_not_twice_as_long (eqb-false 1920 3840 refl))))))

-- A result slice of one byte.
abbrev short_result : Lent
short_result = lent_of (replicate 195 0) [] [] [] (7 ∷ [])

pub zeroes_results_breaks_refusals : PanelRefusals zeroes_results → ⊥
unfolding panels
zeroes_results_breaks_refusals kept =
    let left = kept.own_host short_result [] (inl (eqb-false 1 13 refl)) in
    eqb-false 0 7 refl (ap (λ (lent : Lent). get_or lent.result 0 0) left)

-- A start of 1 by 1 is refused for its size.
pub refused_start_keeps_record_breaks_refusals : PanelRefusals refused_start_keeps_record → ⊥
unfolding panels
refused_start_keeps_record_breaks_refusals kept =
    let told = kept.of_start 1 1 flag2_lent refl (λ place. omega arith) (⊎_elim (λ other. other refl) (λ other. other refl), eqb-false 1 0 refl) in
    eqb-false 2 0 refl (ap (λ (bytes : List ℕ). get_or bytes 10 0) told.packed)

-- After ESC a sequence is half read, and the record has its kind.
abbrev esc : List ℕ
esc = 0x1B ∷ []

half_is_told : record_of one_field.state ≡ record_of (host_call one_field esc []).terminal.state → ⊥
unfolding records calls host_steps
half_is_told same = eqb-false 0 1 refl (ap (λ (bytes : List ℕ). get_or bytes 16 0) same)

pub forgets_the_record_breaks_as_called : AsCalled our_entries forgets_the_record → ⊥
forgets_the_record_breaks_as_called kept =
    let shown = kept.of_host one_field one_field_valid one_field_arrays esc [] (replicate 13 0) refl in
    half_is_told shown.packed

-- What is promised of calls one after another is promised of the first of them.
first_shown : {marks : List ℕ} {outcome : Outcome} {left : Left} {later : List Outcome} {further : List Left} → AllShown marks (outcome ∷ later) (left ∷ further) → Shown marks outcome left
first_shown (next_shown marks outcome left later further shown others) = shown

pub forgets_the_record_breaks_as_called_on : AsCalledOn our_entries forgets_the_record → ⊥
unfolding streams left_of left_all
forgets_the_record_breaks_as_called_on kept =
    let shown = kept one_field one_field_valid one_field_arrays (read esc [] ∷ []) [] (replicate 13 0) refl in
    half_is_told (first_shown shown).packed

-- The first cell's marks are 2, modified, and would be read as 512.
abbrev marks_left : List ℕ
marks_left = placed 0 (mark_bytes (host_call one_field [] []).terminal.page.marks) form_lent.marks

first_mark : (get_or marks_left 0 0 ≡ 2) × (get_or (first_two_swapped marks_left) 0 0 ≡ 0)
unfolding records calls
first_mark = (refl, refl)

marks_break : Shown form_lent.marks (host_call one_field [] []) (marks_high_byte_first.host form_lent []) → ⊥
marks_break shown =
    eqb-false 0 2 refl
    (sym first_mark.1
    ∙ ap (λ (marks : List ℕ). get_or (first_two_swapped marks) 0 0) (sym (host_shown []).marks)
    ∙ ap (λ (marks : List ℕ). get_or marks 0 0) shown.marks
    ∙ first_mark.0)

pub marks_high_byte_first_breaks_as_called : AsCalled our_entries marks_high_byte_first → ⊥
marks_high_byte_first_breaks_as_called kept = marks_break (kept.of_host one_field one_field_valid one_field_arrays [] [] (replicate 13 0) refl)

pub marks_high_byte_first_breaks_as_called_on : AsCalledOn our_entries marks_high_byte_first → ⊥
unfolding streams left_of left_all
marks_high_byte_first_breaks_as_called_on kept =
    marks_break (first_shown (kept one_field one_field_valid one_field_arrays (read [] [] ∷ []) [] (replicate 13 0) refl))

-- One byte taken is told as 16,777,216.
form_lengths : wrong_length form_lent.packed form_lent.result ≡ 0
unfolding records wrong_length
form_lengths = refl

told_reversed : number_at 4 (counts_reversed (result_bytes (host_call one_field esc []).number (host_call one_field esc []).taken (host_call one_field esc []).sent (host_call one_field esc []).stored)) 1 ≡ 16777216
unfolding records calls host_steps result_bytes
told_reversed = refl

one_taken : (host_call one_field esc []).taken ≡ 1
unfolding calls host_steps
one_taken = refl

counts_break : Shown form_lent.marks (host_call one_field esc []) (counts_high_byte_first.host form_lent esc) → ⊥
counts_break shown =
    let left : (counts_high_byte_first.host form_lent esc).lent.result ≡ counts_reversed (panel_host form_lent esc).lent.result =
    ap (λ (l : Left). l.lent.result) (else_case _ _ _ (ap (ltb 0) form_lengths)) in
    let told = ap (λ (result : List ℕ). number_at 4 result 1) (left ∙ ap counts_reversed (host_shown esc).result) in
    eqb-false 16777216 1 refl (sym (told ∙ told_reversed) ∙ shown.taken_there ∙ one_taken)

pub counts_high_byte_first_breaks_as_called : AsCalled our_entries counts_high_byte_first → ⊥
counts_high_byte_first_breaks_as_called kept = counts_break (kept.of_host one_field one_field_valid one_field_arrays esc [] (replicate 13 0) refl)

pub counts_high_byte_first_breaks_as_called_on : AsCalledOn our_entries counts_high_byte_first → ⊥
unfolding streams left_of left_all
counts_high_byte_first_breaks_as_called_on kept =
    counts_break (first_shown (kept one_field one_field_valid one_field_arrays (read esc [] ∷ []) [] (replicate 13 0) refl))

-- No state has a record with a 2 in that flag.
flag_is_not_2 : (flag : Bool) → 2 ≡ flag_byte flag → ⊥
unfolding records
flag_is_not_2 true is = eqb-false 2 1 refl is
flag_is_not_2 false is = eqb-false 2 0 refl is

empty_call : (host_call one_field [] []).number ≡ 0
unfolding calls
empty_call = refl

with_flag_2 : (s : State) → get_or (set (record_of s) 10 2) 10 0 ≡ 2
unfolding records
with_flag_2 s = refl

flag_of : (s : State) → get_or (record_of s) 10 0 ≡ flag_byte s.modes.erasure
unfolding records
flag_of s = refl

pub leaves_flag2_breaks_leaves_valid : LeavesValid leaves_flag2 → ⊥
leaves_flag2_breaks_leaves_valid kept =
    let shown = host_shown [] in
    let done = shown.number ∙ empty_call in
    let left : leaves_flag2.host form_lent [] ≡ with_record (set (panel_host form_lent []).lent.packed 10 2) (panel_host form_lent []) = then_case _ _ _ (eq-eqb _ _ done) in
    let holds = kept.of_host form_lent [] (inl (ap (λ (l : Left). l.number) left ∙ done)) in
    flag_is_not_2 holds.state.modes.erasure
    (sym (with_flag_2 _)
    ∙ ap (λ (packed : List ℕ). get_or (set packed 10 2) 10 0) (sym shown.packed)
    ∙ ap (λ (l : Left). get_or l.lent.packed 10 0) (sym left)
    ∙ ap (λ (packed : List ℕ). get_or packed 10 0) holds.is_its_record
    ∙ flag_of holds.state)

-- No valid state has a record of zeros. Key 259 is given 0.
rows_are_not_0 : (rows : ℕ) → listed_rows rows ≡ true → 0 ≡ rows % 256 → ⊥
rows_are_not_0 rows listed zero =
    ⊎_elim (λ is. omega arith) (⊎_elim (λ is. omega arith) (λ is. omega arith)) (rows_listed rows listed)

first_key : (key_call one_field 259 []).number ≡ 0
unfolding calls key_steps
first_key = refl

rows_of : (s : State) → get_or (record_of s) 0 0 ≡ s.size.rows % 256
unfolding records
rows_of s = refl

rows_listed_of : (s : State) (page : Page) → size_fits s.size page ≡ true → listed_rows s.size.rows ≡ true
unfolding size_fits listed_size
rows_listed_of s page fits = (both (both fits).0).0

pub leaves_no_size_breaks_leaves_valid : LeavesValid leaves_no_size → ⊥
leaves_no_size_breaks_leaves_valid kept =
    let shown = key_shown 259 in
    let done = shown.number ∙ first_key in
    let left : leaves_no_size.key form_lent 259 ≡ with_record (replicate 195 0) (panel_key form_lent 259) = then_case _ _ _ (eq-eqb _ _ done) in
    let holds = kept.of_key form_lent 259 (ap (λ (l : Left). l.number) left ∙ done) in
    rows_are_not_0 holds.state.size.rows (rows_listed_of holds.state _ holds.valid.size)
    (ap (λ (l : Left). get_or l.lent.packed 0 0) (sym left)
    ∙ ap (λ (packed : List ℕ). get_or packed 0 0) holds.is_its_record
    ∙ rows_of holds.state)
