-- The numbers in a frame, and what a call can be lent; see second/FORMATS.md, section "calls".
use Rattle.std.specs.Prelude.{List, ℕ, ◌+◌, ◌*◌, ◌≤◌, get_or}

-- Two bytes from a place on, and four, the high byte first.
abbrev pub two_at : List ℕ → ℕ → ℕ
two_at frame at = get_or frame at 0 * 256 + get_or frame (at + 1) 0

abbrev pub four_at : List ℕ → ℕ → ℕ
four_at frame at = two_at frame at * 65536 + two_at frame (at + 2)

-- No more than is kept: 8,192 characters, 8,192 marks and 65,536 bytes of output.
abbrev pub Lendable : ℕ → ℕ → ℕ → Type 0
Lendable characters marks room = (characters ≤ 8192) × (marks ≤ 8192) × (room ≤ 65536)
