-- Contracts that leave something open: they compare only what is seen of an outcome.
use Rattle.std.specs.Prelude.{◌≡◌}
use Rattle.terminal.specs.Answers.{Outcome, given, bytes_sent}
use Rattle.terminal.specs.Calls.{start_call, host_call, key_call}
use Rattle.promises.specs.CallContracts.{Contracts}
use Rattle.wrong.specs.Entries.{counting, showing, without_half_read}

abbrev seeing : (Outcome → Outcome) → Contracts
seeing seen = record {
  start = λ size page reply left output. seen (given reply left output) ≡ seen (start_call size page);
  host = λ t bytes lent reply left output. seen (given reply left output) ≡ seen (host_call t bytes lent);
  key = λ t key lent reply left output. seen (given reply left output) ≡ seen (key_call t key lent);
}

-- They leave open the output past the bytes sent,
abbrev pub open_past_sent : Contracts
open_past_sent = seeing (λ o. showing (bytes_sent o) o)

-- or the count of cells stored,
abbrev pub open_count : Contracts
open_count = seeing (counting 0)

-- or the half-read record.
abbrev pub open_half_read : Contracts
open_half_read = seeing without_half_read
