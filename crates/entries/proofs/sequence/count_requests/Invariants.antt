use Rattle.std.proofs.Common.{◌≡◌, ◌+◌, length, drop}
use Rattle.entries.specs.Sequences.{judge, requests_in}
use Rattle.entries.proofs.sequence.count_requests.Given as goal

abbrev pub invariant-loop-i : goal.invariant-loop-i
invariant-loop-i l = record {
  left : l.sequence.left + l.i ≡ length l.entries;
  judged : judge l.i l.sequence.due l.sequence.requests (drop l.i l.entries) ≡ requests_in l.entries;
}
