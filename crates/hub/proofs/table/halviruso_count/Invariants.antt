-- The number so far, and the open jobs among the entries that are left, are all of them.
use Rattle.std.proofs.Common.{◌≡◌, ◌+◌, ◌≤◌, drop}
use Rattle.hub.specs.Requests.{open_jobs}
use Rattle.hub.proofs.table.halviruso_count.Given as goal

abbrev pub invariant-loop-e : goal.invariant-loop-e
invariant-loop-e l = (l.n ≤ l.e-index) × (l.n + open_jobs (drop l.e-index l.table) ≡ open_jobs l.table)
