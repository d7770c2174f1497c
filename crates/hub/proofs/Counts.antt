-- The count of open jobs: what an entry adds to it, and the count as std's.
use Rattle.std.specs.Prelude.{if◌then◌else◌, count_by}
use Rattle.std.proofs.Common.{ℕ, ◌≡◌, ◌+◌, ◌≤◌, Bool, true, false, cond, List, refl, arith}
use Rattle.std.proofs.lemmas.List.Recursion.{is_count_by}
use Rattle.hub.specs.Entries.{is_open}
use Rattle.hub.specs.Requests.{open_jobs}
use Rattle.hub.specs.declared.jobs.Entry.{Entry}

abbrev pub one : Entry → ℕ
one e = if is_open e then 1 else 0

pub one_le : (t : Bool) → (if t then 1 else 0) ≤ 1
one_le true = omega arith
one_le false = omega arith

pub counted : (es : List Entry) → open_jobs es ≡ count_by is_open es
counted es = is_count_by open_jobs is_open refl (λ e es. more (is_open e) (open_jobs es)) es
  where
    more : (t : Bool) (n : ℕ) → (if t then 1 else 0) + n ≡ cond t (1 + n) n
    more true n = refl
    more false n = omega arith
