-- The check of one part alone is answered 0 or 19 to 29, and 15 above the range of increments, whatever the part; and its starting state is that of a job just opened.
-- Assumes nothing.
use Prim.Native.Nat.{ℕ, ◌≤◌, ◌<◌}
use mathlib.Core.Path.{◌≡◌, refl}
use mathlib.Core.Logic.{◌⊎◌, inl, inr}
use mathlib.Core.Bool.{true}
use mathlib.Core.List.{List}
use native.Mathlib.Omega.{arith}
use borrow.Author.Tests.{lt-ltb, le-ltb, le-leb}
use lib.ListN.{replicate, length-replicate}
use Rattle.part.specs.Checks.{Checked, fine, fault}
use Rattle.part.specs.Ranges.{hold, descriptor_fields, state_fields}
use Rattle.part.specs.Place.{Effect}
use Rattle.part.specs.Part.{outcome, answered, interpreted}
use Rattle.part.specs.Sheets.{lined, begun}
use Rattle.part.proofs.Refusals.{admitted_codes}
use Rattle.hub.specs.Entries.{first_state}
use Rattle.host.specs.Checked.{checked_at, checked}

pub just_opened : (increment : ℕ) → begun increment ≡ first_state (lined increment)
just_opened increment = refl

-- no descriptor has such an increment, and no part is looked at
pub refused_above : (increment : ℕ) (part : List ℕ) → 32767 < increment → checked_at increment part ≡ 15
refused_above increment part h = rw (lt-ltb 32767 increment h)

module _ (increment : ℕ) (low : increment ≤ 32767) where
  state_holds : hold (state_fields (begun increment)) ≡ true
  unfolding state_fields
  state_holds = rw (le-leb increment 32767 low)

  descriptor_holds : hold (descriptor_fields (lined increment)) ≡ true
  unfolding descriptor_fields
  descriptor_holds = rw (le-leb increment 32767 low)

  pub codes_at : (part : List ℕ) → (checked_at increment part ≡ 0) ⊎ ((19 ≤ checked_at increment part) × (checked_at increment part ≤ 29))
  unfolding interpreted
  codes_at part = rw (le-ltb 32767 increment low) (go _ (outcome (replicate 1024 144) (lined increment) (begun increment) part (replicate 4096 0)) refl)
    where
      go : (count : ℕ) (o : Checked Effect) → outcome (replicate 1024 144) (lined increment) (begun increment) part (replicate 4096 0) ≡ o
          → ((answered count (begun increment) o).answer.code ≡ 0) ⊎ ((19 ≤ (answered count (begun increment) o).answer.code) × ((answered count (begun increment) o).answer.code ≤ 29))
      go count (fine e) is = inl refl
      go count (fault code at) is =
          inr (admitted_codes (replicate 1024 144) (lined increment) (begun increment) part (replicate 4096 0) (length-replicate {A = ℕ} 4096 0) (length-replicate {A = ℕ} 1024 144) state_holds descriptor_holds is)

pub codes : (part : List ℕ) → (checked part ≡ 0) ⊎ ((19 ≤ checked part) × (checked part ≤ 29))
codes = codes_at 180 (omega arith)
