-- Every code but 0 leaves all that was lent untouched, and hands the starting state back; and which codes there are.
-- Assumes nothing.
use Prim.Native.Nat.{ℕ, ◌≤◌}
use mathlib.Core.Path.{◌≡◌, refl, sym}
use mathlib.Core.Bool.{true, true≢false}
use mathlib.Core.List.{List}
use native.Mathlib.Omega.{arith}
use lib.ListN.{length}
use lib.Dec.{leb}
use borrow.Author.Tests.{eq-eqb}
use Rattle.part.specs.Checks.{Checked, fine, fault}
use Rattle.part.specs.Ranges.{only, ◌to◌, ◌or◌, ◌∈◌, hold, descriptor_fields, state_fields}
use Rattle.part.specs.Place.{Effect}
use Rattle.part.specs.Part.{admitted, outcome, answered, written, interpreted, area_after}
use Rattle.part.specs.declared.shapes.Descriptor.{Descriptor}
use Rattle.part.specs.declared.shapes.State.{State}
use Rattle.part.proofs.Checks.{OfCode, gives_where, gives_so, fault_of}
use Rattle.part.proofs.Bounds.{between}
use Rattle.part.proofs.Kept.{cut_leaves}
use Rattle.part.proofs.Outcomes.{outcome_leaves}

module _ (widths : List ℕ) (d : Descriptor) (s : State) (part area : List ℕ) where
  pub untouched : ((interpreted widths d s part area).answer.code ≡ 0 → ⊥) → ((interpreted widths d s part area).state ≡ s) × (area_after widths d s part area ≡ area)
  unfolding interpreted area_after
  untouched h = refused _ (outcome widths d s part area) h
    where
      refused : (count : ℕ) (o : Checked Effect) → ((answered count s o).answer.code ≡ 0 → ⊥) → ((answered count s o).state ≡ s) × (written area s.used o ≡ area)
      refused count (fine e) h = absurd (h refl)
      refused count (fault code at) h = (refl, refl)

  -- 20 to 29, 10, 12, 15 or 19: never 0
  pub codes : {code at : ℕ} → outcome widths d s part area ≡ fault code at → (code ∈ 20 to 29 or only 10 or only 12 or only 15 or only 19) ≡ true
  codes h = fault_of (outcome widths d s part area) (outcome_leaves widths d s part area) h

  pub not-zero : {at : ℕ} → outcome widths d s part area ≡ fault 0 at → ⊥
  not-zero h = true≢false (sym (codes h))

  -- so 0 is answered just where the part is done
  pub done : (interpreted widths d s part area).answer.code ≡ 0 → (f : Effect) × (outcome widths d s part area ≡ fine f)
  unfolding interpreted
  done h = go _ (outcome widths d s part area) refl h
    where
      go : (count : ℕ) (o : Checked Effect) → outcome widths d s part area ≡ o → (answered count s o).answer.code ≡ 0 → (f : Effect) × (o ≡ fine f)
      go count (fine f) e h = (f, refl)
      go count (fault code at) e h = absurd (not-zero (rw h at e))

  -- With an area and a width table of their sizes, and a state and a descriptor in range: 19 to 29.
  pub admitted_codes : {code at : ℕ} → length area ≡ 4096 → length widths ≡ 1024 → hold (state_fields s) ≡ true → hold (descriptor_fields d) ≡ true → outcome widths d s part area ≡ fault code at → (19 ≤ code) × (code ≤ 29)
  unfolding outcome admitted
  admitted_codes long table sh dh h =
      fault_of {Q = OfCode (λ code. (19 ≤ code) × (code ≤ 29))} _
      (gives_where (leb (length part) 8192) 19 _ (omega arith, omega arith) (λ _. gives_so (λ _ stays. stays) (λ code _. within code) (cut_leaves widths d dh s s.chain part)))
      (rw (eq-eqb (length area) 4096 long, eq-eqb (length widths) 1024 table, sh, dh) at h)
    where
      within : (code : ℕ) → (code ∈ 20 to 29) ≡ true → (19 ≤ code) × (code ≤ 29)
      within code q = let k = between code 20 29 q in (omega arith, omega arith)
