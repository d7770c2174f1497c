-- A part as a whole: what is known where it is done, and the codes where it isn't.
-- Assumes nothing.
use Prim.Native.Nat.{ℕ, ◌+◌, ◌≤◌}
use mathlib.Core.Path.{◌≡◌, refl}
use mathlib.Core.Bool.{true, ◌&&◌}
use mathlib.Core.List.{List}
use native.Mathlib.Omega.{arith}
use lib.ListN.{length}
use lib.Dec.{leb, eqb}
use borrow.Author.Tests.{eqb-true}
use Rattle.part.specs.Checks.{Checked, fine, fault}
use Rattle.part.specs.Ranges.{only, ◌to◌, ◌or◌, ◌∈◌, hold, descriptor_fields, state_fields}
use Rattle.part.specs.Records.{all_bytes}
use Rattle.part.specs.Place.{Effect}
use Rattle.part.specs.Part.{admitted, outcome, answered, interpreted}
use Rattle.part.specs.declared.shapes.Descriptor.{Descriptor}
use Rattle.part.specs.declared.shapes.State.{State}
use Rattle.part.proofs.Checks.{Gives, value, refusal, OfCode, gives_then, gives_test, gives_where, gives_so, gives_both, first_of}
use Rattle.part.proofs.Bounds.{used_fits}
use Rattle.part.proofs.Parts.{elements_grown}
use Rattle.part.proofs.Kept.{cut_leaves}

-- what has been tested before the elements
pub record Admitted (d : Descriptor) (s : State) (area : List ℕ) : Type 0 where
  pub whole : length area ≡ 4096
  pub state : hold (state_fields s) ≡ true
  pub descriptor : hold (descriptor_fields d) ≡ true

pub record Done (s : State) (area : List ℕ) (f : Effect) : Type 0 where
  pub fits : s.used + length (all_bytes f.items) ≤ length area
  pub kept : hold (state_fields f.state) ≡ true

abbrev pub Refusal : ℕ → Type 0
Refusal code = (code ∈ 20 to 29 or only 10 or only 12 or only 15 or only 19) ≡ true

module _ (widths : List ℕ) (d : Descriptor) (s : State) (part area : List ℕ) where
  admits : Gives (λ _. Admitted d s area) (OfCode Refusal) (admitted widths d s part area)
  unfolding admitted
  admits =
      let whole = eqb (length area) 4096 in
      let table = eqb (length widths) 1024 in
      gives_where (whole && table) 10 _ refl λ a.
      gives_where (hold (state_fields s)) 12 _ refl λ b.
      gives_where (hold (descriptor_fields d)) 15 _ refl λ c.
      gives_so (λ _ _. record { whole = eqb-true _ _ (first_of whole table a); state = b; descriptor = c }) (λ _ _ q. q) (gives_test (leb (length part) 8192) 19 refl)

  pub outcome_leaves : Gives (Done s area) (OfCode Refusal) (outcome widths d s part area)
  unfolding outcome
  outcome_leaves =
      gives_then (admitted widths d s part area) _ admits λ _ ok.
      let whole = ok.whole in
      let least = used_fits s ok.state in
      gives_so (λ f leaves. let grows = leaves.0.grows in let most = leaves.0.fits least in record { fits = omega arith; kept = leaves.1 ok.state }) (λ code at q. rw q.1)
      (gives_both (elements_grown widths d s _) (cut_leaves widths d ok.descriptor s s.chain part))

  -- A state in range is followed by one in range, whatever is answered.
  pub interpreted-kept : hold (state_fields s) ≡ true → hold (state_fields (interpreted widths d s part area).state) ≡ true
  unfolding interpreted
  interpreted-kept h = go _ (outcome widths d s part area) outcome_leaves
    where
      go : (count : ℕ) (m : Checked Effect) → Gives (Done s area) (OfCode Refusal) m → hold (state_fields (answered count s m).state) ≡ true
      go count (fine f) (value done) = done.kept
      go count (fault code at) (refusal q) = h
