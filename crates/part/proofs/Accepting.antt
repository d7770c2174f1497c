-- A part that is answered 0: its elements passed, and the state and the area are what they leave. And effects in a row.
-- Assumes nothing.
use Prim.Native.Nat.{ℕ, ◌+◌, ◌≤◌}
use mathlib.Core.Path.{◌≡◌, refl}
use mathlib.Core.Bool.{true}
use mathlib.Core.List.{List, ◌++◌, append_assoc}
use lib.ListN.{length}
use Rattle.part.specs.Checks.{Checked, fine, fault, ◌>>=◌}
use Rattle.part.specs.Ranges.{hold, state_fields}
use Rattle.part.specs.Reading.{cut}
use Rattle.part.specs.Records.{all_bytes, spliced}
use Rattle.part.specs.Place.{Effect, effect}
use Rattle.part.specs.Part.{elements, admitted, outcome, interpreted, area_after}
use Rattle.part.specs.declared.shapes.Descriptor.{Descriptor}
use Rattle.part.specs.declared.shapes.State.{State}
use Rattle.part.proofs.Checks.{went_on, value_of}
use Rattle.part.proofs.Parts.{◌then◌, elements_grow}
use Rattle.part.proofs.Outcomes.{outcome_leaves}
use Rattle.part.proofs.Refusals.{done}

module _ (widths : List ℕ) (d : Descriptor) (s : State) (part area : List ℕ) where
  pub record Accepted (f : Effect) : Type 0 where
    pub passed : elements widths d s (cut s.chain part) ≡ fine f
    pub its_state : (interpreted widths d s part area).state ≡ f.state
    pub its_area : area_after widths d s part area ≡ spliced area s.used (all_bytes f.items)
    pub grows : f.state.used ≡ s.used + length (all_bytes f.items)
    pub fits : s.used + length (all_bytes f.items) ≤ length area
    pub kept : hold (state_fields f.state) ≡ true

  pub accepted : (interpreted widths d s part area).answer.code ≡ 0 → (f : Effect) × Accepted f
  unfolding interpreted area_after outcome
  accepted h =
      let (f, is) = done widths d s part area h in
      let leaves = value_of (outcome widths d s part area) (outcome_leaves widths d s part area) is in
      let (_, _, passed) = went_on (admitted widths d s part area) (λ _. elements widths d s (cut s.chain part)) is in (
        f,
        record {
          passed = passed;
          its_state = rw is;
          its_area = rw is;
          grows = elements_grow widths d s (cut s.chain part) f passed;
          fits = leaves.fits;
          kept = leaves.kept;
        },
      )

-- one effect, another, and a third: as they are bracketed doesn't matter
pub then_then : (m : Checked Effect) (f g : State → Checked Effect) → ◌then◌ m (λ s. ◌then◌ (f s) g) ≡ ◌then◌ (◌then◌ m f) g
then_then (fault code at) f g = refl
then_then (fine e) f g = second (f e.state)
  where
    second : (n : Checked Effect) → (◌then◌ n g >>= λ x. effect x.state (e.items ++ x.items)) ≡ ◌then◌ (n >>= λ x. effect x.state (e.items ++ x.items)) g
    second (fault code at) = refl
    second (fine x) = third (g x.state)
      where
        third : (k : Checked Effect) → ((k >>= λ y. effect y.state (x.items ++ y.items)) >>= λ y. effect y.state (e.items ++ y.items)) ≡ (k >>= λ y. effect y.state ((e.items ++ x.items) ++ y.items))
        third (fault code at) = refl
        third (fine y) = rw (append_assoc e.items x.items y.items)
