-- The area keeps its length: what is added fits.
-- Assumes nothing.
use Prim.Native.Nat.{ℕ, ◌+◌, ◌≤◌}
use mathlib.Core.Path.{◌≡◌, refl, ◌∙◌}
use mathlib.Core.List.{List, ◌++◌}
use native.Mathlib.Omega.{arith}
use native.Mathlib.Nat.{min-eq_left}
use lib.ListN.{length, take, drop, length-append, length-take, length-drop}
use Rattle.part.specs.Checks.{Checked, fine, fault}
use Rattle.part.specs.Reading.{Piece}
use Rattle.part.specs.Records.{all_bytes, spliced}
use Rattle.part.specs.Place.{Effect}
use Rattle.part.specs.Part.{elements, outcome, written, area_after}
use Rattle.part.specs.declared.shapes.Descriptor.{Descriptor}
use Rattle.part.specs.declared.shapes.State.{State}
use Rattle.part.proofs.Checks.{Gives, value, refusal, OfCode, value_of}
use Rattle.part.proofs.Parts.{elements_grown}
use Rattle.part.proofs.Outcomes.{Done, Refusal, outcome_leaves}

pub elements_fit : (widths : List ℕ) (d : Descriptor) (s : State) (ps : List Piece) (e : Effect) → s.used ≤ 4096 → elements widths d s ps ≡ fine e → e.state.used ≤ 4096
elements_fit widths d s ps e k h = (value_of (elements widths d s ps) (elements_grown widths d s ps) h).fits k

pub spliced-length : (area : List ℕ) (at : ℕ) (bytes : List ℕ) → at + length bytes ≤ length area → length (spliced area at bytes) ≡ length area
spliced-length area at bytes h =
    let a = length-append (take at area ++ bytes) (drop (at + length bytes) area) in
    let b = length-append (take at area) bytes in
    let c : length (take at area) ≡ at = length-take at area ∙ min-eq_left (omega arith) in
    let e = length-drop (at + length bytes) area in
    omega arith

pub area-length : (widths : List ℕ) (d : Descriptor) (s : State) (part area : List ℕ) → length (area_after widths d s part area) ≡ length area
unfolding area_after
area-length widths d s part area = go (outcome widths d s part area) (outcome_leaves widths d s part area)
  where
    go : (m : Checked Effect) → Gives (Done s area) (OfCode Refusal) m → length (written area s.used m) ≡ length area
    go (fine f) (value done) = spliced-length area s.used (all_bytes f.items) done.fits
    go (fault code at) (refusal q) = refl
