-- Ranges are kept: from a descriptor and a state in range, what is read and placed leaves a state in range.
-- Assumes nothing.
use Prim.Native.Nat.{ℕ, zero, suc, ◌+◌}
use mathlib.Core.Path.{◌≡◌}
use mathlib.Core.Bool.{true}
use mathlib.Core.List.{List, [], ◌∷◌}
use lib.ListN.{length, drop}
use lib.Dec.{eqb}
use borrow.Author.Tests.{eqb-true}
use Rattle.part.specs.Checks.{Checked, fine, fault}
use Rattle.part.specs.Ranges.{◌to◌, ◌∈◌, hold, descriptor_fields, state_fields}
use Rattle.part.specs.Reading.{Found, Piece, element, cut_from, cut}
use Rattle.part.specs.Pointing.{at_start}
use Rattle.part.specs.Place.{Effect}
use Rattle.part.specs.Part.{placed, passed, elements}
use Rattle.part.specs.declared.shapes.Descriptor.{Descriptor}
use Rattle.part.specs.declared.shapes.State.{State}
use Rattle.part.proofs.Checks.{Gives, OfCode, gives_then, gives_so, value_of, first_of, second_of}
use Rattle.part.proofs.Every.{Every, none, ◌also◌, every_so}
use Rattle.part.proofs.Fits.{Ranged, There, Coded, pointed_coded, element-fits, found-fits}
use Rattle.part.proofs.Placing.{Unplaced}
use Rattle.part.proofs.Parts.{elements_give, passed_leaves}

abbrev Legible : Piece → Type 0
Legible p = Gives Ranged (OfCode Coded) p.what

-- every piece of a part that is cut
pub pieces_fit : (most at chain : ℕ) (rest : List ℕ) → Every Legible (cut_from most at chain rest)
unfolding cut_from
pieces_fit zero at chain rest = none
pieces_fit (suc most) at chain [] = none
pieces_fit (suc most) at chain (x ∷ xs) = gives_so (λ _ ok. ok) (λ _ _ q. pointed_coded q.0) (element-fits chain (x ∷ xs)) also go (element chain (x ∷ xs)) (λ at chain rest. pieces_fit most at chain rest)
  where
    go : (m : Checked Found) → ((at chain : ℕ) (rest : List ℕ) → Every Legible (cut_from most at chain rest)) → Every Legible (elim m [ fine f ↦ cut_from most (at + f.size) f.chains (drop f.size (x ∷ xs)) | fault code k ↦ [] ])
    go (fine f) k = k _ _ _
    go (fault code j) k = none

-- where a fault of placing points
pub unplaced : (bytes : List ℕ) (h code at : ℕ) → Unplaced code at → There bytes h code at
unplaced bytes h code at q =
    let z = eqb-true at 0 (second_of (code ∈ 26 to 29) (eqb at 0) q) in
    rw z (at_start (first_of (code ∈ 26 to 29) (eqb at 0) q), λ some. some)

pub unplaced_coded : (code at : ℕ) → Unplaced code at → Coded code
unplaced_coded code at q = pointed_coded (unplaced [] 0 code at q).0

module _ (widths : List ℕ) (d : Descriptor) (dh : hold (descriptor_fields d) ≡ true) where
  -- what stands at the start of some bytes
  pub passed-kept : {found : Found} {f : Effect} (s : State) (chain : ℕ) (bytes : List ℕ) → hold (state_fields s) ≡ true → element chain bytes ≡ fine found → passed widths d s found ≡ fine f → hold (state_fields f.state) ≡ true
  passed-kept {found} s chain bytes h read done = (value_of (passed widths d s found) (passed_leaves widths d s found) done).1 dh (found-fits chain bytes read) h

  abbrev pub Stays : State → Effect → Type 0
  Stays s f = hold (state_fields s) ≡ true → hold (state_fields f.state) ≡ true

  -- all elements of a part; and a fault's code is from 20 to 29
  pub cut_leaves : (s : State) (chain : ℕ) (part : List ℕ) → Gives (Stays s) (OfCode Coded) (elements widths d s (cut chain part))
  unfolding cut
  cut_leaves s chain part =
      elements_give (placed widths d) Stays Coded (λ s h. h) (λ s e f one two h. two (one h)) s (cut chain part)
      (every_so (λ p ok s. gives_then p.what _ ok (λ f fit. gives_so (λ g r. r.1 dh fit) unplaced_coded (passed_leaves widths d s f))) (pieces_fit (length part) 0 chain part))
