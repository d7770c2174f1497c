-- A refusal from 20 to 29 points at the byte that its code names, in the part's first element or in those behind it; and so inside the part.
-- Assumes nothing.
use Prim.Native.Nat.{ℕ, zero, suc, ◌+◌, ◌<◌}
use mathlib.Core.Path.{◌≡◌, refl, sym, ◌∙◌, ap}
use mathlib.Core.Bool.{true, false, true≢false, ◌&&◌}
use mathlib.Core.List.{List, [], ◌∷◌, ◌++◌}
use native.Mathlib.Omega.{arith}
use lib.ListN.{length, drop, length-drop}
use lib.Dec.{eqb}
use Rattle.part.specs.Checks.{Checked, fine, fault, ◌>>=◌, ◌>>◌}
use Rattle.part.specs.Ranges.{◌to◌, ◌∈◌, hold, descriptor_fields, state_fields}
use Rattle.part.specs.Reading.{element, cut_from, cut}
use Rattle.part.specs.Records.{Item}
use Rattle.part.specs.Place.{Effect, effect}
use Rattle.part.specs.Part.{passed, elements, elements_by, admitted, outcome, answered, interpreted, placed}
use Rattle.part.specs.Pointing.{length_at, Points, here, later, Pointing}
use Rattle.part.specs.declared.shapes.Descriptor.{Descriptor}
use Rattle.part.specs.declared.shapes.State.{State}
use Rattle.part.proofs.Checks.{Gives, refusal, OfCode, went_on, same_code, same_place, gives_then, gives-only, gives_where, gives_so, fault_of}
use Rattle.part.proofs.Cutting.{cut_one}
use Rattle.part.proofs.Fits.{There, element-fits}
use Rattle.part.proofs.Kept.{unplaced}
use Rattle.part.proofs.Parts.{passed_leaves}
use Rattle.part.proofs.Turns.{stops, goes}

-- a byte that is pointed at is there
pub points-inside : {chain : ℕ} {bytes : List ℕ} {code at : ℕ} → Points chain bytes code at → at < length bytes
points-inside (here p inside) = inside
points-inside {bytes = bytes} (later f e others) = let inside = points-inside others in omega (arith, length-drop f.size bytes)

-- a fault behind items that are done
fault-behind : {code at : ℕ} (items : List Item) (m : Checked Effect) → (m >>= λ o. effect o.state (items ++ o.items)) ≡ fault code at → m ≡ fault code at
fault-behind items (fine e) h = cc
fault-behind items (fault c k) h = h

module _ (widths : List ℕ) (d : Descriptor) where
  -- an element, read and placed
  one_points : (s : State) (chain : ℕ) (bytes : List ℕ) → Gives (λ _. Unit) (There bytes (length_at chain)) (element chain bytes >>= passed widths d s)
  one_points s chain bytes =
      gives_then (element chain bytes) _ (element-fits chain bytes) λ f _.
      gives_so (λ _ _. tt) (unplaced bytes (length_at chain)) (passed_leaves widths d s f)

  -- those from an offset on
  elements-point : (most at chain : ℕ) (rest : List ℕ) (s : State) {code first : ℕ} → elements widths d s (cut_from most at chain rest) ≡ fault code first
      → (k : ℕ) × (first ≡ at + k) × Points chain rest code k
  unfolding cut_from elements_by
  elements-point zero at chain rest s h = absurd (let z : ◌≡◌ {A = ℕ} 0 1 = cc in omega arith)
  elements-point (suc most) at chain [] s h = absurd (let z : ◌≡◌ {A = ℕ} 0 1 = cc in omega arith)
  elements-point (suc most) at chain (x ∷ xs) s {code} {first} h = go (λ at chain rest s h. elements-point most at chain rest s h) (element chain (x ∷ xs) >>= passed widths d s) refl
    where
      some : 0 < length (x ∷ xs)
      some = omega arith

      go : ((at chain : ℕ) (rest : List ℕ) (s : State) → elements widths d s (cut_from most at chain rest) ≡ fault code first → (k : ℕ) × (first ≡ at + k) × Points chain rest code k)
          → (m : Checked Effect) → (element chain (x ∷ xs) >>= passed widths d s) ≡ m → (k : ℕ) × (first ≡ at + k) × Points chain (x ∷ xs) code k
      go others (fault c j) e =
          let is = sym (stops (placed widths d) most at chain (x ∷ xs) s c j some e) ∙ h in
          let p = fault_of (element chain (x ∷ xs) >>= passed widths d s) (one_points s chain (x ∷ xs)) e in
          (j, sym (same_place is), rw (← (same_code is)) (here p.0 (p.1 some)))
      go others (fine g) e =
          let r = went_on (element chain (x ∷ xs)) (passed widths d s) e in
          let f = r.0 in
          let ps = cut_from most (at + f.size) f.chains (drop f.size (x ∷ xs)) in
          let on = sym (goes (placed widths d) at ps s f g r.2) ∙ ap (elements widths d s) (sym (cut_one most at chain (x ∷ xs) f some r.1)) ∙ h in
          let rest = others (at + f.size) f.chains (drop f.size (x ∷ xs)) g.state (fault-behind g.items (elements widths d g.state ps) on) in
          let z = rest.1 in
          (f.size + rest.0, omega arith, later f r.1 rest.2)

module _ (widths : List ℕ) (d : Descriptor) (s : State) (part area : List ℕ) where
  -- what is tested before the elements has other codes
  abbrev Before : ℕ → Type 0
  Before code = (code ∈ 20 to 29) ≡ false

  tests_before : Gives (λ _. Unit) (OfCode Before) (admitted widths d s part area)
  unfolding admitted
  tests_before =
      gives_where (eqb (length area) 4096 && eqb (length widths) 1024) 10 _ refl λ _.
      gives_where (hold (state_fields s)) 12 _ refl λ _.
      gives_where (hold (descriptor_fields d)) 15 _ refl λ _.
      gives-only _ 19 refl

  of_elements : {code at : ℕ} (m : Checked Unit) (n : Checked Effect) → Gives (λ _. Unit) (OfCode Before) m → (m >> n) ≡ fault code at → (code ∈ 20 to 29) ≡ true → n ≡ fault code at
  of_elements (fine _) n g h c = h
  of_elements (fault x k) n (refusal q) h c = absurd (true≢false (sym c ∙ rw (same_code h) at q))

  pub part-points : {code at : ℕ} → outcome widths d s part area ≡ fault code at → (code ∈ 20 to 29) ≡ true → Points s.chain part code at
  unfolding outcome cut
  part-points {at = at} h c =
      let (k, e, p) = elements-point widths d (length part) 0 s.chain part s (of_elements (admitted widths d s part area) _ tests_before h c) in
      let z : k ≡ at = omega arith in
      rw z at p

  pub pointing : Pointing widths d s part area
  unfolding interpreted
  pointing = record { points = go _ (outcome widths d s part area) refl; inside = λ c. points-inside (go _ (outcome widths d s part area) refl c) }
    where
      go : (count : ℕ) (m : Checked Effect) → outcome widths d s part area ≡ m → ((answered count s m).answer.code ∈ 20 to 29) ≡ true → Points s.chain part (answered count s m).answer.code (answered count s m).answer.first
      go count (fine f) e c = absurd (true≢false (sym c))
      go count (fault code at) e c = part-points e c
