-- The listing by the part's answer: that its numbers have two bytes, and that its records are within the area.
-- Assumes nothing.
use Rattle.std.proofs.Common.{◌≡◌, ℕ, zero, suc, ◌+◌, ◌<◌, ◌≤◌, true, List, [], ◌∷◌, ◌++◌, length, take, drop, replicate, refl, ◌∙◌, ap, arith, append_assoc, length-append, length-take-le}
use Rattle.std.specs.Prelude.{◌&&◌, ◌⊎◌, leb, eqb}
use Rattle.std.proofs.Common.{inl, inr}
use borrow.Author.Tests.{eq-eqb, ne_eqb}
use lib.ListN.{length-replicate}
use Rattle.part.specs.Checks.{Checked, fine, fault}
use Rattle.part.specs.Ranges.{◌to◌, ◌∈◌, hold, descriptor_fields, state_fields}
use Rattle.part.specs.Reading.{Found, Piece, element, cut_from, cut}
use Rattle.part.specs.Place.{Effect}
use Rattle.part.specs.Part.{admitted, outcome, answered, interpreted, area_after}
use Rattle.part.specs.Sheets.{lined, begun}
use Rattle.part.specs.declared.shapes.Descriptor.{Descriptor}
use Rattle.part.specs.declared.shapes.Interpreted.{Interpreted}
use Rattle.part.specs.declared.shapes.State.{State}
use Rattle.part.proofs.Checks.{Gives, gives_then, gives_where, gives-only, gives_so, value_of, fault_of}
use Rattle.part.proofs.Bounds.{between, bounded}
use Rattle.part.proofs.Kept.{cut_leaves}
use Rattle.part.proofs.Pointing.{pointing}
use Rattle.part.proofs.Outcomes.{outcome_leaves}
use Rattle.part.proofs.Refusals.{done}
use Rattle.part.proofs.Areas.{area-length}
use Rattle.lister.specs.Lines.{newline, numbers}
use Rattle.lister.specs.Listing.{«PART», plain, record_lines, part_line, end_line, refused_line, outcome_lines, listing}
use Rattle.lister.specs.Code.{EndFits, RefusedFits}
use Rattle.lister.proofs.Digits.{numbers_short}

-- ---- of a part of less than 65,536 bytes

-- as many elements as bytes at most
few : (most at chain : ℕ) (rest : List ℕ) → length (cut_from most at chain rest) ≤ most
unfolding cut_from
few zero at chain rest = omega arith
few (suc most) at chain [] = omega arith
few (suc most) at chain (x ∷ xs) = go (few most) (element chain (x ∷ xs))
  where
    go : ((at chain : ℕ) (rest : List ℕ) → length (cut_from most at chain rest) ≤ most) → (m : Checked Found) → suc (length {A = Piece} (elim m [ fine f ↦ cut_from most (at + f.size) f.chains (drop f.size (x ∷ xs)) | fault code k ↦ [] ])) ≤ suc most
    go fewer (fine f) = let h = fewer (at + f.size) f.chains (drop f.size (x ∷ xs)) in omega arith
    go fewer (fault code k) = omega arith

module _ (widths : List ℕ) (d : Descriptor) (s : State) (part area : List ℕ) where
  -- a fault's code, and its place: the first byte, or as the rule on pointing says
  Placed : ℕ → ℕ → Type 0
  Placed code at = (code ≤ 29) × ((at ≡ 0) ⊎ ((code ∈ 20 to 29) ≡ true))

  admits : Gives (λ _. hold (descriptor_fields d) ≡ true) Placed (admitted widths d s part area)
  unfolding admitted Placed
  admits =
      gives_where (eqb (length area) 4096 && eqb (length widths) 1024) 10 _ (omega arith, inl refl) λ _.
      gives_where (hold (state_fields s)) 12 _ (omega arith, inl refl) λ _.
      gives_where (hold (descriptor_fields d)) 15 _ (omega arith, inl refl) λ h.
      gives_so (λ _ _. h) (λ _ _ q. q) (gives-only (leb (length part) 8192) 19 (omega arith, inl refl))

  faults : Gives (λ _. Unit) Placed (outcome widths d s part area)
  unfolding outcome Placed
  faults = gives_then (admitted widths d s part area) _ admits λ _ h. gives_so (λ _ _. tt) (λ code _ q. let k = between code 20 29 q in (omega arith, inr q)) (cut_leaves widths d h s s.chain part)

  pub refused_fits : length part < 65536 → RefusedFits (interpreted widths d s part area)
  unfolding interpreted Placed cut
  refused_fits short = go (outcome widths d s part area) refl (pointing widths d s part area).inside
    where
      go : (o : Checked Effect) → outcome widths d s part area ≡ o → (((answered (length (cut s.chain part)) s o).answer.code ∈ 20 to 29) ≡ true → (answered (length (cut s.chain part)) s o).answer.first < length part)
          → RefusedFits (answered (length (cut s.chain part)) s o)
      go (fine f) e inside = let h = few (length part) 0 s.chain part in record { code = omega arith; at = omega arith }
      go (fault code at) e inside =
          let q = fault_of (outcome widths d s part area) faults e in
          record { code = omega (arith, q.0); at = elim q.1 [ inl h ↦ omega arith | inr h ↦ let i = inside h in omega arith ] }

  -- where it is done
  state_kept : (interpreted widths d s part area).answer.code ≡ 0 → hold (state_fields (interpreted widths d s part area).state) ≡ true
  unfolding interpreted
  state_kept h =
      let (f, is) = done widths d s part area h in
      rw is (value_of (outcome widths d s part area) (outcome_leaves widths d s part area) is).kept

  pub end_fits : length area ≡ 4096 → length part < 65536 → (interpreted widths d s part area).answer.code ≡ 0 → EndFits (interpreted widths d s part area)
  unfolding interpreted cut
  end_fits long short h =
      let (f, is) = done widths d s part area h in
      let fits = (value_of (outcome widths d s part area) (outcome_leaves widths d s part area) is).fits in
      let n = few (length part) 0 s.chain part in
      let b = bounded _ (state_kept h) in
      let i = b.inline in
      let baseline = b.baseline in
      record { i = omega arith; b = omega arith; elements = rw is (omega arith); size = rw is (omega arith) }

  pub used_fits : (interpreted widths d s part area).answer.code ≡ 0 → (interpreted widths d s part area).state.used ≤ 4096
  used_fits h = (bounded _ (state_kept h)).used

-- ---- the listing

pub part_short : (n : ℕ) → length (part_line n) ≤ 12
part_short n = let ns = numbers_short (plain n ∷ []) in omega (arith, length-append («PART» ++ numbers (plain n ∷ [])) newline)

abbrev widths : List ℕ
widths = replicate 1024 144

abbrev blank : List ℕ
blank = replicate 4096 0

-- r and an area are what a part leaves on its sheet
pub record Alone (increment : ℕ) (part : List ℕ) (r : Interpreted) (area : List ℕ) : Type 0 where
  pub answer : r ≡ interpreted widths (lined increment) (begun increment) part blank
  pub records : area ≡ area_after widths (lined increment) (begun increment) part blank

pub alone : {increment : ℕ} {part : List ℕ} {r : Interpreted} {area : List ℕ} {s : State} → s ≡ begun increment
    → r ≡ interpreted widths (lined increment) s part blank → area ≡ area_after widths (lined increment) s part blank → Alone increment part r area
alone e is its = record { answer = rw e at is; records = rw e at its }

module _ {increment : ℕ} {part : List ℕ} {r : Interpreted} {area : List ℕ} (a : Alone increment part r area) where
  -- its records lie in the area
  pub records_fit : r.answer.code ≡ 0 → r.state.used ≤ 4096
  records_fit h = rw a.answer (used_fits widths (lined increment) (begun increment) part blank (rw a.answer at h))

  pub area_long : length area ≡ 4096
  area_long = ap length a.records ∙ area-length widths (lined increment) (begun increment) part blank ∙ length-replicate {A = ℕ} 4096 0

  pub records_long : r.answer.code ≡ 0 → length (take r.state.used area) ≡ r.state.used
  records_long h = length-take-le r.state.used area (let fits = records_fit h in omega (arith, area_long))

  -- its numbers have two bytes
  pub its_refusal_fits : length part ≤ 8193 → RefusedFits r
  its_refusal_fits short = rw a.answer (refused_fits widths (lined increment) (begun increment) part blank (omega arith))

  pub its_end_fits : length part ≤ 8193 → r.answer.code ≡ 0 → EndFits r
  its_end_fits short h = rw a.answer (end_fits widths (lined increment) (begun increment) part blank (length-replicate {A = ℕ} 4096 0) (omega arith) (rw a.answer at h))

  pub listed_refused : (r.answer.code ≡ 0 → ⊥) → part_line (length part) ++ refused_line r ≡ listing increment part
  unfolding listing outcome_lines
  listed_refused h = rw (← a.answer, ← a.records, ne_eqb r.answer.code 0 h)

  pub listed_done : r.answer.code ≡ 0 → (part_line (length part) ++ record_lines 256 (take r.state.used area)) ++ end_line r ≡ listing increment part
  unfolding listing outcome_lines
  listed_done h = rw (← a.answer, ← a.records, eq-eqb r.answer.code 0 h) (append_assoc (part_line (length part)) (record_lines 256 (take r.state.used area)) (end_line r))
