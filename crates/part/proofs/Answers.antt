-- From a run to the answer: what was tested first, and what a refused and a whole run come to.
-- Assumes nothing.
use Prim.Native.Nat.{ℕ, ◌+◌, ◌-◌, ◌≤◌}
use mathlib.Core.Path.{◌≡◌, refl, sym, ◌∙◌, ap}
use mathlib.Core.Bool.{Bool, true, false, ◌&&◌}
use mathlib.Core.List.{List, [], ◌∷◌, append-nil}
use native.Mathlib.Nat.{zero-add, add-zero}
use native.Mathlib.Omega.{arith}
use lib.ListN.{length, take, drop, take-append-drop}
use lib.Seq.{sets, sets-eq, take-add, drop_at, length-take-le}
use lib.Dec.{leb, eqb}
use borrow.Author.Tests.{leb-true, le-leb, eqb-true}
use Rattle.part.specs.Checks.{Checked, fine, fault, require, ◌>>◌}
use Rattle.part.specs.States.{with_used}
use Rattle.part.specs.Ranges.{up_to, ◌within◌, hold, descriptor_fields, state_fields}
use Rattle.part.specs.Reading.{Piece, cut_from, cut}
use Rattle.part.specs.Records.{all_bytes}
use Rattle.part.specs.Place.{Effect}
use Rattle.part.specs.Part.{elements, elements_by, admitted, outcome, answer, interpreted, area_after}
use Rattle.part.specs.Code.{fault_code, place_of, refused_from, elements_in, Completed, AddedAll, admitted_by}
use Rattle.part.specs.declared.shapes.Descriptor.{Descriptor}
use Rattle.part.specs.declared.shapes.State.{State}
use Rattle.part.specs.declared.shapes.Interpreted.{Interpreted}
use Rattle.part.specs.declared.faults.Fault.{Fault}
use Rattle.part.proofs.Areas.{elements_fit}
use Rattle.part.proofs.Bounds.{used_fits}
use Rattle.part.proofs.Checks.{Gives, gives_where, gives-only, fault_of, tested, first_of, second_of}
use Rattle.part.proofs.Fields.{changed}
use Rattle.part.proofs.Parts.{elements_grow}
use Rattle.part.proofs.Rooms.{more_room}
use Rattle.part.proofs.Scratch.{elements-whole, elements_in_grow, elements_in_more}

pub record Fit (p t a : ℕ) (d : Descriptor) (s : State) : Type 0 where
  pub area : a ≡ 4096
  pub widths : t ≡ 1024
  pub state : hold (state_fields s) ≡ true
  pub descriptor : hold (descriptor_fields d) ≡ true
  pub part : p ≤ 8192

held : (t : Bool) (code : ℕ) → require t code ≡ fine tt → t ≡ true
held true code h = refl
held false code h = cc

pub fits : (p t a : ℕ) (d : Descriptor) (s : State) → fine tt ≡ admitted_by p t a d s → Fit p t a d s
fits p t a d s h =
    let sizes = tested (eqb a 4096 && eqb t 1024) 10 (require (hold (state_fields s)) 12 >> (require (hold (descriptor_fields d)) 15 >> require (leb p 8192) 19)) (sym h) in
    let state = tested (hold (state_fields s)) 12 (require (hold (descriptor_fields d)) 15 >> require (leb p 8192) 19) sizes.1 in
    let descriptor = tested (hold (descriptor_fields d)) 15 (require (leb p 8192) 19) state.1 in
    record {
      area = eqb-true a 4096 (first_of (eqb a 4096) (eqb t 1024) sizes.0);
      widths = eqb-true t 1024 (second_of (eqb a 4096) (eqb t 1024) sizes.0);
      state = state.0;
      descriptor = descriptor.0;
      part = leb-true p 8192 (held (leb p 8192) 19 descriptor.1);
    }

-- what those tests refuse is refused at the first byte
at_first : (p t a : ℕ) (d : Descriptor) (s : State) → Gives (λ _. Unit) (λ code at. at ≡ 0) (admitted_by p t a d s)
at_first p t a d s =
    gives_where (eqb a 4096 && eqb t 1024) 10 _ refl λ _.
    gives_where (hold (state_fields s)) 12 _ refl λ _.
    gives_where (hold (descriptor_fields d)) 15 _ refl λ _.
    gives-only (leb p 8192) 19 refl

-- a state in range is so with no bytes used
pub lowered : (s : State) → hold (state_fields s) ≡ true → hold (state_fields (with_used s 0)) ≡ true
unfolding state_fields
lowered s h = changed (state_fields s) 11 (0 within up_to 4096) h (le-leb 0 4096 (omega arith))

-- a whole run on a scratch area: what it added lies between the bytes used before and after
pub stores : (most : ℕ) (widths : List ℕ) (d : Descriptor) (s : State) (ps : List Piece) (many count from : ℕ) (before scratch area : List ℕ) (t : State) → s.used ≤ most → length before ≡ most → length scratch ≡ most
    → Completed (elements_in most widths d s ps) many s.used before count t scratch
    → (s.used ≤ t.used) × ((t.used ≤ most) × AddedAll (elements_in most widths d s ps) many area from count t (sets area from (take (t.used - s.used) (drop s.used scratch))))
stores most widths d s ps many count from before scratch area t u lb ls h = go (elements_in most widths d s ps) refl h
  where
    go : (m : Checked Effect) → elements_in most widths d s ps ≡ m → Completed m many s.used before count t scratch
        → (s.used ≤ t.used) × ((t.used ≤ most) × AddedAll m many area from count t (sets area from (take (t.used - s.used) (drop s.used scratch))))
    go (fault code at) e r = absurd r
    go (fine f) e r =
        let bytes = all_bytes f.items in
        let grown = elements_in_grow most widths d s ps f e in
        let inside = grown.fits u in
        let same = ap (λ (x : State). x.used) r.0 in
        let used : t.used ≡ s.used + length bytes = sym same ∙ grown.grows in
        let many' : t.used - s.used ≡ length bytes = omega arith in
        let front : length (take s.used scratch) ≡ s.used = length-take-le s.used scratch (omega arith) in
        let back : length (take s.used before) ≡ s.used = length-take-le s.used before (omega arith) in
        let added : take (length bytes) (drop s.used scratch) ≡ bytes =
        sym (drop_at (take s.used scratch) (take (length bytes) (drop s.used scratch)) s.used front)
        ∙ ap (drop s.used) (sym (take-add s.used (length bytes) scratch) ∙ ap (λ n. take n scratch) (sym used) ∙ r.1.1)
        ∙ drop_at (take s.used before) bytes s.used back in
        (omega arith, (omega (arith, same), (r.0, (r.1.0, rw (many', added)))))

abbrev pub told : ℕ → ℕ → ℕ → State → Interpreted
told code first second s = record { answer = answer code first second; state = s }

module _ (widths : List ℕ) (d : Descriptor) (s : State) (part area : List ℕ) where
  pub refused-first : (why : Fault) → refused_from 4 why ≡ admitted_by (length part) (length widths) (length area) d s
      → (told (fault_code why) 0 0 s ≡ interpreted widths d s part area) × (area ≡ area_after widths d s part area)
  unfolding interpreted area_after outcome admitted
  refused-first why h =
      let first : place_of 4 why ≡ 0 = fault_of _ (at_first (length part) (length widths) (length area) d s) (sym h) in
      rw (← h, first) (refl, refl)

  module _ (adm : fine tt ≡ admitted_by (length part) (length widths) (length area) d s) where
    -- all passed on an area like the job's
    pub whole : (count : ℕ) (t : State) (after : List ℕ) → AddedAll (elements_in 4096 widths d s (cut s.chain part)) (length (cut s.chain part)) area s.used count t after
        → (s.used ≤ t.used) × (told 0 count (t.used - s.used) t ≡ interpreted widths d s part area) × (after ≡ area_after widths d s part area)
    unfolding interpreted area_after outcome admitted
    whole count t after h = go (elements widths d s (cut s.chain part)) refl (rw (elements-whole widths d s (cut s.chain part)) at h)
      where
        go : (m : Checked Effect) → elements widths d s (cut s.chain part) ≡ m → AddedAll m (length (cut s.chain part)) area s.used count t after
            → (s.used ≤ t.used) × (told 0 count (t.used - s.used) t ≡ interpreted widths d s part area) × (after ≡ area_after widths d s part area)
        go (fault code at) e r = absurd r
        go (fine f) e r =
            let fit = fits (length part) (length widths) (length area) d s adm in
            let u = used_fits s fit.state in
            let bytes = all_bytes f.items in
            let grow = elements_grow widths d s (cut s.chain part) f e in
            let most = elements_fit widths d s (cut s.chain part) f u e in
            let used : t.used ≡ s.used + length bytes = sym (ap (λ (x : State). x.used) r.0) ∙ grow in
            let many : t.used - s.used ≡ length bytes = omega arith in
            let room : s.used + length bytes ≤ length area = omega (arith, fit.area) in
            (omega arith, rw (← adm, e, many, r.0, r.1.0), r.1.1 ∙ rw (← adm, e) (sets-eq bytes area s.used room))

    -- refused there
    pub broken : (code at : ℕ) (after : List ℕ) → (elements_in 4096 widths d s (cut s.chain part) ≡ fault code at) × (after ≡ area)
        → (told code at 0 s ≡ interpreted widths d s part area) × (after ≡ area_after widths d s part area)
    unfolding interpreted area_after outcome admitted
    broken code at after h = rw (← adm, ← elements-whole widths d s (cut s.chain part), h.0) (refl, h.1)

    -- all passed on an area of fewer bytes, as if nothing were used yet, and the job's has room for as many
    pub briefly : (most count : ℕ) (t : State) (after : List ℕ) → s.used + most ≤ 4096 → AddedAll (elements_in most widths d (with_used s 0) (cut s.chain part)) (length (cut s.chain part)) area s.used count t after
        → (t.used ≤ most) × (told 0 count t.used (with_used t (s.used + t.used)) ≡ interpreted widths d s part area) × (after ≡ area_after widths d s part area)
    unfolding interpreted area_after outcome admitted
    briefly most count t after small h = go (elements_in most widths d (with_used s 0) (cut s.chain part)) refl h
      where
        go : (m : Checked Effect) → elements_in most widths d (with_used s 0) (cut s.chain part) ≡ m → AddedAll m (length (cut s.chain part)) area s.used count t after
            → (t.used ≤ most) × (told 0 count t.used (with_used t (s.used + t.used)) ≡ interpreted widths d s part area) × (after ≡ area_after widths d s part area)
        go (fault code at) e r = absurd r
        go (fine f) e r =
            let fit = fits (length part) (length widths) (length area) d s adm in
            let ps = cut s.chain part in
            let bytes = all_bytes f.items in
            let grown = elements_in_grow most widths d (with_used s 0) ps f e in
            let inside = grown.fits (omega arith) in
            let used : t.used ≡ length bytes = sym (ap (λ (x : State). x.used) r.0) ∙ grown.grows ∙ zero-add (length bytes) in
            let more = more_room widths d (with_used s 0) s.used ps f (elements_in_more most widths d (with_used s 0) ps f (omega arith) e) (omega (arith, ap (λ (x : State). x.used) r.0)) in
            let room : s.used + length bytes ≤ length area = omega (arith, fit.area, ap (λ (x : State). x.used) r.0) in
            (omega (arith, ap (λ (x : State). x.used) r.0), rw (← adm, more, used, ← r.0, r.1.0), r.1.1 ∙ rw (← adm, more) (sets-eq bytes area s.used room))

  -- no bytes are no elements
  pub empty : length part ≡ 0 → fine tt ≡ admitted_by (length part) (length widths) (length area) d s → (told 0 0 0 s ≡ interpreted widths d s part area) × (area ≡ area_after widths d s part area)
  unfolding interpreted area_after outcome admitted elements_by cut cut_from
  empty h adm = go part h adm
    where
      go : (bytes : List ℕ) → length bytes ≡ 0 → fine tt ≡ admitted_by (length bytes) (length widths) (length area) d s → (told 0 0 0 s ≡ interpreted widths d s bytes area) × (area ≡ area_after widths d s bytes area)
      go [] h adm = rw (← adm, elements) (refl, rw (add-zero, append-nil (take s.used area)) (sym (take-append-drop s.used area)))
      go (x ∷ xs) h adm = absurd (omega arith)
