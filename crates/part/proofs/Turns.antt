-- A turn of the loop over a part's elements, on plain values. `Here` is its invariant: what the elements from here on come to, behind the
-- items that are done, is what the whole part comes to.
-- Assumes nothing.
use Rattle.std.specs.Prelude.{Result, Ok, Err}
use Prim.Native.Nat.{ℕ, suc, ◌+◌, ◌-◌, ◌<◌, ◌≤◌}
use mathlib.Core.Path.{◌≡◌, refl, sym, ◌∙◌, ap, subst}
use mathlib.Core.Bool.{true}
use mathlib.Core.List.{List, [], ◌∷◌, ◌++◌, append_assoc, append-nil}
use native.Mathlib.Nat.{sub-zero}
use native.Mathlib.Omega.{arith}
use lib.ListN.{length, take, drop, length-append, length-drop}
use lib.Seq.{sets, sets-eq, length-sets, length-take-le, take_at, drop-drop}
use Rattle.part.specs.Checks.{Checked, fine, fault, starting_at, ◌>>=◌}
use Rattle.part.specs.States.{with_chain}
use Rattle.part.specs.Ranges.{hold, descriptor_fields}
use Rattle.part.specs.Elements.{Element, Text}
use Rattle.part.specs.Reading.{Found, Piece, piece, found, between, element, cut_from, cut}
use Rattle.part.specs.Records.{Item, all_bytes}
use Rattle.part.specs.Place.{Effect, effect, place, place_text}
use Rattle.part.specs.Part.{passed_by, elements_by}
use Rattle.part.specs.Code.{fault_code, place_of, refused_from, verdict, nearer, first_parameter, found_by, Within, fitted, state_after, inked, roomed_in, placed_in, passed_in, elements_in, performed, Ready, Completed}
use Rattle.part.specs.declared.shapes.Descriptor.{Descriptor}
use Rattle.part.specs.declared.shapes.State.{State}
use Rattle.part.specs.declared.faults.Fault.{Fault}
use Rattle.part.specs.declared.reader.Read.{Read}
use Rattle.part.specs.declared.reader.What.TheVariants.{Characters, Sequence}
use Rattle.part.proofs.Bytes.{tail_of}
use Rattle.part.proofs.Checks.{Gives, OfCode, went_on, same_value, fault_of}
use Rattle.part.proofs.Cutting.{cut_one, cut-fault, enough}
use Rattle.part.proofs.Kept.{passed-kept}
use Rattle.part.proofs.Nearer.{NotClass, place-nearer, placed-leaves, performed-leaves, stays, performed-nearer}
use Rattle.part.proofs.Parts.{all_bytes-join}
use Rattle.part.proofs.Reading.{reads_within}
use Rattle.part.proofs.Scratch.{placed_in_leaves, passed_in_grows, passed_in_more}

-- ---- one element, and the rest

module _ (put : State → Element → Checked Effect) where
  pub stops : (k at chain : ℕ) (rest : List ℕ) (s : State) (code j : ℕ) → 0 < length rest → (element chain rest >>= passed_by put s) ≡ fault code j
      → elements_by put s (cut_from (suc k) at chain rest) ≡ fault code (at + j)
  unfolding elements_by
  stops k at chain rest s code j some h = go (element chain rest) refl h
    where
      go : (m : Checked Found) → element chain rest ≡ m → (m >>= passed_by put s) ≡ fault code j → elements_by put s (cut_from (suc k) at chain rest) ≡ fault code (at + j)
      go (fine f) e q = rw (cut_one k at chain rest f some e, elements_by, q)
      go (fault c i) e q = rw (cut-fault k at chain rest c i some e, elements_by) (ap (starting_at at) q)

  pub goes : (at : ℕ) (ps : List Piece) (s : State) (f : Found) (g : Effect) → passed_by put s f ≡ fine g
      → elements_by put s (piece at (fine f) ∷ ps) ≡ (elements_by put g.state ps >>= λ o. effect o.state (g.items ++ o.items))
  unfolding elements_by
  goes at ps s f g q = rw (elements_by, q)

cut_nil : (at chain : ℕ) (rest : List ℕ) → cut_from 0 at chain rest ≡ []
unfolding cut_from
cut_nil at chain rest = refl

-- items in front of others, twice
behind : (a b : List Item) (m : Checked Effect) → ((m >>= λ o. effect o.state (b ++ o.items)) >>= λ o. effect o.state (a ++ o.items)) ≡ (m >>= λ o. effect o.state ((a ++ b) ++ o.items))
behind a b (fine e) = rw (append_assoc a b e.items)
behind a b (fault code at) = refl

alone : (m : Checked Effect) → m ≡ (m >>= λ o. effect o.state ([] ++ o.items))
alone (fine e) = refl
alone (fault code at) = refl

-- ---- what the code does with one element: `q`, which counts as behind 2B D3, LENGTH and TYPE and is brought nearer, and then the chain

pub record Step (most : ℕ) (widths : List ℕ) (d : Descriptor) (s : State) (rest : List ℕ) (from size chains : ℕ) (q : Checked Effect) : Type 0 where
  pub elsewhere : Gives (λ _. Unit) (OfCode NotClass) q
  pub reads : (g : Effect) → q ≡ fine g → (f : Found) × (element s.chain rest ≡ fine f) × (f.size ≡ size) × (f.chains ≡ chains)
  pub leads : (element s.chain rest >>= passed_in most widths d s) ≡ (nearer (4 - from) q >>= λ done. effect (with_chain done.state chains) done.items)

module _ (most : ℕ) (widths : List ℕ) (d : Descriptor) (s : State) (rest : List ℕ) where
  -- text is refused at the element's start, wherever it begins
  pub text-step : (t : List ℕ) (from size chains : ℕ) → found (Text t) size chains ≡ element s.chain rest → Step most widths d s rest from size chains (roomed_in most s (place_text widths d s t))
  unfolding passed_by placed_in place
  text-step t from size chains e = record {
    elsewhere = placed-leaves most widths d s (Text t);
    reads = λ g h. (_, sym e, refl, refl);
    leads = rw (← e, stays (4 - from) (placed_in most widths d s (Text t)) (placed_in_leaves most widths d s (Text t)));
  }

  -- a sequence, as it is performed
  pub sequence-step : (from function size chains : ℕ) (p : List ℕ) → 2 ≤ from → from ≤ 4 → (fitted (from - 2) function p >>= λ e. found e size chains) ≡ element s.chain rest → Step most widths d s rest from size chains (performed most widths d s function p)
  unfolding passed_by
  sequence-step from function size chains p low high e =
      let near = performed-nearer most widths d s function (4 - from) (from - 2) p (omega arith) in
      record {
        elsewhere = performed-leaves most widths d s function p;
        reads = λ g q. reads (fitted (from - 2) function p) g e near q;
        leads = rw (← e, near) (leads (fitted (from - 2) function p));
      }
    where
      reads : (m : Checked Element) (g : Effect) → (m >>= λ e. found e size chains) ≡ element s.chain rest → nearer (4 - from) (performed most widths d s function p) ≡ (m >>= placed_in most widths d s) → performed most widths d s function p ≡ fine g
          → (f : Found) × (element s.chain rest ≡ fine f) × (f.size ≡ size) × (f.chains ≡ chains)
      reads m g e n q =
          let v = went_on m (placed_in most widths d s) (sym n ∙ ap (nearer (4 - from)) q) in
          (_, sym (rw v.1 at e), refl, refl)

      leads : (m : Checked Element) → ((m >>= λ e. found e size chains) >>= passed_in most widths d s) ≡ ((m >>= placed_in most widths d s) >>= λ done. effect (with_chain done.state chains) done.items)
      leads (fine e) = refl
      leads (fault code j) = refl

-- what was done with it: the verdict on the state that it leaves, and its records
pub record Did (most : ℕ) (widths : List ℕ) (d : Descriptor) (s : State) (rest : List ℕ) (from size chains : ℕ) (r : Result Unit Fault) (t : State) (area after : List ℕ) : Type 0 where
  pub q : Checked Effect
  pub step : Step most widths d s rest from size chains q
  pub told : verdict r t ≡ state_after q
  pub ink : after ≡ inked area s.used q

-- a state's verdict tells the effect's
pub effect-fault : (code j : ℕ) (q : Checked Effect) → fault code j ≡ state_after q → q ≡ fault code j
effect-fault code j (fine g) e = cc
effect-fault code j (fault c k) e = cc

-- bytes stored at the end of those used
stored-end : (area : List ℕ) (used : ℕ) (bytes : List ℕ) → used + length bytes ≤ length area → take (used + length bytes) (sets area used bytes) ≡ take used area ++ bytes
stored-end area used bytes h =
    let front : length (take used area ++ bytes) ≡ used + length bytes = length-append (take used area) bytes ∙ ap (λ n. n + length bytes) (length-take-le used area (omega arith)) in
    rw (sets-eq bytes area used h) (take_at (take used area ++ bytes) (drop (used + length bytes) area) (used + length bytes) front)

-- ---- the invariant: s₀ and area₀ are the run's start; area, s, at and count are where it stands

abbrev rest_of : List ℕ → State → ℕ → List Piece
rest_of part s at = cut_from (length part - at) at s.chain (drop at part)

pub record Here (most : ℕ) (widths : List ℕ) (d : Descriptor) (part : List ℕ) (s₀ : State) (area₀ area : List ℕ) (s : State) (at count : ℕ) : Type 0 where
  pub within : at ≤ length part
  pub fewer : count ≤ at
  pub long : length area ≡ most
  pub ready : Ready widths area s
  pub counted : count + length (rest_of part s at) ≡ length (cut s₀.chain part)
  pub done : List Item
  pub same : elements_in most widths d s₀ (cut s₀.chain part) ≡ (elements_in most widths d s (rest_of part s at) >>= λ o. effect o.state (done ++ o.items))
  pub drawn : take s.used area ≡ take s₀.used area₀ ++ all_bytes done

pub start : (widths : List ℕ) (d : Descriptor) (part : List ℕ) (s : State) (area : List ℕ) → Ready widths area s → Here (length area) widths d part s area area s 0 0
unfolding cut
start widths d part s area ready =
    let e = sub-zero (length part) in
    record {
      within = omega arith;
      fewer = omega arith;
      long = refl;
      ready = ready;
      counted = rw e (omega arith);
      done = [];
      same = rw e (alone (elements_in (length area) widths d s (cut_from (length part) 0 s.chain part)));
      drawn = sym (append-nil (take s.used area));
    }

module _ {most : ℕ} {widths : List ℕ} {d : Descriptor} {part : List ℕ} {s₀ : State} {area₀ area : List ℕ} {s : State} {at count : ℕ} (here : Here most widths d part s₀ area₀ area s at count) (h : at < length part) where
  some_left : 0 < length (drop at part)
  some_left = omega (arith, length-drop at part)

  -- an element at fault
  stopped : (code j : ℕ) → (element s.chain (drop at part) >>= passed_in most widths d s) ≡ fault code j → elements_in most widths d s₀ (cut s₀.chain part) ≡ fault code (at + j)
  stopped code j e =
      let fuel : length part - at ≡ suc (length part - (at + 1)) = omega arith in
      here.same ∙ rw (fuel, stops (placed_in most widths d) (length part - (at + 1)) at s.chain (drop at part) s code j some_left e)

  -- as it is read
  pub unread : (why : Fault) → refused_from (first_parameter s.chain) why ≡ element s.chain (drop at part) → elements_in most widths d s₀ (cut s₀.chain part) ≡ fault (fault_code why) (at + place_of (first_parameter s.chain) why)
  unread why e = stopped (fault_code why) (place_of (first_parameter s.chain) why) (rw (← e))

  -- as it is placed
  pub faulted : {from size chains : ℕ} {r : Result Unit Fault} {t : State} {after : List ℕ} {why : Fault} → from ≤ 4 → r ≡ Err why → Did most widths d s (drop at part) from size chains r t area after
      → elements_in most widths d s₀ (cut s₀.chain part) ≡ fault (fault_code why) (at + place_of from why)
  faulted {from = from} {why = why} most is did =
      let told = effect-fault (fault_code why) (place_of 4 why) did.q (rw is at did.told) in
      stopped (fault_code why) (place_of from why) (did.step.leads ∙ rw (told, place-nearer from why (fault_of did.q did.step.elsewhere told) most))

  -- the elements from here on: one, and those behind it
  rest_next : (f : Found) → element s.chain (drop at part) ≡ fine f → rest_of part s at ≡ piece at (fine f) ∷ cut_from (length part - (at + f.size)) (at + f.size) f.chains (drop (at + f.size) part)
  rest_next f e =
      let fuel : length part - at ≡ suc (length part - (at + 1)) = omega arith in
      let z = reads_within s.chain (drop at part) f some_left e in
      let l = length-drop (at + f.size) part in
      rw (fuel, cut_one (length part - (at + 1)) at s.chain (drop at part) f some_left e, drop-drop f.size at part)
      (ap (λ ps. piece at (fine f) ∷ ps) (enough (length part - (at + 1)) (length part - (at + f.size)) (at + f.size) f.chains (drop (at + f.size) part) (omega arith) (omega arith)))

  -- an element passed
  passing : (f : Found) (g : Effect) → element s.chain (drop at part) ≡ fine f → passed_in most widths d s f ≡ fine g → hold (descriptor_fields d) ≡ true → g.state.chain ≡ f.chains
      → Here most widths d part s₀ area₀ (sets area s.used (all_bytes g.items)) g.state (at + f.size) (count + 1)
  passing f g e pass dh chain =
      let ready = here.ready in
      let before = here.fewer in
      let z = reads_within s.chain (drop at part) f some_left e in
      let next = rest_next f e in
      let l = length-drop at part in
      let long : length (sets area s.used (all_bytes g.items)) ≡ most = length-sets area s.used (all_bytes g.items) ∙ here.long in
      let small : most ≤ 4096 = omega (arith, here.long, ready.small) in
      let grown = passed_in_grows most widths d s f g pass in
      let used = grown.grows in
      let within = grown.fits (omega (arith, here.long, ready.fits)) in
      record {
        within = omega arith;
        fewer = omega arith;
        long = long;
        ready = record { in_range = passed-kept widths d dh s s.chain (drop at part) ready.in_range e (passed_in_more most widths d s f g small pass); widths = ready.widths; small = omega arith; fits = omega arith };
        counted = rw chain (omega (arith, ap length next, here.counted));
        done = here.done ++ g.items;
        same =
            here.same ∙ rw (next, goes (placed_in most widths d) at (cut_from (length part - (at + f.size)) (at + f.size) f.chains (drop (at + f.size) part)) s f g pass, ← chain)
            (behind here.done g.items (elements_in most widths d g.state (rest_of part g.state (at + f.size))));
        drawn = rw (used, stored-end area s.used (all_bytes g.items) (omega (arith, here.long)), here.drawn, all_bytes-join here.done g.items) (append_assoc (take s₀.used area₀) (all_bytes here.done) (all_bytes g.items));
      }

  pub turn : {from size chains : ℕ} {r : Result Unit Fault} {t : State} {after : List ℕ} → r ≡ Ok tt → Did most widths d s (drop at part) from size chains r t area after → hold (descriptor_fields d) ≡ true
      → Here most widths d part s₀ area₀ after (with_chain t chains) (at + size) (count + 1)
  turn {from} {size} {chains} {r} {t} {after} is did dh = go did.q did.step (rw is at did.told) did.ink
    where
      found_there : (g : Effect) → Step most widths d s (drop at part) from size chains (fine g) → ((f : Found) × (element s.chain (drop at part) ≡ fine f) × (f.size ≡ size) × (f.chains ≡ chains))
          → Here most widths d part s₀ area₀ (sets area s.used (all_bytes g.items)) (with_chain g.state chains) (at + size) (count + 1)
      found_there g step r =
          let f = r.0 in
          let pass = sym (ap (λ (m : Checked Found). m >>= passed_in most widths d s) r.1) ∙ step.leads in
          subst (λ (n : ℕ). Here most widths d part s₀ area₀ (sets area s.used (all_bytes g.items)) (with_chain g.state chains) (at + n) (count + 1)) r.2
          (passing f (record { state = with_chain g.state chains; items = g.items }) r.1 pass dh (sym r.3))

      go : (q : Checked Effect) → Step most widths d s (drop at part) from size chains q → fine t ≡ state_after q → after ≡ inked area s.used q → Here most widths d part s₀ area₀ after (with_chain t chains) (at + size) (count + 1)
      go (fault code j) step e ink = absurd (let z : ◌≡◌ {A = ℕ} 0 1 = cc in omega arith)
      go (fine g) step e ink = rw (ink, same_value e) (found_there g step (step.reads g refl))

-- ---- what the code does with an element that it has read, from the bytes as it cuts them

module _ {most : ℕ} {widths : List ℕ} {d : Descriptor} {part : List ℕ} {s₀ : State} {area₀ area : List ℕ} {s : State} {at count : ℕ} (here : Here most widths d part s₀ area₀ area s at count) (e : Read) where
  abbrev tail : List ℕ
  tail = take (length part - at) (drop at part)

  abbrev pub Done : Result Unit Fault → State → List ℕ → Type 0
  Done r t after = Did most widths d s (drop at part) e.from e.size e.chains r t area after

  abbrev its : (List ℕ → Checked Effect) → Checked Effect
  its what = what (between tail e.from e.size)

  pub text-done : {r : Result Unit Fault} {t : State} {after : List ℕ} → e.what ≡ Characters → found_by tail (first_parameter s.chain) (Ok e) ≡ element s.chain tail
      → (verdict r t ≡ state_after (its λ p. roomed_in (length area) s (place_text widths d s p))) × (after ≡ inked area s.used (its λ p. roomed_in (length area) s (place_text widths d s p)))
      → Done r t after
  text-done is read done =
      let read' = rw (is, tail_of part at) at read in
      let done' = rw (tail_of part at, here.long) at done in
      record { q = _; step = text-step most widths d s (drop at part) (between (drop at part) e.from e.size) e.from e.size e.chains read'; told = done'.0; ink = done'.1 }

  pub sequence-done : {function : ℕ} {r : Result Unit Fault} {t : State} {after : List ℕ} → e.what ≡ Sequence function → found_by tail (first_parameter s.chain) (Ok e) ≡ element s.chain tail → Within (length tail) e
      → (verdict r t ≡ state_after (its λ p. performed (length area) widths d s function p)) × (after ≡ inked area s.used (its λ p. performed (length area) widths d s function p))
      → Done r t after
  sequence-done {function} is read inside done =
      let read' = rw (is, tail_of part at) at read in
      let done' = rw (tail_of part at, here.long) at done in
      let inside' = rw is at inside in
      record { q = _; step = sequence-step most widths d s (drop at part) e.from function e.size e.chains (between (drop at part) e.from e.size) inside'.5.0 inside'.4 read'; told = done'.0; ink = done'.1 }

-- ---- how it ends

module _ {most : ℕ} {widths : List ℕ} {d : Descriptor} {part : List ℕ} {s₀ : State} {area₀ area : List ℕ} {s : State} {at count : ℕ} (here : Here most widths d part s₀ area₀ area s at count) where
  pub ended : length part ≤ at → Completed (elements_in most widths d s₀ (cut s₀.chain part)) (length (cut s₀.chain part)) s₀.used area₀ count s area
  unfolding elements_by
  ended h =
      let none : length part - at ≡ 0 = omega arith in
      let empty : rest_of part s at ≡ [] = rw none (cut_nil at s.chain (drop at part)) in
      let total = here.counted in
      rw (here.same, empty, append-nil) (refl, (omega (arith, ap length empty), here.drawn))
