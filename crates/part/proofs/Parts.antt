-- A list of elements is placed one after the other, and the bytes used grow by the bytes of the records.
-- Assumes nothing.
use Prim.Native.Nat.{ℕ, ◌+◌, ◌≤◌}
use mathlib.Core.Path.{◌≡◌, refl, sym, ap}
use mathlib.Core.List.{List, [], ◌∷◌, ◌++◌, append_assoc}
use native.Mathlib.Omega.{arith}
use lib.ListN.{length, length-append}
use lib.Dec.{leb}
use borrow.Author.Tests.{leb-true, le-leb}
use Rattle.part.specs.Checks.{Checked, fine, fault, require, starting_at, ◌>>=◌, ◌>>◌}
use Rattle.part.specs.Ranges.{up_to, ◌within◌, state_fields}
use Rattle.part.specs.Elements.{Element}
use Rattle.part.specs.Reading.{Found, Piece}
use Rattle.part.specs.Records.{Item, bytes_of, all_bytes, room}
use Rattle.part.specs.Place.{Effect, effect, place}
use Rattle.part.specs.Part.{placed, passed, passed_by, elements, elements_by}
use Rattle.part.specs.Code.{room_in}
use Rattle.part.specs.declared.shapes.Descriptor.{Descriptor}
use Rattle.part.specs.declared.shapes.State.{State}
use Rattle.part.proofs.Checks.{Gives, value, OfCode, gives_any, gives_then, gives_where, gives_so, gives_at, value_of}
use Rattle.part.proofs.Every.{Every, none, ◌also◌, every}
use Rattle.part.proofs.Fields.{changed}
use Rattle.part.proofs.Bounds.{used_fits}
use Rattle.part.proofs.Fits.{Fits, Ranged}
use Rattle.part.proofs.Placing.{Kept, Unplaced, place_leaves}

pub all_bytes-join : (a b : List Item) → all_bytes (a ++ b) ≡ all_bytes a ++ all_bytes b
all_bytes-join [] b = refl
all_bytes-join (x ∷ a) b = rw (all_bytes-join a b) (sym (append_assoc (bytes_of x) (all_bytes a) (all_bytes b)))

-- one effect, and then another from where it left off
abbrev pub ◌then◌ : Checked Effect → (State → Checked Effect) → Checked Effect
◌then◌ m f = m >>= λ e. f e.state >>= λ g. effect g.state (e.items ++ g.items)

module _ (widths : List ℕ) (d : Descriptor) where
  -- some elements, and then others
  pub elements-join : (s : State) (ps qs : List Piece) → elements widths d s (ps ++ qs) ≡ ◌then◌ (elements widths d s ps) (λ t. elements widths d t qs)
  unfolding elements_by
  elements-join s [] qs = same (elements widths d s qs)
    where
      same : (m : Checked Effect) → m ≡ (m >>= λ g. effect g.state ([] ++ g.items))
      same (fine e) = refl
      same (fault code at) = refl
  elements-join s (p ∷ ps) qs = over (starting_at p.at (p.what >>= passed widths d s)) (λ t. elements widths d t (ps ++ qs)) (λ t. elements widths d t ps) (λ t. elements widths d t qs) (λ t. elements-join t ps qs)
    where
      inner : (x : List Item) (m : Checked Effect) (h : State → Checked Effect) → (◌then◌ m h >>= λ o. effect o.state (x ++ o.items)) ≡ ◌then◌ (m >>= λ o. effect o.state (x ++ o.items)) h
      inner x (fault code at) h = refl
      inner x (fine e) h = last (h e.state)
        where
          last : (m : Checked Effect) → ((m >>= λ g. effect g.state (e.items ++ g.items)) >>= λ o. effect o.state (x ++ o.items)) ≡ (m >>= λ g. effect g.state (x ++ e.items ++ g.items))
          last (fault code at) = refl
          last (fine g) = rw (append_assoc x e.items g.items)

      over : (m : Checked Effect) (f g h : State → Checked Effect) → ((t : State) → f t ≡ ◌then◌ (g t) h) → ◌then◌ m f ≡ ◌then◌ (◌then◌ m g) h
      over (fault code at) f g h k = refl
      over (fine e) f g h k = rw (k e.state) (inner e.items (g e.state) h)

-- ---- what holds after each element holds after all of them

module _ (put : State → Element → Checked Effect) (R : State → Effect → Type 0) (Q : ℕ → Type 0) where
  pub elements_give :
      ((s : State) → R s (record { state = s; items = [] }))
      → ((s : State) (e f : Effect) → R s e → R e.state f → R s (record { state = f.state; items = e.items ++ f.items }))
      → (s : State) (ps : List Piece)
      → Every (λ p. (s : State) → Gives (R s) (OfCode Q) (p.what >>= passed_by put s)) ps
      → Gives (R s) (OfCode Q) (elements_by put s ps)
  unfolding elements_by
  elements_give start onward s [] none = value (start s)
  elements_give start onward s (p ∷ ps) (one also others) =
      gives_then (starting_at p.at (p.what >>= passed_by put s)) _ (gives_at p.at (p.what >>= passed_by put s) (λ _ _ q. q) (one s)) λ e first.
      gives_then (elements_by put e.state ps) _ (elements_give start onward e.state ps others) λ f rest.
      value (onward s e f first rest)

-- ---- bytes used

-- room for records in an area of so many bytes: they end where the bytes used do, within it
pub room_in-fits : (most used : ℕ) (xs : List Item) → Gives (λ u. (u ≡ used + length (all_bytes xs)) × (used ≤ most → u ≤ most)) Unplaced (room_in most used xs)
room_in-fits most used [] = value {a = used} (omega arith, λ h. h)
room_in-fits most used (x ∷ xs) =
    let next = used + length (bytes_of x) in
    gives_where (leb next most) 29 (room_in most next xs) refl λ t.
    gives_so (λ u r. (let e = r.0 in omega (arith, length-append (bytes_of x) (all_bytes xs)), λ _. r.1 (leb-true next most t))) (λ _ _ q. q) (room_in-fits most next xs)

-- one of 4,096 is the rule book's
pub room_whole : (used : ℕ) (xs : List Item) → room_in 4096 used xs ≡ room used xs
room_whole used [] = refl
room_whole used (x ∷ xs) = ap (λ (m : Checked ℕ). require (leb (used + length (bytes_of x)) 4096) 29 >> m) (room_whole (used + length (bytes_of x)) xs)

room_fits : (used : ℕ) (xs : List Item) → Gives (λ u. (u ≡ used + length (all_bytes xs)) × (used ≤ 4096 → u ≤ 4096)) Unplaced (room used xs)
room_fits used xs = rw (← room_whole used xs) (room_in-fits 4096 used xs)

pub room-ends : (used : ℕ) (xs : List Item) (u : ℕ) → room used xs ≡ fine u → u ≡ used + length (all_bytes xs)
room-ends used xs u h = (value_of (room used xs) (room_fits used xs) h).0

pub record Grown (most : ℕ) (s : State) (e : Effect) : Type 0 where
  pub grows : e.state.used ≡ s.used + length (all_bytes e.items)
  pub fits : s.used ≤ most → e.state.used ≤ most

pub grown_on : (most : ℕ) (s : State) (e f : Effect) → Grown most s e → Grown most e.state f → Grown most s (record { state = f.state; items = e.items ++ f.items })
grown_on most s e f a b = record {
  grows = let x = a.grows in let y = b.grows in rw (all_bytes-join e.items f.items, length-append (all_bytes e.items) (all_bytes f.items)) (omega arith);
  fits = λ h. b.fits (a.fits h);
}

module _ (widths : List ℕ) (d : Descriptor) where
  -- placing never changes the bytes used
  pub place-keeps : (s : State) (e : Element) (f : Effect) → place widths d s e ≡ fine f → f.state.used ≡ s.used
  place-keeps s e f h = (value_of (place widths d s e) (place_leaves widths d s e) h).used

  -- an element placed with its records: the bytes used grow by theirs, and all numbers stay in range
  pub placed_leaves : (s : State) (e : Element) → Gives (λ f. Grown 4096 s f × Kept d s (Fits e) f) Unplaced (placed widths d s e)
  unfolding placed state_fields
  placed_leaves s e =
      gives_then (place widths d s e) _ (place_leaves widths d s e) λ f one.
      gives_then (room s.used f.items) _ (room_fits s.used f.items) λ u two.
      value (record { grows = two.0; fits = two.1 }, λ dh ok h. changed (state_fields f.state) 11 (u within up_to 4096) (one.kept dh ok h) (le-leb u 4096 (two.1 (used_fits s h))))

  pub passed_leaves : (s : State) (f : Found) → Gives (λ g. Grown 4096 s g × Kept d s (Ranged f) g) Unplaced (passed widths d s f)
  unfolding passed_by state_fields
  passed_leaves s f =
      gives_then (placed widths d s f.element) _ (placed_leaves s f.element) λ g one.
      value (record { grows = one.0.grows; fits = one.0.fits }, λ dh ok h. changed (state_fields g.state) 10 (f.chains within up_to 1) (one.1 dh ok.fit h) (le-leb f.chains 1 ok.chains))

  -- The bytes used grow by the record bytes added, and stay within 4,096.
  pub elements_grown : (s : State) (ps : List Piece) → Gives (Grown 4096 s) (λ _ _. Unit) (elements widths d s ps)
  elements_grown s ps =
      elements_give (placed widths d) (Grown 4096) (λ _. Unit) (λ s. record { grows = omega arith; fits = λ h. h }) (grown_on 4096) s ps
      (every (λ p s. gives_then p.what _ (gives_any p.what) (λ f _. gives_so (λ g r. r.0) (λ _ _ _. tt) (passed_leaves s f))) ps)

  pub elements_grow : (s : State) (ps : List Piece) (e : Effect) → elements widths d s ps ≡ fine e → e.state.used ≡ s.used + length (all_bytes e.items)
  elements_grow s ps e h = (value_of (elements widths d s ps) (elements_grown s ps) h).grows
