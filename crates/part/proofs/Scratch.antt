-- A scratch area of fewer bytes than an area has: what passes in it passes in the area too, with the same records.
-- Assumes nothing.
use Prim.Native.Nat.{ℕ, ◌+◌, ◌≤◌}
use mathlib.Core.Path.{◌≡◌, refl, ap, fun_ext}
use mathlib.Core.Bool.{Bool, true, false}
use mathlib.Core.List.{List, [], ◌∷◌, ◌++◌}
use native.Mathlib.Omega.{arith}
use lib.ListN.{length}
use lib.Dec.{leb}
use borrow.Author.Tests.{leb-true, le-leb}
use Rattle.part.specs.Checks.{Checked, fine, fault, require, starting_at, ◌>>=◌, ◌>>◌}
use Rattle.part.specs.States.{with_chain, with_used}
use Rattle.part.specs.Elements.{Element}
use Rattle.part.specs.Reading.{Found, Piece, cut}
use Rattle.part.specs.Records.{Item, bytes_of, room}
use Rattle.part.specs.Place.{Effect, effect, place}
use Rattle.part.specs.Part.{roomed, placed, passed, passed_by, elements, elements_by}
use Rattle.part.specs.Code.{room_in, roomed_in, placed_in, passed_in, elements_in}
use Rattle.part.specs.declared.shapes.Descriptor.{Descriptor}
use Rattle.part.specs.declared.shapes.State.{State}
use Rattle.part.proofs.Checks.{Gives, value, OfCode, gives_any, gives_then, gives_so, value_of}
use Rattle.part.proofs.Every.{every, every_so}
use Rattle.part.proofs.Fits.{Coded}
use Rattle.part.proofs.Kept.{pieces_fit, unplaced_coded}
use Rattle.part.proofs.Parts.{Grown, grown_on, elements_give, room_in-fits, room_whole}
use Rattle.part.proofs.Placing.{Unplaced, place_leaves}

-- room in fewer bytes is room in 4,096
room_more : (most used u : ℕ) (xs : List Item) → most ≤ 4096 → room_in most used xs ≡ fine u → room used xs ≡ fine u
room_more most used u [] small h = h
room_more most used u (x ∷ xs) small h = go (leb next most) refl (room_more most (used + length (bytes_of x)) u xs small) h
  where
    next : ℕ
    next = used + length (bytes_of x)

    go : (t : Bool) → leb next most ≡ t → (room_in most next xs ≡ fine u → room next xs ≡ fine u) → (require t 29 >> room_in most next xs) ≡ fine u → room used (x ∷ xs) ≡ fine u
    go true e more k = rw (le-leb next 4096 (omega (arith, leb-true next most e))) (more k)
    go false e more k = cc

module _ (most : ℕ) (widths : List ℕ) (d : Descriptor) where
  -- an element placed: the bytes used grow by its records', within the area
  pub placed_in_leaves : (s : State) (e : Element) → Gives (Grown most s) Unplaced (placed_in most widths d s e)
  unfolding placed_in
  placed_in_leaves s e =
      gives_then (place widths d s e) _ (place_leaves widths d s e) λ f _.
      gives_then (room_in most s.used f.items) _ (room_in-fits most s.used f.items) λ u two.
      value (record { grows = two.0; fits = two.1 })

  passed_in_leaves : (s : State) (f : Found) → Gives (Grown most s) Unplaced (passed_in most widths d s f)
  unfolding passed_by
  passed_in_leaves s f = gives_then (placed_in most widths d s f.element) _ (placed_in_leaves s f.element) λ g one. value (record { grows = one.grows; fits = one.fits })

  pub passed_in_grows : (s : State) (f : Found) (g : Effect) → passed_in most widths d s f ≡ fine g → Grown most s g
  passed_in_grows s f g h = value_of (passed_in most widths d s f) (passed_in_leaves s f) h

  -- what passes there passes in the area
  pub passed_in_more : (s : State) (f : Found) (g : Effect) → most ≤ 4096 → passed_in most widths d s f ≡ fine g → passed widths d s f ≡ fine g
  unfolding passed_by placed_in placed
  passed_in_more s f g small h = go (place widths d s f.element) h
    where
      chained : Checked Effect → Checked Effect
      chained m = m >>= λ done. effect (with_chain done.state f.chains) done.items

      with_room : (k : Effect) (m : Checked ℕ) → room_in most s.used k.items ≡ m → chained (m >>= λ u. effect (with_used k.state u) k.items) ≡ fine g → chained (room s.used k.items >>= λ u. effect (with_used k.state u) k.items) ≡ fine g
      with_room k (fine u) e l = rw (room_more most s.used u k.items small e) l
      with_room k (fault code at) e l = absurd (let z : ◌≡◌ {A = ℕ} 0 1 = cc in omega arith)

      go : (m : Checked Effect) → chained (roomed_in most s m) ≡ fine g → chained (m >>= λ k. room s.used k.items >>= λ u. effect (with_used k.state u) k.items) ≡ fine g
      go (fine k) l = with_room k (room_in most s.used k.items) refl l
      go (fault code at) l = absurd (let z : ◌≡◌ {A = ℕ} 0 1 = cc in omega arith)

  -- all elements: the bytes used grow by their records', within the area
  pub elements_in_grow : (s : State) (ps : List Piece) (e : Effect) → elements_in most widths d s ps ≡ fine e → Grown most s e
  elements_in_grow s ps e h =
      value_of (elements_in most widths d s ps)
      (elements_give (placed_in most widths d) (Grown most) (λ _. Unit) (λ s. record { grows = omega arith; fits = λ h. h }) (grown_on most) s ps
      (every (λ p s. gives_then p.what _ (gives_any p.what) (λ f _. gives_so (λ g r. r) (λ _ _ _. tt) (passed_in_leaves s f))) ps)) h

  -- a fault's code is from 20 to 29
  pub cut_in_leaves : (s : State) (chain : ℕ) (part : List ℕ) → Gives (λ _. Unit) (OfCode Coded) (elements_in most widths d s (cut chain part))
  unfolding cut
  cut_in_leaves s chain part =
      elements_give (placed_in most widths d) (λ _ _. Unit) Coded (λ s. tt) (λ s e f one two. tt) s (cut chain part)
      (every_so (λ p ok s. gives_then p.what _ ok (λ f fit. gives_so (λ g r. tt) unplaced_coded (passed_in_leaves s f))) (pieces_fit (length part) 0 chain part))

  -- all elements of a part
  pub elements_in_more : (s : State) (ps : List Piece) (e : Effect) → most ≤ 4096 → elements_in most widths d s ps ≡ fine e → elements widths d s ps ≡ fine e
  unfolding elements_by
  elements_in_more s [] e small h = h
  elements_in_more s (p ∷ ps) e small h = read (λ t o. elements_in_more t ps o small) p.what h
    where
      rest : ((t : State) (o : Effect) → elements_in most widths d t ps ≡ fine o → elements widths d t ps ≡ fine o) → (g : Effect) (m : Checked Effect) → elements_in most widths d g.state ps ≡ m → (m >>= λ o. effect o.state (g.items ++ o.items)) ≡ fine e → (elements widths d g.state ps >>= λ o. effect o.state (g.items ++ o.items)) ≡ fine e
      rest more g (fine o) q l = rw (more g.state o q) l
      rest more g (fault code at) q l = absurd (let z : ◌≡◌ {A = ℕ} 0 1 = cc in omega arith)

      one : ((t : State) (o : Effect) → elements_in most widths d t ps ≡ fine o → elements widths d t ps ≡ fine o) → (f : Found) (m : Checked Effect) → passed_in most widths d s f ≡ m → (starting_at p.at m >>= λ g. elements_in most widths d g.state ps >>= λ o. effect o.state (g.items ++ o.items)) ≡ fine e
          → (starting_at p.at (passed widths d s f) >>= λ g. elements widths d g.state ps >>= λ o. effect o.state (g.items ++ o.items)) ≡ fine e
      one more f (fine g) q l = rw (passed_in_more s f g small q) (rest more g (elements_in most widths d g.state ps) refl l)
      one more f (fault code at) q l = absurd (let z : ◌≡◌ {A = ℕ} 0 1 = cc in omega arith)

      read : ((t : State) (o : Effect) → elements_in most widths d t ps ≡ fine o → elements widths d t ps ≡ fine o) → (m : Checked Found) → (starting_at p.at (m >>= passed_in most widths d s) >>= λ g. elements_in most widths d g.state ps >>= λ o. effect o.state (g.items ++ o.items)) ≡ fine e
          → (starting_at p.at (m >>= passed widths d s) >>= λ g. elements widths d g.state ps >>= λ o. effect o.state (g.items ++ o.items)) ≡ fine e
      read more (fine f) l = one more f (passed_in most widths d s f) refl l
      read more (fault code at) l = absurd (let z : ◌≡◌ {A = ℕ} 0 1 = cc in omega arith)

-- ---- an area of 4,096 bytes is the rule book's

placed-whole : (widths : List ℕ) (d : Descriptor) (s : State) (e : Element) → placed_in 4096 widths d s e ≡ placed widths d s e
unfolding placed_in placed
placed-whole widths d s e = go (place widths d s e)
  where
    go : (m : Checked Effect) → roomed_in 4096 s m ≡ roomed s m
    go (fine k) = ap (λ (m : Checked ℕ). m >>= λ u. effect (with_used k.state u) k.items) (room_whole s.used k.items)
    go (fault code at) = refl

pub elements-whole : (widths : List ℕ) (d : Descriptor) (s : State) (ps : List Piece) → elements_in 4096 widths d s ps ≡ elements widths d s ps
elements-whole widths d s ps = ap (λ (put : State → Element → Checked Effect). elements_by put s ps) (fun_ext λ t. fun_ext λ e. placed-whole widths d t e)
