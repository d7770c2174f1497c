-- Reading looks no further than the element: what follows it doesn't matter.
-- Assumes nothing.
use Rattle.std.specs.Prelude.{if◌then◌else◌}
use Prim.Native.Nat.{ℕ, suc, ◌+◌, ◌-◌, ◌<◌, ◌≤◌}
use mathlib.Core.Path.{◌≡◌, refl, ap}
use mathlib.Core.Bool.{Bool, true, false, not, ◌&&◌}
use mathlib.Core.List.{List, [], ◌∷◌, ◌++◌}
use native.Mathlib.Omega.{arith}
use native.Mathlib.Nat.{le_refl, not-suc-le-zero}
use lib.ListN.{length, get_or, drop, length-append, length-drop, get_or-append}
use lib.Seq.{take-append-le, drop-append-le}
use lib.Dec.{leb, eqb}
use borrow.Author.Tests.{leb-true, le-leb, lt-leb, eqb-false}
use Rattle.part.specs.Checks.{Checked, fine, fault, refuse, require, require_at, starting_at, ◌>>=◌, ◌>>◌}
use Rattle.part.specs.Elements.{Element}
use Rattle.part.specs.Types.{function, chaining, Row, types, row_of, values_of, ◌takes◌}
use Rattle.part.specs.Reading.{Found, found, between, sequence, stretch, free_run, introduced, element}
use Rattle.part.specs.Code.{cut_short}
use Rattle.part.proofs.Checks.{went_on, tested, tested_at, value-at}

-- ---- sequences

-- a sequence that is read whole has its LENGTH and TYPE there, its body, and values of its type
pub record Complete (at : ℕ) (bytes : List ℕ) (f : Found) : Type 0 where
  pub began : at + 2 ≤ length bytes
  pub counts : 2 ≤ get_or bytes at 0
  pub ended : at + get_or bytes at 0 ≤ length bytes
  pub valued : values_of (function (get_or bytes (at + 1) 0)) (between bytes (at + 2) (at + get_or bytes at 0)) ≡ fine f.element
  pub size : f.size ≡ at + get_or bytes at 0
  pub chains : f.chains ≡ chaining (get_or bytes (at + 1) 0)

made : {f : Found} (size chains : ℕ) (v : Checked Element) → (v >>= λ e. found e size chains) ≡ fine f → (v ≡ fine f.element) × (f.size ≡ size) × (f.chains ≡ chains)
made size chains (fine e) h = (cc, cc, cc)
made size chains (fault code at) h = (cc, cc, cc)

module _ (at : ℕ) (xs : List ℕ) (f : Found) (h : sequence at xs ≡ fine f) where
  pub complete : Complete at xs f
  unfolding sequence
  complete =
      let n = get_or xs at 0 in
      let type = get_or xs (at + 1) 0 in
      let values : Row → Checked Element = λ r. starting_at (at + 2) (r.values (between xs (at + 2) (at + n))) in
      let last : Row → Checked Found = λ r. values r >>= (λ e. found e (at + n) (chaining type)) in
      let body : Row → Checked Found = λ r. require (leb (at + n) (length xs)) 20 >> last r in
      let rest : Row → Checked Found = λ r. require_at at (r.lengths takes n) 22 >> body r in
      let its : Checked Row = starting_at (at + 1) (row_of types (function type)) in
      let p = tested (leb (at + 2) (length xs)) 20 (require_at at (leb 2 n) 22 >> (its >>= rest)) h in
      let q = tested_at at (leb 2 n) 22 (its >>= rest) p.1 in
      let r = went_on its rest q.1 in
      let s = tested_at at (r.0.lengths takes n) 22 (body r.0) r.2 in
      let t = tested (leb (at + n) (length xs)) 20 (last r.0) s.1 in
      let m = made (at + n) (chaining type) (values r.0) t.1 in
      record {
        began = leb-true _ _ p.0;
        counts = leb-true _ _ q.0;
        ended = leb-true _ _ t.0;
        valued = rw (value-at (at + 1) (row_of types (function type)) r.1) (value-at (at + 2) (r.0.values (between xs (at + 2) (at + n))) m.0);
        size = m.1;
        chains = m.2;
      }

  -- whatever follows, the same sequence is read
  pub sequence-on : (ys : List ℕ) → sequence at (xs ++ ys) ≡ sequence at xs
  unfolding sequence
  sequence-on ys =
      let n = get_or xs at 0 in
      let k = complete in
      let b = k.began in
      let c = k.counts in
      let e = k.ended in
      let first : get_or (xs ++ ys) at 0 ≡ get_or xs at 0 = get_or-append xs ys 0 at (omega arith) in
      let second : get_or (xs ++ ys) (at + 1) 0 ≡ get_or xs (at + 1) 0 = get_or-append xs ys 0 (at + 1) (omega arith) in
      let rest : drop (at + 2) (xs ++ ys) ≡ drop (at + 2) xs ++ ys = drop-append-le (at + 2) xs ys b in
      let taken = take-append-le (at + n - (at + 2)) (drop (at + 2) xs) ys (omega (arith, length-drop (at + 2) xs)) in
      rw (first, second, length-append xs ys, le-leb (at + 2) (length xs + length ys) (omega arith), le-leb (at + 2) (length xs) b, le-leb (at + n) (length xs + length ys) (omega arith), le-leb (at + n) (length xs) e, rest, taken)

-- where the body is cut, what comes before that, or 20
pub body_cut : {code k : ℕ} (at : ℕ) (bytes : List ℕ) → at + 2 ≤ length bytes → 2 ≤ get_or bytes at 0 → length bytes < at + get_or bytes at 0 → fault code k ≡ cut_short at (function (get_or bytes (at + 1) 0)) (get_or bytes at 0)
    → fault code k ≡ sequence at bytes
unfolding sequence
body_cut at bytes began long short h =
    rw (le-leb (at + 2) (length bytes) began, le-leb 2 (get_or bytes at 0) long, lt-leb (at + get_or bytes at 0) (length bytes) short)
    (row (get_or bytes at 0) (λ r. starting_at (at + 2) (r.values (between bytes (at + 2) (at + get_or bytes at 0))) >>= λ e. found e (at + get_or bytes at 0) (chaining (get_or bytes (at + 1) 0)))
    (starting_at (at + 1) (row_of types (function (get_or bytes (at + 1) 0)))) h)
  where
    lengths : {code k : ℕ} (t : Bool) → ◌≡◌ {A = Checked Unit} (fault code k) (require_at at t 22 >> refuse 20) → (m : Checked Found) → fault code k ≡ (require_at at t 22 >> (require false 20 >> m))
    lengths true h m = cc
    lengths false h m = cc

    row : {code k : ℕ} (n : ℕ) (rest : Row → Checked Found) (q : Checked Row) → ◌≡◌ {A = Checked Unit} (fault code k) (q >>= λ r. require_at at (r.lengths takes n) 22 >> refuse 20) → fault code k ≡ (q >>= λ r. require_at at (r.lengths takes n) 22 >> (require false 20 >> rest r))
    row n rest (fault c j) h = cc
    row n rest (fine r) h = lengths (r.lengths takes n) h (rest r)

-- ---- free runs

-- a stretch that ends before the end of the bytes ends there whatever follows
stretch-on : (xs ys : List ℕ) → (stretch xs ≡ length xs → ⊥) → stretch (xs ++ ys) ≡ stretch xs
stretch-on [] ys h = absurd (h refl)
stretch-on (x ∷ xs) ys h =
    (elim (eqb x 0x2B) as (λ t. ((if t then 0 else suc (stretch xs)) ≡ suc (length xs) → ⊥) → (if t then 0 else suc (stretch (xs ++ ys))) ≡ (if t then 0 else suc (stretch xs)))
    [ true ↦ λ k. refl | false ↦ λ k. ap suc (stretch-on xs ys (λ e. k (ap suc e))) ]) h

-- a stretch that goes on to their end goes on in what follows
pub stretch_through : (xs ys : List ℕ) → stretch xs ≡ length xs → stretch (xs ++ ys) ≡ length xs + stretch ys
stretch_through [] ys h = omega arith
stretch_through (x ∷ xs) ys h =
    (elim (eqb x 0x2B) as (λ t. (if t then 0 else suc (stretch xs)) ≡ suc (length xs) → (if t then 0 else suc (stretch (xs ++ ys))) ≡ suc (length xs) + stretch ys)
    [ true ↦ λ k. absurd (omega arith) | false ↦ λ k. let z : stretch xs ≡ length xs = omega arith in omega (arith, stretch_through xs ys z) ]) h

pub stretch-fits : (xs : List ℕ) → stretch xs ≤ length xs
stretch-fits [] = le_refl 0
stretch-fits (x ∷ xs) = elim (eqb x 0x2B) as (λ t. (if t then 0 else suc (stretch xs)) ≤ suc (length xs)) [ true ↦ omega arith | false ↦ omega (arith, stretch-fits xs) ]

pub stretch-some : (xs : List ℕ) → 0 < length xs → eqb (get_or xs 0 0) 0x2B ≡ false → 0 < stretch xs
stretch-some [] h q = absurd (not-suc-le-zero h)
stretch-some (x ∷ xs) h q = rw q (omega arith)

-- ---- elements

-- while no chain is open, bytes without 2B are one free run, which goes on to their end
abbrev pub runs_out : ℕ → List ℕ → Bool
runs_out chain bytes = not (eqb chain 1) && eqb (stretch bytes) (length bytes)

-- a whole element is a sequence in a chain, a sequence behind its prefix, or a free run
pub data Kind (chain : ℕ) (xs : List ℕ) (f : Found) : Type 0 where
  chained : eqb chain 1 ≡ true → sequence 0 xs ≡ fine f → Kind chain xs f
  prefixed : eqb chain 1 ≡ false → eqb (get_or xs 0 0) 0x2B ≡ true → eqb (get_or xs 1 0xD3) 0xD3 ≡ true → sequence 2 xs ≡ fine f → Kind chain xs f
  free : eqb chain 1 ≡ false → eqb (get_or xs 0 0) 0x2B ≡ false → free_run xs ≡ fine f → Kind chain xs f

pub kind_of : (chain : ℕ) (xs : List ℕ) (f : Found) → element chain xs ≡ fine f → Kind chain xs f
unfolding element
kind_of chain xs f h = go (eqb chain 1) (eqb (get_or xs 0 0) 0x2B) refl refl h
  where
    go : (s t : Bool) → eqb chain 1 ≡ s → eqb (get_or xs 0 0) 0x2B ≡ t → (if s then sequence 0 xs else if t then introduced xs else free_run xs) ≡ fine f → Kind chain xs f
    go true t c b h = chained c h
    go false true c b h = let p = tested_at 1 (eqb (get_or xs 1 0xD3) 0xD3) 21 (sequence 2 xs) h in prefixed c b p.0 p.1
    go false false c b h = free c b h

-- An element that is whole in some bytes, and no free run that goes on to their end, is the same element whatever follows.
pub reads_on : (chain : ℕ) (xs ys : List ℕ) (f : Found) → runs_out chain xs ≡ false → element chain xs ≡ fine f → element chain (xs ++ ys) ≡ fine f
unfolding element
reads_on chain xs ys f n h = go (kind_of chain xs f h)
  where
    go : Kind chain xs f → element chain (xs ++ ys) ≡ fine f
    go (chained c k) = rw (c, sequence-on 0 xs f k ys) k
    go (prefixed c b d k) =
        let began = (complete 2 xs f k).began in
        rw (c, get_or-append xs ys 0 0 (omega arith), b, get_or-append xs ys 0xD3 1 (omega arith), d, sequence-on 2 xs f k ys) k
    go (free c b k) =
        let ends = eqb-false (stretch xs) (length xs) (rw c at n) in
        rw (c, get_or-append xs ys 0 0 (omega (arith, stretch-fits xs)), b, stretch-on xs ys ends, take-append-le (stretch xs) xs ys (stretch-fits xs)) k

-- It has a byte at least, and ends within them.
pub reads_within : (chain : ℕ) (xs : List ℕ) (f : Found) → 0 < length xs → element chain xs ≡ fine f → (0 < f.size) × (f.size ≤ length xs)
reads_within chain xs f some h = go (kind_of chain xs f h)
  where
    inside : (at : ℕ) → sequence at xs ≡ fine f → (0 < f.size) × (f.size ≤ length xs)
    inside at k = let c = complete at xs f k in let n = c.counts in let e = c.ended in let z = c.size in (omega arith, omega arith)

    go : Kind chain xs f → (0 < f.size) × (f.size ≤ length xs)
    go (chained c k) = inside 0 k
    go (prefixed c b d k) = inside 2 k
    go (free c b k) = let z : f.size ≡ stretch xs = cc in (omega (arith, stretch-some xs some b), omega (arith, stretch-fits xs))
