-- A part is cut the same with more fuel, and a part that is cut whole goes on in the next.
-- Assumes nothing.
use Prim.Native.Nat.{ℕ, zero, suc, ◌+◌, ◌<◌, ◌≤◌}
use mathlib.Core.Path.{◌≡◌, refl, sym, ◌∙◌, ap}
use mathlib.Core.Bool.{false}
use mathlib.Core.List.{List, [], ◌∷◌, ◌++◌}
use native.Mathlib.Omega.{arith}
use native.Mathlib.Nat.{add-zero, not-suc-le-zero}
use lib.ListN.{length, drop, length-drop}
use lib.Seq.{drop-append-le}
use Rattle.part.specs.Checks.{fine, fault}
use Rattle.part.specs.Reading.{Found, piece, element, cut_from}
use Rattle.part.proofs.Reading.{runs_out, reads_on, reads_within}

-- ---- fuel

pub cut-none : (k at chain : ℕ) → cut_from k at chain [] ≡ []
unfolding cut_from
cut-none zero at chain = refl
cut-none (suc k) at chain = refl

-- one element, and the rest
pub cut_one : (k at chain : ℕ) (rest : List ℕ) (f : Found) → 0 < length rest → element chain rest ≡ fine f
    → cut_from (suc k) at chain rest ≡ piece at (fine f) ∷ cut_from k (at + f.size) f.chains (drop f.size rest)
unfolding cut_from
cut_one k at chain [] f some e = absurd (not-suc-le-zero some)
cut_one k at chain (x ∷ xs) f some e = rw e

-- a fault ends the cut
pub cut-fault : (k at chain : ℕ) (rest : List ℕ) (code j : ℕ) → 0 < length rest → element chain rest ≡ fault code j → cut_from (suc k) at chain rest ≡ piece at (fault code j) ∷ []
unfolding cut_from
cut-fault k at chain [] code j some e = absurd (not-suc-le-zero some)
cut-fault k at chain (x ∷ xs) code j some e = rw e

-- as many steps as bytes are enough
pub enough : (k m at chain : ℕ) (rest : List ℕ) → length rest ≤ k → length rest ≤ m → cut_from k at chain rest ≡ cut_from m at chain rest
enough zero m at chain [] h g = cut-none 0 at chain ∙ sym (cut-none m at chain)
enough zero m at chain (x ∷ xs) h g = absurd (omega arith)
enough (suc k) m at chain [] h g = cut-none (suc k) at chain ∙ sym (cut-none m at chain)
enough (suc k) zero at chain (x ∷ xs) h g = absurd (omega arith)
enough (suc k) (suc m) at chain (x ∷ xs) h g =
    (elim (element chain (x ∷ xs)) as (λ w. element chain (x ∷ xs) ≡ w → cut_from (suc k) at chain (x ∷ xs) ≡ cut_from (suc m) at chain (x ∷ xs)) [
      | fine f ↦ λ e.
          let w = reads_within chain (x ∷ xs) f (omega arith) e in
          let l = length-drop f.size (x ∷ xs) in
          rw (cut_one k at chain (x ∷ xs) f (omega arith) e, cut_one m at chain (x ∷ xs) f (omega arith) e, enough k m (at + f.size) f.chains (drop f.size (x ∷ xs)) (omega arith) (omega arith))
      | fault code j ↦ λ e. rw (cut-fault k at chain (x ∷ xs) code j (omega arith) e, cut-fault m at chain (x ∷ xs) code j (omega arith) e)
    ]) refl

-- ---- from one part to the next

-- bytes that are cut whole, from one chain to another, and whose last element is no free run
pub data Ends : ℕ → List ℕ → ℕ → Type 0 where
  ended : {chain : ℕ} → Ends chain [] chain
  goes : {chain after x : ℕ} {xs : List ℕ} (f : Found) → element chain (x ∷ xs) ≡ fine f → runs_out chain (x ∷ xs) ≡ false → Ends f.chains (drop f.size (x ∷ xs)) after → Ends chain (x ∷ xs) after

-- what follows them is cut as it would be alone, from the chain that they leave
pub joined : {chain after : ℕ} {xs : List ℕ} → Ends chain xs after → (ys : List ℕ) (k m n at : ℕ) → length xs + length ys ≤ k → length xs ≤ m → length ys ≤ n
    → cut_from k at chain (xs ++ ys) ≡ cut_from m at chain xs ++ cut_from n (at + length xs) after ys
joined {chain} ended ys k m n at h g l = rw (cut-none m at chain, add-zero at) (enough k n at chain ys (omega arith) l)
joined {chain} {after} (goes {x = x} {xs = xs} f e r rest) ys zero m n at h g l = absurd (omega arith)
joined {chain} {after} (goes {x = x} {xs = xs} f e r rest) ys (suc k) zero n at h g l = absurd (omega arith)
joined {chain} {after} (goes {x = x} {xs = xs} f e r rest) ys (suc k) (suc m) n at h g l =
    let w = reads_within chain (x ∷ xs) f (omega arith) e in
    let d = length-drop f.size (x ∷ xs) in
    let most = w.1 in
    let place : at + f.size + length (drop f.size (x ∷ xs)) ≡ at + suc (length xs) = omega arith in
    let later = joined rest ys k m n (at + f.size) (omega arith) (omega arith) l in
    rw (cut_one k at chain (x ∷ xs ++ ys) f (omega arith) (reads_on chain (x ∷ xs) ys f r e), cut_one m at chain (x ∷ xs) f (omega arith) e, drop-append-le f.size (x ∷ xs) ys most)
    (ap (λ ps. piece at (fine f) ∷ ps) (rw place at later))
