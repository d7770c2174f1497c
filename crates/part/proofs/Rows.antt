-- Each type has a row in the rule book's table; and what a row tells of a sequence whose LENGTH and TYPE are there: of one whose body is whole, and of one whose body is cut.
-- Assumes nothing.
use Prim.Native.Nat.{ℕ, ◌+◌, ◌-◌, ◌<◌, ◌≤◌}
use mathlib.Core.Path.{◌≡◌, refl}
use mathlib.Core.Bool.{Bool, true, false}
use mathlib.Core.List.{List}
use native.Mathlib.Omega.{arith}
use lib.ListN.{length, get_or, drop, length-drop}
use lib.Seq.{length-take-le}
use lib.Dec.{leb}
use borrow.Author.Rules.{rules}
use borrow.Author.Tests.{le-leb, lt-leb}
use Rattle.part.specs.Checks.{Checked, fine, fault, refuse, require, require_at, starting_at, ◌>>=◌, ◌>>◌}
use Rattle.part.specs.Elements.{Element, Text}
use Rattle.part.specs.Types.{function, chaining, Lengths, Row, row, values_of, types, row_of, ◌takes◌}
use Rattle.part.specs.Reading.{Found, found, between, sequence}
use Rattle.part.specs.Code.{fault_code, place_of, refused_from, function_of, lengths_of, fitted, cut_short}
use Rattle.part.specs.declared.faults.Fault.{Fault}
use Rattle.part.specs.declared.types.Kind.{Kind}
use Rattle.part.specs.declared.types.Kind.TheVariants.{Ami}
use Rattle.part.proofs.Fits.{least-taken}

-- a type has a row, with the LENGTHs that are read from it
pub has_row : (kind : Kind) → row_of types (function_of kind) ≡ fine (row (function_of kind) (lengths_of kind) (values_of (function_of kind)))
unfolding types
has_row Ami = refl
has_row kind = refl

-- a row and its LENGTH first, then the body, then the values: where the body is whole it need not be asked
module _ (at : ℕ) (p : List ℕ) (g : Element → Checked Found) where
  regrouped : (q : Checked Row) (t : Bool) (n m : ℕ) → t ≡ true → m ≡ n
      → (q >>= λ r. require_at at (r.lengths takes n) 22 >> (require t 20 >> (starting_at (at + 2) (r.values p) >>= g))) ≡ ((q >>= λ r. require_at at (r.lengths takes m) 22 >> starting_at (at + 2) (r.values p)) >>= g)
  regrouped (fault code k) t n m h e = refl
  regrouped (fine r) t n m h e = search rules

-- where the body is cut, what comes before that, or 20
stops : (at code k : ℕ) (rest : Row → Checked Found) (q : Checked Row) (t : Bool) (n : ℕ) → t ≡ false → ◌≡◌ {A = Checked Unit} (fault code k) (q >>= λ r. require_at at (r.lengths takes n) 22 >> refuse 20)
    → fault code k ≡ (q >>= λ r. require_at at (r.lengths takes n) 22 >> (require t 20 >> rest r))
stops at code k rest (fault d j) t n h e = cc
stops at code k rest (fine r) t n h e = search rules

module _ (at : ℕ) (bytes : List ℕ) (began : at + 2 ≤ length bytes) where
  abbrev n : ℕ
  n = get_or bytes at 0

  abbrev type : ℕ
  type = get_or bytes (at + 1) 0

  abbrev body : List ℕ
  body = between bytes (at + 2) (at + n)

  pub too_short : n < 2 → sequence at bytes ≡ fault 22 at
  unfolding sequence
  too_short h = search rules

  pub whole : 2 ≤ n → at + n ≤ length bytes → sequence at bytes ≡ (fitted at (function type) body >>= λ e. found e (at + n) (chaining type))
  unfolding sequence
  whole long h =
      let size = length-take-le (at + n - (at + 2)) (drop (at + 2) bytes) (omega (arith, length-drop (at + 2) bytes)) in
      rw (le-leb (at + 2) (length bytes) began, le-leb 2 n long)
      (regrouped at body (λ e. found e (at + n) (chaining type)) (starting_at (at + 1) (row_of types (function type))) (leb (at + n) (length bytes)) n (2 + length body) (le-leb (at + n) (length bytes) h) (omega (arith, size)))

  pub body_cut : 2 ≤ n → length bytes < at + n → (from : ℕ) (why : Fault) → ◌≡◌ {A = Checked Unit} (refused_from from why) (cut_short at (function type) n) → refused_from from why ≡ sequence at bytes
  unfolding sequence
  body_cut long h from why e =
      rw (le-leb (at + 2) (length bytes) began, le-leb 2 n long)
      (stops at (fault_code why) (place_of from why) (λ r. starting_at (at + 2) (r.values body) >>= λ e. found e (at + n) (chaining type)) (starting_at (at + 1) (row_of types (function type))) (leb (at + n) (length bytes)) n (lt-leb (at + n) (length bytes) h) e)

-- the row of TRN takes every LENGTH from 2 on, and its parameters are text
pub text_row : (at : ℕ) (p : List ℕ) → 2 + length p ≤ 255 → fitted at 0xDA p ≡ fine (Text p)
unfolding types
text_row at p h = search rules

-- a row whose LENGTHs begin with 4 has two bytes of parameters
pub two_there : (l : Lengths) (n : ℕ) → 4 ≤ l.least → (l takes (2 + n)) ≡ true → 2 ≤ n
two_there l n four t = omega (arith, least-taken l (2 + n) t)
