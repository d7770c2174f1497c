-- Numbers are in range all together just when each is: a number of a state in range, and such a state with one number changed.
-- Assumes nothing.
use Prim.Native.Nat.{ℕ, zero, suc}
use mathlib.Core.Path.{◌≡◌, refl, ap, ◌∙◌}
use mathlib.Core.Bool.{Bool, true, ◌&&◌, and_comm}
use mathlib.Core.List.{List, [], ◌∷◌}
use lib.ListN.{get_or, set}
use Rattle.part.specs.Ranges.{Field, ◌∈◌, ◌within◌, everything, hold}
use Rattle.part.proofs.Checks.{first_of, second_of}

-- a number in its range
abbrev pub Held : Field → Type 0
Held f = (f.value ∈ f.range) ≡ true

abbrev pub field_at : List Field → ℕ → Field
field_at fs k = get_or fs k (0 within everything)

pub held : (fs : List Field) (k : ℕ) → hold fs ≡ true → Held (field_at fs k)
held [] k h = refl
held (f ∷ fs) zero h = first_of (f.value ∈ f.range) (hold fs) h
held (f ∷ fs) (suc k) h = held fs k (second_of (f.value ∈ f.range) (hold fs) h)

pub changed : (fs : List Field) (k : ℕ) (f : Field) → hold fs ≡ true → Held f → hold (set fs k f) ≡ true
changed [] k f h ok = h
changed (g ∷ fs) zero f h ok = rw ok (second_of (g.value ∈ g.range) (hold fs) h)
changed (g ∷ fs) (suc k) f h ok = rw (first_of (g.value ∈ g.range) (hold fs) h) (changed fs k f (second_of (g.value ∈ g.range) (hold fs) h) ok)

-- tested from the last to the first
abbrev pub backwards : List Field → Bool
backwards [] = true
backwards (f ∷ fs) = backwards fs && (f.value ∈ f.range)

pub hold-backwards : (fs : List Field) → backwards fs ≡ hold fs
hold-backwards [] = refl
hold-backwards (f ∷ fs) = and_comm (backwards fs) (f.value ∈ f.range) ∙ ap (λ b. f.value ∈ f.range && b) (hold-backwards fs)
