-- Checks that passed; and what holds of a check's value, or of its fault's code and place, step by step.
-- Assumes nothing.
use Rattle.std.specs.Prelude.{if◌then◌else◌}
use Prim.Native.Nat.{ℕ, ◌+◌}
use mathlib.Core.Path.{◌≡◌, refl}
use mathlib.Core.Bool.{Bool, true, false, ◌&&◌}
use native.Mathlib.Omega.{arith}
use Rattle.part.specs.Checks.{Checked, fine, fault, require, require_at, starting_at, ◌>>=◌, ◌>>◌}

pub first_of : (a b : Bool) → (a && b) ≡ true → a ≡ true
first_of true b h = refl
first_of false b h = h

pub second_of : (a b : Bool) → (a && b) ≡ true → b ≡ true
second_of true b h = h
second_of false b h = cc

pub both_of : (a b : Bool) → a ≡ true → b ≡ true → (a && b) ≡ true
both_of true b h k = k
both_of false b h k = h

-- ---- checks that passed

-- a check that went on to a value had a value of its own
pub went_on : {A B : Type 0} {b : B} (m : Checked A) (f : A → Checked B) → (m >>= f) ≡ fine b → (a : A) × (m ≡ fine a) × (f a ≡ fine b)
went_on (fine a) f h = (a, refl, h)
went_on (fault code at) f h = absurd (let z : ◌≡◌ {A = ℕ} 0 1 = cc in omega arith)

pub same_value : {A : Type 0} {a b : A} → fine a ≡ fine b → a ≡ b
same_value h = cc

pub same_code : {A : Type 0} {c k code at : ℕ} → ◌≡◌ {A = Checked A} (fault c k) (fault code at) → c ≡ code
same_code h = cc

pub same_place : {A : Type 0} {c k code at : ℕ} → ◌≡◌ {A = Checked A} (fault c k) (fault code at) → k ≡ at
same_place h = cc

pub tested_at : {A : Type 0} {a : A} (at : ℕ) (t : Bool) (code : ℕ) (m : Checked A) → (require_at at t code >> m) ≡ fine a → (t ≡ true) × (m ≡ fine a)
tested_at at true code m h = (refl, h)
tested_at at false code m h = (cc, cc)

pub tested : {A : Type 0} {a : A} (t : Bool) (code : ℕ) (m : Checked A) → (require t code >> m) ≡ fine a → (t ≡ true) × (m ≡ fine a)
tested t code m h = tested_at 0 t code m h

-- a value is the same wherever it begins
pub value-at : {A : Type 0} {a : A} (at : ℕ) (m : Checked A) → starting_at at m ≡ fine a → m ≡ fine a
value-at at (fine a) h = h
value-at at (fault code k) h = absurd (let z : ◌≡◌ {A = ℕ} 0 1 = cc in omega arith)

-- ---- what holds of the value, or of the fault's code and place

pub data Gives {A : Type 0} (P : A → Type 0) (Q : ℕ → ℕ → Type 0) : Checked A → Type 0 where
  value : {a : A} → P a → Gives P Q (fine a)
  refusal : {code at : ℕ} → Q code at → Gives P Q (fault code at)

-- what holds of the code alone
abbrev pub OfCode : (ℕ → Type 0) → ℕ → ℕ → Type 0
OfCode Q code at = Q code

pub gives_any : {A : Type 0} (m : Checked A) → Gives (λ _. Unit) (λ _ _. Unit) m
gives_any (fine a) = value tt
gives_any (fault code at) = refusal tt

pub gives_then : {A B : Type 0} {P : A → Type 0} {Q : ℕ → ℕ → Type 0} {R : B → Type 0} (m : Checked A) (f : A → Checked B) → Gives P Q m → ((a : A) → P a → Gives R Q (f a)) → Gives R Q (m >>= f)
gives_then (fine a) f (value p) k = k a p
gives_then (fault code at) f (refusal q) k = refusal q

pub gives_test : {Q : ℕ → ℕ → Type 0} (t : Bool) (code : ℕ) → Q code 0 → Gives (λ _. t ≡ true) Q (require t code)
gives_test true code q = value refl
gives_test false code q = refusal q

-- the same, where its refusal alone matters
pub gives-only : {Q : ℕ → ℕ → Type 0} (t : Bool) (code : ℕ) → Q code 0 → Gives (λ _. Unit) Q (require t code)
gives-only true code q = value tt
gives-only false code q = refusal q

-- a test that points at a byte, and what follows it
pub gives_unless : {B : Type 0} {Q : ℕ → ℕ → Type 0} {R : B → Type 0} (at : ℕ) (t : Bool) (code : ℕ) (m : Checked B) → (t ≡ false → Q code at) → (t ≡ true → Gives R Q m) → Gives R Q (require_at at t code >> m)
gives_unless at true code m q k = k refl
gives_unless at false code m q k = refusal (q refl)

pub gives_where : {B : Type 0} {Q : ℕ → ℕ → Type 0} {R : B → Type 0} (t : Bool) (code : ℕ) (m : Checked B) → Q code 0 → (t ≡ true → Gives R Q m) → Gives R Q (require t code >> m)
gives_where t code m q k = gives_unless 0 t code m (λ _. q) k

pub gives_so : {A : Type 0} {P R : A → Type 0} {Q S : ℕ → ℕ → Type 0} {m : Checked A} → ((a : A) → P a → R a) → ((code at : ℕ) → Q code at → S code at) → Gives P Q m → Gives R S m
gives_so k l (value p) = value (k _ p)
gives_so k l (refusal q) = refusal (l _ _ q)

pub gives_both : {A : Type 0} {P R : A → Type 0} {Q S : ℕ → ℕ → Type 0} {m : Checked A} → Gives P Q m → Gives R S m → Gives (λ a. P a × R a) (λ code at. Q code at × S code at) m
gives_both (value p) (value r) = value (p, r)
gives_both (refusal q) (refusal s) = refusal (q, s)

pub gives_either : {A : Type 0} {P : A → Type 0} {Q : ℕ → ℕ → Type 0} (t : Bool) {m n : Checked A} → Gives P Q m → Gives P Q n → Gives P Q (if t then m else n)
gives_either true a b = a
gives_either false a b = b

pub gives_at : {A : Type 0} {P : A → Type 0} {Q R : ℕ → ℕ → Type 0} (at : ℕ) (m : Checked A) → ((code k : ℕ) → Q code k → R code (at + k)) → Gives P Q m → Gives P R (starting_at at m)
gives_at at (fine a) l (value p) = value p
gives_at at (fault code k) l (refusal q) = refusal (l _ _ q)

pub value_of : {A : Type 0} {P : A → Type 0} {Q : ℕ → ℕ → Type 0} {a : A} (m : Checked A) → Gives P Q m → m ≡ fine a → P a
value_of (fine x) (value p) h = rw (same_value h) at p
value_of (fault code at) g h = absurd (let z : ◌≡◌ {A = ℕ} 0 1 = cc in omega arith)

pub fault_of : {A : Type 0} {P : A → Type 0} {Q : ℕ → ℕ → Type 0} {code at : ℕ} (m : Checked A) → Gives P Q m → m ≡ fault code at → Q code at
fault_of (fine x) g h = absurd (let z : ◌≡◌ {A = ℕ} 0 1 = cc in omega arith)
fault_of (fault c k) (refusal q) h = rw (same_code h, same_place h) at q

-- what holds of every value holds after a check
pub after : {A B : Type 0} (m : Checked A) (f g : A → Checked B) → ((a : A) → f a ≡ g a) → (m >>= f) ≡ (m >>= g)
after (fine a) f g h = h a
after (fault code at) f g h = refl

-- two checks after one another, in either grouping
pub regrouped : {A B C : Type 0} (m : Checked A) (f : A → Checked B) (g : B → Checked C) → (m >>= f >>= g) ≡ (m >>= λ a. f a >>= g)
regrouped (fine a) f g = refl
regrouped (fault code at) f g = refl
