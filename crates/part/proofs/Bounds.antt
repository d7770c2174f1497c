-- The bounds of all numbers of a state and of a descriptor that are in range.
-- Assumes nothing.
use Prim.Native.Nat.{ℕ, ◌≤◌}
use mathlib.Core.Path.{◌≡◌, refl}
use mathlib.Core.Bool.{Bool, true, false, ◌||◌}
use native.Mathlib.Omega.{arith}
use lib.Dec.{leb, eqb}
use borrow.Author.Tests.{leb-true, eqb-true}
use Rattle.part.specs.Numbers.{ones}
use Rattle.part.specs.Ranges.{up_to, only, colours, ◌to◌, ◌or◌, ◌∈◌, hold, descriptor_fields, state_fields}
use Rattle.part.specs.declared.shapes.Descriptor.{Descriptor}
use Rattle.part.specs.declared.shapes.State.{State}
use Rattle.part.proofs.Checks.{first_of, second_of}
use Rattle.part.proofs.Fields.{held}

either : {P : Type 0} (a b : Bool) → (a ≡ true → P) → (b ≡ true → P) → (a || b) ≡ true → P
either true b f g h = f refl
either false b f g h = g h

is_below : (v n : ℕ) → n ≤ 65535 → eqb v n ≡ true → v ≤ 65535
is_below v n k h = omega (arith, eqb-true v n h)

colour-below : (v : ℕ) → (v ∈ colours) ≡ true → v ≤ 65535
colour-below v = either (v ∈ only 0x0000 or only 0xFF00) (v ∈ only 0xFF07) (either (v ∈ only 0x0000) (v ∈ only 0xFF00) (is_below v 0x0000 (omega arith)) (is_below v 0xFF00 (omega arith))) (is_below v 0xFF07 (omega arith))

space-below : (v : ℕ) → (v ∈ up_to 4095 or only ones) ≡ true → v ≤ 65535
space-below v = either (v ∈ up_to 4095) (v ∈ only ones) (λ t. omega (arith, leb-true v 4095 t)) (is_below v ones (omega arith))

-- ---- a state

pub record Bounded (s : State) : Type 0 where
  pub inline : s.at.i ≤ 65535
  pub baseline : s.at.b ≤ 65535
  pub margin : s.margin ≤ 32767
  pub increment : s.increment ≤ 32767
  pub adjustment : s.adjustment ≤ 4095
  pub direction : s.direction ≤ 1
  pub font : s.font ≤ 3
  pub colour : s.colour ≤ 65535
  pub space : s.space ≤ 65535
  pub suppression : s.suppression ≤ 127
  pub chain : s.chain ≤ 1
  pub used : s.used ≤ 4096

pub bounded : (s : State) → hold (state_fields s) ≡ true → Bounded s
unfolding state_fields
bounded s h =
    let fields = state_fields s in
    record {
      inline = leb-true _ _ (held fields 0 h);
      baseline = leb-true _ _ (held fields 1 h);
      margin = leb-true _ _ (held fields 2 h);
      increment = leb-true _ _ (held fields 3 h);
      adjustment = leb-true _ _ (held fields 4 h);
      direction = leb-true _ _ (held fields 5 h);
      font = leb-true _ _ (held fields 6 h);
      colour = colour-below _ (held fields 7 h);
      space = space-below _ (held fields 8 h);
      suppression = leb-true _ _ (held fields 9 h);
      chain = leb-true _ _ (held fields 10 h);
      used = leb-true _ _ (held fields 11 h);
    }

module _ (s : State) (h : hold (state_fields s) ≡ true) where
  pub inline_fits : s.at.i ≤ 65535
  inline_fits = (bounded s h).inline

  pub baseline-fits : s.at.b ≤ 65535
  baseline-fits = (bounded s h).baseline

  pub adjustment-fits : s.adjustment ≤ 4095
  adjustment-fits = (bounded s h).adjustment

  pub font-fits : s.font ≤ 3
  font-fits = (bounded s h).font

  pub chain_fits : s.chain ≤ 1
  chain_fits = (bounded s h).chain

  pub used_fits : s.used ≤ 4096
  used_fits = (bounded s h).used

-- ---- a descriptor

pub record Described (d : Descriptor) : Type 0 where
  pub size_inline : (1 ≤ d.size.i) × (d.size.i ≤ 32767)
  pub size_baseline : (1 ≤ d.size.b) × (d.size.b ≤ 32767)
  pub initial_inline : d.initial.i ≤ 32767
  pub initial_baseline : d.initial.b ≤ 32767
  pub margin : d.margin ≤ 32767
  pub increment : d.increment ≤ 32767
  pub adjustment : d.adjustment ≤ 4095
  pub direction : d.direction ≤ 1
  pub font : d.font ≤ 3
  pub colour : d.colour ≤ 65535
  pub rule : d.rule ≤ 192
  pub hidden : d.hidden ≤ 127

pub between : (v least most : ℕ) → (v ∈ least to most) ≡ true → (least ≤ v) × (v ≤ most)
between v least most h = (leb-true least v (first_of (leb least v) (leb v most) h), leb-true v most (second_of (leb least v) (leb v most) h))

pub described : (d : Descriptor) → hold (descriptor_fields d) ≡ true → Described d
unfolding descriptor_fields
described d h =
    let fields = descriptor_fields d in
    record {
      size_inline = between _ _ _ (held fields 0 h);
      size_baseline = between _ _ _ (held fields 1 h);
      initial_inline = leb-true _ _ (held fields 2 h);
      initial_baseline = leb-true _ _ (held fields 3 h);
      margin = leb-true _ _ (held fields 4 h);
      increment = leb-true _ _ (held fields 5 h);
      adjustment = leb-true _ _ (held fields 6 h);
      direction = leb-true _ _ (held fields 7 h);
      font = leb-true _ _ (held fields 8 h);
      colour = colour-below _ (held fields 9 h);
      rule = leb-true _ _ (held fields 10 h);
      hidden = leb-true _ _ (held fields 11 h);
    }
