-- A state with one thing changed.
use Rattle.std.specs.Prelude.{ℕ}
use Rattle.part.specs.declared.shapes.Point.{Point}
use Rattle.part.specs.declared.shapes.State.{State}

abbrev pub point : ℕ → ℕ → Point
point i b = record { i = i; b = b }

abbrev pub state : Point → ℕ → ℕ → ℕ → ℕ → ℕ → ℕ → ℕ → ℕ → ℕ → ℕ → State
state at margin increment adjustment direction font colour space suppression chain used = record {
  at = at;
  margin = margin;
  increment = increment;
  adjustment = adjustment;
  direction = direction;
  font = font;
  colour = colour;
  space = space;
  suppression = suppression;
  chain = chain;
  used = used;
}

abbrev pub with_at : State → Point → State
with_at s p = state p s.margin s.increment s.adjustment s.direction s.font s.colour s.space s.suppression s.chain s.used

abbrev pub with_inline : State → ℕ → State
with_inline s i = with_at s (point i s.at.b)

abbrev pub with_baseline : State → ℕ → State
with_baseline s b = with_at s (point s.at.i b)

abbrev pub with_margin : State → ℕ → State
with_margin s v = state s.at v s.increment s.adjustment s.direction s.font s.colour s.space s.suppression s.chain s.used

abbrev pub with_increment : State → ℕ → State
with_increment s v = state s.at s.margin v s.adjustment s.direction s.font s.colour s.space s.suppression s.chain s.used

abbrev pub with_adjustment : State → ℕ → ℕ → State
with_adjustment s v to = state s.at s.margin s.increment v to s.font s.colour s.space s.suppression s.chain s.used

abbrev pub with_font : State → ℕ → State
with_font s v = state s.at s.margin s.increment s.adjustment s.direction v s.colour s.space s.suppression s.chain s.used

abbrev pub with_colour : State → ℕ → State
with_colour s v = state s.at s.margin s.increment s.adjustment s.direction s.font v s.space s.suppression s.chain s.used

abbrev pub with_space : State → ℕ → State
with_space s v = state s.at s.margin s.increment s.adjustment s.direction s.font s.colour v s.suppression s.chain s.used

abbrev pub with_suppression : State → ℕ → State
with_suppression s v = state s.at s.margin s.increment s.adjustment s.direction s.font s.colour s.space v s.chain s.used

abbrev pub with_chain : State → ℕ → State
with_chain s v = state s.at s.margin s.increment s.adjustment s.direction s.font s.colour s.space s.suppression v s.used

abbrev pub with_used : State → ℕ → State
with_used s v = state s.at s.margin s.increment s.adjustment s.direction s.font s.colour s.space s.suppression s.chain v
