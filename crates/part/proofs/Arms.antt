-- What each type's sequence comes to: behind the test of its LENGTH, an effect. Most types change one thing of the state and store no record.
-- Assumes nothing.
use borrow.Author.Rules.{rules}
use Prim.Native.Nat.{ℕ}
use mathlib.Core.Path.{◌≡◌, refl}
use mathlib.Core.List.{List}
use Rattle.std.specs.Prelude.{Result, Ok, Err}
use Rattle.part.specs.Numbers.{origin, ones, word, signed}
use Rattle.part.specs.Checks.{Checked, ◌>>=◌}
use Rattle.part.specs.Ranges.{up_to, colours}
use Rattle.part.specs.States.{with_margin, with_increment, with_font, with_colour, with_space, with_suppression}
use Rattle.part.specs.Types.{types}
use Rattle.part.specs.Presenting.{moved}
use Rattle.part.specs.Place.{Effect, becomes, to_inline, to_baseline, place, place_text}
use Rattle.part.specs.Code.{verdict, function_of, suited, sized, state_after, inked, roomed_in, placed_in, ruled, repeating, performed}
use Rattle.part.specs.Working.{absolute, line, setting, font_setting, adjusting, oriented, beginning, ending}
use Rattle.part.specs.declared.faults.Fault.{Fault}
use Rattle.part.specs.declared.shapes.Descriptor.{Descriptor}
use Rattle.part.specs.declared.shapes.State.{State}
use Rattle.part.specs.declared.types.Kind.{Kind}
use Rattle.part.specs.declared.types.Kind.TheVariants.{Ami, Amb, Rmi, Rmb, Bln, Sim, Sbi, Sia, Svi, Scfl, Stc, Sto, Bsu, Esu, Dir, Dbr, Trn, Rps, Nop}
use Rattle.part.proofs.Checks.{regrouped}

module _ (most : ℕ) (widths : List ℕ) (d : Descriptor) (s : State) (p : List ℕ) where
  -- an effect for each type, and the law of all types: it computes but for the tests
  abbrev pub effect_of : Kind → Checked Effect
  effect_of Ami = to_inline s (absolute p)
  effect_of Amb = to_baseline s (absolute p)
  effect_of Rmi = to_inline s (moved s.at.i (signed (word 0 p 0)) origin)
  effect_of Rmb = to_baseline s (moved s.at.b (signed (word 0 p 0)) origin)
  effect_of Bln = line s >>= becomes
  effect_of Sim = setting p (up_to 0x7FFF) d.margin >>= λ v. becomes (with_margin s v)
  effect_of Sbi = setting p (up_to 0x7FFF) d.increment >>= λ v. becomes (with_increment s v)
  effect_of Sia = adjusting d s p >>= becomes
  effect_of Svi = setting p (up_to 0x0FFF) ones >>= λ v. becomes (with_space s v)
  effect_of Scfl = font_setting p d.font >>= λ v. becomes (with_font s v)
  effect_of Stc = setting p colours d.colour >>= λ v. becomes (with_colour s v)
  effect_of Sto = oriented p >>= λ _. becomes s
  effect_of Bsu = beginning s.suppression p >>= λ v. becomes (with_suppression s v)
  effect_of Esu = ending s.suppression p >>= λ v. becomes (with_suppression s v)
  effect_of Dir = ruled most d s 0 p
  effect_of Dbr = ruled most d s 1 p
  effect_of Trn = roomed_in most s (place_text widths d s p)
  effect_of Rps = repeating most widths d s p
  effect_of Nop = becomes s

  pub performs : (kind : Kind) → performed most widths d s (function_of kind) p ≡ sized kind p (effect_of kind)
  unfolding types placed_in place moved
  performs Ami = search rules
  performs kind = search rules

  -- the same, of a function code whose type is known
  pub comes_to : {function : ℕ} {kind k : Kind} → function ≡ function_of kind → kind ≡ k → performed most widths d s function p ≡ sized kind p (effect_of k)
  comes_to {k = k} e is = rw (e, is) (performs k)

  -- a verdict on what a type changes is one on the state, and the area stays
  pub changes : {function : ℕ} {kind k : Kind} {A B : Type 0} (r : Result B Fault) (a : A) (m : Checked A) (area : List ℕ) (f : A → State)
      → function ≡ function_of kind → kind ≡ k → verdict r a ≡ sized kind p m → effect_of k ≡ (m >>= λ x. becomes (f x))
      → (verdict r (f a) ≡ state_after (performed most widths d s function p)) × (area ≡ inked area s.used (performed most widths d s function p))
  changes {kind = kind} (Ok b) a m area f e is h same = rw (comes_to e is, same, ← regrouped (suited kind p) (λ _. m) (λ x. becomes (f x)), ← h) (refl, refl)
  changes {kind = kind} (Err why) a m area f e is h same = rw (comes_to e is, same, ← regrouped (suited kind p) (λ _. m) (λ x. becomes (f x)), ← h) (refl, refl)
