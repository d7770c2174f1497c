-- The record of a text: a head of sixteen bytes and the characters; it is refused or stored by its length.
-- Assumes nothing.
use Prim.Native.Nat.{ℕ, ◌+◌, ◌<◌, ◌≤◌}
use mathlib.Core.Path.{◌≡◌, sym, ap}
use mathlib.Core.List.{List, [], ◌∷◌, ◌++◌, append-nil}
use native.Mathlib.Omega.{arith}
use lib.ListN.{length}
use lib.Seq.{sets}
use borrow.Author.Tests.{le-leb, lt-leb}
use Rattle.part.specs.Checks.{refuse}
use Rattle.part.specs.States.{with_inline, with_used}
use Rattle.part.specs.Records.{bytes_of, all_bytes}
use Rattle.part.specs.Place.{effect, shown_text}
use Rattle.part.specs.Code.{advanced, head_of, head_bytes}
use Rattle.part.specs.declared.shapes.State.{State}
use Rattle.part.specs.declared.record.Head.{Head}

text_length : (s : State) (cs : List ℕ) → length (bytes_of (shown_text s cs)) ≡ 16 + length cs
unfolding bytes_of
text_length s cs = omega arith

module _ (most : ℕ) (s : State) (i : ℕ) (cs : List ℕ) where
  pub text_full : most < s.used + 16 + length cs → advanced most s i cs ≡ refuse 29
  text_full h =
      let n = s.used + length (bytes_of (shown_text s cs)) in
      rw (lt-leb n most (omega (arith, text_length s cs)))

  pub text_fits : s.used + 16 + length cs ≤ most → advanced most s i cs ≡ effect (with_used (with_inline s i) (s.used + 16 + length cs)) (shown_text s cs ∷ [])
  text_fits h =
      let n = s.used + length (bytes_of (shown_text s cs)) in
      let e : n ≡ s.used + 16 + length cs = omega (arith, text_length s cs) in
      rw (le-leb n most (omega (arith, text_length s cs)), e)

-- a text's head and its characters
pub text_bytes : (s : State) (cs : List ℕ) → head_bytes (head_of s (length cs)) ++ cs ≡ all_bytes (shown_text s cs ∷ [])
unfolding bytes_of
text_bytes s cs = sym (append-nil _)

-- a record as the code stores it: its head, and the characters
pub recorded_text : (area : List ℕ) (s : State) (cs : List ℕ) (h : Head) → h ≡ head_of s (length cs) → sets area s.used (head_bytes h ++ cs) ≡ sets area s.used (all_bytes (shown_text s cs ∷ []))
recorded_text area s cs h e = rw e (ap (sets area s.used) (text_bytes s cs))
