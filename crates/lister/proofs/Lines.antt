-- The lines of some records, one after the other: how long one is at most, and what is left.
-- Assumes nothing.
use Rattle.std.proofs.Common.{◌≡◌, ℕ, zero, suc, ◌+◌, ◌*◌, ◌≤◌, Bool, true, false, List, [], ◌++◌, length, take, drop, refl, ◌∙◌, sym, arith, append_assoc, length-append, length-drop, length-take-le, subst}
use Rattle.std.specs.Prelude.{if◌then◌else◌, eqb}
use Rattle.std.proofs.lemmas.List.{append-nil}
use Rattle.part.specs.Records.{little_at, is_whole}
use Rattle.lister.specs.Lines.{newline, hex_bytes, numbers, characters_in_hex}
use Rattle.lister.specs.Listing.{«T», «R», text_numbers, rule_numbers, text_line, rule_line, record_line, record_lines}
use Rattle.lister.specs.Code.{kind_of, Grown}
use Rattle.lister.specs.declared.records.Kind.TheVariants.{Text}
use Rattle.lister.specs.declared.text.Listing.{Listing}
use Rattle.lister.proofs.Grown.{unchanged, grown_by_both}
use Rattle.lister.proofs.Digits.{numbers_short, hex_short}

pub text_is : (r : List ℕ) → kind_of r ≡ Text → record_line r ≡ text_line r
text_is r h = grind arith

pub line_short : (r : List ℕ) → 16 ≤ length r → length (record_line r) ≤ 3 * length r
line_short r h = go (eqb (little_at r 2) 1)
  where
    go : (b : Bool) → length (if b then text_line r else rule_line r) ≤ 3 * length r
    go true =
        let characters = drop 16 r in
        omega (arith, length-append («T» ++ numbers (text_numbers r)) (characters_in_hex characters), length-append (hex_bytes characters) newline, numbers_short (text_numbers r), hex_short characters, length-drop 16 r)
    go false = omega (arith, length-append («R» ++ numbers (rule_numbers r)) newline, numbers_short (rule_numbers r))

pub record Whole (bytes : List ℕ) : Type 0 where
  pub long : 16 ≤ little_at bytes 0
  pub within : little_at bytes 0 ≤ length bytes

pub whole : (bytes : List ℕ) → is_whole bytes ≡ true → Whole bytes
whole bytes h = record { long = grind arith; within = grind arith }

pub lines_none : (most : ℕ) (bytes : List ℕ) → is_whole bytes ≡ false → record_lines most bytes ≡ []
unfolding record_lines
lines_none zero bytes h = refl
lines_none (suc most) bytes h = rw (record_lines, h)

pub lines_more : (most : ℕ) (bytes : List ℕ) → is_whole bytes ≡ true
    → record_lines (suc most) bytes ≡ record_line (take (little_at bytes 0) bytes) ++ record_lines most (drop (little_at bytes 0) bytes)
unfolding record_lines
lines_more most bytes h = rw (record_lines, h)

-- ---- of some bytes, those that are left when a listing has grown by the lines of the first records

pub record Left (first : Listing) (bytes : List ℕ) (now : Listing) (rest : List ℕ) : Type 0 where
  pub put : List ℕ
  pub grown : Grown first now put
  pub most : ℕ
  pub enough : length rest ≤ 16 * most
  pub room : length put + 3 * length rest ≤ 3 * length bytes
  pub lines : put ++ record_lines most rest ≡ record_lines 256 bytes

pub all_left : (l : Listing) (bytes : List ℕ) → length bytes ≤ 4096 → Left l bytes l bytes
all_left l bytes h = record { put = []; grown = unchanged l; most = 256; enough = omega arith; room = omega arith; lines = refl }

-- one record more
pub fewer_left : {first now next : Listing} {bytes rest : List ℕ} → Left first bytes now rest → is_whole rest ≡ true
    → Grown now next (record_line (take (little_at rest 0) rest)) → Left first bytes next (drop (little_at rest 0) rest)
fewer_left {first} {next = next} {bytes = bytes} {rest = rest} l h g = go l.most l.enough l.lines
  where
    n : ℕ
    n = little_at rest 0

    w : Whole rest
    w = whole rest h

    line : List ℕ
    line = record_line (take n rest)

    go : (most : ℕ) → length rest ≤ 16 * most → l.put ++ record_lines most rest ≡ record_lines 256 bytes → Left first bytes next (drop n rest)
    go zero few is = absurd (let a = w.long in let b = w.within in omega arith)
    go (suc most) few is =
        let long = w.long in
        let within = w.within in
        let room = l.room in
        let its = length-take-le n rest within in
        let short = line_short (take n rest) (omega arith) in
        let others = length-drop n rest in
        let both = length-append l.put line in
        record {
          put = l.put ++ line;
          grown = grown_by_both l.grown g;
          most = most;
          enough = omega arith;
          room = omega arith;
          lines = append_assoc l.put line (record_lines most (drop n rest)) ∙ rw (lines_more most rest h) at is;
        }

-- no more is whole
pub none_left : {first now : Listing} {bytes rest : List ℕ} → Left first bytes now rest → is_whole rest ≡ false
    → Grown first now (record_lines 256 bytes) × (now.len ≤ first.len + 3 * length bytes)
none_left {first} {now} {bytes} {rest} l h =
    let all : l.put ≡ record_lines 256 bytes = sym (append-nil l.put) ∙ rw (lines_none l.most rest h) at l.lines in
    (subst (Grown first now) all l.grown, omega (arith, l.room, l.grown.len))
