-- What the code's own values stand for.
use Rattle.std.specs.Prelude.{◌≡◌, ℕ, suc, ◌+◌, ◌-◌, ◌<◌, ◌≤◌, pos, negsuc, if◌then◌else◌, eqb, List, ◌++◌, length, take}
use Rattle.part.specs.Records.{little_at}
use Rattle.part.specs.declared.shapes.Interpreted.{Interpreted}
use Rattle.lister.specs.Lines.{middle}
use Rattle.lister.specs.declared.text.Number.{Number}
use Rattle.lister.specs.declared.text.Number.TheVariants.{Plain, Signed}
use Rattle.lister.specs.declared.text.Listing.{Listing}
use Rattle.lister.specs.declared.records.Kind.{Kind}
use Rattle.lister.specs.declared.records.Kind.TheVariants.{Text, Rule}

-- a number of a listing, as the rules keep it
abbrev pub plus_middle : Number → ℕ
plus_middle (Plain n) = n + middle
plus_middle (Signed (pos n)) = n + middle
plus_middle (Signed (negsuc n)) = middle - suc n

-- the text of a listing as far as it has come
abbrev pub text : Listing → List ℕ
text l = take l.len l.out.now

-- behind it there is room for so many more
abbrev pub HasRoom : Listing → ℕ → Type 0
HasRoom l more = l.len + more ≤ length l.out.now

-- a listing has grown by a text, in the same buffer
pub record Grown (old new : Listing) (more : List ℕ) : Type 0 where
  pub same_reference : new.out.ghost_name ≡ old.out.ghost_name
  pub room : length new.out.now ≡ length old.out.now
  pub len : new.len ≡ old.len + length more
  pub grown : text new ≡ text old ++ more

-- the kind of a record, a text's or another
abbrev pub kind_of : List ℕ → Kind
kind_of r = if eqb (little_at r 2) 1 then Text else Rule

-- each number of an END line has two bytes, and each of a REFUSED line
pub record EndFits (r : Interpreted) : Type 0 where
  pub i : r.state.at.i < 65536
  pub b : r.state.at.b < 65536
  pub elements : r.answer.first < 65536
  pub size : r.answer.second < 65536

pub record RefusedFits (r : Interpreted) : Type 0 where
  pub code : r.answer.code < 65536
  pub at : r.answer.first < 65536
