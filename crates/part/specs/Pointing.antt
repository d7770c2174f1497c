-- "Point at the byte": where a refusal from 20 to 29 points, and that the byte is there.
use Rattle.std.specs.Prelude.{ℕ, ◌+◌, ◌<◌, ◌≤◌, ◌≡◌, true, List, length, drop, eqb, if◌then◌else◌}
use Rattle.part.specs.Numbers.{byte}
use Rattle.part.specs.Checks.{fine}
use Rattle.part.specs.Ranges.{◌to◌, ◌∈◌}
use Rattle.part.specs.Reading.{Found, element}
use Rattle.part.specs.Part.{interpreted}
use Rattle.part.specs.declared.shapes.Descriptor.{Descriptor}
use Rattle.part.specs.declared.shapes.State.{State}

-- where an element's LENGTH stands: behind 2B D3, or first where a chain is open
abbrev pub length_at : ℕ → ℕ
length_at chain = if eqb chain 1 then 0 else 2

-- The byte that each code points at, counted from the element's first; `h` is where LENGTH stands.
pub data Pointed (bytes : List ℕ) (h : ℕ) : ℕ → ℕ → Type 0 where
  -- 20, and 26 to 29: the element's start
  at_cut : Pointed bytes h 20 0
  at_start : {code : ℕ} → (code ∈ 26 to 29) ≡ true → Pointed bytes h code 0
  -- 21: the byte after 2B
  at_class : Pointed bytes h 21 1
  -- 22: LENGTH; 23: TYPE
  at_length : Pointed bytes h 22 h
  at_type : Pointed bytes h 23 (h + 1)
  -- 24 and 25: a byte of the parameters, which stand behind LENGTH and TYPE, as many as LENGTH says
  at_parameter : {code at : ℕ} → (code ∈ 24 to 25) ≡ true → h + 2 ≤ at → at < h + byte 0 bytes h → Pointed bytes h code at

-- Of some bytes with a chain open or not: it points into their first element, at a byte that is there; or into those behind it.
pub data Points : ℕ → List ℕ → ℕ → ℕ → Type 0 where
  here : {chain : ℕ} {bytes : List ℕ} {code at : ℕ} → Pointed bytes (length_at chain) code at → at < length bytes → Points chain bytes code at
  later : {chain : ℕ} {bytes : List ℕ} {code at : ℕ} (f : Found) → element chain bytes ≡ fine f → Points f.chains (drop f.size bytes) code at → Points chain bytes code (f.size + at)

-- ---- POINTING: every refusal from 20 to 29 points so; and its byte lies inside the part, so it can be looked at without a test

module _ (widths : List ℕ) (d : Descriptor) (s : State) (part area : List ℕ) where
  pub record Pointing : Type 0 where
    pub points : ((interpreted widths d s part area).answer.code ∈ 20 to 29) ≡ true → Points s.chain part (interpreted widths d s part area).answer.code (interpreted widths d s part area).answer.first
    pub inside : ((interpreted widths d s part area).answer.code ∈ 20 to 29) ≡ true → (interpreted widths d s part area).answer.first < length part
