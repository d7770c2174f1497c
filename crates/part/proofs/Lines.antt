-- Characters along a line: `a ++ b` is a, and then b from where a left off. Where I does not fall, the last character's end decides for all.
-- Assumes nothing.
use Rattle.std.proofs.Common.{◌≡◌, ℕ, zero, suc, ◌+◌, ◌*◌, ◌-◌, ◌/◌, ◌%◌, ◌<◌, ◌≤◌, min, Bool, true, false, not, ◌&&◌, ◌||◌, ◌⊎◌, List, [], ◌∷◌, ◌++◌, length, take, get_or, drop, leb, eqb, nat_eq, if◌then◌else◌, map, fold, sum_by, All, slice_index_or, refl, sym, ◌∙◌, ap, ⊎_elim, inl, inr, append_assoc, add_assoc, zero-add, zero-mul, mul-zero, add-zero, suc-mul, add-mul, mul_comm, mul-add, mul_left_comm, mul-le-mul_left, le_of_lt, le_trans, div-add-mod', add-one, arith, drop-cons, drop-drop, drop_of_length-le, le-leb, eqb-true}
use mathlib.Core.Bool.{or-true}
use Rattle.std.proofs.lemmas.List.Sums.{sum_by-cons, sum_by-drop_more, sum_by-append, sum_by-take-drop, sum_by-le}
use Rattle.std.proofs.lemmas.List.Elements.{All-nil, All-cons, All-head, All-tail, All-get_or, All-from_get_or}
use Rattle.std.specs.Simd.{first_chunks}
use Rattle.part.specs.Numbers.{origin, last}
use Rattle.part.specs.Checks.{fine, ◌>>=◌}
use Rattle.part.specs.Presenting.{moved}
use Rattle.part.specs.Text.{cycle}
use Rattle.part.specs.Code.{width_in, stepped, walked, widths_of, row_widths, is_space, spaces_in, AtLeast, Fixed, AtOnce}
use Rattle.part.specs.declared.text.Line.{Line}
use Rattle.part.proofs.Checks.{first_of, second_of, after, regrouped}
use Rattle.part.proofs.Cycles.{times, split}

-- ---- a number for each character, together

module _ (f : ℕ → ℕ) where
  sum_times : (t : List ℕ) (q : ℕ) → sum_by f (times t q) ≡ q * sum_by f t
  sum_times t zero = sym (zero-mul (sum_by f t))
  sum_times t (suc q) = rw (sum_by-append f t (times t q), sum_times t q, suc-mul) (omega arith)

  -- of a text that begins again at its end: the text's for each whole round, and those of a last part of one
  pub sum_cycle : (t : List ℕ) (count : ℕ) → 0 < length t → sum_by f (cycle t 0 count) ≡ count / length t * sum_by f t + sum_by f (take (count % length t) t)
  sum_cycle t count h =
      let q = count / length t in
      rw (split t count h, sum_by-append f (times t q) (take (count % length t) t), sum_times t q)

  -- chunk by chunk, and then what is left
  pub sum_chunks : (n k : ℕ) (t : List ℕ) → sum_by (sum_by f) (first_chunks n k t) + sum_by f (drop (k * n) t) ≡ sum_by f t
  sum_chunks n zero t = rw (zero-mul, zero-add)
  sum_chunks n (suc k) t =
      let on : suc k * n ≡ n + k * n = rw suc-mul (omega arith) in
      let rest : drop (suc k * n) t ≡ drop (k * n) (drop n t) = rw on (sym (drop-drop (k * n) n t)) in
      let first = sum_by-cons (sum_by f) (take n t) (first_chunks n k (drop n t)) in
      rw (first, rest) (omega (arith, sum_chunks n k (drop n t), sum_by-take-drop f t n))

  -- eight of them
  pub sum_eight : (e : List ℕ) → length e ≡ 8
      → f (get_or e 0 0) + f (get_or e 1 0) + (f (get_or e 2 0) + f (get_or e 3 0)) + (f (get_or e 4 0) + f (get_or e 5 0) + (f (get_or e 6 0) + f (get_or e 7 0))) ≡ sum_by f e
  sum_eight e n =
      let rest : (k : ℕ) → k < 8 → sum_by f (drop k e) ≡ f (get_or e k 0) + sum_by f (drop (k + 1) e) = λ k h. sum_by-drop_more f e k 0 (omega arith) in
      let over : length e ≤ 8 = omega arith in
      let none : sum_by f (drop 8 e) ≡ 0 = rw (drop_of_length-le e over) in
      omega (arith, rest 0 (omega arith), rest 1 (omega arith), rest 2 (omega arith), rest 3 (omega arith), rest 4 (omega arith), rest 5 (omega arith), rest 6 (omega arith), rest 7 (omega arith))

  sum_most : (b : ℕ) → ((c : ℕ) → f c < b) → (t : List ℕ) → sum_by f t ≤ b * length t
  sum_most b h t = rw (mul_comm b (length t)) (sum_by-le f b t (λ k d s. le_of_lt (h (slice_index_or t k d))))

  -- where it is nowhere less than a number
  sum_least : (least : ℕ) (t : List ℕ) → AtLeast f least t → length t * least ≤ sum_by f t
  sum_least least [] h = rw zero-mul (omega arith)
  sum_least least (c ∷ t) h =
      let P : ℕ → Type 0 = λ x. least ≤ f x in
      let here : least ≤ f c = All-head P c t h in
      rw (suc-mul, sum_by-cons f c t) (omega (arith, here, sum_least least t (All-tail P c t h)))

-- a row whose widths are all as the first
pub fixed_row : (row : List ℕ) → length row ≡ 256 → fold (λ same w. same && nat_eq w (get_or row 0 0)) true row ≡ true → Fixed row
fixed_row row n h c s = All-get_or (λ w. w ≡ get_or row 0 0) row c 0 (omega arith) (alike true row h).1
  where
    alike : (same : Bool) (ws : List ℕ) → fold (λ s w. s && nat_eq w (get_or row 0 0)) same ws ≡ true → (same ≡ true) × All (λ w. w ≡ get_or row 0 0) ws
    alike same [] e = (e, All-nil (λ w. w ≡ get_or row 0 0))
    alike same (w ∷ ws) e =
        let later = alike (same && nat_eq w (get_or row 0 0)) ws e in
        let one : w ≡ get_or row 0 0 = eqb-true w (get_or row 0 0) (second_of same (nat_eq w (get_or row 0 0)) later.0) in
        (first_of same (nat_eq w (get_or row 0 0)) later.0, All-cons (λ x. x ≡ get_or row 0 0) w ws one later.1)

-- at most X'40' in the line and the width in the row is at most the width
width-least : (row : List ℕ) (space least c : ℕ) → least ≤ space → least ≤ get_or row c 0 → least ≤ width_in row space c
width-least row space least c h k = go (eqb c 0x40)
  where
    go : (t : Bool) → least ≤ (if t then space else get_or row c 0)
    go true = h
    go false = k

-- a text in such a row
module _ (row : List ℕ) (fixed : Fixed row) where
  pub fixed_sum : (t : List ℕ) → ((k : ℕ) → get_or t k 0 < 256) → row_widths row t ≡ length t * get_or row 0 0
  fixed_sum [] h = sym (zero-mul (get_or row 0 0))
  fixed_sum (c ∷ t) h = rw (sum_by-cons (λ x. get_or row x 0) c t, fixed c (h 0), fixed_sum t (λ k. h (suc k)), suc-mul) (omega arith)

  pub fixed_least : (space : ℕ) (t : List ℕ) → ((k : ℕ) → get_or t k 0 < 256) → AtLeast (width_in row space) (min (get_or row 0 0) space) t
  fixed_least space t h =
      All-from_get_or (λ c. min (get_or row 0 0) space ≤ width_in row space c) t 0
      (λ k s.
      let same = fixed (get_or t k 0) (h k) in
      width-least row space (min (get_or row 0 0) space) (get_or t k 0) (omega arith) (omega arith))

-- the least of X'40' in the line and of the widths in the row
module _ (row : List ℕ) (space : ℕ) where
  abbrev pub least_of : ℕ → List ℕ → ℕ
  least_of a t = fold (λ n w. min w n) a (map (λ c. get_or row c 0) t)

  pub row_least : (a : ℕ) (t : List ℕ) → a ≤ space → (least_of a t ≤ a) × AtLeast (width_in row space) (least_of a t) t
  row_least a [] h = (omega arith, All-nil (λ c. a ≤ width_in row space c))
  row_least a (c ∷ t) h =
      let later = row_least (min (get_or row c 0) a) t (omega arith) in
      let less = later.0 in
      let least = least_of (min (get_or row c 0) a) t in
      (omega arith, All-cons (λ x. least ≤ width_in row space x) c t (width-least row space least c (omega arith) (omega arith)) later.1)

-- Spaces counted apart: each takes the line's width for the row's.
module _ (row : List ℕ) (space : ℕ) where
  replaced : (t : List ℕ) → row_widths row t + spaces_in t * space ≡ widths_of row space t + spaces_in t * get_or row 0x40 0
  replaced [] = omega (arith, zero-mul space, zero-mul (get_or row 0x40 0))
  replaced (c ∷ t) =
      let own = sum_by-cons (λ x. get_or row x 0) c t in
      let all = sum_by-cons (width_in row space) c t in
      let some = sum_by-cons is_space c t in
      rw (own, all, some, add-mul (is_space c) (spaces_in t) space, add-mul (is_space c) (spaces_in t) (get_or row 0x40 0)) (omega (arith, one (eqb c 0x40) refl, replaced t))
    where
      one : (b : Bool) → eqb c 0x40 ≡ b → get_or row c 0 + is_space c * space ≡ width_in row space c + is_space c * get_or row 0x40 0
      one true e = rw (e, eqb-true c 0x40 e) (omega arith)
      one false e = rw e (omega arith)

  pub spaces_apart : (t : List ℕ) {sum n own : ℕ} → sum ≡ row_widths row t → n ≡ spaces_in t → own ≡ get_or row 0x40 0 → sum + n * space ≡ widths_of row space t + n * own
  spaces_apart t e f g = rw (e, f, g) (replaced t)

-- widths fit two bytes in the row, and four with the line's: what they are together is bounded by how many they are
module _ (row : List ℕ) (fits : (k : ℕ) → get_or row k 0 < 65536) (t : List ℕ) where
  pub row_most : {n : ℕ} → n ≡ row_widths row t → (n ≡ row_widths row t) × (n ≤ 65536 * length t)
  row_most e = (e, rw e (sum_most (λ c. get_or row c 0) 65536 fits t))

  pub widths_most : (space : ℕ) → space < 4294967296 → {n : ℕ} → n ≡ widths_of row space t → (n ≡ widths_of row space t) × (n ≤ 4294967296 * length t)
  widths_most space h e = (e, rw e (sum_most (width_in row space) 4294967296 (λ c. one c (eqb c 0x40)) t))
    where
      one : (c : ℕ) (b : Bool) → (if b then space else get_or row c 0) < 4294967296
      one c true = h
      one c false = omega (arith, fits c)

-- what bounds a round by its characters bounds whole rounds, with a last part of one
pub rounds_most : (n count v b : ℕ) → 0 < n → v ≤ b * n → count / n * v + b * (count % n) ≤ b * count
rounds_most n count v b p h =
    let q = count / n in
    let round : q * v ≤ q * (b * n) = mul-le-mul_left q h in
    let all : b * (q * n) + b * (count % n) ≡ b * count = sym (mul-add b (q * n) (count % n)) ∙ ap (λ m. b * m) (div-add-mod' count n) in
    omega (arith, mul_left_comm q b n)

-- ---- along the line

module _ (row : List ℕ) (l : Line) where
  -- a then b
  along_then : (i : ℕ) (a b : List ℕ) → walked row l i (a ++ b) ≡ (walked row l i a >>= λ j. walked row l j b)
  unfolding walked
  along_then i [] b = refl
  along_then i (c ∷ a) b =
      let m = stepped l i (width_in row l.space c) in
      after m (λ j. walked row l j (a ++ b)) (λ j. walked row l j a >>= λ k. walked row l k b) (λ j. along_then j a b)
      ∙ sym (regrouped m (λ j. walked row l j a) (λ j. walked row l j b))

  -- those from number k on, of which the first has a width w
  pub goes_on : (t : List ℕ) (k i : ℕ) {w : ℕ} → k < length t → w ≡ width_in row l.space (get_or t k 0) → walked row l i (drop k t) ≡ (stepped l i w >>= λ j. walked row l j (drop (k + 1) t))
  unfolding walked
  goes_on t k i h e = rw (add-one, drop-cons t k 0 h, e)

  pub arrives : (t : List ℕ) (k i : ℕ) → length t ≤ k → walked row l i (drop k t) ≡ fine i
  unfolding walked
  arrives t k i h = rw (drop_of_length-le t h)

  -- rounds of a text that begins again at its end: the first, and those that are left with a last part
  pub round_on : (t rest : List ℕ) (k q i : ℕ) → k < q → walked row l i (times t (q - k) ++ rest) ≡ (walked row l i t >>= λ j. walked row l j (times t (q - (k + 1)) ++ rest))
  round_on t rest k q i h =
      let more : q - k ≡ suc (q - (k + 1)) = omega arith in
      rw (more, append_assoc t (times t (q - (k + 1))) rest) (along_then i t (times t (q - (k + 1)) ++ rest))

  -- one character of width w, where nothing is shown or it lies on the sheet, and where it stays in range
  moves : (i w : ℕ) → (l.shown ≡ false) ⊎ ((origin ≤ i) × (i + w ≤ l.limit)) → l.minus ≤ i + w + l.plus → i + w + l.plus - l.minus ≤ last → stepped l i w ≡ fine (i + w + l.plus - l.minus)
  unfolding moved
  moves i w clear m h =
      let on_sheet : (not l.shown || leb origin i && leb (i + w) l.limit) ≡ true =
      ⊎_elim (λ s. rw s) (λ b. rw (le-leb origin i b.0, le-leb (i + w) l.limit b.1) (or-true (not l.shown))) clear
      in
      rw (on_sheet, ← add_assoc i w l.plus, le-leb l.minus (i + w + l.plus) m, le-leb (i + w + l.plus) (last + l.minus) (omega arith))

  -- Where no character is narrower than what is subtracted, I does not fall: the last one's end decides for all.
  pub rising : (i end : ℕ) (cs : List ℕ) → AtOnce l i end → AtLeast (width_in row l.space) l.minus cs → i + widths_of row l.space cs + length cs * l.plus ≡ end + length cs * l.minus → walked row l i cs ≡ fine end
  unfolding walked
  rising i end [] once low e =
      let sum : i + 0 + 0 ≡ end + 0 = rw (zero-mul l.plus, zero-mul l.minus) at e in
      ap fine (omega arith)
  rising i end (c ∷ cs) once low e =
      let w = width_in row l.space c in
      let j = i + w + l.plus - l.minus in
      let sum : i + (w + widths_of row l.space cs) + (length cs * l.plus + l.plus) ≡ end + (length cs * l.minus + l.minus) = rw (sum_by-cons (width_in row l.space) c cs, suc-mul (length cs) l.plus, suc-mul (length cs) l.minus) at e in
      let later = All-tail (λ x. l.minus ≤ width_in row l.space x) c cs low in
      let least = sum_least (width_in row l.space) l.minus cs later in
      let wide : l.minus ≤ w = All-head (λ x. l.minus ≤ width_in row l.space x) c cs low in
      let range = once.range in
      let here : (l.shown ≡ false) ⊎ ((origin ≤ i) × (i + w ≤ l.limit)) = ⊎_elim (λ s. inl s) (λ b. inr (b.0, omega arith)) once.ends in
      let further : AtOnce l j end = record { range = once.range; ends = ⊎_elim (λ s. inl s) (λ b. inr (omega arith, b.1)) once.ends } in
      rw (walked, moves i w here (omega arith) (omega arith)) (rising j end cs further later (omega arith))

  -- The same where nothing is subtracted.
  pub level : (i end : ℕ) (cs : List ℕ) → l.minus ≡ 0 → i + widths_of row l.space cs + length cs * l.plus ≡ end → AtOnce l i end → walked row l i cs ≡ fine end
  level i end cs z e once = rising i end cs once (λ k d s. rw z (omega arith)) (rw (z, mul-zero, add-zero) e)

  -- a whole text, from whose end all that is subtracted is taken at once
  module _ (t : List ℕ) (i : ℕ) {whole least : ℕ} (e : whole ≡ widths_of row l.space t) (low : AtLeast (width_in row l.space) least t) (h : l.minus ≤ least) where
    narrow : AtLeast (width_in row l.space) l.minus t
    narrow k d s = le_trans h (low k d s)

    pub rising_far : length t * l.minus ≤ i + whole + length t * l.plus
    rising_far = omega (arith, sum_least (width_in row l.space) l.minus t narrow)

    pub rising_text : AtOnce l i (i + whole + length t * l.plus - length t * l.minus) → walked row l i t ≡ fine (i + whole + length t * l.plus - length t * l.minus)
    rising_text once =
        let far = rising_far in
        rising i (i + whole + length t * l.plus - length t * l.minus) t once narrow (omega arith)
