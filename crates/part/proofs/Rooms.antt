-- Room is asked apart from placing: what an element does and shows does not depend on the bytes used, so a part that is accepted is so with more room too, with the same items.
-- Assumes nothing.
use Prim.Native.Nat.{ℕ, ◌+◌, ◌≤◌}
use mathlib.Core.Path.{◌≡◌, refl, sym, ◌∙◌, ap}
use mathlib.Core.Bool.{◌||◌}
use mathlib.Core.List.{List, [], ◌∷◌, ◌++◌}
use native.Mathlib.Omega.{arith}
use native.Mathlib.Nat.{add-zero}
use lib.ListN.{length, length-append}
use lib.Dec.{eqb}
use borrow.Author.Tests.{le-leb}
use Rattle.part.specs.Numbers.{origin, ones, signed}
use Rattle.part.specs.Checks.{Checked, fine, fault, require, starting_at, ◌>>=◌}
use Rattle.part.specs.States.{with_used, with_chain}
use Rattle.part.specs.Elements.{Element, Text, RepeatString, AbsoluteMoveInline, AbsoluteMoveBaseline, RelativeMoveInline, RelativeMoveBaseline, BeginLine, SetInlineMargin, SetBaselineIncrement, SetIntercharacterAdjustment, SetVariableSpace, SetCodedFont, SetTextColor, SetTextOrientation, BeginSuppression, EndSuppression, DrawRule, NoOperation}
use Rattle.part.specs.Reading.{Found, Piece}
use Rattle.part.specs.Records.{Item, bytes_of, all_bytes, room}
use Rattle.part.specs.Presenting.{default, moved, on_sheet, hides}
use Rattle.part.specs.Text.{character, characters, cycle}
use Rattle.part.specs.Place.{Effect, effect, along, place_text, place_rule, place}
use Rattle.part.specs.Part.{roomed, placed, passed, passed_by, elements, elements_by}
use Rattle.part.specs.declared.shapes.Descriptor.{Descriptor}
use Rattle.part.specs.declared.shapes.State.{State}
use Rattle.part.proofs.Checks.{same_value, after, regrouped}
use Rattle.part.proofs.Parts.{all_bytes-join, ◌then◌, place-keeps}

-- an effect from another number of bytes used
abbrev pub shifted : ℕ → Effect → Effect
shifted u f = record { state = with_used f.state u; items = f.items }

abbrev shift : ℕ → Checked Effect → Checked Effect
shift u m = m >>= λ f. fine (shifted u f)

-- room that suffices for all of some records
room_enough : (u : ℕ) (xs : List Item) → u + length (all_bytes xs) ≤ 4096 → room u xs ≡ fine (u + length (all_bytes xs))
room_enough u [] h = ap fine (omega arith)
room_enough u (x ∷ xs) h =
    let l = length-append (bytes_of x) (all_bytes xs) in
    rw (le-leb (u + length (bytes_of x)) 4096 (omega arith), room_enough (u + length (bytes_of x)) xs (omega arith)) (ap fine (omega arith))

module _ (widths : List ℕ) (d : Descriptor) where
  -- ---- placing never looks at the bytes used

  characters_free : (s : State) (u i : ℕ) (cs : List ℕ) → characters widths d (with_used s u) i cs ≡ characters widths d s i cs
  unfolding characters character
  characters_free s u i [] = refl
  characters_free s u i (c ∷ cs) =
      after (character widths d s i c) (λ j. characters widths d (with_used s u) j cs) (λ j. characters widths d s j cs) (λ j. characters_free s u j cs)

  text_free : (s : State) (u : ℕ) (cs : List ℕ) → place_text widths d (with_used s u) cs ≡ shift u (place_text widths d s cs)
  unfolding place_text
  text_free s u [] = rw (characters_free s u s.at.i []) (sym (regrouped (characters widths d s s.at.i []) _ _))
  text_free s u (c ∷ cs) = rw (characters_free s u s.at.i (c ∷ cs)) (sym (regrouped (characters widths d s s.at.i (c ∷ cs)) _ _))

  pub place_free : (s : State) (u : ℕ) (e : Element) → place widths d (with_used s u) e ≡ shift u (place widths d s e)
  unfolding place place_rule
  place_free s u (Text cs) = text_free s u cs
  place_free s u (RepeatString cs count) = text_free s u (cycle cs 0 count)
  place_free s u (AbsoluteMoveInline v) = sym (regrouped (moved origin v 0) _ _)
  place_free s u (AbsoluteMoveBaseline v) = sym (regrouped (moved origin v 0) _ _)
  place_free s u (RelativeMoveInline v) = sym (regrouped (moved s.at.i (signed v) origin) _ _)
  place_free s u (RelativeMoveBaseline v) = sym (regrouped (moved s.at.b (signed v) origin) _ _)
  place_free s u BeginLine = let m = moved origin s.margin 0 in let n = moved s.at.b s.increment 0 in sym (regrouped m _ _ ∙ after m _ _ (λ i. regrouped n _ _))
  place_free s u (SetInlineMargin v) = refl
  place_free s u (SetBaselineIncrement v) = refl
  place_free s u (SetIntercharacterAdjustment v direction) = refl
  place_free s u (SetVariableSpace v) = refl
  place_free s u (SetCodedFont f) = refl
  place_free s u (SetTextColor v) = refl
  place_free s u SetTextOrientation = refl
  place_free s u (BeginSuppression id) = sym (regrouped (require (eqb s.suppression 0) 26) _ _)
  place_free s u (EndSuppression id) = sym (regrouped (require (eqb s.suppression id) 26) _ _)
  place_free s u (DrawRule mark len width) =
      let w = default ones width d.rule in
      sym (regrouped (require (hides d s || on_sheet d s.at (along mark len w) (along mark w len)) 27) _ _)
  place_free s u NoOperation = refl

  abbrev free : State → List Piece → Checked Effect
  free = elements_by (place widths d)

  passed_free : (s : State) (u : ℕ) (f : Found) → passed_by (place widths d) (with_used s u) f ≡ shift u (passed_by (place widths d) s f)
  unfolding passed_by
  passed_free s u f = rw (place_free s u f.element) (go (place widths d s f.element))
    where
      go : (m : Checked Effect) → (shift u m >>= λ g. effect (with_chain g.state f.chains) g.items) ≡ shift u (m >>= λ g. effect (with_chain g.state f.chains) g.items)
      go (fine g) = refl
      go (fault code at) = refl

  pub elements_free : (s : State) (u : ℕ) (ps : List Piece) → free (with_used s u) ps ≡ shift u (free s ps)
  unfolding elements_by
  elements_free s u [] = refl
  elements_free s u (p ∷ ps) = go (λ t. elements_free t u ps) p.what
    where
      rest : (f : Effect) (m : Checked Effect) → (shift u m >>= λ g. effect g.state (f.items ++ g.items)) ≡ shift u (m >>= λ g. effect g.state (f.items ++ g.items))
      rest f (fine g) = refl
      rest f (fault code at) = refl

      onward : Checked Effect → Checked Effect
      onward m = ◌then◌ (starting_at p.at m) (λ t. free t ps)

      first : ((t : State) → free (with_used t u) ps ≡ shift u (free t ps)) → (m : Checked Effect) → onward (shift u m) ≡ shift u (onward m)
      first k (fine f) = rw (k f.state) (rest f (free f.state ps))
      first k (fault code at) = refl

      go : ((t : State) → free (with_used t u) ps ≡ shift u (free t ps)) → (m : Checked Found)
          → onward (m >>= passed_by (place widths d) (with_used s u)) ≡ shift u (onward (m >>= passed_by (place widths d) s))
      go k (fine f) = rw (passed_free s u f) (first k (passed_by (place widths d) s f))
      go k (fault code at) = refl

  -- ---- where the elements pass with their records, they pass without room asked, and show the same

  abbrev chained : Found → Checked Effect → Checked Effect
  chained f m = m >>= λ done. effect (with_chain done.state f.chains) done.items

  pub passed_of : {g : Effect} (s : State) (f : Found) → passed widths d s f ≡ fine g → passed_by (place widths d) s f ≡ fine (shifted s.used g)
  unfolding passed_by placed
  passed_of {g} s f h = go (place widths d s f.element) (λ k. place-keeps widths d s f.element k) h
    where
      with_room : (k : Effect) (m : Checked ℕ) → k.state.used ≡ s.used → chained f (m >>= λ u. fine (shifted u k)) ≡ fine g → chained f (fine k) ≡ fine (shifted s.used g)
      with_room k (fine u) same h = rw (← (same_value h), ← same)
      with_room k (fault code at) same h = absurd (let z : ◌≡◌ {A = ℕ} 0 1 = cc in omega arith)

      go : (m : Checked Effect) → ((k : Effect) → m ≡ fine k → k.state.used ≡ s.used) → chained f (roomed s m) ≡ fine g → chained f m ≡ fine (shifted s.used g)
      go (fine k) keeps h = with_room k (room s.used k.items) (keeps k refl) h
      go (fault code at) keeps h = absurd (let z : ◌≡◌ {A = ℕ} 0 1 = cc in omega arith)

  pub free_of : (s : State) (ps : List Piece) (f : Effect) → elements widths d s ps ≡ fine f → free s ps ≡ fine (shifted s.used f)
  unfolding elements_by
  free_of s [] f h = rw (← (same_value h))
  free_of s (p ∷ ps) f h = read (λ t e. free_of t ps e) p.what h
    where
      -- what is known of the rest
      Others : Type 0
      Others = (t : State) (e : Effect) → elements widths d t ps ≡ fine e → free t ps ≡ fine (shifted t.used e)

      others : (g : Effect) (m : Checked Effect) → ((o : Effect) → m ≡ fine o → free g.state ps ≡ fine (shifted g.state.used o))
          → ◌then◌ (fine g) (λ _. m) ≡ fine f → ◌then◌ (fine (shifted s.used g)) (λ t. free t ps) ≡ fine (shifted s.used f)
      others g (fine o) k h = rw (elements_free g.state s.used ps, k o refl, ← (same_value h))
      others g (fault code at) k h = absurd (let z : ◌≡◌ {A = ℕ} 0 1 = cc in omega arith)

      one : Others → (m n : Checked Effect) → ((g : Effect) → m ≡ fine g → n ≡ fine (shifted s.used g))
          → ◌then◌ (starting_at p.at m) (λ t. elements widths d t ps) ≡ fine f → ◌then◌ (starting_at p.at n) (λ t. free t ps) ≡ fine (shifted s.used f)
      one k (fine g) n l h = rw (l g refl) (others g (elements widths d g.state ps) (k g.state) h)
      one k (fault code at) n l h = absurd (let z : ◌≡◌ {A = ℕ} 0 1 = cc in omega arith)

      read : Others → (m : Checked Found) → ◌then◌ (starting_at p.at (m >>= passed widths d s)) (λ t. elements widths d t ps) ≡ fine f
          → ◌then◌ (starting_at p.at (m >>= passed_by (place widths d) s)) (λ t. free t ps) ≡ fine (shifted s.used f)
      read k (fine found) h = one k (passed widths d s found) (passed_by (place widths d) s found) (λ g. passed_of s found) h
      read k (fault code at) h = absurd (let z : ◌≡◌ {A = ℕ} 0 1 = cc in omega arith)

  -- ---- and where they pass, they pass with more room too, and show the same

  abbrev Enough : ℕ → Effect → Type 0
  Enough u g = u + length (all_bytes g.items) ≤ 4096

  abbrev grown : ℕ → Effect → Effect
  grown u g = shifted (u + length (all_bytes g.items)) g

  passed_more : {g : Effect} (s : State) (u : ℕ) (f : Found) → passed widths d s f ≡ fine g → Enough u g → passed widths d (with_used s u) f ≡ fine (grown u g)
  unfolding passed_by placed
  passed_more {g} s u f h enough = rw (place_free s u f.element) (go (place widths d s f.element) h)
    where
      with_room : (k : Effect) (m : Checked ℕ) → chained f (m >>= λ n. fine (shifted n k)) ≡ fine g → chained f (room u k.items >>= λ n. fine (shifted n k)) ≡ fine (grown u g)
      with_room k (fine n) h =
          let same = same_value h in
          let enough' : Enough u k = rw (← same) at enough in
          rw (← same, room_enough u k.items enough')
      with_room k (fault code at) h = absurd (let z : ◌≡◌ {A = ℕ} 0 1 = cc in omega arith)

      go : (m : Checked Effect) → chained f (roomed s m) ≡ fine g → chained f (roomed (with_used s u) (shift u m)) ≡ fine (grown u g)
      go (fine k) h = with_room k (room s.used k.items) h
      go (fault code at) h = absurd (let z : ◌≡◌ {A = ℕ} 0 1 = cc in omega arith)

  pub more_room : (s : State) (u : ℕ) (ps : List Piece) (f : Effect) → elements widths d s ps ≡ fine f → Enough u f → elements widths d (with_used s u) ps ≡ fine (grown u f)
  unfolding elements_by
  more_room s u [] f h enough = rw (← (same_value h), add-zero)
  more_room s u (p ∷ ps) f h enough = read (λ t v e. more_room t v ps e) p.what h
    where
      all : State → Checked Effect
      all t = elements widths d t ps

      Others : Type 0
      Others = (t : State) (v : ℕ) (e : Effect) → all t ≡ fine e → Enough v e → all (with_used t v) ≡ fine (grown v e)

      others : (g : Effect) (m : Checked Effect) → ((o : Effect) → m ≡ fine o → Enough (u + length (all_bytes g.items)) o → all (grown u g).state ≡ fine (grown (u + length (all_bytes g.items)) o))
          → ◌then◌ (fine g) (λ _. m) ≡ fine f → Enough u g × (◌then◌ (fine (grown u g)) all ≡ fine (grown u f))
      others g (fine o) k h =
          let same = same_value h in
          let bytes = ap (λ (e : Effect). length (all_bytes e.items)) same in
          let long = ap length (all_bytes-join g.items o.items) ∙ length-append (all_bytes g.items) (all_bytes o.items) in
          let total : u + length (all_bytes g.items) + length (all_bytes o.items) ≡ u + length (all_bytes (g.items ++ o.items)) = omega arith in
          (omega arith, rw (k o refl (omega arith)) (ap (λ (n : ℕ). effect (with_used o.state n) (g.items ++ o.items)) total ∙ ap (λ (e : Effect). fine (grown u e)) same))
      others g (fault code at) k h = absurd (let z : ◌≡◌ {A = ℕ} 0 1 = cc in omega arith)

      one : Others → (m n : Checked Effect) → ((g : Effect) → m ≡ fine g → Enough u g → n ≡ fine (grown u g))
          → ◌then◌ (starting_at p.at m) all ≡ fine f → ◌then◌ (starting_at p.at n) all ≡ fine (grown u f)
      one k (fine g) n l h = let (fits, rest) = others g (all g.state) (λ o. k g.state (u + length (all_bytes g.items)) o) h in rw (l g refl fits) rest
      one k (fault code at) n l h = absurd (let z : ◌≡◌ {A = ℕ} 0 1 = cc in omega arith)

      read : Others → (m : Checked Found) → ◌then◌ (starting_at p.at (m >>= passed widths d s)) all ≡ fine f → ◌then◌ (starting_at p.at (m >>= passed widths d (with_used s u))) all ≡ fine (grown u f)
      read k (fine found) h = one k (passed widths d s found) (passed widths d (with_used s u) found) (λ g. passed_more s u found) h
      read k (fault code at) h = absurd (let z : ◌≡◌ {A = ℕ} 0 1 = cc in omega arith)
