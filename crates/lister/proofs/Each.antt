-- The texts of the first some numbers: with the next behind them, and how long they are at most.
-- Assumes nothing.
use Rattle.std.proofs.Common.{◌≡◌, ℕ, suc, ◌+◌, ◌*◌, ◌<◌, ◌≤◌, List, [], ◌∷◌, ◌++◌, length, get_or, take, ◌∙◌, ap, sym, arith, append_assoc, length-append, add-one}
use Rattle.std.proofs.lemmas.List.{append-nil}
use Rattle.std.proofs.Math.Seq.{take-suc}
use native.Mathlib.Nat.{mul-suc}
use Rattle.lister.specs.Lines.{each}

module _ (text : ℕ → List ℕ) where
  each_last : (ns : List ℕ) (n : ℕ) → each text (ns ++ (n ∷ [])) ≡ each text ns ++ text n
  unfolding each
  each_last [] n = append-nil (text n)
  each_last (m ∷ ns) n = rw (each_last ns n) (sym (append_assoc (text m) (each text ns) (text n)))

  pub each_next : (ns : List ℕ) (i : ℕ) → i < length ns → each text (take (i + 1) ns) ≡ each text (take i ns) ++ text (get_or ns i 0)
  each_next ns i h = ap (λ k. each text (take k ns)) (add-one i) ∙ ap (each text) (take-suc ns i 0 h) ∙ each_last (take i ns) (get_or ns i 0)

  pub each_short : (most : ℕ) → ((n : ℕ) → length (text n) ≤ most) → (ns : List ℕ) → length (each text ns) ≤ most * length ns
  unfolding each
  each_short most h [] = omega arith
  each_short most h (n ∷ ns) =
      let a = length-append (text n) (each text ns) in
      let b = each_short most h ns in
      let c = h n in
      let d : most * suc (length ns) ≡ most * length ns + most = mul-suc most (length ns) in
      omega (arith, a, b, c, d)
