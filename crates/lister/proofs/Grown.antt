-- A listing that grows by one text and then by another grows by both.
-- Assumes nothing.
use Rattle.std.proofs.Common.{ℕ, List, [], ◌++◌, refl, sym, ◌∙◌, ap, arith, append_assoc, length-append}
use Rattle.std.proofs.lemmas.List.{append-nil}
use Rattle.lister.specs.Code.{text, Grown}
use Rattle.lister.specs.declared.text.Listing.{Listing}

pub unchanged : (l : Listing) → Grown l l []
unchanged l = record { same_reference = refl; room = refl; len = omega arith; grown = sym (append-nil (text l)) }

pub grown_by_both : {a b c : Listing} {xs ys : List ℕ} → Grown a b xs → Grown b c ys → Grown a c (xs ++ ys)
grown_by_both {a} {b} {c} {xs} {ys} p q = record {
  same_reference = q.same_reference ∙ p.same_reference;
  room = q.room ∙ p.room;
  len = omega (arith, p.len, q.len, length-append xs ys);
  grown = q.grown ∙ ap (λ (t : List ℕ). t ++ ys) p.grown ∙ append_assoc (text a) xs ys;
}
