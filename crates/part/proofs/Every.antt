-- What holds of every member of a list.
-- Assumes nothing.
use mathlib.Core.List.{List, [], ◌∷◌, ◌++◌}

infixr 20 ◌also◌
pub data Every {A : Type 0} (P : A → Type 0) : List A → Type 0 where
  none : Every P []
  ◌also◌ : {x : A} {xs : List A} → P x → Every P xs → Every P (x ∷ xs)

pub every : {A : Type 0} {P : A → Type 0} → ((x : A) → P x) → (xs : List A) → Every P xs
every k [] = none
every k (x ∷ xs) = k x also every k xs

pub every_so : {A : Type 0} {P R : A → Type 0} {xs : List A} → ((x : A) → P x → R x) → Every P xs → Every R xs
every_so k none = none
every_so k (p also ps) = k _ p also every_so k ps

pub every_join : {A : Type 0} {P : A → Type 0} {xs ys : List A} → Every P xs → Every P ys → Every P (xs ++ ys)
every_join none qs = qs
every_join (p also ps) qs = p also every_join ps qs
