-- The front of a table whose places are all alike, seen through a view f. Assumes nothing.
use Rattle.std.proofs.Common.{◌≡◌, ℕ, zero, suc, ◌≤◌, List, ◌∷◌, map, take, replicate, refl, ap, ◌∙◌}
use Rattle.std.proofs.lemmas.List.{take-replicate}

map-replicate : {X Y : Type 0} (f : X → Y) (n : ℕ) (x : X) → map f (replicate n x) ≡ replicate n (f x)
map-replicate f zero x = refl
map-replicate f (suc n) x = ap (λ ys. f x ∷ ys) (map-replicate f n x)

pub front_replicate : {X Y : Type 0} (f : X → Y) (n most : ℕ) (x : X) → n ≤ most → map f (take n (replicate most x)) ≡ replicate n (f x)
front_replicate f n most x within = ap (map f) (take-replicate n most x within) ∙ map-replicate f n x
