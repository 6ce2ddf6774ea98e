-- The worked edges, by computation. Assumes nothing.
use Rattle.std.proofs.Common.{◌≡◌, ℕ, List, [], ◌∷◌, length, None, Option, refl, arith}
use native.Mathlib.Decide.{dec_le, dec_lt}
use Rattle.batches.specs.Edges.{BatchEdges, DockEdges, number_of, row_of}
use Rattle.batches.specs.Verdicts.{verdict}

three : {M : Type 0} (reading : List ℕ → Option M) (b : List ℕ) → length b ≡ 3 → (number_of (verdict reading b) ≡ 3) × (row_of (verdict reading b) ≡ None)
three reading (a ∷ b ∷ c ∷ []) long = (refl, refl)
three reading [] long = absurd (omega arith)
three reading (a ∷ []) long = absurd (omega arith)
three reading (a ∷ b ∷ []) long = absurd (omega arith)
three reading (a ∷ b ∷ c ∷ d ∷ ds) long = absurd (omega arith)

pub batch_edges : {M : Type 0} (reading : List ℕ → Option M) → BatchEdges reading
batch_edges reading =
    record { empty = refl; no_call = refl; three_bytes = three reading; blank_inside = refl; bad_name = (refl, refl) }

pub dock_edges : DockEdges
unfolding dec_le dec_lt
dock_edges =
    record { dock_500 = (refl, refl, refl); posted_500 = refl; dock_501 = refl; posted_501 = (refl, refl) }
