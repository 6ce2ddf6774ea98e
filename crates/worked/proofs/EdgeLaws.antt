-- The worked edges and the printed run, by computation. Assumes nothing.
use Rattle.std.proofs.Common.{◌≡◌, ℕ, List, Some, Option, refl, ap}
use native.Mathlib.Decide.{dec_le, dec_lt}
use Rattle.batches.proofs.EdgeLaws.{batch_edges, dock_edges}
use Rattle.worked.specs.Edges.{Edges, PrintedRun, no_block_left, request_and_reply}
use Rattle.worked.specs.Plays.{numbers, rows, station}
use Rattle.worked.proofs.Playing.{by_playing}

pub edges : {M : Type 0} (form : M → List ℕ) (reading : List ℕ → Option M) (m filler : M) → reading (form m) ≡ Some m → Edges form reading m filler
unfolding dec_le dec_lt
edges {M} form reading m filler e =
    record {
      largest_draft = refl;
      too_many_tasks = λ d. refl;
      batches = batch_edges reading;
      docks = dock_edges;
      blank_inside = refl;
      dock_501 = λ d. refl;
      equal_stays = refl;
      better_runs = refl;
      one_before_four = refl;
      tick_gives_turn = refl;
      sixteen = ap numbers (by_playing reading (station 8 8 1 refl filler) (no_block_left (form m)) (form m) (Some m) e refl);
      reply = ap (rows form) (by_playing reading (station 8 8 16 refl filler) (request_and_reply (form m)) (form m) (Some m) e refl);
    }

pub printed_run : PrintedRun
unfolding dec_le dec_lt
printed_run d = refl
