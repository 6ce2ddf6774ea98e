-- The runs that reach every call and every refusal, and the examples, by computation. Assumes nothing.
use Rattle.std.proofs.Common.{◌≡◌, ℕ, List, [], ◌∷◌, Some, None, Option, refl, ap}
use Rattle.plain.specs.Calls.{Call}
use Rattle.plain.specs.Calls as call
use Rattle.plain.specs.Lookups.{exchange_at, items, waiting}
use Rattle.plain.specs.Openings.{closing}
use Rattle.books.specs.Runs.{Opening, now_of}
use Rattle.worked.specs.Edges.{usual}
use Rattle.worked.specs.Examples.{Examples, alarms_in_order, four_ticks, keeps_its_block, looks_again, moved_to_the_end, nobody_runs, some_of_each, two_names, two_wait, woken_at_tick}
use Rattle.worked.specs.Plays.{rows, numbers, plays, station}
use Rattle.worked.specs.Reached.{Reached, every_call, last_number, serves}
use Rattle.worked.proofs.Playing.{by_playing, fill, played, with_readings}

module _ {M : Type 0} (form : M → List ℕ) (reading : List ℕ → Option M) (m filler : M) (e : reading (form m) ≡ Some m) where
  -- a run on a station, whose messages all are m
  known : (o : Opening M) (cs : List Call) → with_readings reading cs ≡ fill reading (reading (form m)) cs
      → plays reading o cs ≡ played reading o [] (fill reading (Some m) cs)
  known o cs f = by_playing reading o cs (form m) (Some m) e f

  abbrev the_usual : Opening M
  the_usual = usual form reading filler

  pub reached : (bad : List ℕ) → reading bad ≡ None → Reached form reading m filler bad
  reached bad none =
      record {
        each_call = refl;
        accepted = ap numbers (known the_usual (every_call (form m)) refl);
        two = (refl, refl);
        two_trays = (refl, refl);
        seven = refl;
        eight = ap last_number (by_playing reading the_usual (call.Open 2 ∷ call.Post 2 bad ∷ []) bad None none refl);
        nine = refl;
        ten = refl;
        eleven = refl;
        twelve = refl;
        thirteen = refl;
        fourteen = refl;
        fifteen = refl;
        sixteen = ap last_number (known (station 8 8 1 refl filler) (call.Open 0 ∷ call.Post 0 (form m) ∷ call.Post 0 (form m) ∷ []) refl);
        seventeen = refl;
        eighteen = refl;
        nineteen = ap last_number (known the_usual (serves (form m)) refl);
      }

  pub examples : Examples form reading m filler
  examples =
      record {
        alarm_numbers = ap numbers (known the_usual (alarms_in_order (form m)) refl);
        alarm_order = ap (λ h. items (exchange_at (now_of the_usual h) 0)) (known the_usual (alarms_in_order (form m)) refl);
        not_yet_due = ap (λ h. items (exchange_at (now_of the_usual h) 0)) (known the_usual (four_ticks 3 (form m)) refl);
        due_at_last = ap (λ h. items (exchange_at (now_of the_usual h) 0)) (known the_usual (four_ticks 4 (form m)) refl);
        woken_runs = ap (λ h. (now_of the_usual h).running) (known the_usual (woken_at_tick (form m)) refl);
        woken_before = ap (λ h. (now_of the_usual h).ready) (known the_usual (woken_at_tick (form m)) refl);
        same_priority = refl;
        worse_priority = refl;
        block_kept = ap numbers (known (station 8 8 1 refl filler) (keeps_its_block (form m)) refl);
        moved_last = ap (λ h. items (exchange_at (now_of the_usual h) 0)) (known the_usual (moved_to_the_end (form m)) refl);
        first_served = ap (λ h. waiting (exchange_at (now_of the_usual h) 0)) (known the_usual (two_wait (form m)) refl);
        nobody = ap numbers (known the_usual (nobody_runs (form m)) refl);
        woken = ap (λ h. (now_of the_usual h).running) (known the_usual (nobody_runs (form m)) refl);
        counts = ap (λ h. closing (now_of the_usual h)) (known the_usual (some_of_each (form m)) refl);
        zero_runs = refl;
        named_apart = ap numbers (known the_usual (two_names (form m)) refl);
        second_named = ap (λ h. items (exchange_at (now_of the_usual h) 1)) (known the_usual (two_names (form m)) refl);
        registered_once = refl;
        own_tray = ap (rows form) (known the_usual (looks_again (form m)) refl);
      }
