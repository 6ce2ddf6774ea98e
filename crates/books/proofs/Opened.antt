-- A station as it opens keeps the invariant. Assumes nothing.
use Rattle.std.proofs.Common.{◌≡◌, ℕ, zero, suc, ◌≤◌, Bool, true, false, ◌&&◌, ltb, leb, List, [], ◌∷◌, get_or, replicate, is_some, Some, None, sum_by, Option, sym, refl, ap, ◌∙◌, arith}
use Rattle.std.proofs.lemmas.List.{length-replicate}
use Rattle.std.proofs.lemmas.List.Sums.{sum_by-cons}
use Rattle.std.proofs.lemmas.Bool.{and_parts, false≢true, le-ltb, leb-true, lt-ltb, ltb-false, ltb-true}
use Rattle.pool.specs.Marks.{marked}
use Rattle.plain.specs.Lookups.{closed_exchange, idle_block, is_open, items, occurrences, waiting}
use Rattle.plain.specs.Openings.{one_if, within}
use Rattle.plain.specs.States.{State}
use Rattle.books.specs.Runs.{Opening, now_of}
use Rattle.books.proofs.Invariants.{Blocks, Kept, Opens, Shape, holder_of, none_on_way, owed}

-- ---- lists of one element

ltb_suc : (a b : ℕ) → ltb (suc a) (suc b) ≡ ltb a b
ltb_suc a b = go (ltb a b) refl
  where
    go : (x : Bool) → ltb a b ≡ x → ltb (suc a) (suc b) ≡ x
    go true e = let k = ltb-true a b e in lt-ltb (suc a) (suc b) (omega arith)
    go false e = let k = ltb-false a b e in le-ltb (suc a) (suc b) (omega arith)

all_marked : (n b : ℕ) → marked (replicate n true) b ≡ ltb b n
all_marked zero b = sym (le-ltb b 0 (omega arith))
all_marked (suc n) zero = sym (lt-ltb 0 (suc n) (omega arith))
all_marked (suc n) (suc b) = all_marked n b ∙ sym (ltb_suc b n)

always : {A : Type 0} (n i : ℕ) (x : A) → get_or (replicate n x) i x ≡ x
always zero i x = refl
always (suc n) zero x = refl
always (suc n) (suc i) x = always n i x

nothing_in : {A : Type 0} (f : A → ℕ) (x : A) → f x ≡ 0 → (n : ℕ) → sum_by f (replicate n x) ≡ 0
nothing_in f x e zero = refl
nothing_in f x e (suc n) = let k = sum_by-cons f x (replicate n x) in let r = nothing_in f x e n in omega arith

-- ---- the groups

module _ {M : Type 0} (reading : List ℕ → Option M) (o : Opening M) where
  start : State M
  start = now_of o []

  parts : (within 64 o.sizes.tasks ≡ true) × ((within 64 o.sizes.exchanges && within 256 o.sizes.blocks) ≡ true)
  parts = and_parts (within 64 o.sizes.tasks) (within 64 o.sizes.exchanges && within 256 o.sizes.blocks) o.fitting

  most : (k n : ℕ) → within k n ≡ true → n ≤ k
  most k n h = leb-true n k (and_parts (leb 1 n) (leb n k) h).1

  shape : Shape start.sizes start.tasks start.exchanges start.blocks start.free
  unfolding start
  shape =
      record {
        tasks = length-replicate o.sizes.tasks _;
        exchanges = length-replicate o.sizes.exchanges _;
        blocks = length-replicate o.sizes.blocks _;
        free = length-replicate o.sizes.blocks _;
        few_tasks = most 64 o.sizes.tasks parts.0;
        few_blocks = most 256 o.sizes.blocks (and_parts (within 64 o.sizes.exchanges) (within 256 o.sizes.blocks) parts.1).1;
      }

  carried_message : (b r : ℕ) → owed (replicate o.sizes.blocks idle_block) b ≡ Some r → ⊥
  carried_message b r e =
      let k = always o.sizes.blocks b idle_block in
      let f : owed (replicate o.sizes.blocks idle_block) b ≡ None = ap (λ x. owed (x ∷ []) 0) k in
      let z : ◌≡◌ {A = ℕ} 0 1 = cc in omega arith

  no_holder : (b t : ℕ) → holder_of (replicate o.sizes.blocks idle_block) b ≡ Some t → ⊥
  no_holder b t e =
      let k = always o.sizes.blocks b idle_block in
      let f : holder_of (replicate o.sizes.blocks idle_block) b ≡ None = ap (λ x. x.holder) k in
      let z : ◌≡◌ {A = ℕ} 0 1 = cc in omega arith

  blocks : Blocks o.sizes.blocks start.exchanges start.alarms start.blocks start.free none_on_way
  unfolding start
  blocks =
      record {
        once = λ b.
            let m = ap one_if (all_marked o.sizes.blocks b) in
            let w = nothing_in (λ x. occurrences b (items x)) closed_exchange refl o.sizes.exchanges in
            let k = ap (λ x. one_if (is_some x.holder)) (always o.sizes.blocks b idle_block) in
            omega arith;
        used = λ b r e. absurd (carried_message b r e);
        alarm = λ b h. absurd (omega arith);
        hand = λ b t e. absurd (no_holder b t e);
      }

  opens : Opens start.exchanges start.names start.alarms start.blocks
  unfolding start
  opens =
      record {
        closed = λ e h. ap (λ x. x.line) (always o.sizes.exchanges e closed_exchange);
        names = tt;
        alarms = tt;
        replies = λ b e h. absurd (carried_message b e h);
      }

  pub opening_kept : Kept reading [] (now_of o [])
  unfolding start
  opening_kept =
      record {
        shape = shape;
        blocks = blocks;
        opens = opens;
        asks = record {
          stands = λ b. sym (ap (λ x. is_some (owed (x ∷ []) 0)) (always o.sizes.blocks b idle_block));
          turns = λ b. tt;
          asked_for = λ b r e. absurd (carried_message b r e);
        };
        given = record { given = λ b h. absurd (omega arith) };
        tasks = record {
          once = λ t.
              let w = nothing_in (λ x. occurrences t (waiting x)) closed_exchange refl o.sizes.exchanges in
              omega arith;
          small = λ t h. absurd (false≢true h);
          priority = λ t h. absurd (false≢true h);
          range = λ t h. absurd (false≢true h);
          line = refl;
          ready_priority = tt;
          running_priority = tt;
        };
        held = record { held = λ b t e. absurd (no_holder b t e) };
        best = refl;
        flow = λ e h. absurd (false≢true (sym (ap (λ x. is_open x.state) (always o.sizes.exchanges e closed_exchange)) ∙ h));
      }
