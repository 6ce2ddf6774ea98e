-- The steps on the tables, seen as steps on the line, and that the tables still agree. Assumes nothing.
use Rattle.std.proofs.Common.{◌≡◌, ◌≢◌, ℕ, suc, ◌+◌, ◌-◌, ◌/◌, ◌%◌, ◌^◌, ◌<◌, ◌≤◌, Bool, true, false, cond, eqb, ◌||◌, [], ◌∷◌, ◌++◌, length, get_or, map, min, nat_lt, replicate, set, zero, Option, Some, None, sym, refl, ap, ◌∙◌, arith}
use Rattle.std.proofs.lemmas.Bool.{eqb-true, eqb-false, lt-ltb, ltb-true}
use Rattle.std.proofs.lemmas.List.{get_or_past, get_or-set_same, get_or-set_other, map-set}
use Rattle.std.proofs.lemmas.Nat.Bits.{bit_at-lt, bit_at-pow_other, bit_at-pow_same, bit_at-trailing_zeros, bit_at-zero, bit_at_or, bit_at_xor, same_from_bits}
use Rattle.std.proofs.lemmas.Nat.{shr-shr}
use Rattle.std.specs.Int.{bit_at, trailing_zeros, w32}
use Rattle.std.specs.Int.Bits.{bit_or, bit_xor}
use Rattle.ready.specs.Links.{ends, flat, walk}
use Rattle.ready.specs.Order.{behind, first_priority, from, joined, listed, may_join, pair, sound}
use Rattle.ready.specs.Tables.{CanPull, CanPush, IsIdle, IsWhole, best_line, chain_at, empty, line_of, lines_of, pulled, pushed, tasks_of}
use Rattle.ready.specs.declared.lines.table.Chain.{Chain}
use Rattle.ready.specs.declared.lines.table.LineTable.{LineTable}
use Rattle.ready.specs.declared.task.ReadyTask.{ReadyTask}
use Rattle.ready.specs.LineLaws.{length-behind, listed-behind, listed_below, may_join_yes, sound_behind, sound_parts}
use Rattle.ready.specs.MarkLaws.{few}
use Rattle.ready.proofs.LinkLaws as link

-- ---- one bit of a word set, and turned

set_same : (w k : ℕ) → bit_at (bit_or w (2 ^ k)) k ≡ 1
set_same w k = let a = bit_at_or w (2 ^ k) k in let b = bit_at-pow_same k in let c = bit_at-lt w k in omega arith

set_other : (w k i : ℕ) → i ≢ k → bit_at (bit_or w (2 ^ k)) i ≡ bit_at w i
set_other w k i other = let a = bit_at_or w (2 ^ k) i in let b = bit_at-pow_other k i other in omega arith

turned_same : (w k : ℕ) → bit_at w k ≡ 1 → bit_at (bit_xor w (2 ^ k)) k ≡ 0
turned_same w k on = let a = bit_at_xor w (2 ^ k) k in let b = bit_at-pow_same k in omega arith

turned_other : (w k i : ℕ) → i ≢ k → bit_at (bit_xor w (2 ^ k)) i ≡ bit_at w i
turned_other w k i other = let a = bit_at_xor w (2 ^ k) i in let b = bit_at-pow_other k i other in let c = bit_at-lt w i in omega arith

-- ---- no task in any line

idle_at : (n q : ℕ) → get_or (replicate n empty) q empty ≡ empty
idle_at zero q = refl
idle_at (suc n) zero = refl
idle_at (suc n) (suc q) = idle_at n q

pub idle_whole : (s : LineTable) → IsIdle s → IsWhole s
idle_whole s idle =
    record {
      lines_marked = λ q. ap (λ w. bit_at w q) idle.word ∙ (bit_at-zero q ∙ sym (ap (λ (c : Chain). min c.len 1) (none q)));
      tasks_marked = λ t below. ap (λ w. eqb (bit_at w t) 1) idle.marks ∙ (ap (λ d. eqb d 1) (bit_at-zero t) ∙ sym (ap (listed t) line));
      counted = idle.count ∙ sym (ap length line);
      in_order = ap sound line;
      last_known = λ q. ap (λ (c : Chain). ends (tasks_of s.next c) c.last) (none q);
    }
  where
    line : line_of s ≡ []
    line = ap (λ cs. flat 0 (map (tasks_of s.next) cs)) idle.lines

    none : (q : ℕ) → chain_at s q ≡ empty
    none q = ap (λ cs. get_or cs q empty) idle.lines ∙ idle_at 32 q

-- no bit is set above the lines
word_fits : (s : LineTable) → IsWhole s → length s.lines ≡ 32 → s.word < 2 ^ 32
word_fits s w long =
    let high : s.word / 2 ^ 32 ≡ 0 =
    same_from_bits (s.word / 2 ^ 32) 0
    (λ i. ap (λ v. v % 2) (shr-shr s.word 32 i)
    ∙ (w.lines_marked (32 + i) ∙ (ap (λ (c : Chain). min c.len 1) (get_or_past s.lines (32 + i) empty (omega arith)) ∙ sym (bit_at-zero i)))) in
    omega arith

-- where no bit is set, the line is empty
pub empty_line : (s : LineTable) → IsWhole s → length s.lines ≡ 32 → None ≡ best_line s → line_of s ≡ []
empty_line s w long none = link.no_line s.next 0 s.lines off
  where
    zero_word : s.word ≡ 0
    zero_word = go (eqb s.word 0) refl none
      where
        go : (b : Bool) → eqb s.word 0 ≡ b → None ≡ cond b None (Some (trailing_zeros w32 s.word)) → s.word ≡ 0
        go true e h = eqb-true s.word 0 e
        go false e h = cc

    off : (i : ℕ) → i < length s.lines → (chain_at s i).len ≡ 0
    off i below = omega (arith, w.lines_marked i, ap (λ v. bit_at v i) zero_word ∙ bit_at-zero i)

-- ---- a pair that may join: what the step asks, and what is owed after

pub record Joins (s : LineTable) (x : ReadyTask) : Type 0 where
  pub can : CanPush x s
  pub whole : IsWhole (pushed x s)
  pub line : line_of (pushed x s) ≡ joined x.task x.priority (line_of s)

pub joins : (s : LineTable) → IsWhole s → length s.lines ≡ 32 → length s.next ≡ 64 → (x : ReadyTask) → x.task < 64 → x.priority < 32
    → listed x.task (line_of s) ≡ false → Joins s x
joins s w long next_long x t_fits p_fits new =
    record {
      can = record { task_fits = t_fits; priority_fits = p_fits; count_fits = omega (arith, room, w.counted); len_fits = omega (arith, room, size); last_fits = last_below };
      whole = record {
        lines_marked = lines_marked;
        tasks_marked = tasks_marked;
        counted = omega (arith, w.counted, ap length line ∙ length-behind t p (line_of s));
        in_order = ap sound line ∙ sound_after;
        last_known = link.ends_set s.next (pushed x s).next s.lines p after (tasks_of s.next c ++ (t ∷ [])) (omega arith) lines w.last_known (link.ends_push t (tasks_of s.next c));
      };
      line = line ∙ sym (ap (λ b. cond b (behind t p (line_of s)) (line_of s)) may);
    }
  where
    t : ℕ
    t = x.task

    p : ℕ
    p = x.priority

    c : Chain
    c = chain_at s p

    after : Chain
    after = record { first = cond (eqb c.len 0) t c.first; last = t; len = c.len + 1 }

    here : get_or (lines_of s) p [] ≡ tasks_of s.next c
    here = link.lines_at s.next s.lines p

    may : may_join t p (line_of s) ≡ true
    may = may_join_yes t p (line_of s) t_fits p_fits new

    sound_after : sound (behind t p (line_of s)) ≡ true
    sound_after = sound_behind t p (line_of s) (lt-ltb t 64 t_fits) (lt-ltb p 32 p_fits) new w.in_order

    -- where one may join, there is a place left
    room : length (line_of s) < 64
    room = omega (arith, few (behind t p (line_of s)) sound_after, length-behind t p (line_of s))

    size : c.len ≤ length (line_of s)
    size = omega (arith, link.line_le 0 p (lines_of s), ap length here ∙ link.length-walk s.next c.len c.first)

    last_below : 0 < c.len → c.last < 64
    last_below some =
        listed_below c.last (line_of s) w.in_order
        (link.at_listed c.last 0 p (lines_of s) (omega (arith, ap length here ∙ link.length-walk s.next c.len c.first)) (ap (λ l. ends l c.last) here ∙ w.last_known p))

    lines : lines_of (pushed x s) ≡ set (lines_of s) p (tasks_of s.next c ++ (t ∷ []))
    lines = go (eqb c.len 0) refl
      where
        go : (b : Bool) → eqb c.len 0 ≡ b
            → map (tasks_of (cond b s.next (set s.next c.last t))) (set s.lines p (record { first = cond b t c.first; last = t; len = c.len + 1 }))
            ≡ set (lines_of s) p (tasks_of s.next c ++ (t ∷ []))
        go true e =
            let none = eqb-true c.len 0 e in
            map-set (tasks_of s.next) s.lines p (record { first = t; last = t; len = c.len + 1 })
            ∙ (ap (λ n. set (lines_of s) p (walk s.next (n + 1) t)) none ∙ ap (λ n. set (lines_of s) p (walk s.next n c.first ++ (t ∷ []))) (sym none))
        go false e =
            let other = eqb-false c.len 0 e in
            let some : 0 < c.len = omega arith in
            let below = last_below some in
            link.lines_follow s.next c.last t 0 p s.lines (record { first = c.first; last = t; len = c.len + 1 }) (omega arith) w.in_order some refl refl (w.last_known p)

    line : line_of (pushed x s) ≡ behind t p (line_of s)
    line =
        ap (flat 0) (lines ∙ ap (λ l. set (lines_of s) p (l ++ (t ∷ []))) (sym here))
        ∙ link.flat_join t p 0 p (lines_of s) (omega (arith, link.length-lines s.next s.lines)) (omega arith)

    lines_marked : (q : ℕ) → bit_at (pushed x s).word q ≡ min (chain_at (pushed x s) q).len 1
    lines_marked q = go (eqb q p) refl
      where
        go : (b : Bool) → eqb q p ≡ b → bit_at (pushed x s).word q ≡ min (chain_at (pushed x s) q).len 1
        go true e =
            let same = eqb-true q p e in
            ap (bit_at (pushed x s).word) same
            ∙ (omega (arith, set_same s.word p, ap (λ (d : Chain). d.len) (get_or-set_same s.lines p after empty (omega arith)))
            ∙ ap (λ n. min (chain_at (pushed x s) n).len 1) (sym same))
        go false e =
            let other = eqb-false q p e in
            set_other s.word p q other ∙ (w.lines_marked q ∙ ap (λ (d : Chain). min d.len 1) (sym (get_or-set_other s.lines p q after empty other)))

    tasks_marked : (u : ℕ) → u < 64 → eqb (bit_at (pushed x s).marks u) 1 ≡ listed u (line_of (pushed x s))
    tasks_marked u below = go (eqb u t) refl ∙ sym (ap (listed u) line ∙ listed-behind u t p (line_of s))
      where
        go : (b : Bool) → eqb u t ≡ b → eqb (bit_at (pushed x s).marks u) 1 ≡ (b || listed u (line_of s))
        go true e = ap (λ v. eqb (bit_at (pushed x s).marks v) 1) (eqb-true u t e) ∙ ap (λ d. eqb d 1) (set_same s.marks t)
        go false e = ap (λ d. eqb d 1) (set_other s.marks t u (eqb-false u t e)) ∙ w.tasks_marked u below

-- ---- the first of the best line: what the step asks, and what is owed after

pub record Serves (s : LineTable) (p : ℕ) : Type 0 where
  pub can : CanPull p s
  pub line : line_of s ≡ pair (chain_at s p).first p ∷ line_of (pulled p s)
  pub whole : IsWhole (pulled p s)

pub serves : (s : LineTable) → IsWhole s → length s.lines ≡ 32 → (p : ℕ) → Some p ≡ best_line s → Serves s p
serves s w long p is =
    record {
      can = record { priority_fits = best.0; some = omega (arith, w.counted, ap length line); some_here = some; first_fits = ltb-true c.first 64 parts.0 };
      line = line;
      whole = record {
        lines_marked = lines_marked;
        tasks_marked = tasks_marked;
        counted = omega (arith, w.counted, ap length line);
        in_order = parts.4;
        last_known = link.ends_set s.next s.next s.lines p after (tasks_of s.next after) (omega (arith, best.0)) (map-set (tasks_of s.next) s.lines p after) w.last_known last;
      };
    }
  where
    c : Chain
    c = chain_at s p

    after : Chain
    after = record { first = get_or s.next c.first 0; last = c.last; len = c.len - 1 }

    found : (0 < s.word) × (p ≡ trailing_zeros w32 s.word)
    found = go (eqb s.word 0) refl is
      where
        go : (b : Bool) → eqb s.word 0 ≡ b → Some p ≡ cond b None (Some (trailing_zeros w32 s.word)) → (0 < s.word) × (p ≡ trailing_zeros w32 s.word)
        go true e h = absurd cc
        go false e h = let other = eqb-false s.word 0 e in (omega arith, cc)

    best : (p < 32) × (bit_at s.word p ≡ 1) × ((i : ℕ) → i < p → bit_at s.word i ≡ 0)
    best = rw found.1 (bit_at-trailing_zeros w32 s.word found.0 (word_fits s w long))

    some : 0 < c.len
    some = omega (arith, best.1, w.lines_marked p)

    none : (i : ℕ) → i < p → (chain_at s i).len ≡ 0
    none i lt = omega (arith, best.2 i lt, w.lines_marked i)

    -- the line is the first of the best, and then what is left without it
    line : line_of s ≡ pair c.first p ∷ line_of (pulled p s)
    line = link.pulled s.next 0 p p s.lines after (omega (arith, best.0)) none (omega (arith, some)) refl (omega arith)

    parts : (nat_lt c.first 64 ≡ true) × (nat_lt p 32 ≡ true) × (listed c.first (line_of (pulled p s)) ≡ false) × (from p (line_of (pulled p s)) ≡ true) × (sound (line_of (pulled p s)) ≡ true)
    parts = sound_parts (pair c.first p) (line_of (pulled p s)) (ap sound (sym line) ∙ w.in_order)

    last : ends (tasks_of s.next after) c.last ≡ true
    last =
        let more : suc (c.len - 1) ≡ c.len = omega (arith, some) in
        link.ends_rest c.first c.last (tasks_of s.next after) (ap (λ n. ends (walk s.next n c.first) c.last) more ∙ w.last_known p)

    lines_marked : (q : ℕ) → bit_at (pulled p s).word q ≡ min (chain_at (pulled p s) q).len 1
    lines_marked q = go (eqb q p) refl (eqb (c.len - 1) 0) refl
      where
        go : (b : Bool) → eqb q p ≡ b → (d : Bool) → eqb (c.len - 1) 0 ≡ d
            → bit_at (cond d (bit_xor s.word (2 ^ p)) s.word) q ≡ min (chain_at (pulled p s) q).len 1
        go true e d k =
            ap (bit_at (cond d (bit_xor s.word (2 ^ p)) s.word)) (eqb-true q p e)
            ∙ (here d k ∙ ap (λ n. min (chain_at (pulled p s) n).len 1) (sym (eqb-true q p e)))
          where
            left : (chain_at (pulled p s) p).len ≡ c.len - 1
            left = ap (λ (e : Chain). e.len) (get_or-set_same s.lines p after empty (omega (arith, best.0)))

            here : (d : Bool) → eqb (c.len - 1) 0 ≡ d → bit_at (cond d (bit_xor s.word (2 ^ p)) s.word) p ≡ min (chain_at (pulled p s) p).len 1
            here true k = omega (arith, turned_same s.word p best.1, eqb-true (c.len - 1) 0 k, left)
            here false k = let other = eqb-false (c.len - 1) 0 k in omega (arith, best.1, left)
        go false e d k =
            rest d ∙ (w.lines_marked q ∙ ap (λ (e : Chain). min e.len 1) (sym (get_or-set_other s.lines p q after empty (eqb-false q p e))))
          where
            rest : (d : Bool) → bit_at (cond d (bit_xor s.word (2 ^ p)) s.word) q ≡ bit_at s.word q
            rest true = turned_other s.word p q (eqb-false q p e)
            rest false = refl

    tasks_marked : (u : ℕ) → u < 64 → eqb (bit_at (pulled p s).marks u) 1 ≡ listed u (line_of (pulled p s))
    tasks_marked u below = go (eqb u c.first) refl (w.tasks_marked u below ∙ ap (listed u) line)
      where
        go : (b : Bool) → eqb u c.first ≡ b → eqb (bit_at s.marks u) 1 ≡ (b || listed u (line_of (pulled p s)))
            → eqb (bit_at (pulled p s).marks u) 1 ≡ listed u (line_of (pulled p s))
        go true e was =
            let same = eqb-true u c.first e in
            let on = eqb-true (bit_at s.marks u) 1 was in
            ap (λ v. eqb (bit_at (pulled p s).marks v) 1) same
            ∙ (ap (λ d. eqb d 1) (turned_same s.marks c.first (ap (bit_at s.marks) (sym same) ∙ on))
            ∙ sym (ap (λ v. listed v (line_of (pulled p s))) same ∙ parts.2))
        go false e was = ap (λ d. eqb d 1) (turned_other s.marks c.first u (eqb-false u c.first e)) ∙ was

pub best_is : (s : LineTable) → IsWhole s → length s.lines ≡ 32 → best_line s ≡ first_priority (line_of s)
best_is s w long = go (best_line s) refl
  where
    go : (b : Option ℕ) → best_line s ≡ b → b ≡ first_priority (line_of s)
    go None e = sym (ap first_priority (empty_line s w long (sym e)))
    go (Some p) e = sym (ap first_priority (serves s w long p (sym e)).line)
