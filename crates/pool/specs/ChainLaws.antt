-- The free list: what a number taken, a number returned and a reset leave of the walk and of the marks. Assumes nothing.
use Rattle.std.specs.Prelude.{◌≡◌, ℕ, zero, suc, ◌+◌, ◌-◌, ◌%◌, ◌<◌, ◌≤◌, true, false, not, List, ◌∷◌, map, length, take, set, replicate, Some, None, Option, is_some, unwrap_or, slice_index_or, slice_set, refl}
use Rattle.std.proofs.Common.{sym, ap, ◌∙◌, add-one, arith}
use Rattle.std.proofs.Math.Seq.{take-set-lt}
use Rattle.std.specs.List.{range_with_len}
use Rattle.std.proofs.lemmas.List.{get_or-map, get_or_past, get_or-replicate, get_or-set_other, get_or-set_same, get_or-take, length-map, length-set, length-take-le, map-set}
use Rattle.std.proofs.lemmas.List.Sums.{count_by-le-length}
use Rattle.std.proofs.lemmas.Bool.{and_from, and_parts, both_ways, not_from_false, not-true}
use Rattle.pool.specs.Chains.{chain_marks, link_at, walk}
use Rattle.pool.specs.ChainSteps.{Empty, Fresh, Giving, Sound, Taking}
use Rattle.pool.specs.Marks.{free_count, marked}
use Rattle.pool.specs.Numbers.{all_free, distinct, has}
use Rattle.pool.specs.MarkLaws.{all_same, count_all, count_given, count_none, count_taken, marked_below}
use Rattle.pool.specs.NumberLaws.{all_free_set, counting_distinct, not_first, not_free_out, not_later}

some_link : (e : Option ℕ) (n : ℕ) → is_some e ≡ true → e ≡ Some (unwrap_or e n)
some_link (Some m) n h = refl
some_link None n h = absurd (both_ways false refl h)

-- a link that the walk does not follow may change
walk_set : (k h : ℕ) (nx : List (Option ℕ)) (n : ℕ) (v : Option ℕ) → has (walk k h nx) n ≡ false → walk k h (slice_set nx n v) ≡ walk k h nx
walk_set zero h nx n v out = refl
walk_set (suc k) h nx n v out =
    let on = link_at nx h in
    ap (λ x. h ∷ walk k (unwrap_or x h) (slice_set nx n v)) (get_or-set_other nx n h v None (not_first h (walk k on nx) n out))
    ∙ ap (λ l. h ∷ l) (walk_set k on nx n v (not_later h (walk k on nx) n out))

module _ (s : ℕ) (nx : List (Option ℕ)) (within : s ≤ length nx) where
  pub marks_length : length (chain_marks s nx) ≡ s
  marks_length = length-map (take s nx) is_some ∙ length-take-le s nx within

  pub marks_at : (n : ℕ) → n < s → marked (chain_marks s nx) n ≡ is_some (slice_index_or nx n None)
  marks_at n below =
      let short = length-take-le s nx within in
      get_or-map is_some (take s nx) n None false (omega arith) ∙ ap is_some (get_or-take s nx n None below)

  pub marks_past : (n : ℕ) → s ≤ n → marked (chain_marks s nx) n ≡ false
  marks_past n past = let long = marks_length in get_or_past (chain_marks s nx) n false (omega arith)

-- a free list has marks, and few: what the trait's laws ask of it
pub chain_nonempty : (s : ℕ) (nx : List (Option ℕ)) → 1 ≤ s → s ≤ 256 → length nx ≡ 256 → 1 ≤ length (chain_marks s nx)
chain_nonempty s nx low high full = let long = marks_length s nx (omega arith) in omega arith

pub chain_small : (s : ℕ) (nx : List (Option ℕ)) → s ≤ 256 → length nx ≡ 256 → length (chain_marks s nx) ≤ 256
chain_small s nx high full = let long = marks_length s nx (omega arith) in omega arith

marks_set : (s : ℕ) (nx : List (Option ℕ)) (n : ℕ) (v : Option ℕ) → n < s → chain_marks s (slice_set nx n v) ≡ slice_set (chain_marks s nx) n (is_some v)
marks_set s nx n v below = ap (map is_some) (take-set-lt s nx n v below) ∙ map-set is_some (take s nx) n v

module _ (s h : ℕ) (nx : List (Option ℕ)) (within : s ≤ length nx) where
  pub emptied : (c : ℕ) → c ≡ 0 → Sound s h c nx → Empty s h c nx
  emptied c zero-count ok = record {
    none = count_none (chain_marks s nx) (sym ok.counted ∙ zero-count);
    over = ap (λ k. walk k h nx) zero-count;
  }

  -- the first of the walk is taken
  walk_first : (c : ℕ) → 0 < c → walk c h nx ≡ h ∷ walk (c - 1) (link_at nx h) nx
  walk_first zero some = absurd (omega arith)
  walk_first (suc k) some = let less : k ≡ suc k - 1 = omega arith in ap (λ j. h ∷ walk j (link_at nx h) nx) less

  pub taken : (c : ℕ) → 0 < c → Sound s h c nx → Taking s h c nx
  taken c some ok =
      let ms = chain_marks s nx in
      let on = link_at nx h in
      let later = walk (c - 1) on nx in
      let more = walk_first c some in
      let parts = and_parts (marked ms h) (all_free ms later) (sym (ap (all_free ms) more) ∙ ok.free) in
      let long = marks_length s nx within in
      let low : h < s = omega (arith, marked_below ms h parts.0) in
      let two = and_parts (not (has later h)) (distinct later) (sym (ap distinct more) ∙ ok.apart) in
      let out : has later h ≡ false = not-true _ two.0 in
      let marks = marks_set s nx h None low in
      let same = walk_set (c - 1) on nx h None out in
      let count : c - 1 ≡ free_count (slice_set ms h false) = omega (arith, ok.counted, count_taken ms h parts.0) in
      record {
        below = low;
        was = parts.0;
        linked = some_link (slice_index_or nx h None) h (sym (marks_at s nx within h low) ∙ parts.0);
        marks = marks;
        first = more ∙ ap (λ l. h ∷ l) (sym same);
        sound = record {
          free = ap (all_free (chain_marks s (slice_set nx h None))) same ∙ (ap (λ l. all_free l later) marks ∙ all_free_set ms later h false out parts.1);
          apart = ap distinct same ∙ two.1;
          counted = count ∙ ap free_count (sym marks);
        };
      }

  -- a number that is not free is put in front
  pub given : (c n : ℕ) → n < s → s ≤ 256 → marked (chain_marks s nx) n ≡ false → Sound s h c nx → Giving s h c nx n
  given c n below small taken ok =
      let ms = chain_marks s nx in
      let out : has (walk c h nx) n ≡ false = not_free_out ms (walk c h nx) n ok.free taken in
      let marks : chain_marks s (slice_set nx n (Some h)) ≡ set ms n true = marks_set s nx n (Some h) below in
      let long = marks_length s nx within in
      let under : n < length ms = omega arith in
      let first : walk (c + 1) n (slice_set nx n (Some h)) ≡ n ∷ walk c h nx =
      ap (λ k. walk k n (slice_set nx n (Some h))) (add-one c)
      ∙ (ap (λ x. n ∷ walk c (unwrap_or x n) (slice_set nx n (Some h))) (get_or-set_same nx n (Some h) None (omega arith))
      ∙ ap (λ l. n ∷ l) (walk_set c h nx n (Some h) out)) in
      let up = count_given ms n under taken in
      let more : c + 1 ≡ free_count (slice_set ms n true) = omega (arith, ok.counted) in
      record {
        room = omega (arith, count_by-le-length (λ m. m) (slice_set ms n true), length-set ms n true);
        marks = marks;
        first = first;
        sound = record {
          free = ap (all_free (chain_marks s (slice_set nx n (Some h)))) first
              ∙ (ap (λ l. all_free l (n ∷ walk c h nx)) marks
              ∙ and_from (marked (slice_set ms n true) n) (all_free (slice_set ms n true) (walk c h nx)) (get_or-set_same ms n true false under) (all_free_set ms (walk c h nx) n true out ok.free));
          apart = ap distinct first ∙ and_from (not (has (walk c h nx) n)) (distinct (walk c h nx)) (not_from_false _ out) ok.apart;
          counted = more ∙ ap free_count (sym marks);
        };
      }

-- links that count on
module _ (s : ℕ) (nx : List (Option ℕ)) (within : s ≤ length nx) (small : s ≤ 256) (on : (k : ℕ) → k < 256 → slice_index_or nx k None ≡ Some ((k + 1) % 256)) where
  walks : (k a : ℕ) → a + k ≤ 256 → walk k a nx ≡ range_with_len a k
  walks zero a h = refl
  walks (suc zero) a h = refl
  walks (suc (suc k)) a h =
      let within_table : (a + 1) % 256 ≡ a + 1 = omega arith in
      ap (λ x. a ∷ walk (suc k) (unwrap_or x a) nx) (on a (omega arith) ∙ ap Some within_table)
      ∙ ap (λ l. a ∷ l) (walks (suc k) (a + 1) (omega arith))

  all_links : chain_marks s nx ≡ replicate s true
  all_links =
      all_same (chain_marks s nx) s true (marks_length s nx within)
      (λ n below. marks_at s nx within n below ∙ ap is_some (on n (omega arith)))

  free_from : (k a : ℕ) → a + k ≤ s → all_free (replicate s true) (range_with_len a k) ≡ true
  free_from zero a h = refl
  free_from (suc k) a h = and_from _ _ (get_or-replicate s a true false (omega arith)) (free_from k (a + 1) (omega arith))

  pub fresh : Fresh s nx
  fresh =
      let order = walks s 0 (omega arith) in
      record {
        marks = all_links;
        order = order;
        sound = record {
          free = ap (all_free (chain_marks s nx)) order ∙ (ap (λ l. all_free l (range_with_len 0 s)) all_links ∙ free_from s 0 (omega arith));
          apart = ap distinct order ∙ counting_distinct 0 s;
          counted = sym (ap free_count all_links ∙ count_all s);
        };
      }
