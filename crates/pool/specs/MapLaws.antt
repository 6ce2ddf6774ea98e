-- The bitmap: what a flipped bit and a reset leave of the marks, and where the lowest set bit is. Assumes nothing.
use Rattle.std.specs.Prelude.{◌≡◌, ℕ, ◌+◌, ◌-◌, ◌*◌, ◌/◌, ◌%◌, ◌^◌, ◌<◌, ◌≤◌, Bool, true, false, not, ltb, ◌≢◌, ◌⊎◌, List, length, get_or, Some, bit_xor, nat_lt, slice_index, slice_index_or, slice_set}
use Rattle.std.proofs.Common.{sym, ap, ◌∙◌, inl, inr, arith}
use Rattle.std.proofs.lemmas.List.FromFn.{get_or-map-range_with_len, length-map-range_with_len}
use Rattle.std.proofs.lemmas.List.{ext_get_or, get_or_past, get_or-set_other, get_or-set_same, length-set}
use Rattle.std.proofs.lemmas.List.Sums.{count_by-le-length}
use Rattle.std.proofs.lemmas.Bool.{cases_eq, cases_lt, le-ltb, lt-ltb, not_from_true, not_from_false}
use Rattle.pool.specs.Marks.{free_count, marked}
use Rattle.pool.specs.WordSteps.{Full, Giving, Sound, Taking}
use Rattle.pool.specs.Words.{FirstSet, bit, bit_at, flipped, word_marks}
use Rattle.pool.specs.BitLaws.{bit_of_zero, flip_other, flip_same}
use Rattle.pool.specs.MarkLaws.{all_same, count_all, count_given, count_taken, marked_below}

pub marks_length : (s : ℕ) (ws : List ℕ) → length (word_marks s ws) ≡ s
marks_length s ws = length-map-range_with_len (bit_at ws) 0 s

-- a bitmap has marks, and few: what the trait's laws ask of it
pub marks_nonempty : (s : ℕ) (ws : List ℕ) → 1 ≤ s → 1 ≤ length (word_marks s ws)
marks_nonempty s ws low = let long = marks_length s ws in omega arith

pub marks_small : (s : ℕ) (ws : List ℕ) → s ≤ 256 → length (word_marks s ws) ≤ 256
marks_small s ws high = let long = marks_length s ws in omega arith

pub marks_at : (s : ℕ) (ws : List ℕ) (n : ℕ) → n < s → marked (word_marks s ws) n ≡ bit_at ws n
marks_at s ws n below = get_or-map-range_with_len (bit_at ws) 0 s n n false below (omega arith)

pub marks_past : (s : ℕ) (ws : List ℕ) (n : ℕ) → s ≤ n → marked (word_marks s ws) n ≡ false
marks_past s ws n past = get_or_past (word_marks s ws) n false (let long = marks_length s ws in omega arith)

-- where no bit stands at or above the size, the marks are the bits
pub marks_are : (s : ℕ) (ws : List ℕ) → ((k : ℕ) → s ≤ k → bit_at ws k ≡ false) → (n : ℕ) → marked (word_marks s ws) n ≡ bit_at ws n
marks_are s ws none n = go (cases_lt n s)
  where
    go : (n < s) ⊎ (s ≤ n) → marked (word_marks s ws) n ≡ bit_at ws n
    go (inl below) = marks_at s ws n below
    go (inr past) = marks_past s ws n past ∙ sym (none n past)

-- the bit of n is flipped
module _ (ws : List ℕ) (n : ℕ) (within : n / 64 < length ws) where
  flipped_same : bit_at (flipped ws n) n ≡ not (bit_at ws n)
  flipped_same =
      ap (λ w. bit w (n % 64)) (get_or-set_same ws (n / 64) (bit_xor (slice_index ws (n / 64)) (2 ^ (n % 64))) 0 within)
      ∙ flip_same (slice_index ws (n / 64)) (n % 64)

  flipped_other : (k : ℕ) → k ≢ n → bit_at (flipped ws n) k ≡ bit_at ws k
  flipped_other k ne = go (cases_eq (k / 64) (n / 64))
    where
      go : (k / 64 ≡ n / 64) ⊎ (k / 64 ≢ n / 64) → bit_at (flipped ws n) k ≡ bit_at ws k
      go (inl e) =
          let apart : k % 64 ≢ n % 64 = λ same. ne (omega arith) in
          ap (λ i. bit (slice_index (flipped ws n) i) (k % 64)) e
          ∙ (ap (λ w. bit w (k % 64)) (get_or-set_same ws (n / 64) (bit_xor (slice_index ws (n / 64)) (2 ^ (n % 64))) 0 within)
          ∙ (flip_other (slice_index ws (n / 64)) (n % 64) (k % 64) apart ∙ ap (λ i. bit (slice_index ws i) (k % 64)) (sym e)))
      go (inr apart) = ap (λ w. bit w (k % 64)) (get_or-set_other ws (n / 64) (k / 64) (bit_xor (slice_index ws (n / 64)) (2 ^ (n % 64))) 0 apart)

  flipped_marks : (s : ℕ) (v : Bool) → n < s → bit_at (flipped ws n) n ≡ v → word_marks s (flipped ws n) ≡ slice_set (word_marks s ws) n v
  flipped_marks s v below is =
      let ms = word_marks s ws in
      let long = marks_length s ws in
      let longer = marks_length s (flipped ws n) in
      ext_get_or false (word_marks s (flipped ws n)) (slice_set ms n v) (longer ∙ sym (length-set ms n v ∙ long))
      (λ k h. let under : k < s = omega arith in go k under (omega arith) (cases_eq k n))
    where
      go : (k : ℕ) → k < s → n < length (word_marks s ws) → (k ≡ n) ⊎ (k ≢ n) → slice_index_or (word_marks s (flipped ws n)) k false ≡ slice_index_or (slice_set (word_marks s ws) n v) k false
      go k under low (inl e) =
          marks_at s (flipped ws n) k under ∙ (ap (bit_at (flipped ws n)) e ∙ (is ∙ (sym (get_or-set_same (word_marks s ws) n v false low) ∙ ap (λ i. get_or (slice_set (word_marks s ws) n v) i false) (sym e))))
      go k under low (inr ne) =
          marks_at s (flipped ws n) k under ∙ (flipped_other k ne ∙ (sym (marks_at s ws k under) ∙ sym (get_or-set_other (word_marks s ws) n k v false ne)))

module _ (s c : ℕ) (ws : List ℕ) (long : length ws ≡ 4) (small : s ≤ 256) (ok : Sound s c ws) where
  pub taken : (n : ℕ) → FirstSet ws (Some n) → Taking s c ws n
  taken n (in_words, is_set, clear) =
      let are = marks_are s ws ok.above in
      let ms = word_marks s ws in
      let was : marked ms n ≡ true = are n ∙ is_set in
      let size = marks_length s ws in
      let below : n < s = omega (arith, marked_below ms n was) in
      let within : n / 64 < length ws = omega arith in
      let marks = flipped_marks ws n within s false below (flipped_same ws n within ∙ not_from_true _ is_set) in
      let count = count_taken ms n was in
      let low : c ≡ free_count ms = ok.counted in
      let less : c - 1 ≡ free_count (slice_set ms n false) = omega arith in
      record {
        some = omega arith;
        was = was;
        lower = λ k h. are k ∙ clear k h;
        marks = marks;
        sound = record {
          above = λ k h. flipped_other ws n within k (λ e. omega arith) ∙ ok.above k h;
          counted = less ∙ ap free_count (sym marks);
        };
      }

  pub given : (n : ℕ) → n < s → marked (word_marks s ws) n ≡ false → Giving s c ws n
  given n below free =
      let ms = word_marks s ws in
      let size = marks_length s ws in
      let within : n / 64 < length ws = omega arith in
      let clear : bit_at ws n ≡ false = sym (marks_at s ws n below) ∙ free in
      let marks = flipped_marks ws n within s true below (flipped_same ws n within ∙ not_from_false _ clear) in
      let count = count_given ms n (omega arith) free in
      let low : c ≡ free_count ms = ok.counted in
      let more : c + 1 ≡ free_count (slice_set ms n true) = omega arith in
      record {
        room = omega (arith, count_by-le-length (λ m. m) (slice_set ms n true), length-set ms n true);
        marks = marks;
        sound = record {
          above = λ k h. flipped_other ws n within k (λ e. omega arith) ∙ ok.above k h;
          counted = more ∙ ap free_count (sym marks);
        };
      }

-- every number below the size is set
module _ (s : ℕ) (ws : List ℕ) (long : length ws ≡ 4) (small : s ≤ 256) (each : (i j : ℕ) → i < 4 → j < 64 → bit (slice_index ws i) j ≡ nat_lt (64 * i + j) s) where
  set_below : (k : ℕ) → bit_at ws k ≡ nat_lt k s
  set_below k = go (cases_lt (k / 64) 4)
    where
      go : (k / 64 < 4) ⊎ (4 ≤ k / 64) → bit_at ws k ≡ nat_lt k s
      go (inl h) = let whole : 64 * (k / 64) + k % 64 ≡ k = omega arith in each (k / 64) (k % 64) h (omega arith) ∙ ap (λ x. ltb x s) whole
      go (inr h) =
          ap (λ w. bit w (k % 64)) (get_or_past ws (k / 64) 0 (omega arith)) ∙ (bit_of_zero (k % 64) ∙ sym (le-ltb k s (omega arith)))

  pub filled : Full s ws
  filled =
      let marks = all_same (word_marks s ws) s true (marks_length s ws) (λ n h. marks_at s ws n h ∙ (set_below n ∙ lt-ltb n s h)) in
      record {
        marks = marks;
        sound = record {
          above = λ k h. set_below k ∙ le-ltb k s h;
          counted = sym (ap free_count marks ∙ count_all s);
        };
      }
