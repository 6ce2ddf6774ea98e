-- Drafts stay within their limits. Assumes nothing.
use Rattle.std.proofs.Common.{◌≡◌, ℕ, Bool, true, false, ◌&&◌, refl}
use Rattle.std.proofs.lemmas.Bool.{and_from, and_parts}
use Rattle.plain.specs.Openings.{fits, redrafted, sized, within}
use Rattle.plain.specs.declared.records.Sizes.{Sizes}
use Rattle.rules.specs.Drafting.{DraftsFit, Limited}

-- a change that fits where the size is within its limits
limited : (most n : ℕ) (changed d : Sizes) → (within most n ≡ true → fits d ≡ true → fits changed ≡ true)
    → Limited most n changed d (redrafted (within most n) changed d)
limited most n changed d ok = record { answer = refl; stays = λ f. go (within most n) refl f }
  where
    go : (b : Bool) → within most n ≡ b → fits d ≡ true → fits (redrafted b changed d).1 ≡ true
    go true e f = ok e f
    go false e f = f

pub drafts_fit : DraftsFit
drafts_fit =
    record {
      first = (refl, refl);
      tasks = λ n d. limited 64 n (sized n d.exchanges d.blocks) d
          (λ e f. and_from (within 64 n) _ e (and_parts (within 64 d.tasks) _ f).1);
      exchanges = λ n d. limited 64 n (sized d.tasks n d.blocks) d
          (λ e f.
          let p = and_parts (within 64 d.tasks) (within 64 d.exchanges && within 256 d.blocks) f in
          let q = and_parts (within 64 d.exchanges) (within 256 d.blocks) p.1 in
          and_from (within 64 d.tasks) _ p.0 (and_from (within 64 n) _ e q.1));
      blocks = λ n d. limited 256 n (sized d.tasks d.exchanges n) d
          (λ e f.
          let p = and_parts (within 64 d.tasks) (within 64 d.exchanges && within 256 d.blocks) f in
          let q = and_parts (within 64 d.exchanges) (within 256 d.blocks) p.1 in
          and_from (within 64 d.tasks) _ p.0 (and_from (within 64 d.exchanges) _ q.0 e));
    }
