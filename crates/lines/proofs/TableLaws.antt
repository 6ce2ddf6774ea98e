-- The plain exchanges of a table: one read, one changed, all alike. Assumes nothing.
use Rattle.std.proofs.Common.{◌≡◌, ℕ, zero, suc, ◌<◌, ◌≤◌, List, ◌∷◌, map, length, get_or, take, set, replicate, refl, ap, ◌∙◌, arith}
use Rattle.std.proofs.lemmas.List.{get_or-map, get_or_past, length-map, map-set, set_past}
use Rattle.std.proofs.Math.Seq.{take-set-lt}
use Rattle.plain.specs.Lookups.{closed_exchange}
use Rattle.plain.specs.States.{Exchange}
use Rattle.lines.specs.Exchanges.{exchange_of, idle_line}
use Rattle.lines.specs.declared.exchange.ExchangeLine.{ExchangeLine}

pub count : (l : List ExchangeLine) → length (map exchange_of l) ≡ length l
count l = length-map l exchange_of

pub told : (l : List ExchangeLine) (e : ℕ) → e < length l → get_or (map exchange_of l) e closed_exchange ≡ exchange_of (get_or l e idle_line)
told l e low = get_or-map exchange_of l e idle_line closed_exchange low

pub past : (l : List ExchangeLine) (e : ℕ) → length l ≤ e → get_or (map exchange_of l) e closed_exchange ≡ closed_exchange
past l e high = get_or_past (map exchange_of l) e closed_exchange (let k = count l in omega arith)

pub written : (n : ℕ) (xs : List ExchangeLine) (e : ℕ) (x : ExchangeLine) → e < n → map exchange_of (take n (set xs e x)) ≡ set (map exchange_of (take n xs)) e (exchange_of x)
written n xs e x low = ap (map exchange_of) (take-set-lt n xs e x low) ∙ map-set exchange_of (take n xs) e x

pub left : (l : List ExchangeLine) (e : ℕ) (x : Exchange) → length l ≤ e → set (map exchange_of l) e x ≡ map exchange_of l
left l e x high = set_past (map exchange_of l) e x (let k = count l in omega arith)

pub alike : (n : ℕ) (x : ExchangeLine) → map exchange_of (replicate n x) ≡ replicate n (exchange_of x)
alike zero x = refl
alike (suc n) x = ap (λ xs. exchange_of x ∷ xs) (alike n x)

pub ruleset tables = (count, told, past, written, left, alike)
