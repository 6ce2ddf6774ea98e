-- The laws of a kind whose reading is `if_form`: what reads is a form, and a form that was found reads. Assumes nothing.
use Rattle.std.specs.Prelude.{◌≡◌, ℕ, Bool, true, false, cond, List, Some, None, Option, ◌≢◌, refl}
use Rattle.std.proofs.Common.{ap, arith}
use Rattle.messages.specs.Bytes.{same_bytes}
use Rattle.messages.specs.Readings.{if_form}
use Rattle.messages.specs.BytesLemmas.{same_bytes_is, same_bytes_refl}

-- a fact that holds is decided so
pub decided : {P : Type 0} → ((p q : P) → p ≡ q) → (p : P) (d : Dec P) → d ≡ yes p
decided prop p (yes q) = ap yes (prop q p)
decided prop p (no h) = absurd (h p)

module _ {M : Type 0} (form : M → List ℕ) where
  pub if_form_only : (bs : List ℕ) (o : Option M) (m : M) → if_form form bs o ≡ Some m → form m ≡ bs
  if_form_only bs None m h = absurd (let z : ◌≡◌ {A = ℕ} 0 1 = cc in omega arith)
  if_form_only bs (Some n) m h = go (same_bytes (form n) bs) refl h
    where
      go : (t : Bool) → same_bytes (form n) bs ≡ t → cond t (Some n) None ≡ Some m → form m ≡ bs
      go true e k = let same = same_bytes_is (form n) bs e in cc
      go false e k = absurd (let z : ◌≡◌ {A = ℕ} 0 1 = cc in omega arith)

  pub if_form_reads : (o : Option M) (m : M) → o ≡ Some m → if_form form (form m) o ≡ Some m
  if_form_reads o m h = rw h (rw (same_bytes_refl (form m)))

  -- bytes that are no message's form read as none
  pub if_form_none : (bs : List ℕ) (o : Option M) → ((m : M) → form m ≢ bs) → if_form form bs o ≡ None
  if_form_none bs None none = refl
  if_form_none bs (Some n) none = go (same_bytes (form n) bs) refl
    where
      go : (t : Bool) → same_bytes (form n) bs ≡ t → cond t (Some n) None ≡ None
      go true e = absurd (none n (same_bytes_is (form n) bs e))
      go false e = refl
