-- How a kind of message reads bytes. Assumes nothing.
use Rattle.std.specs.Prelude.{ℕ, cond, List, Some, None, Option}
use Rattle.messages.specs.Bytes.{same_bytes}

-- the message found, if the bytes are its form; none otherwise
abbrev pub if_form : {M : Type 0} → (M → List ℕ) → List ℕ → Option M → Option M
if_form form bs None = None
if_form form bs (Some m) = cond (same_bytes (form m) bs) (Some m) None
