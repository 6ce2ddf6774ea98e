use Rattle.std.proofs.Common.{◌≡◌, ℕ, List, [], length, Some, None, Option, refl, ap, arith}
use Rattle.worked.proofs.RunLaws.{reached}
use Rattle.worked.proofs.runs.calls_and_refusals_are_reached.Goals as goal

-- a form has eight bytes, so no bytes are none
nothing_reads : {M : Type 0} (form : M → List ℕ) (o : Option M) → ((m : M) → length (form m) ≡ 8) → ((m : M) → o ≡ Some m → form m ≡ []) → o ≡ None
nothing_reads form None eight only = refl
nothing_reads form (Some m) eight only =
    let long = eight m in
    let none : length (form m) ≡ 0 = ap length (only m refl) in
    absurd (omega arith)

pub returns : goal.returns
returns g c =
    reached g.M.Message.form g.M.Message.reading c.args.message c.args.filler (g.met.M.Message.reads c.args.message) []
    (nothing_reads g.M.Message.form (g.M.Message.reading []) g.met.M.Message.eight (g.met.M.Message.only []))
