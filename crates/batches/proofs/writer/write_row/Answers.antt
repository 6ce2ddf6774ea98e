use Rattle.std.proofs.Common.{◌≡◌, ◌++◌, length, ap, ◌∙◌, rules}
use Rattle.batches.proofs.WriteLaws.{filled}
use Rattle.batches.proofs.writer.write_row.Goals as goal

pub returns : goal.returns
returns c =
    let ns = c.copy_from_slice.ensures.after ∙ c.numbers.ensures.value in
    let name : c.copy_from_slice-2.new.self ≡ c.args.call.now.name = c.copy_from_slice-2.ensures.after in
    let message : c.copy_from_slice-3.new.self ≡ c.args.call.now.message = c.copy_from_slice-3.ensures.after in
    record {
      after =
          filled c.args.out.now c.copy_from_slice.new.self c.copy_from_slice-2.new.self c.copy_from_slice-3.new.self 8 16 8 8
          (ap length ns) (search rules) (search rules) (search rules) (search rules)
          ∙ (ap (λ l. l ++ (c.copy_from_slice-2.new.self ++ c.copy_from_slice-3.new.self)) ns ∙ (cc));
      fit = search rules;
    }
