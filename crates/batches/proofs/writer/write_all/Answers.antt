use Rattle.std.proofs.Common.{◌≡◌, ◌+◌, ◌-◌, ◌*◌, [], ◌∷◌, ◌++◌, map, length, get_or, ap, ◌∙◌, arith, rules}
use Rattle.std.specs.List.{flat_map}
use Rattle.std.proofs.lemmas.List.{length-map}
use Rattle.messages.specs.Bytes.{le2}
use Rattle.batches.specs.Layout.{code_byte, row_bytes}
use Rattle.batches.proofs.WriteLaws.{filled}
use Rattle.batches.proofs.writer.write_all.Goals as goal

pub returns : goal.returns
returns c =
    let rs = c.args.records.now in
    let n = length rs in
    let count : c.to_le_bytes-count.result ≡ le2 n = search rules in
    let head : c.copy_from_slice.new.self ≡ le2 n ++ (24 ∷ 0 ∷ []) = c.copy_from_slice.ensures.after ∙ ap (λ l. get_or l 0 0 ∷ get_or l 1 0 ∷ 24 ∷ 0 ∷ []) count in
    let codes : c.write_codes.new.out ≡ map code_byte rs = c.write_codes.ensures in
    let rows : c.write_rows.new.out ≡ flat_map row_bytes rs = c.write_rows.ensures.after in
    let codes_long : length c.write_codes.new.out ≡ n = ap length codes ∙ length-map rs code_byte in
    let rows_long : length c.write_rows.new.out ≡ 24 * n = omega (arith, c.write_rows.auto.out) in
    record {
      after =
          filled c.args.out.now c.copy_from_slice.new.self c.write_codes.new.out c.write_rows.new.out 4 (4 + n) (4 + n - 4) (4 + 25 * n - (4 + n))
          (ap length head) (omega arith) (omega arith) (omega arith) (omega (arith, c.requires.room))
          ∙ (ap (λ l. l ++ (c.write_codes.new.out ++ c.write_rows.new.out)) head ∙ (cc));
      fit = c.write_rows.ensures.fit;
    }
