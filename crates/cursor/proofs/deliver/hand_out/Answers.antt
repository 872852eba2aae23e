-- `cursor::deliver::hand_out` asks for the key's room and then for the value's, and puts both where both fit. Assumes nothing.
use Rattle.std.proofs.Common.{arith}
use Rattle.cursor.proofs.NextLaws.{handed-short-key, handed-short-value, handed-whole}
use Rattle.cursor.proofs.deliver.hand_out.Goals as goal

-- (each room is left to `omega`, so that checks in another order are refused for what they say)
pub returns-then-key-key_len : goal.returns-then-key-key_len
returns-then-key-key_len c =
    let all = handed-short-key c.args.key.now c.args.value.now _ _ c.key_in-k.result.now c.value_in-v.result.now c.key_in-k.ensures.answers c.value_in-v.ensures.answers (omega arith) in
    record {
      answers = all.0;
      bytes = all.1;
    }

pub returns-then-value-value_len : goal.returns-then-value-value_len
returns-then-value-value_len c =
    let all = handed-short-value c.args.key.now c.args.value.now _ _ c.key_in-k.result.now c.value_in-v.result.now c.key_in-k.ensures.answers c.value_in-v.ensures.answers (omega arith)
    (omega arith) in
    record {
      answers = all.0;
      bytes = all.1;
    }

pub returns : goal.returns
returns c =
    let all = handed-whole c.args.key.now c.args.value.now _ _ c.key_in-k.result.now c.value_in-v.result.now c.key_in-k.ensures.answers c.value_in-v.ensures.answers (omega arith)
    (omega arith) _ _ c.put.ensures.bytes c.put-2.ensures.bytes in
    record {
      answers = all.0;
      bytes = all.1;
    }
