use Rattle.std.proofs.Common.{arith}
use Rattle.request_frames.proofs.Numbers.{number_no_text}
use Rattle.request_frames.proofs.head.number.Goals as goal

pub returns-in-Err : goal.returns-in-Err
returns-in-Err c = number_no_text c.args.most c.args.word.now (omega arith) c.in-Err.ensures.cases.0
