use Rattle.std.proofs.Common.{◌≡◌, true, false, nat_lt, refl, lt-ltb, le-ltb, length}
use Rattle.request_frames.proofs.Heads.{line_found, line_none}
use Rattle.request_frames.proofs.head.head_of.Goals as goal

pub returns-in-Some-head_on : goal.returns-in-Some-head_on
returns-in-Some-head_on c = line_found c.args.bytes.now _ c.min.result c.in-Some.at _ c.min.ensures refl c.in-Some.ensures.place c.in-Some-head_on.ensures

pub returns-in-None-head_on : goal.returns-in-None-head_on
returns-in-None-head_on c = line_found c.args.bytes.now _ c.min.result c.in-Some.at _ c.min.ensures refl c.in-Some.ensures.place c.in-None-head_on.ensures

pub returns-then-bytes-lt-HEAD_LEN : goal.returns-then-bytes-lt-HEAD_LEN
returns-then-bytes-lt-HEAD_LEN c =
    let short : nat_lt (length c.args.bytes.now) 16 ≡ true = lt-ltb (length c.args.bytes.now) 16 c.if-bytes-lt-HEAD_LEN.true in
    let found = line_none c.args.bytes.now _ c.min.result c.min.ensures refl c.in-None.ensures.place in rw short at found

pub returns-else-bytes-lt-HEAD_LEN : goal.returns-else-bytes-lt-HEAD_LEN
returns-else-bytes-lt-HEAD_LEN c =
    let long : nat_lt (length c.args.bytes.now) 16 ≡ false = le-ltb (length c.args.bytes.now) 16 c.if-bytes-lt-HEAD_LEN.false in
    let found = line_none c.args.bytes.now _ c.min.result c.min.ensures refl c.in-None.ensures.place in rw long at found
