use Rattle.request_frames.proofs.Spelled.{request_back}
use Rattle.request_frames.proofs.Streams.{first_is}
use Rattle.request_frames.specs.Requests.{request_text}
use Rattle.std.proofs.Common.{◌++◌}
use Rattle.request_frames.proofs.laws.requests_read_back.Goals as goal

pub returns : goal.returns
returns c = λ r more is.
    let first = first_is (request_text r ++ more) r more (request_back r more is) in
    (first.requests_are, first.ending_is)
