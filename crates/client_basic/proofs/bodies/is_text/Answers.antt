-- `from_utf8` answers Ok exactly where the bytes are UTF-8.
use Rattle.std.proofs.Common.{◌∙◌}
use Rattle.client_basic.proofs.BodyLaws.{text_told}
use Rattle.client_basic.proofs.bodies.is_text.Goals as goal

pub returns : goal.returns
returns c = c.is_ok.ensures.value ∙ text_told c.args.bytes.now c.from_utf8.result _ _ c.from_utf8.ensures.cases
