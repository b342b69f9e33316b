-- What a client says of a held message, as it is kept.
use Rattle.std.specs.Prelude.{Bool, true, false, [], Option, None, Some}
use Rattle.std.specs.Global.{Box}
use Rattle.sync_rules.specs.declared.answers.Judgement.{Judgement}
use Rattle.sync_rules.specs.declared.answers.Judgement.TheVariants as judgement

-- the message waits for nothing, and may be sent on
abbrev pub plain : Judgement
plain = judgement.Accept [] true

-- the judgement that is kept, or else the plain one
abbrev pub judgement_of : Option (Box Judgement) → Judgement
judgement_of None = plain
judgement_of (Some kept) = kept.value

-- a judgement refuses its message
abbrev pub is_refused : Judgement → Bool
is_refused judgement.Refuse = true
is_refused (judgement.Accept deps share) = false
