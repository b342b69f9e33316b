use Rattle.std.proofs.Common.{sym, ap, ◌∙◌, ◌≡◌, ◌+◌, ◌-◌, length, take, drop, rules}
use Rattle.outside.specs.MemStreams.{SourceValue}
use Rattle.outside.proofs.StreamSteps.{given_front, nothing_left}
use Rattle.outside.proofs.mem_source.MemSourceSource.read.Goals as goal

pub returns-clause-bytes : goal.returns-clause-bytes
returns-clause-bytes c =
    let s = c.self.inside in
    let copied = c.copy_from_slice.ensures.after ∙ ap (λ l. take (s.at + c.min-n.result - s.at) (drop s.at l)) c.deref-2.ensures.value in
    let long : c.len.result ≡ length s.bytes.items = search rules in (
      ap (λ (v : SourceValue). v.left) (sym c.self.view_is) ∙ given_front _ _ _ _ _ _ copied c.min-n.ensures long,
      nothing_left _ _ _ _ _ _ copied c.min-n.ensures long,
    )
