use Rattle.std.proofs.Common.{◌≡◌, true, if◌then◌else◌, sym, ap, subst}
use Rattle.outside.specs.Faults.{is_listed, one_more}
use Rattle.outside.specs.MemStreams.{SinkValue}
use Rattle.outside.proofs.StreamSteps.{listed_so}
use Rattle.outside.proofs.mem_sink.MemSinkSink.write.Goals as goal

pub returns-then-contains-clause-fails : goal.returns-then-contains-clause-fails
returns-then-contains-clause-fails c =
    let s = c.self.inside in
    let listed : is_listed s.failing.items s.calls ≡ true = listed_so _ _ _ _ c.contains.ensures.value c.deref.ensures.value c.if-contains.true in
    subst (λ (v : SinkValue). s.starved ≡ (if is_listed v.failing v.calls then v.starved else one_more v.starved)) c.self.view_is
    (ap (λ b. if b then s.starved else one_more s.starved) (sym listed))
