use Rattle.std.proofs.Common.{◌≡◌, length, sym, subst}
use Rattle.outside.specs.Files.{file_of}
use Rattle.frame_journal.specs.Journal.{JournalValue}
use Rattle.frame_journal.proofs.journal.Journal.next_frame.Goals as goal

pub next_at-requires-clause-fits : goal.next_at-requires-clause-fits
next_at-requires-clause-fits g c two told =
    subst (λ (v : JournalValue). length (file_of two v.file).now ≡ v.len) (sym c.self.view_is) (c.requires two told)
