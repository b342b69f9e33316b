-- The numbers of the statuses: the exit status of a program that ends so.
use Rattle.std.specs.Prelude.{ℕ}
use Rattle.sync_words.specs.declared.status.Status.{Status}
use Rattle.sync_words.specs.declared.status.Status.TheVariants as status

abbrev pub number_of : Status → ℕ
number_of status.Done = 0
number_of status.Usage = 1
number_of status.NoStore = 2
number_of status.Exists = 3
number_of status.Refused = 4
number_of status.Damaged = 5
number_of status.DiskFault = 6
number_of status.LinkFault = 7
number_of status.ReadFault = 8
number_of status.BadStream = 9
number_of status.Full = 10
number_of status.TurnsUsed = 11
number_of status.Memory = 12
number_of status.WriteFault = 13
number_of status.TooMuch = 14
number_of status.BadScript = 15
number_of status.NoAnswer = 17
