-- Calls that only read, and what is read of a frame.
use Rattle.std.proofs.Common.{◌≡◌, ℕ, zero, suc, ◌+◌, ◌-◌, ◌≤◌, min, List, ◌∷◌, ◌++◌, length, take, drop, refl, sym, ap, ◌∙◌, arith, take-append-drop, length-take, length-drop, append_assoc}
use Rattle.std.specs.Int.{w32, to_be_bytes}
use Rattle.std.proofs.lemmas.List.{take-append-le, drop-drop}
use Rattle.outside.specs.Files.{Two, File, file_of, read_files}
use Rattle.outside.specs.Calls.{ChangesNone}
use Rattle.outside.specs.Disk.{ReadsBytes, RelatesTold}
use Rattle.outside.specs.Frames.{framed, format_in, generation_in}
use Rattle.outside.specs.Outside.{Outside, DiskCall, OnlyReads}
use Rattle.outside.proofs.CallSteps.{looks_none, looks_call}
use Rattle.frame_journal.specs.Header.{begun_at}
use Rattle.frame_journal.specs.Journal.{JournalValue}
use Rattle.frame_journal.specs.Next.{IsOpenGate, FrameRead}

pub looks_once : (o o' : Outside) → DiskCall o o' → o'.files ≡ o.files → o.disk_faults ≤ o'.disk_faults
    → RelatesTold ChangesNone o.calls o'.calls → OnlyReads o o'
looks_once o o' call same later unchanged = looks_call o o o' (looks_none o) call same later unchanged

-- what a read into a part of a buffer gave
pub gate_count : (bytes buf : List ℕ) (place len n room : ℕ) → ReadsBytes bytes place buf n → length buf ≡ room → room ≡ min (len - place) 5 → length bytes ≡ len → n ≡ min 5 (len - place)
gate_count bytes buf place len n room reads is_room is_min long = omega (arith, reads.count, is_room, is_min, long)

pub gate_front : (bytes buf tail : List ℕ) (place n : ℕ) → ReadsBytes bytes place buf n → take n (buf ++ tail) ≡ take n (drop place bytes)
gate_front bytes buf tail place n reads =
    let within : n ≤ length buf = omega (arith, reads.count) in
    take-append-le n buf tail within ∙ reads.given

-- a whole frame
pub frame_read : (bytes to : List ℕ) (place size : ℕ) → IsOpenGate bytes place size → to ≡ take size (drop (place + 5) bytes) → FrameRead bytes place to
frame_read bytes to place size open_gate is_to =
    let long : length to ≡ size = ap length is_to ∙ omega (arith, open_gate.whole, length-take size (drop (place + 5) bytes), length-drop (place + 5) bytes) in
    let rest = drop size (drop (place + 5) bytes) in
    let payload : to ++ rest ≡ drop (place + 5) bytes = ap (λ l. l ++ rest) is_to ∙ take-append-drop size (drop (place + 5) bytes) in
    record {
      frame = open_gate.frame ∙ ap framed (sym is_to);
      behind = rest;
      spelled =
          sym (take-append-drop 5 (drop place bytes))
          ∙ ap (λ l. l ++ drop 5 (drop place bytes)) (open_gate.head ∙ ap (λ n. 1 ∷ to_be_bytes w32 n) (sym long))
          ∙ ap (λ l. (1 ∷ to_be_bytes w32 (length to)) ++ l) (drop-drop 5 place bytes ∙ sym payload)
          ∙ sym (append_assoc (1 ∷ to_be_bytes w32 (length to)) to rest);
    }

pub read_files_of : (two : Two File) (file : ℕ) → file_of (read_files two) file ≡ (file_of two file).now
read_files_of two zero = refl
read_files_of two (suc _) = refl

-- the reader of a journal that begins behind a header
pub begun_as : (file format generation len : ℕ) (bytes : List ℕ) → format ≡ format_in bytes → generation ≡ generation_in bytes → len ≡ length bytes
    → (let j : JournalValue = record { file = file; format = format; generation = generation; end = 15; len = len; last = 0 } in j ≡ begun_at file bytes)
begun_as file format generation len bytes e g l = cc
