-- What a host in memory tells of its links, by the list of its calls.
use Rattle.std.specs.Prelude.{ℕ, suc, List, [], ◌∷◌, length, map, Some, slice_index}
use Rattle.outside.specs.Links.{Links, Answered, HeardOn, Planned}
use Rattle.outside.specs.MemDisk.{Change, links_after, answers_after}
use Rattle.outside.specs.MemHost.{Readings, readings_told, upcoming_of, plans_of}

-- the bytes sent on each link by these calls
abbrev pub sent_by : List Change → List (List ℕ)
sent_by calls = map (λ link. link.sent) (links_after [] calls)

-- what was heard on each link, by its answers and its failures since the last of them
abbrev pub links_heard : List (List Answered) → (ℕ → ℕ) → List HeardOn
links_heard [] failures = []
links_heard (answers ∷ links) failures =
    record { answers = answers; failures = failures 0 } ∷ links_heard links (λ i. failures (suc i))

abbrev pub links_told : List Change → List ℕ → List ℕ → Readings → List (List Planned) → Links
links_told calls silences faults clock scripts = record {
  dialled = length (links_after [] calls);
  faults = λ i. slice_index faults i;
  told = Some (links_after [] calls);
  heard = Some (links_heard (answers_after [] calls) (λ i. slice_index silences i));
  readings = readings_told clock;
  planned = Some (plans_of scripts);
  upcoming = Some (upcoming_of clock);
}
