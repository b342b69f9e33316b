-- A stream heard piece by piece.
use Rattle.std.proofs.Common.{◌≡◌, ◌==◌, ℕ, zero, suc, take, arith, List, [], ◌∷◌, ◌++◌, length, refl, sym, ap, ◌∙◌}
use Rattle.std.proofs.lemmas.List.{append-nil, append_assoc}
use Rattle.request_frames.specs.Laws.{HasRead, ReadingMore}
use Rattle.request_frames.specs.Reading.{Awaits, KeepsAt, KeepsMost, ReaderState, ReadsOn, StandsAt, StandsFor, ToldAt, end_at, fresh_reader}
use Rattle.request_frames.specs.Requests.{Request, ending, requests}
use Rattle.request_frames.specs.declared.reader.Next.{Next}
use Rattle.request_frames.specs.declared.reader.Next.TheVariants as next
use Rattle.request_frames.specs.declared.reader.Stage.{Stage}
use Rattle.request_frames.specs.declared.reader.Stage.TheVariants as stage
use Rattle.request_frames.proofs.Stages.{begins, ends_so}
use Rattle.request_frames.proofs.Streams.{first_is}

pub begin : HasRead [] [] fresh_reader
begin = record { held = []; stands = (refl, begins); requests_are = λ more. refl; ending_is = λ more. refl }

-- nothing was told
quiet : (bytes taken : List ℕ) (told : List Request) (old new : ReaderState) (so_far : HasRead bytes told old) → StandsFor (so_far.held ++ taken) new
    → HasRead (bytes ++ taken) (told ++ []) new
quiet bytes taken told old new so_far stands = record {
  held = so_far.held ++ taken;
  stands = stands;
  requests_are = λ more. ap requests (append_assoc bytes taken more) ∙ so_far.requests_are (taken ++ more)
      ∙ ap (λ (b : List ℕ). told ++ requests b) (sym (append_assoc so_far.held taken more))
      ∙ ap (λ (t : List Request). t ++ requests ((so_far.held ++ taken) ++ more)) (sym (append-nil told));
  ending_is = λ more. ap ending (append_assoc bytes taken more) ∙ so_far.ending_is (taken ++ more) ∙ ap ending (sym (append_assoc so_far.held taken more));
}

-- a request was told
loud : (bytes taken : List ℕ) (told : List Request) (old new : ReaderState) (so_far : HasRead bytes told old) (at : Stage) (front kept : List ℕ)
    → new ≡ record { at = at; front = front; kept = kept } → ToldAt (so_far.held ++ taken) at front kept → ReadingMore bytes taken told next.Whole new
loud bytes taken told old new so_far (stage.Whole size most) front kept e heard = record {
  behind = heard.request ∷ [];
  tells = rw e (record { request = heard.request; alone = refl; words = heard.words; keeps = (heard.sized, heard.kept_is) });
  has_read = record {
    held = [];
    stands = rw e refl;
    requests_are = λ more. ap requests (append_assoc bytes taken more) ∙ so_far.requests_are (taken ++ more)
        ∙ ap (λ (b : List ℕ). told ++ requests b) (sym (append_assoc so_far.held taken more))
        ∙ ap (λ (t : List Request). told ++ t) (first_is ((so_far.held ++ taken) ++ more) heard.request more (heard.is more)).requests_are
        ∙ sym (append_assoc told (heard.request ∷ []) (requests more));
    ending_is = λ more. ap ending (append_assoc bytes taken more) ∙ so_far.ending_is (taken ++ more) ∙ ap ending (sym (append_assoc so_far.held taken more))
        ∙ (first_is ((so_far.held ++ taken) ++ more) heard.request more (heard.is more)).ending_is;
  };
}
loud bytes taken told old new so_far stage.Head front kept e heard = absurd heard
loud bytes taken told old new so_far (stage.Words h) front kept e heard = absurd heard
loud bytes taken told old new so_far (stage.Asked size) front kept e heard = absurd heard
loud bytes taken told old new so_far (stage.Input size most came) front kept e heard = absurd heard
loud bytes taken told old new so_far stage.Fault front kept e heard = absurd heard

pub goes_on : (bytes taken : List ℕ) (told : List Request) (old new : ReaderState) (n : Next) → HasRead bytes told old → ReadsOn taken old n new
    → ReadingMore bytes taken told n new
goes_on bytes taken told old new next.Whole so_far reads = loud bytes taken told old new so_far new.at new.front new.kept refl (reads so_far.held so_far.stands)
goes_on bytes taken told old new next.Words so_far reads = record { behind = []; tells = refl; has_read = quiet bytes taken told old new so_far (reads so_far.held so_far.stands) }
goes_on bytes taken told old new next.More so_far reads = record { behind = []; tells = refl; has_read = quiet bytes taken told old new so_far (reads so_far.held so_far.stands) }
goes_on bytes taken told old new next.Fault so_far reads = record { behind = []; tells = refl; has_read = quiet bytes taken told old new so_far (reads so_far.held so_far.stands) }

-- ---- what is asked of an input

no_length : (xs : List ℕ) → length xs ≡ 0 → xs ≡ []
no_length [] e = refl
no_length (x ∷ xs) e = absurd (omega arith)

none_kept : (most : ℕ) → take {A = ℕ} most [] ≡ []
none_kept zero = refl
none_kept (suc n) = refl

kept_stands : (held front kept : List ℕ) (at : Stage) (new : ReaderState) (most : ℕ) → StandsAt held at front kept → KeepsAt most at (record { at = at; front = front; kept = kept }) new
    → StandsFor held new
kept_stands held front kept (stage.Asked size) new most stands keeps =
    rw keeps (record {
      line = stands.line;
      input = [];
      is = stands.is;
      held_is = (let none : stands.input ≡ [] = no_length stands.input stands.counted in rw none at stands.held_is);
      ended = stands.ended;
      kept_is = sym (none_kept most);
      counted = refl;
      within = omega arith;
    })
kept_stands held front kept stage.Head new most stands keeps = absurd keeps
kept_stands held front kept (stage.Words h) new most stands keeps = absurd keeps
kept_stands held front kept (stage.Input size m came) new most stands keeps = absurd keeps
kept_stands held front kept (stage.Whole size m) new most stands keeps = absurd keeps
kept_stands held front kept stage.Fault new most stands keeps = absurd keeps

pub keeping : (bytes : List ℕ) (told : List Request) (old new : ReaderState) (most : ℕ) → HasRead bytes told old → KeepsMost most old new → HasRead bytes told new
keeping bytes told old new most so_far keeps = record {
  held = so_far.held;
  stands = kept_stands so_far.held old.front old.kept old.at new most so_far.stands keeps;
  requests_are = so_far.requests_are;
  ending_is = so_far.ending_is;
}

pub whole : (bytes : List ℕ) (told : List Request) (r : ReaderState) → HasRead bytes told r → Awaits r → (requests bytes ≡ told) × (ending bytes ≡ end_at r.at (length r.front == 0))
whole bytes told r so_far waits =
    let ends = ends_so so_far.held r.at r.front r.kept so_far.stands waits in
    let all : requests bytes ≡ told ++ requests so_far.held = rw (append-nil bytes, append-nil so_far.held) at (so_far.requests_are []) in
    let end : ending bytes ≡ ending so_far.held = rw (append-nil bytes, append-nil so_far.held) at (so_far.ending_is []) in
    (all ∙ ap (λ (t : List Request). told ++ t) ends.0 ∙ append-nil told, end ∙ ends.1)
