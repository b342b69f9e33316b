-- What links in bytes show while a device runs, link by link.
use Rattle.std.proofs.Common.{◌≡◌, ℕ, suc, List, [], ◌∷◌, ◌++◌}
use Rattle.std.proofs.Common.{length, refl, sym, ◌∙◌, subst, arith, Some}
use Rattle.std.specs.Prelude.{slice_get}
use Rattle.sync_ids.specs.declared.records.Record.{Record}
use Rattle.sync_rules.specs.Lists.{In}
use Rattle.sync_rules.proofs.Elements.{In-append_right}
use Rattle.sync_rules.specs.Output.{sent}
use Rattle.sync_rules.specs.Facts.{Journal}
use Rattle.world_links.specs.declared.link.Link.{Link}
use Rattle.world_links.specs.Ends.{EndValue}
use Rattle.world_links.specs.Links.{cut}
use Rattle.world_laws.specs.Worlds.{End, WorldLink as RecordLink}
use Rattle.sync_world.specs.Shown.{EndRuns}
use Rattle.sync_world.specs.Shown.{ShownEndRuns, ShownLinkRuns, ShownLinksRun, ShowsEnd, ShowsLink}
use Rattle.sync_world.specs.Shown.{ShowsLinks, emptied, emptied_end}
use Rattle.sync_world.proofs.RunLaws.{end_same, end_sends, link_emptied, link_far}
use Rattle.sync_world.proofs.RunLaws.{link_near, link_same}

-- ---- ends

pub end_stays : (d : ℕ) (j : Journal) (other : ℕ) (e : EndValue) (x : End) → ShowsEnd e x
    → ShownEndRuns d j other e x
end_stays d j other e x s = record { after = x; shown = s; runs = end_same d j other x }

pub sent_on_end : (d : ℕ) (j : Journal) (other number : ℕ) (more before : List Record)
    (e : EndValue) (x : End) → e.device ≡ d → e.session ≡ Some number
    → sent j number ≡ before ++ more → ShowsEnd e x
    → EndRuns d j other x (record x { flight = x.flight ++ more })
sent_on_end d j other number more before e x own on parts s =
    end_sends d j other number more x (s.device ∙ own) (s.session ∙ on) (λ r inside.
    subst (In r) (sym parts) (In-append_right r before more inside))

-- ---- links

pub link_stays : (d : ℕ) (j : Journal) (l : Link) (x : RecordLink) → ShowsLink l x
    → ShownLinkRuns d j l x
link_stays d j l x s = record { after = x; shown = s; runs = link_same d j x }

pub link_runs_near : (d : ℕ) (j : Journal) (l : Link) (e : EndValue) (x : RecordLink)
    → ShowsLink l x → ShownEndRuns d j l.far.device e x.near
    → ShownLinkRuns d j (record l { near = e }) x
link_runs_near d j l e x s runs = record {
  after = record { near = runs.after; far = x.far };
  shown = record { near = runs.shown; far = s.far };
  runs =
      link_near d j x runs.after
      (subst (λ (k : ℕ). EndRuns d j k x.near runs.after) (sym s.far.device) runs.runs);
}

pub link_runs_far : (d : ℕ) (j : Journal) (l : Link) (e : EndValue) (x : RecordLink) → ShowsLink l x
    → ShownEndRuns d j l.near.device e x.far
    → ShownLinkRuns d j (record l { far = e }) x
link_runs_far d j l e x s runs = record {
  after = record { near = x.near; far = runs.after };
  shown = record { near = s.near; far = runs.shown };
  runs =
      link_far d j x runs.after
      (subst (λ (k : ℕ). EndRuns d j k x.far runs.after) (sym s.near.device) runs.runs);
}

end_dropped : (e : EndValue) (flight : List (List ℕ)) (seen : ℕ) (x : End) → ShowsEnd e x
    → ShowsEnd (record e { flight = []; seen = seen }) (emptied_end x)
end_dropped e flight seen x s =
    record {
      device = s.device;
      session = s.session;
      flight = refl;
      given = s.given;
      flight_within = tt;
      given_within = s.given_within;
    }

-- whatever came to be in flight from one end, if the link is cut then
pub link_drops_near : (d : ℕ) (j : Journal) (flight : List (List ℕ)) (seen : ℕ) (l : Link)
    (x : RecordLink) → ShowsLink l x
    → ShownLinkRuns d j (cut (record l { near = record l.near { flight = flight; seen = seen } })) x
link_drops_near d j flight seen l x s = record {
  after = emptied x;
  shown = record {
    near = end_dropped l.near flight seen x.near s.near;
    far = end_dropped l.far [] l.far.seen x.far s.far;
  };
  runs = link_emptied d j x x (link_same d j x);
}

pub link_drops_far : (d : ℕ) (j : Journal) (flight : List (List ℕ)) (seen : ℕ) (l : Link)
    (x : RecordLink) → ShowsLink l x
    → ShownLinkRuns d j (cut (record l { far = record l.far { flight = flight; seen = seen } })) x
link_drops_far d j flight seen l x s = record {
  after = emptied x;
  shown = record {
    near = end_dropped l.near [] l.near.seen x.near s.near;
    far = end_dropped l.far flight seen x.far s.far;
  };
  runs = link_emptied d j x x (link_same d j x);
}

-- ---- several links

pub links_none : (d : ℕ) (j : Journal) → ShownLinksRun d j [] []
links_none d j = record { after = []; shown = tt; runs = tt }

pub links_next : (d : ℕ) (j : Journal) (l : Link) (ls : List Link) (x : RecordLink)
    (xs : List RecordLink) → ShownLinkRuns d j l x → ShownLinksRun d j ls xs
    → ShownLinksRun d j (l ∷ ls) (x ∷ xs)
links_next d j l ls x xs first later = record {
  after = first.after ∷ later.after;
  shown = (first.shown, later.shown);
  runs = (first.runs, later.runs);
}

-- each link became one that shows what comes of it
pub links_each : (d : ℕ) (j : Journal) (ls ls' : List Link) (xs : List RecordLink)
    → length ls' ≡ length ls
    → ((i : ℕ) (l l' : Link) (x : RecordLink) → slice_get ls i ≡ Some l → slice_get ls' i ≡ Some l'
    → ShowsLink l x → ShownLinkRuns d j l' x)
    → ShowsLinks ls xs → ShownLinksRun d j ls' xs
links_each d j [] [] [] many each s = links_none d j
links_each d j [] [] (x ∷ xs) many each s = absurd s
links_each d j [] (m ∷ ms) xs many each s = absurd (omega (arith, many))
links_each d j (l ∷ ls) [] xs many each s = absurd (omega (arith, many))
links_each d j (l ∷ ls) (m ∷ ms) [] many each s = absurd s
links_each d j (l ∷ ls) (m ∷ ms) (x ∷ xs) many each s =
    links_next d j m ms x xs (each 0 l m x refl refl s.0)
    (links_each d j ls ms xs (omega (arith, many)) (λ i a b y was is shown.
    each (suc i) a b y was is shown) s.1)
