-- What a link shows after a move, after a cut, and after all in flight arrived.
use Rattle.std.proofs.Common.{◌≡◌, ℕ, zero, suc, ◌==◌, ◌||◌, Bool, true, false, if◌then◌else◌, List}
use Rattle.std.proofs.Common.{[], ◌∷◌, ◌++◌, map, refl, sym, ◌∙◌, ap, subst, Some, None}
use Rattle.std.proofs.Common.{append-nil}
use Rattle.std.specs.Prelude.{slice_get, slice_set}
use Rattle.std.specs.List.{AllByRecursion}
use Rattle.std.proofs.lemmas.Grind.{flat_map-append}
use Rattle.sync_ids.specs.declared.records.Record.{Record}
use Rattle.sync_ids.specs.Records.{IsRecord}
use Rattle.record_grammar.specs.Spelling.{spelled, spelling, joined}
use Rattle.world_links.specs.declared.link.Link.{Link}
use Rattle.world_links.specs.declared.moves.Move.{Move}
use Rattle.world_links.specs.declared.moves.Move.TheVariants as move
use Rattle.world_links.specs.declared.moves.Side.{Side}
use Rattle.world_links.specs.declared.moves.Side.TheVariants as side
use Rattle.world_links.specs.Ends.{EndValue, new_end as byte_end}
use Rattle.world_links.specs.Links.{all_carried, cut, given_too, left_from, left_by, moved}
use Rattle.world_links.specs.Links.{with_flight}
use Rattle.world_links.specs.Moves.{flight_after as bytes_after, given_by as bytes_given}
use Rattle.world_laws.specs.Moves.{Cut, flight_then, records_given, link_after_move}
use Rattle.world_laws.specs.Moves.{links_after_move}
use Rattle.world_laws.specs.Moves.{other_after, sender_after}
use Rattle.world_laws.specs.Worlds.{End, WorldLink as RecordLink, unused_end}
use Rattle.sync_world.specs.Shown.{ShownAt, ShowsEnd, ShowsLink, ShowsLinks, carried, emptied}
use Rattle.sync_world.specs.Shown.{emptied_end, given_more, is_near, left_link, move_of}

-- ---- records

pub all_append : (rs ts : List Record) → AllByRecursion IsRecord rs → AllByRecursion IsRecord ts
    → AllByRecursion IsRecord (rs ++ ts)
all_append [] ts a b = b
all_append (r ∷ rs) ts a b = (a.0, all_append rs ts a.1 b)

joined_spelled : (rs : List Record) → joined (map spelling rs) ≡ spelled rs
joined_spelled [] = refl
joined_spelled (r ∷ rs) = ap (λ (bytes : List ℕ). spelling r ++ bytes) (joined_spelled rs)

flight_moved : (how : Move) (rs : List Record) → bytes_after how (map spelling rs) ≡ map spelling
    (flight_then (move_of how) rs)
flight_moved move.Carry [] = refl
flight_moved move.Carry (r ∷ rs) = refl
flight_moved move.Lose [] = refl
flight_moved move.Lose (r ∷ rs) = refl
flight_moved move.Repeat rs = refl
flight_moved move.Swap [] = refl
flight_moved move.Swap (r ∷ []) = refl
flight_moved move.Swap (r ∷ t ∷ rs) = refl

flight_limits : (how : Move) (rs : List Record) → AllByRecursion IsRecord rs
    → AllByRecursion IsRecord (flight_then (move_of how) rs)
flight_limits move.Carry [] a = tt
flight_limits move.Carry (r ∷ rs) a = a.1
flight_limits move.Lose [] a = tt
flight_limits move.Lose (r ∷ rs) a = a.1
flight_limits move.Repeat rs a = a
flight_limits move.Swap [] a = tt
flight_limits move.Swap (r ∷ []) a = a
flight_limits move.Swap (r ∷ t ∷ rs) a = (a.1.0, (a.0, a.1.1))

given_moved : (how : Move) (rs : List Record) → joined (bytes_given how (map spelling rs)) ≡ spelled
    (records_given (move_of how) rs)
given_moved move.Carry [] = refl
given_moved move.Carry (r ∷ rs) = refl
given_moved move.Lose rs = refl
given_moved move.Repeat [] = refl
given_moved move.Repeat (r ∷ rs) = refl
given_moved move.Swap rs = refl

given_limits : (how : Move) (rs : List Record) → AllByRecursion IsRecord rs
    → AllByRecursion IsRecord (records_given (move_of how) rs)
given_limits move.Carry [] a = tt
given_limits move.Carry (r ∷ rs) a = (a.0, tt)
given_limits move.Lose rs a = tt
given_limits move.Repeat [] a = tt
given_limits move.Repeat (r ∷ rs) a = (a.0, tt)
given_limits move.Swap rs a = tt

-- ---- ends

-- an end from which other records are in flight
end_flight : (e : EndValue) (x : End) (flight : List (List ℕ)) (rs : List Record)
    → flight ≡ map spelling rs → AllByRecursion IsRecord rs → ShowsEnd e x
    → ShowsEnd (with_flight flight e) (record x { flight = rs })
end_flight e x flight rs is within s = record {
  device = s.device;
  session = s.session;
  flight = is;
  given = s.given;
  flight_within = within;
  given_within = s.given_within;
}

-- an end that was given more
end_given : (e : EndValue) (x : End) (more : List (List ℕ)) (rs : List Record)
    → joined more ≡ spelled rs → AllByRecursion IsRecord rs → ShowsEnd e x
    → ShowsEnd (given_too more e) (given_more rs x)
end_given e x more rs is within s = record {
  device = s.device;
  session = s.session;
  flight = s.flight;
  given = (λ i. s.given i ++ is i) ∙ sym (flat_map-append spelling x.given rs);
  flight_within = s.flight_within;
  given_within = all_append x.given rs s.given_within within;
}

end_moved : (how : Move) (e : EndValue) (x : End) → ShowsEnd e x
    → ShowsEnd (with_flight (bytes_after how e.flight) e) (sender_after (move_of how) x)
end_moved how e x s =
    end_flight e x (bytes_after how e.flight) (flight_then (move_of how) x.flight)
    (ap (bytes_after how) s.flight ∙ flight_moved how x.flight)
    (flight_limits how x.flight s.flight_within) s

other_is : (how : Move) (x : End) → x ≡ other_after (move_of how) x
other_is move.Carry x = refl
other_is move.Lose x = refl
other_is move.Repeat x = refl
other_is move.Swap x = refl

other_moved : (how : Move) (from e : EndValue) (x y : End) → ShowsEnd from x → ShowsEnd e y
    → ShowsEnd (given_too (bytes_given how from.flight) e)
    (other_after (move_of how) (given_more (records_given (move_of how) x.flight) y))
other_moved how from e x y sending s =
    subst (ShowsEnd (given_too (bytes_given how from.flight) e))
    (other_is how (given_more (records_given (move_of how) x.flight) y))
    (end_given e y (bytes_given how from.flight) (records_given (move_of how) x.flight)
    (ap (λ (flight : List (List ℕ)). joined (bytes_given how flight)) sending.flight
    ∙ given_moved how x.flight) (given_limits how x.flight sending.flight_within) s)

end_emptied : (e : EndValue) (x : End) → ShowsEnd e x → ShowsEnd (with_flight [] e) (emptied_end x)
end_emptied e x s = end_flight e x [] [] refl tt s

end_cut : (e : EndValue) (x : End) → ShowsEnd e x → ShowsEnd (with_flight [] e)
    (record x { flight = []; given = x.given ++ [] })
end_cut e x s =
    subst (λ (rs : List Record). ShowsEnd (with_flight [] e) (record x { flight = []; given = rs }))
    (sym (append-nil x.given)) (end_emptied e x s)

end_carried : (from e : EndValue) (x y : End) → ShowsEnd from x → ShowsEnd e y
    → ShowsEnd (given_too from.flight e) (given_more x.flight y)
end_carried from e x y sending s =
    end_given e y from.flight x.flight (ap joined sending.flight ∙ joined_spelled x.flight)
    sending.flight_within s

-- ---- one link

pub shown_moved : (how : Move) (from : Side) (l : Link) (x : RecordLink) → ShowsLink l x
    → ShowsLink (moved how from l) (link_after_move (move_of how) (is_near from) x)
shown_moved how side.Near l x s =
    record {
      near = end_moved how l.near x.near s.near;
      far = other_moved how l.near l.far x.near x.far s.near s.far;
    }
shown_moved how side.Far l x s =
    record {
      near = other_moved how l.far l.near x.far x.near s.far s.near;
      far = end_moved how l.far x.far s.far;
    }

pub shown_cut : (near : Bool) (l : Link) (x : RecordLink) → ShowsLink l x → ShowsLink (cut l)
    (link_after_move Cut near x)
shown_cut true l x s =
    record { near = end_emptied l.near x.near s.near; far = end_cut l.far x.far s.far }
shown_cut false l x s =
    record { near = end_cut l.near x.near s.near; far = end_emptied l.far x.far s.far }

left_cases : (a b : Bool) (l : Link) (x : RecordLink) → ShowsLink l x
    → ShowsLink (left_from (if a then Some side.Near else if b then Some side.Far else None) l)
    (if a
    || b then emptied x else x)
left_cases true b l x s = record {
  near = record {
    device = s.near.device;
    session = s.near.session;
    flight = refl;
    given = s.near.given;
    flight_within = tt;
    given_within = s.near.given_within;
  };
  far = end_emptied l.far x.far s.far;
}
left_cases false true l x s = record {
  near = end_emptied l.near x.near s.near;
  far = record {
    device = s.far.device;
    session = s.far.session;
    flight = refl;
    given = s.far.given;
    flight_within = tt;
    given_within = s.far.given_within;
  };
}
left_cases false false l x s = s

pub shown_left : (d : ℕ) (l : Link) (x : RecordLink) → ShowsLink l x → ShowsLink (left_by d l)
    (left_link d x)
shown_left d l x s =
    subst (λ (k : ℕ). ShowsLink (left_by d l) (if (k == d)
    || (x.far.device == d) then emptied x else x)) (sym s.near.device)
    (subst (λ (k : ℕ). ShowsLink (left_by d l) (if (l.near.device == d)
    || (k == d) then emptied x else x)) (sym s.far.device)
    (left_cases (l.near.device == d) (l.far.device == d) l x s))

pub shown_carried : (from : Side) (l : Link) (x : RecordLink) → ShowsLink l x → ShowsLink
    (all_carried from l) (carried (is_near from) x)
shown_carried side.Near l x s =
    record {
      near = end_emptied l.near x.near s.near;
      far = end_carried l.near l.far x.near x.far s.near s.far;
    }
shown_carried side.Far l x s =
    record {
      near = end_carried l.far l.near x.far x.near s.far s.near;
      far = end_emptied l.far x.far s.far;
    }

end_new : (d : ℕ) → ShowsEnd (byte_end d) (unused_end d)
end_new d = record {
  device = refl;
  session = refl;
  flight = refl;
  given = refl;
  flight_within = tt;
  given_within = tt;
}

pub shown_new : (d e : ℕ)
    → ShowsLink (record { near = byte_end d; far = byte_end e; is_cut = false })
    (record { near = unused_end d; far = unused_end e })
shown_new d e = record { near = end_new d; far = end_new e }

-- ---- several links

pub shown_at : (ls : List Link) (xs : List RecordLink) (i : ℕ) (l : Link) → slice_get ls i ≡ Some l
    → ShowsLinks ls xs → ShownAt l xs i
shown_at [] xs i l is s = cc
shown_at (m ∷ ls) [] i l is s = absurd s
shown_at (m ∷ ls) (x ∷ xs) zero l is s = let same : m ≡ l =
    cc in record { link = x; stands = refl; shown = subst (λ (k : Link). ShowsLink k x) same s.0 }
shown_at (m ∷ ls) (x ∷ xs) (suc i) l is s = let later = shown_at ls xs i l is s.1 in
    record { link = later.link; stands = later.stands; shown = later.shown }

pub shown_set : (ls : List Link) (xs : List RecordLink) (i : ℕ) (l : Link) (x : RecordLink)
    → ShowsLink l x → ShowsLinks ls xs
    → ShowsLinks (slice_set ls i l) (slice_set xs i x)
shown_set [] [] i l x one s = s
shown_set [] (y ∷ xs) i l x one s = absurd s
shown_set (m ∷ ls) [] i l x one s = absurd s
shown_set (m ∷ ls) (y ∷ xs) zero l x one s = (one, s.1)
shown_set (m ∷ ls) (y ∷ xs) (suc i) l x one s = (s.0, shown_set ls xs i l x one s.1)

pub shown_moved_at : (how : Move) (from : Side) (i : ℕ) (ls : List Link) (xs : List RecordLink)
    (l : Link) → slice_get ls i ≡ Some l → ShowsLinks ls xs
    → ShowsLinks (slice_set ls i (moved how from l))
    (links_after_move (move_of how) (is_near from) i xs)
shown_moved_at how from i [] xs l is s = cc
shown_moved_at how from i (m ∷ ls) [] l is s = absurd s
shown_moved_at how from zero (m ∷ ls) (x ∷ xs) l is s =
    let same : m ≡ l = cc in (
      subst (λ (k : Link). ShowsLink (moved how from k)
          (link_after_move (move_of how) (is_near from) x))
          same (shown_moved how from m x s.0),
      s.1,
    )
shown_moved_at how from (suc i) (m ∷ ls) (x ∷ xs) l is s =
    (s.0, shown_moved_at how from i ls xs l is s.1)

pub shown_cut_at : (near : Bool) (i : ℕ) (ls : List Link) (xs : List RecordLink) (l : Link)
    → slice_get ls i ≡ Some l → ShowsLinks ls xs
    → ShowsLinks (slice_set ls i (cut l)) (links_after_move Cut near i xs)
shown_cut_at near i [] xs l is s = cc
shown_cut_at near i (m ∷ ls) [] l is s = absurd s
shown_cut_at near zero (m ∷ ls) (x ∷ xs) l is s =
    let same : m ≡ l = cc in (
      subst (λ (k : Link). ShowsLink (cut k) (link_after_move Cut near x)) same
          (shown_cut near m x s.0),
      s.1,
    )
shown_cut_at near (suc i) (m ∷ ls) (x ∷ xs) l is s = (s.0, shown_cut_at near i ls xs l is s.1)

pub shown_push : (ls : List Link) (xs : List RecordLink) (l : Link) (x : RecordLink) → ShowsLink l x
    → ShowsLinks ls xs → ShowsLinks (ls ++ l ∷ []) (xs ++ x ∷ [])
shown_push [] [] l x one s = (one, tt)
shown_push [] (y ∷ xs) l x one s = absurd s
shown_push (m ∷ ls) [] l x one s = absurd s
shown_push (m ∷ ls) (y ∷ xs) l x one s = (s.0, shown_push ls xs l x one s.1)

pub shown_linked : (d e : ℕ) (ls : List Link) (xs : List RecordLink) → ShowsLinks ls xs
    → ShowsLinks (ls ++ record { near = byte_end d; far = byte_end e; is_cut = false } ∷ [])
    (xs ++ record { near = unused_end d; far = unused_end e } ∷ [])
shown_linked d e ls xs s =
    shown_push ls xs (record { near = byte_end d; far = byte_end e; is_cut = false })
    (record { near = unused_end d; far = unused_end e }) (shown_new d e) s

pub shown_all_left : (d : ℕ) (ls : List Link) (xs : List RecordLink) → ShowsLinks ls xs → ShowsLinks
    (map (left_by d) ls) (map (left_link d) xs)
shown_all_left d [] [] s = s
shown_all_left d [] (x ∷ xs) s = absurd s
shown_all_left d (l ∷ ls) [] s = absurd s
shown_all_left d (l ∷ ls) (x ∷ xs) s = (shown_left d l x s.0, shown_all_left d ls xs s.1)
