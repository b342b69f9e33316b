-- What a player has heard, item by item.
use Rattle.std.proofs.Common.{◌≡◌, List, [], ◌∷◌, ◌++◌, refl, sym, ◌∙◌, subst, ap, append-nil}
use Rattle.std.proofs.Common.{append_assoc}
use Rattle.record_grammar.specs.Stream.{records_of}
use Rattle.record_grammar.specs.declared.stream.Item.{Item}
use Rattle.record_grammar.specs.declared.stream.Item.TheVariants as item
use Rattle.journal_play.specs.Playing.{Played, HasPlayed}
use Rattle.sync_ids.specs.Values.{GroupValue}
use Rattle.sync_ids.specs.declared.records.Record.{Record}
use Rattle.sync_rules.specs.Clients.{Meaning}
use Rattle.stream_commands.specs.Plays.{PlaysItems, and_those_of}

-- the records of one item more
records_push : (some : List Item) (i : Item)
    → records_of (some ++ i ∷ []) ≡ records_of some ++ records_of (i ∷ [])
unfolding records_of
records_push [] i = refl
records_push (item.One place r ∷ some) i = ap (λ (l : List Record). r ∷ l) (records_push some i)
records_push (item.Skipped place type_byte len ∷ some) i = records_push some i

and_those : (records : List Record) (some : List Item)
    → and_those_of records some ≡ records ++ records_of some
unfolding records_of
and_those records [] = sym (append-nil records)
and_those records (item ∷ some) = refl

-- what a play has taken, and what makes it one
takes_all : (clients : Meaning) (play : Played) (some : List Item) (clients' : Meaning)
    (play' : Played) → PlaysItems clients play some clients' play'
    → (def : GroupValue) (records : List Record) → HasPlayed clients def records play
    → HasPlayed clients def (records ++ records_of some) play'
takes_all clients play some clients' play' plays def records played =
    subst (λ (rs : List Record). HasPlayed clients def rs play') (and_those records some)
    (plays.takes def records played)

plays_by : (clients : Meaning) (play : Played) (some : List Item) (clients' : Meaning)
    (play' : Played) → clients' ≡ clients
    → ((def : GroupValue) (records : List Record) → HasPlayed clients def records play
    → HasPlayed clients def (records ++ records_of some) play')
    → PlaysItems clients play some clients' play'
plays_by clients play some clients' play' same takes = record {
  same = same;
  takes = λ def records played. subst (λ (rs : List Record). HasPlayed clients def rs play')
      (sym (and_those records some)) (takes def records played);
}

-- nothing was heard
pub plays_nothing : (clients : Meaning) (play : Played) → PlaysItems clients play [] clients play
plays_nothing clients play = record { same = refl; takes = λ def records played. played }

-- an item without a record changes nothing
pub plays_same : (clients : Meaning) (play : Played) (some : List Item) (clients' : Meaning)
    (play' : Played) (i : Item) → records_of (i ∷ []) ≡ []
    → PlaysItems clients play some clients' play'
    → PlaysItems clients play (some ++ i ∷ []) clients' play'
plays_same clients play some clients' play' i none plays =
    plays_by clients play (some ++ i ∷ []) clients' play' plays.same (λ def records played.
    let all : records_of (some ++ i ∷ []) ≡ records_of some =
    records_push some i ∙ ap (λ (l : List Record). records_of some ++ l) none
    ∙ append-nil (records_of some) in
    subst (λ (rs : List Record). HasPlayed clients def (records ++ rs) play') (sym all)
    (takes_all clients play some clients' play' plays def records played))

-- a record more
pub plays_more : (clients : Meaning) (play : Played) (some : List Item) (clients' : Meaning)
    (play' play'' : Played) (i : Item) (r : Record) → records_of (i ∷ []) ≡ r ∷ []
    → ((def : GroupValue) (records : List Record) → HasPlayed clients' def records play'
    → HasPlayed clients' def (records ++ r ∷ []) play'')
    → PlaysItems clients play some clients' play'
    → PlaysItems clients play (some ++ i ∷ []) clients' play''
plays_more clients play some clients' play' play'' i r one hears plays =
    plays_by clients play (some ++ i ∷ []) clients' play'' plays.same (λ def records played.
    let all : records_of (some ++ i ∷ []) ≡ records_of some ++ r ∷ [] =
    records_push some i ∙ ap (λ (l : List Record). records_of some ++ l) one in
    let has : HasPlayed clients' def (records ++ records_of some) play' =
    subst (λ (m : Meaning). HasPlayed m def (records ++ records_of some) play') (sym plays.same)
    (takes_all clients play some clients' play' plays def records played) in
    let more : HasPlayed clients def ((records ++ records_of some) ++ r ∷ []) play'' =
    subst (λ (m : Meaning). HasPlayed m def ((records ++ records_of some) ++ r ∷ []) play'')
    plays.same (hears def (records ++ records_of some) has) in
    subst (λ (rs : List Record). HasPlayed clients def rs play'')
    (append_assoc records (records_of some) (r ∷ []) ∙ ap (λ (l : List Record). records ++ l)
    (sym all)) more)

-- what a player has taken that was begun with nothing
pub played_all : (clients clients' : Meaning) (play play' : Played) (some : List Item)
    (def : GroupValue) → PlaysItems clients play some clients' play' → HasPlayed clients def [] play
    → HasPlayed clients def (records_of some) play'
played_all clients clients' play play' some def plays begun =
    takes_all clients play some clients' play' plays def [] begun
