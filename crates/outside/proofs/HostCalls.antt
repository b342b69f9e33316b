-- From what a call did to a host in memory to the files, the time and the wiring of its links.
use Rattle.std.proofs.Common.{◌≡◌, ℕ, zero, suc, ◌/◌, ◌<◌, true, false, List, [], ◌∷◌, ◌++◌, length, take, map, get_or, set, Vec, Option, None, Some, Result, Ok, Err, OnOk, OnErr, is_err, refl, sym, ap, ◌∙◌, subst, inl, inr, arith, length-append, append-nil}
use Rattle.std.proofs.lemmas.List.{map-append, map-set, length-set, length-map, get_or-map, set-get_or, take_all}
use Rattle.std.specs.Option.{option_to_list}
use Rattle.std.specs.declared.alloc.Global.{Global}
use Rattle.outside.specs.declared.failed.Failed.{Failed}
use Rattle.outside.specs.declared.host.Heard.{Heard}
use Rattle.outside.specs.declared.host.Heard.TheVariants as heard
use Rattle.outside.specs.Files.{Two, File, IsImage}
use Rattle.outside.specs.Links.{Planned, ToldLink, Reply, Answered, with_sent}
use Rattle.outside.specs.Outside.{Moment, DiskCall, LinkCall, QuietCall}
use Rattle.outside.specs.Host.{SendsPart}
use Rattle.outside.specs.Calls.{NoCall}
use Rattle.outside.specs.Changes.{of_disk}
use Rattle.outside.proofs.CallCounts.{no_call_same}
use Rattle.outside.specs.MemDisk.{Change, dialled, sent, answered, hosted, MemDiskValue, MakesChange, KeptFile, kept_after, both_kept, changed, files_of, links_after, link_changed, answers_after, answers_changed, with_call, bytes_each, calls_of}
use Rattle.outside.specs.MemMoments.{WasAt, files_at}
use Rattle.outside.specs.MemLaws.{was_now}
use Rattle.outside.proofs.MemSound.{kept_after-push, links_after-push}
use Rattle.outside.specs.MemHost.{MemHostValue, Readings, links_of, AreLinksWired, OnDisk, MakesDial, MakesNonce, MakesSend, MakesAnswer, RepliesOnLink}
use Rattle.outside.specs.LinksTold.{sent_by, links_told}
use Rattle.outside.specs.MemLaws.{each_told, each_heard}
use Rattle.outside.specs.HostTold.{host_told}
use Rattle.outside.proofs.MemCalls.{passes, makes_told}

-- a clause on a call's result at a test of it
pub on_ok : {T E P : Type 0} (r : Result T E) → is_err r ≡ false → OnOk r P → P
on_ok (Ok _) e p = p
on_ok (Err _) e p = cc

pub on_err : {T E P : Type 0} (r : Result T E) → is_err r ≡ true → OnErr r P → P
on_err (Ok _) e p = cc
on_err (Err _) e p = p

-- ---- calls that leave the links as they were

-- a call that makes no link, sends nothing and hears nothing
abbrev pub LeavesLinks : Option Change → Type 0
LeavesLinks None = Unit {0}
LeavesLinks (Some c) = ((links : List ToldLink) → link_changed links c ≡ links) × ((heard : List (List Answered)) → answers_changed heard c ≡ heard)

pub answers_after-push : (heard : List (List Answered)) (calls : List Change) (c : Change) → answers_after heard (calls ++ c ∷ []) ≡ answers_changed (answers_after heard calls) c
answers_after-push heard [] c = refl
answers_after-push heard (d ∷ calls) c = answers_after-push (answers_changed heard d) calls c

links_kept : (calls calls' : List Change) (more : Option Change) → LeavesLinks more → calls' ≡ calls ++ option_to_list more → links_after [] calls' ≡ links_after [] calls
links_kept calls calls' None leaves e = ap (links_after []) (e ∙ append-nil calls)
links_kept calls calls' (Some c) leaves e = ap (links_after []) e ∙ links_after-push [] calls c ∙ leaves.0 (links_after [] calls)

answers_kept : (calls calls' : List Change) (more : Option Change) → LeavesLinks more → calls' ≡ calls ++ option_to_list more → answers_after [] calls' ≡ answers_after [] calls
answers_kept calls calls' None leaves e = ap (answers_after []) (e ∙ append-nil calls)
answers_kept calls calls' (Some c) leaves e = ap (answers_after []) e ∙ answers_after-push [] calls c ∙ leaves.1 (answers_after [] calls)

-- what a call of the disk added to the list of calls
made_more : {T E : Type 0} (fine failed : Option Change) (result : Result T E) (old new : MemDiskValue) → LeavesLinks fine → LeavesLinks failed → MakesChange fine failed result old new
    → (more : Option Change) × LeavesLinks more × (new.calls ≡ old.calls ++ option_to_list more)
made_more fine failed (Ok _) old new fine_leaves failed_leaves makes = (fine, fine_leaves, makes.outcome.calls)
made_more fine failed (Err _) old new fine_leaves failed_leaves makes =
    elim makes.outcome.outcome [ inl listed ↦ (failed, failed_leaves, listed.calls) | inr untraced ↦ (None, tt, untraced.calls ∙ sym (append-nil old.calls)) ]

links_same : (old new : MemDiskValue) (s s' f f' : List ℕ) (k k' : Readings) (p p' : List (List Planned)) → links_of new ≡ links_of old → answers_after [] new.calls ≡ answers_after [] old.calls → s' ≡ s → f' ≡ f → k' ≡ k → p' ≡ p
    → links_told new.calls s' f' k' p' ≡ links_told old.calls s f k p
links_same old new s s' f f' k k' p p' links answers e g h i = cc

pub host_makes : {T E : Type 0} (fine failed : Option Change) (result : Result T E) (old new : MemHostValue) → LeavesLinks fine → LeavesLinks failed → OnDisk fine failed result old new
    → DiskCall (host_told old) (host_told new)
host_makes fine failed result old new fine_leaves failed_leaves on =
    let more = made_more fine failed result old.disk new.disk fine_leaves failed_leaves on.makes in
    let same : links_told new.disk.calls new.silences new.faults new.clock new.scripts ≡ links_told old.disk.calls old.silences old.faults old.clock old.scripts =
    links_same old.disk new.disk old.silences new.silences old.faults new.faults old.clock new.clock old.scripts new.scripts
    (links_kept old.disk.calls new.disk.calls more.0 more.1 more.2)
    (answers_kept old.disk.calls new.disk.calls more.0 more.1 more.2)
    (ap (λ (h : MemHostValue). h.silences) on.rest)
    (ap (λ (h : MemHostValue). h.faults) on.rest)
    (ap (λ (h : MemHostValue). h.clock) on.rest)
    (ap (λ (h : MemHostValue). h.scripts) on.rest) in
    makes_told sent_by fine failed result old.disk new.disk on.makes (links_told old.disk.calls old.silences old.faults old.clock old.scripts) (links_told new.disk.calls new.silences new.faults new.clock new.scripts) same
    refl
    (each_told old.disk.calls)
    (each_heard old.disk.calls _)
    refl
    (each_told new.disk.calls)
    (each_heard new.disk.calls _)

-- the same of a host as it stands when its disk was called
pub host_call : {T E : Type 0} (fine failed : Option Change) (result : Result T E) (v old : MemHostValue) (disk : MemDiskValue) → v ≡ old → LeavesLinks fine → LeavesLinks failed → MakesChange fine failed result v.disk disk
    → DiskCall (host_told old) (host_told (record v { disk = disk }))
host_call fine failed result v old disk same fine_leaves failed_leaves makes =
    subst (λ (h : MemHostValue). DiskCall (host_told h) (host_told (record v { disk = disk }))) same
    (host_makes fine failed result v (record v { disk = disk }) fine_leaves failed_leaves (record { makes = makes; rest = refl }))

-- ---- the bytes sent, as they are kept

pub wired_on : (old new : MemDiskValue) (bytes : List (List ℕ)) (scripts : List (List Planned)) → links_of new ≡ links_of old → AreLinksWired old bytes scripts → AreLinksWired new bytes scripts
wired_on old new bytes scripts same w = record { sent_is = w.sent_is ∙ ap (map (λ (l : ToldLink). l.sent)) (sym same); few = w.few; scripted = w.scripted }

pub wired_makes : {T E : Type 0} (fine failed : Option Change) (result : Result T E) (old new : MemDiskValue) (bytes : List (List ℕ)) (scripts : List (List Planned))
    → LeavesLinks fine → LeavesLinks failed → MakesChange fine failed result old new → AreLinksWired old bytes scripts → AreLinksWired new bytes scripts
wired_makes fine failed result old new bytes scripts fine_leaves failed_leaves makes w =
    let more = made_more fine failed result old new fine_leaves failed_leaves makes in
    wired_on old new bytes scripts (links_kept old.calls new.calls more.0 more.1 more.2) w

-- a host was made
pub no_links_yet : (old new : MemDiskValue) → new ≡ with_call hosted old → links_of new ≡ []
no_links_yet old new e = ap links_of e ∙ links_after-push [] old.calls hosted

pub wired_fresh : (old new : MemDiskValue) (bytes : List (List ℕ)) (scripts : List (List Planned)) → new ≡ with_call hosted old → bytes ≡ [] → length scripts ≡ 8 → AreLinksWired new bytes scripts
wired_fresh old new bytes scripts e none eight = record {
  sent_is = none ∙ ap (map (λ (l : ToldLink). l.sent)) (sym (no_links_yet old new e));
  few = let long = ap length none in omega (arith, long);
  scripted = eight;
}

-- a dial
dialled_is : (old new : MemDiskValue) (spec : List ℕ) → new ≡ with_call (dialled spec) old → links_of new ≡ links_of old ++ record { spec = spec; sent = [] } ∷ []
dialled_is old new spec e = ap links_of e ∙ links_after-push [] old.calls (dialled spec)

pub wired_dialled : (old new : MemDiskValue) (spec : List ℕ) (bytes bytes' : List (List ℕ)) (scripts : List (List Planned)) → new ≡ with_call (dialled spec) old → bytes' ≡ bytes ++ [] ∷ []
    → length (links_of old) < 8 → AreLinksWired old bytes scripts → AreLinksWired new bytes' scripts
wired_dialled old new spec bytes bytes' scripts e more room w =
    let sent_of_links : List ToldLink → List (List ℕ) = map (λ l. l.sent) in
    let as_many : length bytes ≡ length (links_of old) = ap length w.sent_is ∙ length-map (links_of old) (λ (l : ToldLink). l.sent) in
    record {
      sent_is =
          more ∙ ap (λ l. l ++ [] ∷ []) w.sent_is
          ∙ sym (map-append (λ (l : ToldLink). l.sent) (links_of old) (record { spec = spec; sent = [] } ∷ []))
          ∙ ap sent_of_links (sym (dialled_is old new spec e));
      few = let long = ap length more in omega (arith, length-append bytes ([] ∷ []), room, as_many, long);
      scripted = w.scripted;
    }

-- bytes sent
sent_more : (link : ℕ) (bytes : List ℕ) (links : List ToldLink) → map (λ (l : ToldLink). l.sent) (with_sent link bytes links) ≡ set (map (λ (l : ToldLink). l.sent) links) link (get_or (map (λ (l : ToldLink). l.sent) links) link [] ++ bytes)
sent_more link bytes [] = refl
sent_more zero bytes (l ∷ links) = refl
sent_more (suc link) bytes (l ∷ links) = ap (λ t. l.sent ∷ t) (sent_more link bytes links)

pub wired_sent : (old new : MemDiskValue) (link : ℕ) (bytes : List ℕ) (vectors : List (Vec ℕ Global)) (v v' : Vec ℕ Global) (scripts : List (List Planned))
    → new ≡ with_call (sent link bytes) old → v ≡ get_or vectors link v → v'.items ≡ v.items ++ bytes → link < length (links_of old)
    → AreLinksWired old (bytes_each vectors) scripts → AreLinksWired new (bytes_each (set vectors link v')) scripts
wired_sent old new link bytes vectors v v' scripts e is_there more within w =
    let items : Vec ℕ Global → List ℕ = λ x. x.items in
    let of : ToldLink → List ℕ = λ l. l.sent in
    let long : length vectors ≡ length (links_of old) = sym (length-map vectors items) ∙ ap length w.sent_is ∙ length-map (links_of old) of in
    let there : link < length vectors = omega (arith, within, long) in
    let here : v.items ≡ get_or (bytes_each vectors) link [] = ap items is_there ∙ sym (get_or-map items vectors link v [] there) in
    record {
      sent_is =
          map-set items vectors link v'
          ∙ ap (set (bytes_each vectors) link) (more ∙ ap (λ b. b ++ bytes) here)
          ∙ ap (λ l. set l link (get_or l link [] ++ bytes)) w.sent_is
          ∙ sym (sent_more link bytes (links_of old))
          ∙ ap (map of) (sym (ap links_of e ∙ links_after-push [] old.calls (sent link bytes)));
      few = omega (arith, w.few, ap length (map-set items vectors link v'), length-set (bytes_each vectors) link v'.items);
      scripted = w.scripted;
    }

-- nothing sent
pub wired_unsent : (old new : MemDiskValue) (link : ℕ) (vectors : List (Vec ℕ Global)) (v v' : Vec ℕ Global) (scripts : List (List Planned)) → new ≡ old → v ≡ get_or vectors link v → v'.items ≡ v.items
    → link < length (links_of old) → AreLinksWired old (bytes_each vectors) scripts → AreLinksWired new (bytes_each (set vectors link v')) scripts
wired_unsent old new link vectors v v' scripts e is_there same within w =
    let items : Vec ℕ Global → List ℕ = λ x. x.items in
    let back : bytes_each (set vectors link v') ≡ bytes_each vectors =
    map-set items vectors link v' ∙ ap (set (bytes_each vectors) link) same ∙ sym (map-set items vectors link v)
    ∙ ap (λ x. bytes_each (set vectors link x)) is_there
    ∙ ap bytes_each (set-get_or vectors link v) in
    subst (λ (d : MemDiskValue). AreLinksWired d (bytes_each (set vectors link v')) scripts) (sym e)
    (subst (λ (b : List (List ℕ)). AreLinksWired old b scripts) (sym back) w)

-- an answer heard, and the scripts left
pub wired_answered : (old new : MemDiskValue) (link : ℕ) (a : Answered) (bytes : List (List ℕ)) (scripts scripts' : List (List Planned)) → new ≡ with_call (answered link a) old
    → length scripts' ≡ length scripts → AreLinksWired old bytes scripts → AreLinksWired new bytes scripts'
wired_answered old new link a bytes scripts scripts' e long w =
    let same : links_of new ≡ links_of old = ap links_of e ∙ links_after-push [] old.calls (answered link a) in
    record { sent_is = w.sent_is ∙ ap (map (λ (l : ToldLink). l.sent)) (sym same); few = w.few; scripted = long ∙ w.scripted }

-- ---- time and files of a call on the links

-- a call that changes no file
abbrev pub LeavesFiles : Option Change → Type 0
LeavesFiles None = Unit {0}
LeavesFiles (Some c) = (two : Two KeptFile) → changed two c ≡ two

files_left : (start : Two (List ℕ)) (calls calls' : List Change) (more : Option Change) → LeavesFiles more → calls' ≡ calls ++ option_to_list more → kept_after (both_kept start) calls' ≡ kept_after (both_kept start) calls
files_left start calls calls' None leaves e = ap (kept_after (both_kept start)) (e ∙ append-nil calls)
files_left start calls calls' (Some c) leaves e = ap (kept_after (both_kept start)) e ∙ kept_after-push (both_kept start) calls c ∙ leaves (kept_after (both_kept start) calls)

-- the disk after a call on the links
pub record AfterCall (more : Option Change) (old new : MemDiskValue) : Type 0 where
  pub start : new.start ≡ old.start
  pub calls : new.calls ≡ old.calls ++ option_to_list more
  pub faults : new.faults ≡ old.faults
  pub no_call : NoCall (calls_of old) (calls_of new)

pub after_one : (c : Change) (old new : MemDiskValue) → of_disk (c ∷ []) ≡ [] → new ≡ with_call c old → AfterCall (Some c) old new
after_one c old new other e =
    subst (λ (d : MemDiskValue). AfterCall (Some c) old d) (sym e)
    (record {
      start = refl;
      calls = refl;
      faults = refl;
      no_call = record { goes_on = record { same_start = refl; same_failing = refl; same_stop = refl; more = c ∷ []; grown = refl; later = omega arith }; made = refl; unchanged = record { more = c ∷ []; grown = refl; none = other } };
    })

pub after_none : (old new : MemDiskValue) → new ≡ old → AfterCall None old new
after_none old new e =
    subst (λ (d : MemDiskValue). AfterCall None old d) (sym e)
    (record { start = refl; calls = sym (append-nil old.calls); faults = refl; no_call = no_call_same (calls_of old) })

same_two : (more : Option Change) (old new : MemDiskValue) → LeavesFiles more → AfterCall more old new → files_at new.start new.calls ≡ files_at old.start old.calls
same_two more old new leaves after =
    ap (λ s. files_at s new.calls) after.start ∙ ap files_of (files_left old.start old.calls new.calls more leaves after.calls)

pub quiet_call : (more : Option Change) (old new : MemHostValue) → LeavesFiles more → AfterCall more old.disk new.disk → QuietCall (host_told old) (host_told new)
quiet_call more old new leaves after =
    let pass = passes sent_by old.disk.start new.disk.start old.disk.calls new.disk.calls more after.start after.calls in
    record {
      same_files = ap Some (same_two more old.disk new.disk leaves after);
      same_faults = after.faults;
      calls = after.no_call;
      time = record { later = pass.later; nothing_else = λ t m _ w. pass.nothing_else t m w; keeps = λ t m _ w. pass.keeps t m w };
    }

-- a call that asks nothing of the disk
pub calm_call : (old new : MemHostValue) → new.disk ≡ old.disk → QuietCall (host_told old) (host_told new)
calm_call old new same = quiet_call None old new tt (after_none old.disk new.disk same)

pub nonce_call : (link : ℕ) (result : Result (List ℕ) Failed) (old new : MemHostValue) → MakesNonce link result old new → QuietCall (host_told old) (host_told new)
nonce_call link (Ok _) old new makes = calm_call old new (ap (λ (h : MemHostValue). h.disk) makes.rest)
nonce_call link (Err _) old new makes = calm_call old new (ap (λ (h : MemHostValue). h.disk) makes.rest)

-- a moment of a send is one of before it, or one with what it sent
send_moment : (old new : MemHostValue) (link n : ℕ) (bytes : List ℕ) → AfterCall (Some (sent link (take n bytes))) old.disk new.disk → (m : Moment)
    → WasAt sent_by new.disk.start new.disk.calls (length new.disk.calls) m → SendsPart (host_told old) link bytes m
send_moment old new link n bytes after m w =
    let now = was_now sent_by new.disk.start new.disk.calls m w in
    let of : ToldLink → List ℕ = λ l. l.sent in
    record {
      image = λ two told.
          let same : files_at old.disk.start old.disk.calls ≡ two = cc in
          subst (λ (f : Two File). IsImage f m.files) (same_two (Some (sent link (take n bytes))) old.disk new.disk (λ _. refl) after ∙ same) now.0;
      count = n;
      sent = now.1 ∙ ap (map of) (ap (links_after []) after.calls ∙ links_after-push [] old.disk.calls (sent link (take n bytes)));
    }

pub send_call : (old new : MemHostValue) (link n : ℕ) (bytes : List ℕ) → AfterCall (Some (sent link (take n bytes))) old.disk new.disk
    → LinkCall (SendsPart (host_told old) link bytes) (host_told old) (host_told new)
send_call old new link n bytes after =
    let more = Some (sent link (take n bytes)) in
    let pass = passes sent_by old.disk.start new.disk.start old.disk.calls new.disk.calls more after.start after.calls in
    record {
      same_files = ap Some (same_two more old.disk new.disk (λ _. refl) after);
      same_faults = after.faults;
      calls = after.no_call;
      time = record {
        later = pass.later;
        nothing_else = λ t m _ w. elim (pass.nothing_else t m w) [ inl before ↦ inl before | inr now ↦ inr (send_moment old new link n bytes after m now) ];
        keeps = λ t m _ w. pass.keeps t m w;
      };
    }

-- a send of which nothing went out
pub unsent_call : (old new : MemHostValue) (link : ℕ) (bytes : List ℕ) → new.disk ≡ old.disk → LinkCall (SendsPart (host_told old) link bytes) (host_told old) (host_told new)
unsent_call old new link bytes e =
    let after = after_none old.disk new.disk e in
    let pass = passes sent_by old.disk.start new.disk.start old.disk.calls new.disk.calls None after.start after.calls in
    record {
      same_files = ap Some (same_two None old.disk new.disk tt after);
      same_faults = after.faults;
      calls = after.no_call;
      time = record {
        later = pass.later;
        nothing_else = λ t m _ w. inl (subst (λ (d : MemDiskValue). WasAt sent_by d.start d.calls t m) e w);
        keeps = λ t m _ w. pass.keeps t m w;
      };
    }

pub sends_call : (link : ℕ) (bytes : List ℕ) (result : Result (Unit {0}) Failed) (old new : MemHostValue) → MakesSend link bytes result old new
    → LinkCall (SendsPart (host_told old) link bytes) (host_told old) (host_told new)
sends_call link bytes (Ok _) old new makes =
    let whole : bytes ≡ take (length bytes) bytes = sym (take_all (length bytes) bytes (omega arith)) in
    send_call old new link (length bytes) bytes (after_one (sent link (take (length bytes) bytes)) old.disk new.disk refl (makes.outcome.disk ∙ ap (λ b. with_call (sent link b) old.disk) whole))
sends_call link bytes (Err _) old new makes =
    elim makes.outcome.cause [
      | inl due ↦ send_call old new link (length bytes / 2) bytes (after_one (sent link (take (length bytes / 2) bytes)) old.disk new.disk refl due.disk)
      | inr none ↦ unsent_call old new link bytes none.disk
    ]

pub dials_call : (spec : List ℕ) (result : Result ℕ Failed) (old new : MemHostValue) → MakesDial spec result old new → QuietCall (host_told old) (host_told new)
dials_call spec (Ok _) old new makes = quiet_call (Some (dialled spec)) old new (λ _. refl) (after_one (dialled spec) old.disk new.disk refl makes.outcome.disk)
dials_call spec (Err _) old new makes =
    elim makes.outcome.cause [
      | inl due ↦ quiet_call None old new tt (after_none old.disk new.disk due.disk)
      | inr none ↦ quiet_call None old new tt (after_none old.disk new.disk none.disk)
    ]

replies_call : (link room : ℕ) (reply : Reply) (old new : MemHostValue) → RepliesOnLink link room reply old new → QuietCall (host_told old) (host_told new)
replies_call link room reply old new r = quiet_call (Some (answered link _)) old new (λ _. refl) (after_one (answered link _) old.disk new.disk refl r.disk)

pub answers_call : (link : ℕ) (answer : Heard) (buf : List ℕ) (old new : MemHostValue) → MakesAnswer link answer buf old new → QuietCall (host_told old) (host_told new)
answers_call link (heard.Got n) buf old new makes = replies_call link _ _ old new makes.outcome
answers_call link heard.Idle buf old new makes = replies_call link _ _ old new makes.outcome
answers_call link heard.End buf old new makes = replies_call link _ _ old new makes.outcome
answers_call link heard.Failed buf old new makes =
    elim makes.outcome.cause [
      | inl due ↦ quiet_call None old new tt (after_none old.disk new.disk due.disk)
      | inr none ↦ quiet_call None old new tt (after_none old.disk new.disk none.disk)
    ]
