-- One call more on one file, and the file from its last sync on.
use Rattle.std.proofs.Common.{◌≡◌, ℕ, ◌+◌, ◌<◌, ◌≤◌, Bool, true, false, List, [], ◌∷◌, ◌++◌, length, take, drop, map, get_or, refl, sym, ap, ◌∙◌, subst, arith, take-append-drop, length-drop, ◌-◌}
use Rattle.std.specs.Prelude.{if◌then◌else◌}
use Rattle.std.proofs.lemmas.List.{map-append, take_more, take_all}
use Rattle.outside.specs.declared.call.Call.{Call}
use Rattle.outside.specs.MemDisk.{Change, wrote, wrote_not, cut, cut_not, synced, dialled, sent, answered, hosted, change_of, KeptFile, kept, after_wrote, after_wrote_not}
use Rattle.outside.specs.MemImage.{same_file, one_changed, one_after, now_changed, now_after, is_sync_of}

pub one_after-append : (file : ℕ) (k : KeptFile) (calls more : List Change) → one_after file k (calls ++ more) ≡ one_after file (one_after file k calls) more
one_after-append file k [] more = refl
one_after-append file k (c ∷ calls) more = one_after-append file (one_changed file k c) calls more

pub now_after-append : (file : ℕ) (now : List ℕ) (calls more : List Change) → now_after file now (calls ++ more) ≡ now_after file (now_after file now calls) more
now_after-append file now [] more = refl
now_after-append file now (c ∷ calls) more = now_after-append file (now_changed file now c) calls more

-- the first calls, and one more of them
pub changes_more : (calls : List Call) (i : ℕ) (call : Call) → i < length calls → call ≡ get_or calls i call → map change_of (take (i + 1) calls) ≡ map change_of (take i calls) ++ change_of call ∷ []
changes_more calls i call within is_call =
    ap (map change_of) (take_more calls i call within ∙ ap (λ c. take i calls ++ c ∷ []) (sym is_call)) ∙ map-append change_of (take i calls) (call ∷ [])

pub one_step : (file : ℕ) (k k' k'' : KeptFile) (calls : List Call) (i : ℕ) (call : Call) → i < length calls → call ≡ get_or calls i call
    → k' ≡ one_after file k (map change_of (take i calls)) → k'' ≡ one_changed file k' (change_of call) → k'' ≡ one_after file k (map change_of (take (i + 1) calls))
one_step file k k' k'' calls i call within is_call before step =
    step ∙ ap (λ j. one_changed file j (change_of call)) before
    ∙ sym (one_after-append file k (map change_of (take i calls)) (change_of call ∷ []))
    ∙ ap (one_after file k) (sym (changes_more calls i call within is_call))

pub now_step : (file : ℕ) (b b' b'' : List ℕ) (calls : List Call) (i : ℕ) (call : Call) → i < length calls → call ≡ get_or calls i call
    → b' ≡ now_after file b (map change_of (take i calls)) → b'' ≡ now_changed file b' (change_of call) → b'' ≡ now_after file b (map change_of (take (i + 1) calls))
now_step file b b' b'' calls i call within is_call before step =
    step ∙ ap (λ j. now_changed file j (change_of call)) before
    ∙ sym (now_after-append file b (map change_of (take i calls)) (change_of call ∷ []))
    ∙ ap (now_after file b) (sym (changes_more calls i call within is_call))

-- ---- after a sync of the file nothing is pending

if_kept : (b : Bool) (k j : KeptFile) → b ≡ true → (if b then k else j) ≡ k
if_kept b k j e = ap (λ t. if t then k else j) e

pub sync_settles : (file : ℕ) (k : KeptFile) (c : Change) → is_sync_of file c ≡ true → one_changed file k c ≡ kept (one_changed file k c).file.now
sync_settles file k (synced other) e =
    let same = if_kept (same_file other file) (kept k.file.now) k e in
    same ∙ ap (λ (j : KeptFile). kept j.file.now) (sym same)
sync_settles file k (wrote _ _ _) e = cc
sync_settles file k (wrote_not _ _ _) e = cc
sync_settles file k (cut _ _) e = cc
sync_settles file k (cut_not _ _) e = cc
sync_settles file k (dialled _) e = cc
sync_settles file k (sent _ _) e = cc
sync_settles file k (answered _ _) e = cc
sync_settles file k hosted e = cc

pub settles_at : (file : ℕ) (bytes : List ℕ) (calls : List Call) (i : ℕ) (call : Call) → i < length calls → call ≡ get_or calls i call → is_sync_of file (change_of call) ≡ true
    → one_after file (kept bytes) (map change_of (take (i + 1) calls)) ≡ kept (one_after file (kept bytes) (map change_of (take (i + 1) calls))).file.now
settles_at file bytes calls i call within is_call is_sync =
    let k = one_after file (kept bytes) (map change_of (take i calls)) in
    let step : one_after file (kept bytes) (map change_of (take (i + 1) calls)) ≡ one_changed file k (change_of call) =
    ap (one_after file (kept bytes)) (changes_more calls i call within is_call) ∙ one_after-append file (kept bytes) (map change_of (take i calls)) (change_of call ∷ []) in
    step ∙ sync_settles file k (change_of call) is_sync ∙ ap (λ (j : KeptFile). kept j.file.now) (sym step)

-- ---- the bytes of what is kept

if_now : (b : Bool) (k j : KeptFile) → (if b then k else j).file.now ≡ (if b then k.file.now else j.file.now)
if_now true k j = refl
if_now false k j = refl

now_same : (b : Bool) (k j : KeptFile) → k.file.now ≡ j.file.now → (if b then k else j).file.now ≡ j.file.now
now_same true k j e = e
now_same false k j e = refl

now_of_changed : (file : ℕ) (k : KeptFile) (c : Change) → (one_changed file k c).file.now ≡ now_changed file k.file.now c
now_of_changed file k (wrote other at bytes) = if_now (same_file other file) (after_wrote k at bytes) k
now_of_changed file k (wrote_not other at bytes) = now_same (same_file other file) (after_wrote_not k at bytes) k refl
now_of_changed file k (cut other n) = if_now (same_file other file) _ k
now_of_changed file k (cut_not other n) = now_same (same_file other file) _ k refl
now_of_changed file k (synced other) = now_same (same_file other file) (kept k.file.now) k refl
now_of_changed file k (dialled _) = refl
now_of_changed file k (sent _ _) = refl
now_of_changed file k (answered _ _) = refl
now_of_changed file k hosted = refl

pub now_of_after : (file : ℕ) (k : KeptFile) (calls : List Change) → (one_after file k calls).file.now ≡ now_after file k.file.now calls
now_of_after file k [] = refl
now_of_after file k (c ∷ calls) = now_of_after file (one_changed file k c) calls ∙ ap (λ b. now_after file b calls) (now_of_changed file k c)

-- a file from its last sync on
pub replayed_is : (file : ℕ) (start base : List ℕ) (calls : List Call) (n : ℕ) (k : KeptFile)
    → one_after file (kept start) (map change_of (take n calls)) ≡ kept (one_after file (kept start) (map change_of (take n calls))).file.now
    → base ≡ now_after file start (map change_of (take n calls))
    → k ≡ one_after file (kept base) (map change_of (drop n calls))
    → k ≡ one_after file (kept start) (map change_of calls)
replayed_is file start base calls n k settled is_base is_k =
    let front = map change_of (take n calls) in
    let back = map change_of (drop n calls) in
    let same : kept base ≡ one_after file (kept start) front = ap kept (is_base ∙ sym (now_of_after file (kept start) front)) ∙ sym settled in
    let all : front ++ back ≡ map change_of calls = sym (map-append change_of (take n calls) (drop n calls)) ∙ ap (map change_of) (take-append-drop n calls) in
    is_k ∙ ap (λ j. one_after file j back) same ∙ sym (one_after-append file (kept start) front back) ∙ ap (one_after file (kept start)) all

-- the same of slices, as the code takes them
pub replayed_whole : (file : ℕ) (start base : List ℕ) (calls : List Call) (n m i : ℕ) (k r : KeptFile)
    → one_after file (kept start) (map change_of (take n calls)) ≡ kept (one_after file (kept start) (map change_of (take n calls))).file.now
    → base ≡ now_after file start (map change_of (take m calls)) → m ≡ n
    → r ≡ kept base
    → k ≡ one_after file r (map change_of (take i (take (length calls - n) (drop n calls))))
    → length (take (length calls - n) (drop n calls)) ≤ i
    → k ≡ one_after file (kept start) (map change_of calls)
replayed_whole file start base calls n m i k r settled is_base is_n is_r is_k end =
    let back : take i (take (length calls - n) (drop n calls)) ≡ drop n calls =
    take_all i (take (length calls - n) (drop n calls)) end ∙ take_all (length calls - n) (drop n calls) (omega (arith, length-drop n calls)) in
    replayed_is file start base calls n k settled (is_base ∙ ap (λ j. now_after file start (map change_of (take j calls))) is_n)
    (is_k ∙ ap (λ j. one_after file j (map change_of (take i (take (length calls - n) (drop n calls))))) is_r ∙ ap (λ l. one_after file (kept base) (map change_of l)) back)

-- the last sync so far, where this call is one
pub settles_more : (file : ℕ) (calls : List Call) (i s s' : ℕ) (call : Call) (b : Bool) → i < length calls → call ≡ get_or calls i call → b ≡ is_sync_of file (change_of call) → b ≡ true → s' ≡ i + 1
    → (bytes : List ℕ) → one_after file (kept bytes) (map change_of (take s' calls)) ≡ kept (one_after file (kept bytes) (map change_of (take s' calls))).file.now
settles_more file calls i s s' call b within is_call is_b holds is_next bytes =
    let P : ℕ → Type 0 = λ n. one_after file (kept bytes) (map change_of (take n calls)) ≡ kept (one_after file (kept bytes) (map change_of (take n calls))).file.now in
    subst P (sym is_next) (settles_at file bytes calls i call within is_call (sym is_b ∙ holds))
