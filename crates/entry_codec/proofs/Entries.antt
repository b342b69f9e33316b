-- The reader of an entry.
use Rattle.std.proofs.Common.{◌≡◌, ℕ, ◌^◌, ◌<◌, List, [], ◌∷◌, ◌++◌, length, refl, sym, ap, subst, ◌∙◌}
use Rattle.std.specs.Prelude.{Option, Some, None}
use Rattle.std.specs.Int.{w32, w64, to_be_bytes}
use Rattle.std.specs.List.{AllByRecursion}
use Rattle.sync_ids.specs.Values.{IsMessage, MessageValue}
use Rattle.sync_rules.specs.declared.entries.Entry.{Entry}
use Rattle.sync_rules.specs.declared.entries.Entry.TheVariants as entry
use Rattle.sync_rules.specs.declared.entries.Level.{Level}
use Rattle.sync_rules.specs.declared.entries.Out.{Out}
use Rattle.sync_rules.specs.declared.entries.Out.TheVariants as out
use Rattle.sync_rules.specs.declared.entries.Tried.{Tried}
use Rattle.sync_rules.specs.declared.states.Origin.{Origin}
use Rattle.entry_codec.specs.declared.naming.Format.{Format}
use Rattle.entry_codec.specs.declared.naming.Format.TheVariants as format
use Rattle.entry_codec.specs.Spelling.{EntryNames, IsDef, IsEntry, IsId, IsOfFormat, IsOld, IsOrigin, IsOut, IsSession, IsTried, OutNames, def_bytes, entry_bytes, level_byte, message_bytes, origin_bytes, out_bytes, session_bytes, tried_bytes}
use Rattle.entry_codec.specs.Reading.{IdReader, account_of, beside, both, byte_in, def_in, entry_by, entry_of, heard_of, id_in, is_between, known_of, level_in, made, meant, message_in, moved_of, be_number_in, origin_in, out_in, pair_in, session_in, step_of, tried_in}
use Rattle.entry_codec.proofs.AccountParts.{kept_reads, tried_reads, want_reads}
use Rattle.entry_codec.proofs.FormatKinds.{either, of_old}
use Rattle.entry_codec.proofs.Readers.{IsBytes, IsReader, both_reads, byte_reads, part, part_is}
use Rattle.entry_codec.proofs.Parts.{behind_byte, def_reads, id_reads, level_reads, message_reads, number32, number64, out_reads, session_reads, tested, told}

-- ---- what several kinds share

abbrev id_bytes : List ℕ → List ℕ
id_bytes id = id

abbrev IsWhole : List ℕ → Type 0
IsWhole id = length id ≡ 32

level_entry_reads : IsReader (λ (a : ℕ × (List ℕ × Level)). (a.0 ∷ []) ++ (a.1.0 ++ (level_byte a.1.1 ∷ []))) (λ a. (a.0 < 256) × (IsWhole a.1.0 × Unit {0})) (both byte_in (both id_in level_in))
level_entry_reads =
    both_reads (λ n. n ∷ []) (λ n. n < 256) byte_in (λ (a : List ℕ × Level). a.0 ++ (level_byte a.1 ∷ [])) (λ a. IsWhole a.0 × Unit {0}) (both id_in level_in) byte_reads
    (both_reads id_bytes IsWhole id_in (λ l. level_byte l ∷ []) (λ l. Unit {0}) level_in id_reads level_reads)

take_reads : IsReader (λ (a : ℕ × ℕ). to_be_bytes w32 a.0 ++ to_be_bytes w64 a.1) (λ a. (a.0 < 2 ^ 32) × (a.1 < 2 ^ 64)) (both (be_number_in w32) (be_number_in w64))
take_reads = both_reads (to_be_bytes w32) (λ n. n < 2 ^ 32) (be_number_in w32) (to_be_bytes w64) (λ n. n < 2 ^ 64) (be_number_in w64) number32 number64

arrive_reads : IsReader (λ (a : ℕ × MessageValue). to_be_bytes w32 a.0 ++ message_bytes a.1) (λ a. (a.0 < 2 ^ 32) × IsMessage a.1) (both (be_number_in w32) message_in)
arrive_reads = both_reads (to_be_bytes w32) (λ n. n < 2 ^ 32) (be_number_in w32) message_bytes IsMessage message_in number32 message_reads

-- a session's number and an id that is written and read in some way
abbrev pair_bytes : (List ℕ → List ℕ) → ℕ × List ℕ → List ℕ
pair_bytes S a = to_be_bytes w32 a.0 ++ S a.1

abbrev IsPair : (List ℕ → Type 0) → ℕ × List ℕ → Type 0
IsPair L a = (a.0 < 2 ^ 32) × L a.1

pair_reads : (S : List ℕ → List ℕ) (L : List ℕ → Type 0) (p : IdReader) → IsReader S L p → IsReader (pair_bytes S) (IsPair L) (pair_in p)
unfolding pair_in
pair_reads S L p r = both_reads (to_be_bytes w32) (λ n. n < 2 ^ 32) (be_number_in w32) S L p number32 r

offered_reads : IsReader (pair_bytes id_bytes) (IsPair IsWhole) (pair_in id_in)
offered_reads = pair_reads id_bytes IsWhole id_in id_reads

-- what a part that stands for a value was
meant_some : {A B : Type 0} → (f : A → Option B) (o : Option (A × List ℕ)) (b : B) (rest : List ℕ) → meant f o ≡ Some (b, rest) → (a : A) × (o ≡ Some (a, rest)) × (f a ≡ Some b)
meant_some f None b rest e = absurd cc
meant_some {A} {B} f (Some x) b rest e = go (f x.0) refl e where
  go : (o : Option B) → f x.0 ≡ o → beside o x.1 ≡ Some (b, rest) → (a : A) × (Some x ≡ Some (a, rest)) × (f a ≡ Some b)
  go None k h = absurd cc
  go (Some c) k h =
      let is = part_is c b x.1 rest h in
      (x.0, ap (λ (r : List ℕ). part x.0 r) is.1, k ∙ ap (λ (y : B). Some y) is.0)

-- ---- where the ids of messages that are held are written and read in some way, and keep N

module _ (S : List ℕ → List ℕ) (N : List ℕ → Type 0) (p : IdReader) (r : IsReader S (λ id. IsId id × N id) p) where
  abbrev IsHeldId : List ℕ → Type 0
  IsHeldId id = IsId id × N id

  abbrev IsOutIn : Out → Type 0
  IsOutIn o = IsOut o × OutNames N o

  -- an entry of some kinds
  abbrev IsEntryIn : (Entry → Type 0) → Entry → Type 0
  IsEntryIn K e = IsEntry e × EntryNames N e × K e

  abbrev out_entry_bytes : ℕ × (ℕ × Out) → List ℕ
  out_entry_bytes a = to_be_bytes w32 a.0 ++ (to_be_bytes w64 a.1.0 ++ out_bytes S a.1.1)

  abbrev IsOutEntry : ℕ × (ℕ × Out) → Type 0
  IsOutEntry a = (a.0 < 2 ^ 32) × ((a.1.0 < 2 ^ 64) × IsOutIn a.1.1)

  out_entry_reads : IsReader out_entry_bytes IsOutEntry (both (be_number_in w32) (both (be_number_in w64) (out_in p)))
  out_entry_reads =
      both_reads (to_be_bytes w32) (λ n. n < 2 ^ 32) (be_number_in w32) (λ (a : ℕ × Out). to_be_bytes w64 a.0 ++ out_bytes S a.1) (λ a. (a.0 < 2 ^ 64) × IsOutIn a.1) (both (be_number_in w64) (out_in p)) number32
      (both_reads (to_be_bytes w64) (λ n. n < 2 ^ 64) (be_number_in w64) (out_bytes S) IsOutIn (out_in p) number64 (out_reads S N p r))

  heard_reads : IsReader (pair_bytes S) (IsPair IsHeldId) (pair_in p)
  heard_reads = pair_reads S IsHeldId p r

  -- ---- what is written is read

  brief_back : (f : Format) (n : ℕ) (more : List ℕ) → IsEntryIn (IsOfFormat f) (entry.Brief n) → account_of f p 16 (to_be_bytes w32 n ++ more) ≡ Some (entry.Brief n, more)
  brief_back format.Whole n more is = absurd is.2
  brief_back format.Short n more is = ap (made entry.Brief) (number32.back n more is.0)

  kept_back : (f : Format) (from : Origin) (m : MessageValue) (more : List ℕ) → IsEntryIn (IsOfFormat f) (entry.Kept from m)
      → account_of f p 17 ((origin_bytes from ++ message_bytes m) ++ more) ≡ Some (entry.Kept from m, more)
  kept_back format.Whole from m more is = absurd is.2
  kept_back format.Short from m more is = ap (made (λ (a : Origin × MessageValue). entry.Kept a.0 a.1)) (kept_reads.back (from, m) more is.0)

  tried_back : (f : Format) (t : Tried) (more : List ℕ) → IsEntryIn (IsOfFormat f) (entry.Tried t) → account_of f p 18 (tried_bytes S t ++ more) ≡ Some (entry.Tried t, more)
  tried_back format.Whole t more is = absurd is.2
  tried_back format.Short t more is = ap (made entry.Tried) ((tried_reads S N p r).back t more (is.0, is.1))

  want_back : (f : Format) (contact : ℕ) (id more : List ℕ) → IsEntryIn (IsOfFormat f) (entry.Want contact id)
      → account_of f p 19 (((contact ∷ []) ++ id) ++ more) ≡ Some (entry.Want contact id, more)
  want_back format.Whole contact id more is = absurd is.2
  want_back format.Short contact id more is = ap (made (λ (a : ℕ × List ℕ). entry.Want a.0 a.1)) (want_reads.back (contact, id) more is.0)

  back_by : (f : Format) (e : Entry) (more : List ℕ) → IsEntryIn (IsOfFormat f) e → entry_by f p (entry_bytes S e ++ more) ≡ Some (e, more)
  unfolding entry_by byte_in
  back_by f (entry.Contact c) more is = ap (made entry.Contact) (byte_reads.back c more is.0)
  back_by f (entry.Group def) more is = ap (made entry.Group) (def_reads.back def more is.0)
  back_by f (entry.Level c g l) more is = ap (made (λ (a : ℕ × (List ℕ × Level)). entry.Level a.0 a.1.0 a.1.1)) (level_entry_reads.back (c, (g, l)) more (is.0.0, (is.0.1, tt)))
  back_by f (entry.Session s) more is = ap (made entry.Session) (session_reads.back s more is.0)
  back_by f (entry.Take s k) more is = ap (made (λ (a : ℕ × ℕ). entry.Take a.0 a.1)) (take_reads.back (s, k) more is.0)
  back_by f (entry.Author m) more is = ap (made entry.Author) (message_reads.back m more is.0)
  back_by f (entry.Arrive s m) more is = ap (made (λ (a : ℕ × MessageValue). entry.Arrive a.0 a.1)) (arrive_reads.back (s, m) more is.0)
  back_by f (entry.Judged id) more is = ap (meant (step_of 8)) (r.back id more (is.0, is.1))
  back_by f (entry.Deliver id) more is = ap (meant (step_of 9)) (r.back id more (is.0, is.1))
  back_by f (entry.Invalid id) more is = ap (meant (step_of 10)) (r.back id more (is.0, is.1))
  back_by f (entry.Again s id) more is = ap (meant (heard_of 11)) (heard_reads.back (s, id) more (is.0.0, (is.0.1, is.1)))
  back_by f (entry.Offered s id) more is = ap (made (λ (a : ℕ × List ℕ). entry.Offered a.0 a.1)) (offered_reads.back (s, id) more is.0)
  back_by f (entry.Seen s id) more is = ap (meant (heard_of 13)) (heard_reads.back (s, id) more (is.0.0, (is.0.1, is.1)))
  back_by f (entry.Asked s id) more is = ap (meant (heard_of 14)) (heard_reads.back (s, id) more (is.0.0, (is.0.1, is.1)))
  back_by f (entry.Out s now what) more is =
      ap (made (λ (a : ℕ × (ℕ × Out)). entry.Out a.0 a.1.0 a.1.1)) (out_entry_reads.back (s, (now, what)) more (is.0.0, (is.0.1, (is.0.2, is.1))))
  back_by f (entry.Brief n) more is = brief_back f n more is
  back_by f (entry.Kept from m) more is = kept_back f from m more is
  back_by f (entry.Tried t) more is = tried_back f t more is
  back_by f (entry.Want contact id) more is = want_back f contact id more is

  -- ---- what is read was written

  -- an entry of some kinds was read of these bytes
  abbrev FoundOf : (Entry → Type 0) → List ℕ → List ℕ → Entry → Type 0
  FoundOf K bytes rest e = IsEntryIn K e × (bytes ≡ entry_bytes S e ++ rest)

  -- one of the older kinds
  abbrev Found : List ℕ → List ℕ → Entry → Type 0
  Found bytes rest e = FoundOf IsOld bytes rest e

  found_of : {A : Type 0} → (K : Entry → Type 0) (T : A → List ℕ) (L : A → Type 0) (q : List ℕ → Option (A × List ℕ)) → IsReader T L q
      → (f : A → Entry) (k : ℕ) → ((a : A) → L a → IsEntryIn K (f a)) → ((a : A) → entry_bytes S (f a) ≡ k ∷ T a)
      → (bytes mid rest : List ℕ) (n : ℕ) (e : Entry) → IsBytes mid → bytes ≡ n ∷ mid → n ≡ k → made f (q mid) ≡ Some (e, rest) → FoundOf K bytes rest e
  found_of K T L q reads f k keeps spelled bytes mid rest n e fits first same h =
      told T L q reads f (entry_bytes S) (IsEntryIn K) k keeps spelled bytes mid rest n e fits first same h

  found_by : {A : Type 0} → (T : A → List ℕ) (L : A → Type 0) (q : List ℕ → Option (A × List ℕ)) → IsReader T L q
      → (f : A → Entry) (k : ℕ) → ((a : A) → L a → IsEntryIn IsOld (f a)) → ((a : A) → entry_bytes S (f a) ≡ k ∷ T a)
      → (bytes mid rest : List ℕ) (n : ℕ) (e : Entry) → IsBytes mid → bytes ≡ n ∷ mid → n ≡ k → made f (q mid) ≡ Some (e, rest) → Found bytes rest e
  found_by T L q reads f k keeps spelled bytes mid rest n e fits first same h =
      found_of IsOld T L q reads f k keeps spelled bytes mid rest n e fits first same h

  known_found : (bytes mid rest : List ℕ) (n : ℕ) (e : Entry) → IsBytes mid → bytes ≡ n ∷ mid → known_of n mid ≡ Some (e, rest) → Found bytes rest e
  known_found bytes mid rest n e fits first h =
      tested (Found bytes rest e) n 1 (made entry.Contact (byte_in mid)) _ (Some (e, rest))
      (λ k h. found_by (λ (a : ℕ). a ∷ []) (λ a. a < 256) byte_in byte_reads entry.Contact 1 (λ a l. (l, tt, tt)) (λ a. refl) bytes mid rest n e fits first k h)
      (tested (Found bytes rest e) n 2 (made entry.Group (def_in mid)) _ (Some (e, rest))
      (λ k h. found_by def_bytes IsDef def_in def_reads entry.Group 2 (λ a l. (l, tt, tt)) (λ a. refl) bytes mid rest n e fits first k h)
      (tested (Found bytes rest e) n 3 (made (λ (a : ℕ × (List ℕ × Level)). entry.Level a.0 a.1.0 a.1.1) (both byte_in (both id_in level_in) mid)) None (Some (e, rest))
      (λ k h. found_by (λ (a : ℕ × (List ℕ × Level)). (a.0 ∷ []) ++ (a.1.0 ++ (level_byte a.1.1 ∷ []))) (λ a. (a.0 < 256) × (IsWhole a.1.0 × Unit {0})) (both byte_in (both id_in level_in)) level_entry_reads
      (λ a. entry.Level a.0 a.1.0 a.1.1) 3 (λ a l. ((l.0, l.1.0), tt, tt)) (λ a. refl) bytes mid rest n e fits first k h)
      (λ h. absurd cc)))
      h

  moved_found : (bytes mid rest : List ℕ) (n : ℕ) (e : Entry) → IsBytes mid → bytes ≡ n ∷ mid → moved_of p n mid ≡ Some (e, rest) → Found bytes rest e
  moved_found bytes mid rest n e fits first h =
      tested (Found bytes rest e) n 4 (made entry.Session (session_in mid)) _ (Some (e, rest))
      (λ k h. found_by session_bytes IsSession session_in session_reads entry.Session 4 (λ a l. (l, tt, tt)) (λ a. refl) bytes mid rest n e fits first k h)
      (tested (Found bytes rest e) n 5 (made (λ (a : ℕ × ℕ). entry.Take a.0 a.1) (both (be_number_in w32) (be_number_in w64) mid)) _ (Some (e, rest))
      (λ k h. found_by (λ (a : ℕ × ℕ). to_be_bytes w32 a.0 ++ to_be_bytes w64 a.1) (λ a. (a.0 < 2 ^ 32) × (a.1 < 2 ^ 64)) (both (be_number_in w32) (be_number_in w64)) take_reads
      (λ a. entry.Take a.0 a.1) 5 (λ a l. (l, tt, tt)) (λ a. refl) bytes mid rest n e fits first k h)
      (tested (Found bytes rest e) n 6 (made entry.Author (message_in mid)) _ (Some (e, rest))
      (λ k h. found_by message_bytes IsMessage message_in message_reads entry.Author 6 (λ a l. (l, tt, tt)) (λ a. refl) bytes mid rest n e fits first k h)
      (tested (Found bytes rest e) n 7 (made (λ (a : ℕ × MessageValue). entry.Arrive a.0 a.1) (both (be_number_in w32) message_in mid)) _ (Some (e, rest))
      (λ k h. found_by (λ (a : ℕ × MessageValue). to_be_bytes w32 a.0 ++ message_bytes a.1) (λ a. (a.0 < 2 ^ 32) × IsMessage a.1) (both (be_number_in w32) message_in) arrive_reads
      (λ a. entry.Arrive a.0 a.1) 7 (λ a l. (l, tt, tt)) (λ a. refl) bytes mid rest n e fits first k h)
      (tested (Found bytes rest e) n 15 (made (λ (a : ℕ × (ℕ × Out)). entry.Out a.0 a.1.0 a.1.1) (both (be_number_in w32) (both (be_number_in w64) (out_in p)) mid)) None (Some (e, rest))
      (λ k h. found_by out_entry_bytes IsOutEntry (both (be_number_in w32) (both (be_number_in w64) (out_in p))) out_entry_reads
      (λ a. entry.Out a.0 a.1.0 a.1.1) 15 (λ a l. ((l.0, l.1.0, l.1.1.0), l.1.1.1, tt)) (λ a. refl) bytes mid rest n e fits first k h)
      (λ h. absurd cc)))))
      h

  -- an entry of a part that was read behind its tag
  some_found : {A : Type 0} → (T : A → List ℕ) (L : A → Type 0) (f : A → Entry) (k : ℕ) → ((a : A) → L a → IsEntryIn IsOld (f a)) → ((a : A) → entry_bytes S (f a) ≡ k ∷ T a)
      → (bytes mid rest : List ℕ) (n : ℕ) (a : A) (e : Entry) → L a → mid ≡ T a ++ rest → bytes ≡ n ∷ mid → n ≡ k → Some (f a) ≡ Some e → Found bytes rest e
  some_found T L f k keeps spelled bytes mid rest n a e l m first same h =
      let is : f a ≡ e = cc in
      let P : Entry → Type 0 = λ x. Found bytes rest x in
      subst P is (keeps a l, first ∙ ap (λ (x : ℕ). x ∷ mid) same ∙ ap (λ (x : List ℕ). k ∷ x) m ∙ ap (λ (x : List ℕ). x ++ rest) (sym (spelled a)))

  step_found : (bytes mid rest : List ℕ) (n : ℕ) (e : Entry) → IsBytes mid → bytes ≡ n ∷ mid → meant (step_of n) (p mid) ≡ Some (e, rest) → Found bytes rest e
  step_found bytes mid rest n e fits first h =
      let m = meant_some (step_of n) (p mid) e rest h in
      let s = r.sound mid rest m.0 fits m.1 in
      tested (Found bytes rest e) n 8 (Some (entry.Judged m.0)) _ (Some e)
      (λ k h. some_found S IsHeldId entry.Judged 8 (λ a l. (l.0, l.1, tt)) (λ a. refl) bytes mid rest n m.0 e s.0 s.1 first k h)
      (tested (Found bytes rest e) n 9 (Some (entry.Deliver m.0)) _ (Some e)
      (λ k h. some_found S IsHeldId entry.Deliver 9 (λ a l. (l.0, l.1, tt)) (λ a. refl) bytes mid rest n m.0 e s.0 s.1 first k h)
      (tested (Found bytes rest e) n 10 (Some (entry.Invalid m.0)) None (Some e)
      (λ k h. some_found S IsHeldId entry.Invalid 10 (λ a l. (l.0, l.1, tt)) (λ a. refl) bytes mid rest n m.0 e s.0 s.1 first k h)
      (λ h. absurd cc)))
      m.2

  heard_found : (bytes mid rest : List ℕ) (n : ℕ) (e : Entry) → IsBytes mid → bytes ≡ n ∷ mid → meant (heard_of n) (pair_in p mid) ≡ Some (e, rest) → Found bytes rest e
  heard_found bytes mid rest n e fits first h =
      let m = meant_some (heard_of n) (pair_in p mid) e rest h in
      let s = heard_reads.sound mid rest m.0 fits m.1 in
      tested (Found bytes rest e) n 11 (Some (entry.Again m.0.0 m.0.1)) _ (Some e)
      (λ k h. some_found (pair_bytes S) (IsPair IsHeldId) (λ a. entry.Again a.0 a.1) 11 (λ a l. ((l.0, l.1.0), l.1.1, tt)) (λ a. refl) bytes mid rest n m.0 e s.0 s.1 first k h)
      (tested (Found bytes rest e) n 13 (Some (entry.Seen m.0.0 m.0.1)) _ (Some e)
      (λ k h. some_found (pair_bytes S) (IsPair IsHeldId) (λ a. entry.Seen a.0 a.1) 13 (λ a l. ((l.0, l.1.0), l.1.1, tt)) (λ a. refl) bytes mid rest n m.0 e s.0 s.1 first k h)
      (tested (Found bytes rest e) n 14 (Some (entry.Asked m.0.0 m.0.1)) None (Some e)
      (λ k h. some_found (pair_bytes S) (IsPair IsHeldId) (λ a. entry.Asked a.0 a.1) 14 (λ a l. ((l.0, l.1.0), l.1.1, tt)) (λ a. refl) bytes mid rest n m.0 e s.0 s.1 first k h)
      (λ h. absurd cc)))
      m.2

  offered_found : (bytes mid rest : List ℕ) (n : ℕ) (e : Entry) → IsBytes mid → bytes ≡ n ∷ mid → n ≡ 12
      → made (λ (a : ℕ × List ℕ). entry.Offered a.0 a.1) (pair_in id_in mid) ≡ Some (e, rest) → Found bytes rest e
  offered_found bytes mid rest n e fits first k h =
      found_by (pair_bytes id_bytes) (IsPair IsWhole) (pair_in id_in) offered_reads (λ a. entry.Offered a.0 a.1) 12 (λ a l. (l, tt, tt)) (λ a. refl) bytes mid rest n e fits first k h

  abbrev Second : Entry → Type 0
  Second e = IsOfFormat format.Short e

  -- the kinds of a brief account, which the first format has not
  account_found : (f : Format) (bytes mid rest : List ℕ) (n : ℕ) (e : Entry) → IsBytes mid → bytes ≡ n ∷ mid → account_of f p n mid ≡ Some (e, rest) → FoundOf (IsOfFormat f) bytes rest e
  account_found format.Whole bytes mid rest n e fits first h = absurd cc
  account_found format.Short bytes mid rest n e fits first h =
      tested (FoundOf Second bytes rest e) n 16 (made entry.Brief (be_number_in w32 mid)) _ (Some (e, rest))
      (λ k h. found_of Second (to_be_bytes w32) (λ n. n < 2 ^ 32) (be_number_in w32) number32 entry.Brief 16 (λ a l. (l, tt, tt)) (λ a. refl) bytes mid rest n e fits first k h)
      (tested (FoundOf Second bytes rest e) n 17 (made (λ (a : Origin × MessageValue). entry.Kept a.0 a.1) (both origin_in message_in mid)) _ (Some (e, rest))
      (λ k h. found_of Second (λ (a : Origin × MessageValue). origin_bytes a.0 ++ message_bytes a.1) (λ a. IsOrigin a.0 × IsMessage a.1) (both origin_in message_in) kept_reads
      (λ a. entry.Kept a.0 a.1) 17 (λ a l. (l, tt, tt)) (λ a. refl) bytes mid rest n e fits first k h)
      (tested (FoundOf Second bytes rest e) n 18 (made entry.Tried (tried_in p mid)) _ (Some (e, rest))
      (λ k h. found_of Second (tried_bytes S) (λ t. IsTried t × N t.id) (tried_in p) (tried_reads S N p r) entry.Tried 18 (λ a l. (l.0, l.1, tt)) (λ a. refl) bytes mid rest n e fits first k h)
      (tested (FoundOf Second bytes rest e) n 19 (made (λ (a : ℕ × List ℕ). entry.Want a.0 a.1) (both byte_in id_in mid)) None (Some (e, rest))
      (λ k h. found_of Second (λ (a : ℕ × List ℕ). (a.0 ∷ []) ++ a.1) (λ a. (a.0 < 256) × IsWhole a.1) (both byte_in id_in) want_reads
      (λ a. entry.Want a.0 a.1) 19 (λ a l. (l, tt, tt)) (λ a. refl) bytes mid rest n e fits first k h)
      (λ h. absurd cc))))
      h

  old_found : (f : Format) (bytes rest : List ℕ) (e : Entry) → Found bytes rest e → FoundOf (IsOfFormat f) bytes rest e
  old_found f bytes rest e found = ((found.0.0, found.0.1, of_old f e found.0.2), found.1)

  found_in : (f : Format) (bytes rest : List ℕ) (e : Entry) → IsBytes bytes → entry_by f p bytes ≡ Some (e, rest) → FoundOf (IsOfFormat f) bytes rest e
  unfolding entry_by
  found_in f bytes rest e fits h =
      let c = behind_byte (entry_of f p) bytes rest e fits h in
      let P : Type 0 = FoundOf (IsOfFormat f) bytes rest e in
      let old : Found bytes rest e → P = old_found f bytes rest e in
      either P (is_between 1 3 c.0) (known_of c.0 c.1) _ (Some (e, rest)) (λ k. old (known_found bytes c.1 rest c.0 e c.3 c.2 k))
      (either P (is_between 8 10 c.0) (meant (step_of c.0) (p c.1)) _ (Some (e, rest)) (λ k. old (step_found bytes c.1 rest c.0 e c.3 c.2 k))
      (tested P c.0 12 (made (λ (a : ℕ × List ℕ). entry.Offered a.0 a.1) (pair_in id_in c.1)) _ (Some (e, rest))
      (λ k m. old (offered_found bytes c.1 rest c.0 e c.3 c.2 k m))
      (either P (is_between 11 14 c.0) (meant (heard_of c.0) (pair_in p c.1)) _ (Some (e, rest)) (λ k. old (heard_found bytes c.1 rest c.0 e c.3 c.2 k))
      (either P (is_between 16 19 c.0) (account_of f p c.0 c.1) (moved_of p c.0 c.1) (Some (e, rest)) (account_found f bytes c.1 rest c.0 e c.3 c.2)
      (λ k. old (moved_found bytes c.1 rest c.0 e c.3 c.2 k))))))
      c.4

  -- the reader of an entry
  pub entry_reads : (f : Format) → IsReader (entry_bytes S) (IsEntryIn (IsOfFormat f)) (entry_by f p)
  entry_reads f = record { back = back_by f; sound = found_in f }

-- ---- the first format

-- what asks for nothing
all_free : (ids : List (List ℕ)) → AllByRecursion (λ id. Unit {0}) ids
all_free [] = tt
all_free (id ∷ ids) = (tt, all_free ids)

out_free : (o : Out) → OutNames (λ id. Unit {0}) o
out_free (out.Acks ids) = all_free ids
out_free (out.Requests ids) = tt
out_free (out.Offers ids) = all_free ids
out_free (out.Send id) = tt

pub entry_free : (e : Entry) → EntryNames (λ id. Unit {0}) e
entry_free (entry.Out s now what) = out_free what
entry_free _ = tt
