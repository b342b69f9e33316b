-- The kinds of entries that a format has.
use Rattle.std.proofs.Common.{◌≡◌, ℕ, List, [], ◌∷◌, subst}
use Rattle.std.specs.Prelude.{Bool, true, false, Option, Some, None, if◌then◌else◌}
use Rattle.std.specs.Int.{w32, w64}
use Rattle.std.specs.List.{AllByRecursion}
use Rattle.sync_ids.specs.Values.{MessageValue}
use Rattle.sync_rules.specs.declared.entries.Entry.{Entry}
use Rattle.sync_rules.specs.declared.entries.Entry.TheVariants as entry
use Rattle.sync_rules.specs.declared.entries.Level.{Level}
use Rattle.sync_rules.specs.declared.entries.Out.{Out}
use Rattle.entry_codec.specs.declared.naming.Format.{Format}
use Rattle.entry_codec.specs.declared.naming.Format.TheVariants as format
use Rattle.entry_codec.specs.Spelling.{IsOfFormat, IsOld}
use Rattle.entry_codec.specs.Reading.{IdReader, account_of, be_number_in, beside, both, byte_in, def_in, entry_by, entry_of, heard_of, id_in, is_between, known_of, level_in, made, meant, message_in, moved_of, out_in, pair_in, session_in, step_of}
use Rattle.entry_codec.proofs.Parts.{some_same, tested}
use Rattle.entry_codec.proofs.Readers.{chained_some, part_is}

pub of_old : (f : Format) (e : Entry) → IsOld e → IsOfFormat f e
of_old format.Whole e is = is
of_old format.Short e is = tt

-- the second format has all kinds
pub short_kinds : (batch : List Entry) → AllByRecursion (IsOfFormat format.Short) batch
short_kinds [] = tt
short_kinds (e ∷ es) = (tt, short_kinds es)

pub short_journal : (j : List (List Entry)) → AllByRecursion (AllByRecursion (IsOfFormat format.Short)) j
short_journal [] = tt
short_journal (b ∷ bs) = (short_kinds b, short_journal bs)

-- ---- an entry that is read is of a kind that the format has

-- either answer of a test
pub either : {C : Type 0} → (P : Type 0) (b : Bool) (x y r : C) → (x ≡ r → P) → (y ≡ r → P) → (if b then x else y) ≡ r → P
either P true x y r first second e = first e
either P false x y r first second e = second e

made_old : {A : Type 0} → (g : A → Entry) (o : Option (A × List ℕ)) (e : Entry) (rest : List ℕ) → ((a : A) → IsOld (g a)) → made g o ≡ Some (e, rest) → IsOld e
made_old g None e rest each h = absurd cc
made_old g (Some x) e rest each h = subst IsOld (part_is (g x.0) e x.1 rest h).0 (each x.0)

meant_old : {A : Type 0} → (g : A → Option Entry) (o : Option (A × List ℕ)) (e : Entry) (rest : List ℕ) → ((a : A) (d : Entry) → g a ≡ Some d → IsOld d) → meant g o ≡ Some (e, rest) → IsOld e
meant_old g None e rest each h = absurd cc
meant_old g (Some x) e rest each h = go (g x.0) (each x.0) h where
  go : (o : Option Entry) → ((d : Entry) → o ≡ Some d → IsOld d) → beside o x.1 ≡ Some (e, rest) → IsOld e
  go None old k = absurd cc
  go (Some c) old k = subst IsOld (part_is c e x.1 rest k).0 (old c (λ i. Some c))

one_old : (d e : Entry) → IsOld d → Some d ≡ Some e → IsOld e
one_old d e is h = subst IsOld (some_same d e h) is

step_old : (n : ℕ) (id : List ℕ) (e : Entry) → step_of n id ≡ Some e → IsOld e
step_old n id e h =
    tested (IsOld e) n 8 (Some (entry.Judged id)) _ (Some e) (λ k. one_old (entry.Judged id) e tt)
    (tested (IsOld e) n 9 (Some (entry.Deliver id)) _ (Some e) (λ k. one_old (entry.Deliver id) e tt)
    (tested (IsOld e) n 10 (Some (entry.Invalid id)) None (Some e) (λ k. one_old (entry.Invalid id) e tt) (λ h. absurd cc)))
    h

heard_old : (n : ℕ) (a : ℕ × List ℕ) (e : Entry) → heard_of n a ≡ Some e → IsOld e
heard_old n a e h =
    tested (IsOld e) n 11 (Some (entry.Again a.0 a.1)) _ (Some e) (λ k. one_old (entry.Again a.0 a.1) e tt)
    (tested (IsOld e) n 13 (Some (entry.Seen a.0 a.1)) _ (Some e) (λ k. one_old (entry.Seen a.0 a.1) e tt)
    (tested (IsOld e) n 14 (Some (entry.Asked a.0 a.1)) None (Some e) (λ k. one_old (entry.Asked a.0 a.1) e tt) (λ h. absurd cc)))
    h

known_old : (n : ℕ) (mid rest : List ℕ) (e : Entry) → known_of n mid ≡ Some (e, rest) → IsOld e
known_old n mid rest e h =
    tested (IsOld e) n 1 (made entry.Contact (byte_in mid)) _ (Some (e, rest)) (λ k. made_old entry.Contact (byte_in mid) e rest (λ a. tt))
    (tested (IsOld e) n 2 (made entry.Group (def_in mid)) _ (Some (e, rest)) (λ k. made_old entry.Group (def_in mid) e rest (λ a. tt))
    (tested (IsOld e) n 3 (made (λ (a : ℕ × (List ℕ × Level)). entry.Level a.0 a.1.0 a.1.1) (both byte_in (both id_in level_in) mid)) None (Some (e, rest))
    (λ k. made_old (λ (a : ℕ × (List ℕ × Level)). entry.Level a.0 a.1.0 a.1.1) (both byte_in (both id_in level_in) mid) e rest (λ a. tt))
    (λ h. absurd cc)))
    h

moved_old : (p : IdReader) (n : ℕ) (mid rest : List ℕ) (e : Entry) → moved_of p n mid ≡ Some (e, rest) → IsOld e
moved_old p n mid rest e h =
    tested (IsOld e) n 4 (made entry.Session (session_in mid)) _ (Some (e, rest)) (λ k. made_old entry.Session (session_in mid) e rest (λ a. tt))
    (tested (IsOld e) n 5 (made (λ (a : ℕ × ℕ). entry.Take a.0 a.1) (both (be_number_in w32) (be_number_in w64) mid)) _ (Some (e, rest))
    (λ k. made_old (λ (a : ℕ × ℕ). entry.Take a.0 a.1) (both (be_number_in w32) (be_number_in w64) mid) e rest (λ a. tt))
    (tested (IsOld e) n 6 (made entry.Author (message_in mid)) _ (Some (e, rest)) (λ k. made_old entry.Author (message_in mid) e rest (λ a. tt))
    (tested (IsOld e) n 7 (made (λ (a : ℕ × MessageValue). entry.Arrive a.0 a.1) (both (be_number_in w32) message_in mid)) _ (Some (e, rest))
    (λ k. made_old (λ (a : ℕ × MessageValue). entry.Arrive a.0 a.1) (both (be_number_in w32) message_in mid) e rest (λ a. tt))
    (tested (IsOld e) n 15 (made (λ (a : ℕ × (ℕ × Out)). entry.Out a.0 a.1.0 a.1.1) (both (be_number_in w32) (both (be_number_in w64) (out_in p)) mid)) None (Some (e, rest))
    (λ k. made_old (λ (a : ℕ × (ℕ × Out)). entry.Out a.0 a.1.0 a.1.1) (both (be_number_in w32) (both (be_number_in w64) (out_in p)) mid) e rest (λ a. tt))
    (λ h. absurd cc)))))
    h

of_old_tag : (p : IdReader) (n : ℕ) (mid rest : List ℕ) (e : Entry) → entry_of format.Whole p n mid ≡ Some (e, rest) → IsOld e
of_old_tag p n mid rest e h =
    either (IsOld e) (is_between 1 3 n) (known_of n mid) _ (Some (e, rest)) (known_old n mid rest e)
    (either (IsOld e) (is_between 8 10 n) (meant (step_of n) (p mid)) _ (Some (e, rest)) (meant_old (step_of n) (p mid) e rest (step_old n))
    (tested (IsOld e) n 12 (made (λ (a : ℕ × List ℕ). entry.Offered a.0 a.1) (pair_in id_in mid)) _ (Some (e, rest))
    (λ k. made_old (λ (a : ℕ × List ℕ). entry.Offered a.0 a.1) (pair_in id_in mid) e rest (λ a. tt))
    (either (IsOld e) (is_between 11 14 n) (meant (heard_of n) (pair_in p mid)) _ (Some (e, rest)) (meant_old (heard_of n) (pair_in p mid) e rest (heard_old n))
    (either (IsOld e) (is_between 16 19 n) (account_of format.Whole p n mid) (moved_of p n mid) (Some (e, rest)) (λ k. absurd cc)
    (moved_old p n mid rest e)))))
    h

pub kind_read : (f : Format) (p : IdReader) (bytes rest : List ℕ) (e : Entry) → entry_by f p bytes ≡ Some (e, rest) → IsOfFormat f e
unfolding entry_by
kind_read format.Whole p bytes rest e h =
    let c = chained_some (entry_of format.Whole p) (byte_in bytes) e rest h in
    of_old_tag p c.0 c.1 rest e c.3
kind_read format.Short p bytes rest e h = tt
