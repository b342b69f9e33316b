-- Steps of the readers.
use Rattle.std.proofs.Common.{◌≡◌, ℕ, zero, suc, Bool, true, List, [], ◌∷◌, ◌++◌, refl, sym, ap, ◌∙◌}
use Rattle.std.specs.Prelude.{Option, Some, None, Result, Ok, Err, nat_lt, if◌then◌else◌}
use Rattle.std.specs.Int.{w16, w32, w64}
use Rattle.std.specs.Str.{is_utf8}
use Rattle.std.proofs.lemmas.List.{append_assoc, append-nil}
use Rattle.entry_codec.specs.declared.stop.Stop.{Stop}
use Rattle.entry_codec.specs.declared.stop.Stop.TheVariants as stop
use Rattle.entry_codec.specs.declared.naming.Format.{Format}
use Rattle.entry_codec.specs.Answers.{ReadsPartFrom, ReadsList}
use Rattle.entry_codec.specs.Reading.{IdReader, be_number_in, byte_in, chained, entry_by, entry_of, front_in, heard_of, ids_in, is_between, list_in, made, meant, moved_of, name_in, out_in, out_of, pair_in, passed}
use Rattle.sync_ids.specs.declared.lists.TheConstants.{MAX_IDS}
use Rattle.sync_rules.specs.declared.entries.Entry.{Entry}
use Rattle.sync_rules.specs.declared.entries.Out.{Out}

-- a name, whose length and bytes were read
pub name_read : (b rest front more : List ℕ) (len : ℕ) (t : Bool) → byte_in b ≡ Some (len, rest) → nat_lt 0 len ≡ true → front_in len rest ≡ Some (front, more)
    → is_utf8 front ≡ t → name_in b ≡ (if t then Some (front, more) else None)
unfolding name_in
name_read b rest front more len t first some second text = rw (first, some, second, text) refl

-- one more part of a list
pub list_more : {A : Type 0} → (p : List ℕ → Option (A × List ℕ)) (xs : List A) (x : A) (n : ℕ) (b rest : List ℕ) → p b ≡ Some (x, rest)
    → made (λ more. xs ++ more) (list_in p (suc n) b) ≡ made (λ more. (xs ++ x ∷ []) ++ more) (list_in p n rest)
unfolding list_in
list_more {A} p xs x n b rest e = rw e (go (list_in p n rest)) where
  go : (o : Option (List A × List ℕ)) → made (λ more. xs ++ more) (made (λ (a : A × List A). a.0 ∷ a.1) (made (λ ys. (x, ys)) o)) ≡ made (λ more. (xs ++ x ∷ []) ++ more) o
  go None = refl
  go (Some y) = ap (λ (ys : List A). Some (ys, y.1)) (sym (append_assoc xs (x ∷ []) y.0))

list_none : {A : Type 0} → (p : List ℕ → Option (A × List ℕ)) (xs : List A) (n : ℕ) (b : List ℕ) → p b ≡ None
    → made (λ more. xs ++ more) (list_in p (suc n) b) ≡ None
unfolding list_in
list_none p xs n b e = rw e refl

-- a part of a list is not read
pub list_stops : {A : Type 0} → (p : List ℕ → Option (A × List ℕ)) (xs : List A) (count n m : ℕ) (b old new : List ℕ) (s : Stop)
    → list_in p count old ≡ made (λ more. xs ++ more) (list_in p n b) → n ≡ suc m → ReadsPartFrom p b (Err s) new → ReadsList (list_in p count) old (Err s) new
list_stops p xs count n m b old new stop.BadEntry e some none = e ∙ ap (λ (k : ℕ). made (λ more. xs ++ more) (list_in p k b)) some ∙ list_none p xs m b none
list_stops p xs count n m b old new stop.Memory e some none = tt

-- all parts were read
pub list_done : {A : Type 0} → (p : List ℕ → Option (A × List ℕ)) (xs : List A) (b : List ℕ) → made (λ more. xs ++ more) (list_in p zero b) ≡ Some (xs, b)
unfolding list_in
list_done {A} p xs b = ap (λ (ys : List A). Some (ys, b)) (append-nil xs)

-- ---- parts behind others, where the ids of messages that are held are read in some way

-- the ids behind their number are not read
pub ids_stop : (p : IdReader) (b rest new : List ℕ) (count : ℕ) (s : Stop) → passed (is_between 1 MAX_IDS) (be_number_in w16 b) ≡ Some (count, rest)
    → ReadsList (list_in p count) rest (Err s) new → ReadsPartFrom (ids_in p) b (Err s) new
unfolding ids_in
ids_stop p b rest new count stop.BadEntry first none = ap (chained (list_in p)) first ∙ none
ids_stop p b rest new count stop.Memory first none = tt

-- what follows the kind of an output
kind_read : (p : IdReader) (b rest : List ℕ) (kind : ℕ) → byte_in b ≡ Some (kind, rest) → out_in p b ≡ out_of p kind rest
unfolding out_in
kind_read p b rest kind first = ap (chained (out_of p)) first

pub out_ok : {A : Type 0} (p : IdReader) (q : List ℕ → Option (A × List ℕ)) (make : A → Out) (b rest new : List ℕ) (kind k : ℕ) (a : A)
    → byte_in b ≡ Some (kind, rest) → kind ≡ k → ((x : List ℕ) → out_of p k x ≡ made make (q x)) → q rest ≡ Some (a, new) → out_in p b ≡ Some (make a, new)
out_ok p q make b rest new kind k a first same is read =
    kind_read p b rest kind first ∙ ap (λ (n : ℕ). out_of p n rest) same ∙ is rest ∙ ap (made make) read

pub out_stop : {A : Type 0} (p : IdReader) (q : List ℕ → Option (A × List ℕ)) (make : A → Out) (b rest new : List ℕ) (kind k : ℕ) (s : Stop)
    → byte_in b ≡ Some (kind, rest) → kind ≡ k → ((x : List ℕ) → out_of p k x ≡ made make (q x)) → ReadsPartFrom q rest (Err s) new → ReadsPartFrom (out_in p) b (Err s) new
out_stop p q make b rest new kind k stop.BadEntry first same is none =
    kind_read p b rest kind first ∙ ap (λ (n : ℕ). out_of p n rest) same ∙ is rest ∙ ap (made make) none
out_stop p q make b rest new kind k stop.Memory first same is none = tt

-- an output, behind the numbers of its session and of its time, is not read
pub moved_stop : (p : IdReader) (b first_left left new : List ℕ) (tag session now : ℕ) (s : Stop) → tag ≡ 15 → be_number_in w32 b ≡ Some (session, first_left)
    → be_number_in w64 first_left ≡ Some (now, left) → ReadsPartFrom (out_in p) left (Err s) new → ReadsPartFrom (moved_of p tag) b (Err s) new
moved_stop p b first_left left new tag session now stop.BadEntry same first second none = rw (same, first, second, none) refl
moved_stop p b first_left left new tag session now stop.Memory same first second none = tt

-- what follows the tag of an entry
tag_read : (f : Format) (p : IdReader) (b rest : List ℕ) (tag : ℕ) → byte_in b ≡ Some (tag, rest) → entry_by f p b ≡ entry_of f p tag rest
unfolding entry_by
tag_read f p b rest tag first = ap (chained (entry_of f p)) first

heard_read : (f : Format) (p : IdReader) (b rest : List ℕ) (tag k : ℕ) → byte_in b ≡ Some (tag, rest) → tag ≡ k
    → ((x : List ℕ) → entry_of f p k x ≡ meant (heard_of k) (pair_in p x)) → entry_by f p b ≡ meant (heard_of tag) (pair_in p rest)
heard_read f p b rest tag k first same is =
    tag_read f p b rest tag first ∙ ap (λ (n : ℕ). entry_of f p n rest) same ∙ is rest ∙ ap (λ (n : ℕ). meant (heard_of n) (pair_in p rest)) (sym same)

pub heard_by : (f : Format) (p : IdReader) (b rest new : List ℕ) (tag k : ℕ) (r : Result Entry Stop) → byte_in b ≡ Some (tag, rest) → tag ≡ k
    → ((x : List ℕ) → entry_of f p k x ≡ meant (heard_of k) (pair_in p x)) → ReadsPartFrom (λ x. meant (heard_of tag) (pair_in p x)) rest r new → ReadsPartFrom (entry_by f p) b r new
heard_by f p b rest new tag k (Ok e) first same is read = heard_read f p b rest tag k first same is ∙ read
heard_by f p b rest new tag k (Err stop.BadEntry) first same is read = heard_read f p b rest tag k first same is ∙ read
heard_by f p b rest new tag k (Err stop.Memory) first same is read = tt
