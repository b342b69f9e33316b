-- Bytes that lie in chunks, of which some of the first have gone.
use Rattle.std.specs.Prelude.{◌≡◌, ℕ, ◌<◌, ◌≤◌, List, [], ◌∷◌, ◌++◌, length, drop}
use Rattle.std.specs.Global.{Vec}

-- all bytes of the chunks, and what lies behind them
abbrev pub bytes_of : List (Vec ℕ) → (last : List ℕ) → List ℕ
bytes_of [] last = last
bytes_of (c ∷ chunks) last = c.items ++ bytes_of chunks last

-- those that lie together in front
abbrev pub first_of : List (Vec ℕ) → (last : List ℕ) → List ℕ
first_of [] last = last
first_of (c ∷ chunks) last = c.items

-- none of the chunks is empty
abbrev pub AreFull : List (Vec ℕ) → Type 0
AreFull [] = Unit {0}
AreFull (c ∷ chunks) = (0 < length c.items) × AreFull chunks

-- where bytes have gone, others of the first chunk are left, and so many wait
pub record IsOutbox (chunks : List (Vec ℕ)) (last : List ℕ) (gone waits : ℕ) : Type 0 where
  pub full : AreFull chunks
  pub left : 0 < gone → gone < length (first_of chunks last)
  pub counted : waits ≡ length (drop gone (bytes_of chunks last))

-- two chunks were put behind the others: all bytes are those of before and theirs, and those in front are
-- still there
pub record TakesOver (old new : List (Vec ℕ)) (last long : List ℕ) : Type 0 where
  pub bytes : (behind : List ℕ) → bytes_of new behind ≡ bytes_of old (last ++ (long ++ behind))
  pub full : AreFull old → AreFull new
  pub first : (behind : List ℕ) → length (first_of old last) ≤ length (first_of new behind)
