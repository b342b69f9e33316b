-- What the client of `sharing` groups says of a message, by its body (this project's profile): its author joins or leaves
-- the group of a definition.
use Rattle.std.specs.Prelude.{◌≡◌, ◌↔◌, ℕ, ◌+◌, ◌^◌, Bool, true, false, cond, ◌&&◌, nat_eq, nat_le, nat_lt, List, [], ◌∷◌}
use Rattle.std.specs.Prelude.{◌++◌, length, take, drop, Option, Some, None, codes}
use Rattle.std.specs.Int.{w32, from_be_bytes}
use Rattle.std.specs.Str.{is_utf8}
use Rattle.std.specs.Cmp.Lexicographic.{pointwise}
use Rattle.sync_ids.specs.Values.{GroupValue, MessageValue}
use Rattle.sync_ids.specs.declared.def.TheConstants.{MAX_DESCRIPTOR, MAX_NAME}
use Rattle.sync_rules.specs.declared.answers.Judgement.{Judgement}
use Rattle.sync_rules.specs.declared.answers.Judgement.TheVariants as judgement
use Rattle.sync_rules.specs.Clients.{Meaning}
use Rattle.sync_rules.specs.declared.entries.Entry.TheVariants as entry
use Rattle.client_basic.specs.Bodies.{bundle_kind, bundle_verdict, previous_of}
use Rattle.entry_codec.specs.Spelling.{IsDef, def_bytes}
use Rattle.entry_codec.specs.declared.reading.EntryFound.{EntryFound}
use Rattle.entry_codec.specs.declared.reading.EntryFound.TheVariants as found
use Rattle.client_sharing.specs.declared.bodies.Saying.{Saying}

-- ---- what a body says

abbrev pub stance_byte : Bool → ℕ
stance_byte true = 1
stance_byte false = 2

-- a stance, the previous id, and a definition as a journal spells it behind the tag of its entry
abbrev pub saying_body : Saying → List ℕ
saying_body s = stance_byte s.join ∷ (s.previous ++ def_bytes s.def)

-- this body says this, which is within the limits
pub record IsSaying (s : Saying) (body : List ℕ) : Type 0 where
  pub whole_id : length s.previous ≡ 32
  pub within : IsDef s.def
  pub is : body ≡ saying_body s

-- ---- the same as a function of the body

-- the parts of some bytes, cut where they stand in the spelling of a definition
abbrev pub def_cut : List ℕ → GroupValue
def_cut [] = record { name = []; major = 0; descriptor = [] }
def_cut (n ∷ rest) = record {
  name = take n rest;
  major = from_be_bytes w32 (take 4 (drop n rest));
  descriptor = drop (n + 6) rest;
}

abbrev pub is_def : GroupValue → Bool
is_def d =
    nat_lt 0 (length d.name) && (nat_le (length d.name) MAX_NAME && (is_utf8 d.name
    && (nat_lt d.major (2 ^ 32) && nat_le (length d.descriptor) MAX_DESCRIPTOR)))

-- the definition that these bytes spell, all of them together
unfoldable pub def_of : List ℕ → Option GroupValue
def_of bytes =
    cond (is_def (def_cut bytes) && pointwise nat_eq bytes (def_bytes (def_cut bytes))) (Some (def_cut bytes)) None

-- the definition of a group that was found, where its entry takes so many bytes
abbrev pub whole_def : ℕ → EntryFound → Option GroupValue
whole_def len (found.One (entry.Group def) used) = cond (nat_eq used len) (Some def) None
whole_def len f = None

abbrev pub stance_of : ℕ → Option Bool
stance_of byte = cond (nat_eq byte 1) (Some true) (cond (nat_eq byte 2) (Some false) None)

abbrev pub saying_by : Option Bool → List ℕ → Option GroupValue → Option Saying
saying_by (Some join) previous (Some def) = Some (record { join = join; previous = previous; def = def })
saying_by stance previous def = None

-- what a body says
unfoldable pub saying_of : List ℕ → Option Saying
saying_of [] = None
saying_of (byte ∷ rest) = saying_by (stance_of byte) (take 32 rest) (def_of (drop 32 rest))

-- a body says something exactly where it is spelled so
abbrev pub SayingsAreSpelled : Type 0
SayingsAreSpelled = (body : List ℕ) (s : Saying) → (saying_of body ≡ Some s) ↔ IsSaying s body

-- ---- the client

abbrev pub sharing_name : List ℕ
sharing_name = codes "sharing"

-- the groups of the client: `sharing` of major version 0
abbrev pub is_sharing : GroupValue → Bool
is_sharing d = nat_eq d.major 0 && pointwise nat_eq d.name sharing_name

-- refused where the body says nothing, or speaks of a group whose client has the name `sharing`. A message is passed on by
-- its author alone
abbrev pub saying_verdict : Option Saying → Judgement
saying_verdict None = judgement.Refuse
saying_verdict (Some s) =
    cond (pointwise nat_eq s.def.name sharing_name) judgement.Refuse (judgement.Accept (previous_of s.previous) false)

-- ---- with the three bundled clients

-- kind 3 of `sharing` with major version 0, beside those of the bundle
abbrev pub sharing_kind : List ℕ → ℕ → Option ℕ
sharing_kind name major = cond (nat_eq major 0 && pointwise nat_eq name sharing_name) (Some 3) (bundle_kind name major)

abbrev pub sharing_verdict : ℕ → MessageValue → Judgement
sharing_verdict kind m = cond (nat_eq kind 3) (saying_verdict (saying_of m.body)) (bundle_verdict kind m)

abbrev pub sharing_meaning : Meaning
sharing_meaning = record { kind_of = sharing_kind; verdict = sharing_verdict }
