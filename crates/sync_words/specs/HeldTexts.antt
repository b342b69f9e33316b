-- The lines of the commands that show what a store holds, and of a played script.
use Rattle.std.specs.Prelude.{ℕ, List, [], ◌∷◌, ◌++◌, codes}
use Rattle.std.specs.Fmt.{decimal}
use Rattle.hex.specs.Hex.{encode_lower}
use Rattle.sync_ids.specs.Values.{GroupValue}
use Rattle.sync_rules.specs.declared.states.Fate.{Fate}
use Rattle.sync_rules.specs.declared.states.Origin.{Origin}
use Rattle.sync_words.specs.Texts.{state_text, origin_text}

-- ---- `show`

abbrev pub contacts_text : ℕ → List ℕ
contacts_text n = codes "contacts " ++ (decimal n ++ 10 ∷ [])

-- a group's id, its client's name in digits, its major version, and its descriptor in digits
abbrev pub known_group_text : List ℕ → GroupValue → List ℕ
known_group_text group def =
    codes "group " ++ (encode_lower group ++ (32 ∷ encode_lower def.name ++ (32 ∷ decimal def.major ++ (32 ∷ encode_lower def.descriptor ++ 10 ∷ []))))

abbrev pub message_state_text : (id group : List ℕ) → Fate → List ℕ
message_state_text id group state =
    codes "message " ++ (encode_lower id ++ (32 ∷ encode_lower group ++ (32 ∷ state_text state ++ 10 ∷ [])))

abbrev pub sessions_text : ℕ → List ℕ
sessions_text n = codes "sessions " ++ (decimal n ++ 10 ∷ [])

-- ---- `inbox`

-- a delivered message: its id, its group, its time, where it came from, and the length of its body
abbrev pub inbox_text : (id group : List ℕ) (timestamp : ℕ) → Origin → (len : ℕ) → List ℕ
inbox_text id group timestamp from len =
    encode_lower id
    ++ (32 ∷ encode_lower group ++ (32 ∷ decimal timestamp ++ (32 ∷ origin_text from ++ (32 ∷ decimal len ++ 10 ∷ []))))

-- ---- a script

-- how many messages are in each state
abbrev pub states_text : (delivered invalid pending unknown : ℕ) → List ℕ
states_text delivered invalid pending unknown =
    codes " delivered "
    ++ (decimal delivered
    ++ (codes " invalid " ++ (decimal invalid ++ (codes " pending " ++ (decimal pending ++ (codes " unknown " ++ (decimal unknown ++ 10 ∷ [])))))))

-- how many messages a device holds, and how many of them are in each state
abbrev pub device_text : (device held delivered invalid pending unknown : ℕ) → List ℕ
device_text device held delivered invalid pending unknown =
    codes "device " ++ (decimal device ++ (codes " held " ++ (decimal held ++ states_text delivered invalid pending unknown)))
