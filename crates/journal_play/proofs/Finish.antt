-- What is printed at the end is the text of the journal.
use Rattle.std.proofs.Common.{◌≡◌, ℕ, Bool, true, false, cond, ◌||◌, List, [], ◌∷◌, ◌++◌, map, refl, sym, ◌∙◌, ap, subst, inl, inr, Option, Some, None}
use Rattle.std.specs.FinSet as fin_set
use Rattle.sync_ids.specs.Values.{GroupValue, MessageValue}
use Rattle.sync_ids.specs.Ids.{message_id_of}
use Rattle.sync_ids.specs.declared.records.Record.{Record}
use Rattle.sync_rules.specs.declared.states.Fate.TheVariants as fate_kind
use Rattle.sync_rules.specs.declared.entries.Entry.{Entry}
use Rattle.sync_rules.specs.Clients.{Meaning}
use Rattle.sync_rules.specs.Lists.{is_among, In}
use Rattle.sync_rules.specs.Facts.{Facts, Held, held_at, arrived, facts, entries_of}
use Rattle.sync_rules.specs.Steps.{answer_of}
use Rattle.sync_rules.proofs.Sound.{SoundFacts}
use Rattle.sync_rules.proofs.Runs.{legal_sound}
use Rattle.message_graph.specs.declared.nodes.Judged.{Judged}
use Rattle.message_graph.specs.Nodes.{fate_by, ending_by}
use Rattle.journal_play.specs.Texts.{FateLine, ends_told, unended, line_at, lines_text}
use Rattle.journal_play.specs.Playing.{Story, IsStoryOf, IsTextOf, node_of, answer_shown}
use Rattle.journal_play.specs.Keeping.{pending_line, pending_text}
use Rattle.journal_play.proofs.Texts.{text-append}

pending_case : (whole : List Held) (m : MessageValue) (rest : List FateLine)
    (answer : Option Judged) → held_at whole (message_id_of m) ≡ Some (arrived 0 m)
    → (invalid delivered : Bool)
    → lines_text whole (cond (delivered || invalid) rest ((fate_kind.Pending, message_id_of m)
    ∷ rest))
    ≡ pending_line (fate_by answer (ending_by invalid delivered)) m ++ lines_text whole rest
pending_case whole m rest answer found true true = refl
pending_case whole m rest answer found true false = refl
pending_case whole m rest answer found false true = refl
pending_case whole m rest None found false false =
    ap (λ o. line_at fate_kind.Pending (message_id_of m) o ++ lines_text whole rest) found
pending_case whole m rest (Some answer) found false false =
    ap (λ o. line_at fate_kind.Pending (message_id_of m) o ++ lines_text whole rest) found

pending_same : (clients : Meaning) (f : Facts) (whole : List Held) (ms : List MessageValue)
    → ((h : Held) → In h (map (arrived 0) ms) → held_at whole h.id ≡ Some h)
    → lines_text whole (unended f (map (arrived 0) ms))
    ≡ pending_text ms (map (node_of clients f) (map (arrived 0) ms))
pending_same clients f whole [] names = refl
pending_same clients f whole (m ∷ ms) names =
    pending_case whole m (unended f (map (arrived 0) ms)) (answer_shown (answer_of clients f (arrived 0 m))) (names (arrived 0 m) (inl refl))
    (fin_set.contains f.invalid (message_id_of m)) (is_among f.delivered (message_id_of m))
    ∙ ap (λ t. pending_line (fate_by (answer_shown (answer_of clients f (arrived 0 m))) (ending_by (fin_set.contains f.invalid (message_id_of m)) (is_among f.delivered (message_id_of m)))) m ++ t)
    (pending_same clients f whole ms (λ h inside. names h (inr inside)))

pub finishes : (clients : Meaning) (def : GroupValue) (records : List Record) (play : Story) (text : List ℕ) → IsStoryOf clients def records play
    → text ≡ play.text ++ pending_text play.messages play.nodes → IsTextOf clients def records text
finishes clients def records play text p is =
    let j : List (List Entry) = p.journal in
    let f : Facts = facts j in
    let m = p.stands.mirrors in
    let sound : SoundFacts clients f = legal_sound clients j p.stands.legal in
    let names : (h : Held) → In h (map (arrived 0) play.messages) → held_at f.held h.id ≡ Some h =
    subst (λ (hs : List Held). (h : Held) → In h hs → held_at f.held h.id ≡ Some h) m.held sound.names in
    let last : lines_text f.held (unended f f.held) ≡ pending_text play.messages play.nodes =
    ap (λ (hs : List Held). lines_text f.held (unended f hs)) m.held
    ∙ pending_same clients f f.held play.messages names
    ∙ ap (λ (hs : List Held). pending_text play.messages (map (node_of clients f) hs)) (sym m.held)
    ∙ ap (pending_text play.messages) (sym m.nodes) in
    record {
      journal = j;
      plays = p.plays;
      printed = is ∙ sym (text-append f.held (ends_told (entries_of j)) (unended f f.held)
          ∙ (λ i. sym m.text i ++ last i));
    }
