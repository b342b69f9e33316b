use Rattle.std.proofs.Common.{◌≡◌, ℕ, ◌+◌, ◌-◌, ◌<◌, ◌≤◌, ◌^◌, ◌++◌, Bool, List, [], Option, None, Some, IfOk, OnErr, Result, length, map, get_or, set, replicate, vec_len, take, sym, ap, subst, ◌∙◌, arith, rules, length-append}
use Rattle.std.proofs.lemmas.List.{length-set, length-replicate, take_all}
use Rattle.retry_table.specs.declared.contact_rows.ContactRows.{ContactRows}
use Rattle.retry_table.specs.declared.contact_rows.Released.{Released}
use Rattle.retry_table.specs.declared.contact_rows.Turn.{Turn}
use Rattle.retry_table.specs.Contacts.{AreContacts, IsSaidFor}
use Rattle.retry_table.specs.Due.{message_in, offers_in, owed_in}
use Rattle.retry_table.specs.Queues.{is_sought}
use Rattle.retry_table.specs.Table.{KeptRow, RowsTable, kept_in, no_kept, rows_at, with_numbers, with_ready, with_rows}
use Rattle.retry_table.specs.Turns.{as_said, group_of, said_at, shown, turned, turns_in, with_turn, word_of}
use Rattle.retry_table.proofs.ContactLaws.{groups_length, longer_contacts, longer_seen, seen_all}
use Rattle.retry_table.proofs.all_rows.AllRows.reserve_groups.Goals as goal

pub invariant_of-self : goal.invariant_of-self
invariant_of-self c =
    let t = c.self.inside in
    let os : List (Option Released) = t.released.items in
    let many : vec_len t.released ≡ length os = search rules in
    let few : length os ≤ c.args.numbers = omega arith in
    let is : c.resize.new.self.items ≡ os ++ replicate (c.args.numbers - length os) None = c.in_ok-resize.ensures.items ∙ (λ i. take_all c.args.numbers os few i ++ replicate (c.args.numbers - many i) None) in
    let small : length (os ++ replicate (c.args.numbers - length os) None) < 2 ^ 32 =
    (let numbers : c.args.numbers < 2 ^ 32 = omega arith in
    let none : Option Released = None in
    omega (arith, few, numbers, length-append os (replicate (c.args.numbers - length os) none), length-replicate (c.args.numbers - length os) none)) in
    subst (λ (r : List (Option Released)). AreContacts t.contacts.items r t.count) (sym is) (longer_contacts t.contacts.items os t.count c.self.invariant (c.args.numbers - length os) small)

pub returns-in_ok-resize-clause-ok : goal.returns-in_ok-resize-clause-ok
returns-in_ok-resize-clause-ok c =
    let t = c.self.inside in
    let os : List (Option Released) = t.released.items in
    let many : vec_len t.released ≡ length os = search rules in
    let few : length os ≤ c.args.numbers = omega arith in
    let is : c.resize.new.self.items ≡ os ++ replicate (c.args.numbers - length os) None = c.in_ok-resize.ensures.items ∙ (λ i. take_all c.args.numbers os few i ++ replicate (c.args.numbers - many i) None) in
    ap (λ (r : List (Option Released)). seen_all t.contacts.items r) is
    ∙ (longer_seen t.contacts.items os t.count c.self.invariant (c.args.numbers - length os)
    ∙ (ap (λ (k : ℕ). record (seen_all t.contacts.items os) { groups = map group_of os ++ replicate (c.args.numbers - k) None }) (sym (groups_length os))
    ∙ ap (λ (v : RowsTable). record v { groups = v.groups ++ replicate (c.args.numbers - length v.groups) None }) c.self.view_is))
