use Rattle.std.proofs.Common.{◌≡◌, ℕ, List, map, sym, subst}
use Rattle.std.specs.List.{flat_map}
use Rattle.std.specs.String.{string_bytes}
use Rattle.journal_state.specs.Whole.{id_at}
use Rattle.reply_tree.specs.Walks.{IsWindow}
use Rattle.tree_commands.specs.Trees.{delivered_in, walk_line, parents_of, walk_text}
use Rattle.tree_commands.proofs.Walked.{items_within, lines_are, on_lines}
use Rattle.tree_commands.proofs.tree.add_window.Goals as goal

pub add_lines-requires-clause-sized : goal.add_lines-requires-clause-sized
add_lines-requires-clause-sized c = (c.in_ok-thread.ensures c.requires.0 c.requires.1).sized

pub add_lines-requires-clause-within : goal.add_lines-requires-clause-within
add_lines-requires-clause-within c =
    let w = c.args.window.now in
    let f = c.args.store.now.state.facts in
    let thread = c.in_ok-thread.thread in
    let part : IsWindow thread.parents w.from w.count c.as_slice.result.now =
    subst (λ (xs : List ℕ). IsWindow thread.parents w.from w.count xs)
    (sym c.as_slice.ensures.value)
    c.in_ok-items.ensures in
    items_within c.requires.0 f (delivered_in f w.group) thread
    (c.in_ok-thread.ensures c.requires.0 c.requires.1) w.from w.count c.as_slice.result.now part

pub returns : goal.returns
returns c clients knows =
    let w = c.args.window.now in
    let f = c.args.store.now.state.facts in
    let ids = delivered_in f w.group in
    let thread = c.in_ok-thread.thread in
    let part : IsWindow thread.parents w.from w.count c.as_slice.result.now =
    subst (λ (xs : List ℕ). IsWindow thread.parents w.from w.count xs)
    (sym c.as_slice.ensures.value)
    c.in_ok-items.ensures in
    let lines : flat_map (walk_line (map (id_at f.held) thread.numbers) thread.parents)
    c.as_slice.result.now
    ≡ walk_text ids (parents_of clients f ids) w.from w.count =
    lines_are clients f ids thread (c.in_ok-thread.ensures clients knows) c.walks_are_one.ensures
    c.walk_is_sorted.ensures
    w.from w.count c.as_slice.result.now part in
    on_lines c.add_lines.result (string_bytes c.args.to.now) (string_bytes c.add_lines.new.to) _ _
    lines
    c.add_lines.ensures
