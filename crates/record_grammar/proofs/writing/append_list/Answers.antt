use Rattle.record_grammar.proofs.Complete.{list_framed}
use Rattle.record_grammar.proofs.writing.append_list.Goals as goal

pub returns-clause-ok : goal.returns-clause-ok
returns-clause-ok c =
    list_framed c.append_ids.result c.args.to.now.items c.append_header.new.to.items c.append_ids.new.to.items c.args.type_byte c.args.ids.now c.as_slice-ids.result.now
    c.append_ids.ensures.ok c.append_ids.ensures.whole c.in_ok-append_header.ensures.ok c.as_slice-ids.ensures.value
