use Rattle.files_flow.proofs.NumberLemmas.{are_sound, flow_read, flow_unread}
use Rattle.files_flow.proofs.flow.read_flow.Goals as goal

pub link-requires : goal.link-requires
link-requires c = are_sound _ _ _ _ _ c.in_ok-read.ensures.ok.are_nodes

pub returns-clause-ok : goal.returns-clause-ok
returns-clause-ok c =
    flow_read c.args.text.now _ _ c.in_ok-read.ensures.ok c.link.result c.link.ensures.names c.link.ensures.ok

pub returns-clause-err : goal.returns-clause-err
returns-clause-err c = flow_unread c.args.text.now _ _ c.in_ok-read.ensures.ok c.link.result c.link.ensures.err
