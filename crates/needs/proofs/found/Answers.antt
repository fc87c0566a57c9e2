-- `needs::found` meets its contract.
use Rattle.needs.proofs.Answering.{found_is}
use Rattle.needs.proofs.found.Goals as goal

pub returns-clause-value : goal.returns-clause-value
returns-clause-value c = (let g = c.args in let t = g.tables.now in found_is t.machine.now t.next.now t.outputs.now t.fitting.good g.reached.now c.requires.known c.flags_of-inside.ensures c.sort-sorted.ensures c.write_list.ensures c.count.ensures).0

pub returns-clause-list_after : goal.returns-clause-list_after
returns-clause-list_after c = (let g = c.args in let t = g.tables.now in found_is t.machine.now t.next.now t.outputs.now t.fitting.good g.reached.now c.requires.known c.flags_of-inside.ensures c.sort-sorted.ensures c.write_list.ensures c.count.ensures).1
