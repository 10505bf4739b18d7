use Rattle.std.proofs.Common.{◌++◌, map}
use Rattle.batch_set.{specs.Linking.need_linked, specs.Linking.reserved_need, specs.Linking.unit_needs, proofs.TableRows.AreAdded}
use Rattle.batch_set.proofs.linking.link_act.Given as goal

-- the units of the names so far are linked
abbrev pub invariant-loop-name : goal.invariant-loop-name
invariant-loop-name l = AreAdded (unit_needs l.cell l.recipe l.act.unit) (reserved_need l.cell l.recipe) l.name-items l.name-index l.needs.items

-- and the needs so far
abbrev pub invariant-loop-need : goal.invariant-loop-need
invariant-loop-need l =
    AreAdded (unit_needs l.cell l.recipe l.act.unit ++ map (reserved_need l.cell l.recipe) l.act.reserves.items) (need_linked l.cell) l.need-items l.need-index l.needs.items
