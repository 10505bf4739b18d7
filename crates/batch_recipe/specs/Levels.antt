-- trusted: the levels of the procedural model, at which the nodes of an expanded tree stand.

-- the level of a node:
-- - it is the procedure;
-- - it is in the chart of a procedure, whose labels stand for unit procedures;
-- - it is in the chart of a unit procedure, whose labels stand for operations;
-- - it is in the chart of an operation, whose labels stand for phase steps
pub data Level : Type 0 where
  is_procedure : Level
  in_procedure : Level
  in_unit_procedure : Level
  in_operation : Level

-- the level of the chart of an act at this level; a phase step has none
abbrev pub below : Level → Level
below is_procedure = in_procedure
below in_procedure = in_unit_procedure
below in_unit_procedure = in_operation
below in_operation = in_operation
