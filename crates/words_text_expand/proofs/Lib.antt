-- Columns put one after the other behind those that are there.
pub mod ColumnsBehind
-- The columns that codes say, one code at a time, are the columns of the codes.
pub mod SaidColumns
