-- How the work goes: values lifted by heights whose signs are known, and rows joined with them.
pub mod Lift
pub mod Cells
