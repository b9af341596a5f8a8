-- How the work goes: packed points at places of a room.
pub mod Points
