pub mod Arguments
pub mod Calls
pub mod LentPart
pub mod LentWhole
pub mod Locals
pub mod Params
pub mod Past
pub mod While
