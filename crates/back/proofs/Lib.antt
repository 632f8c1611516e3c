pub mod FillLaws
pub mod Filling
pub mod LookLaws
pub mod OverLaws
pub mod PickLaws
pub mod StepBack
