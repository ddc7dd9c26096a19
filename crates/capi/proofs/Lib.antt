-- Lemmas for the proofs of this crate, and what a host can rely on (Laws).
mod LivenessLaws
mod Demands
mod OneInput
mod WaySmall
mod Cleared
mod LightLaws
mod ReachTable
mod RingLaws
mod KeptLaws
mod InputSetLaws
mod BlockLaws
mod TextLaws
mod JoinLaws
mod HeldLaws
mod HeldReport
pub mod Laws
