mod AllOf
mod Capped
mod CutLemmas
mod DegreeLemmas
mod ExprLemmas
mod Formed
mod MarkLemmas
mod PartLemmas
mod TableLemmas
mod SoundLemmas
mod Passes
mod KindLemmas
mod Less
pub mod KindFacts
mod DepthLemmas
mod TakeLemmas
mod StepLemmas
mod GraphLemmas
mod BoundLemmas
mod FileLemmas
mod CallLemmas
mod JobLemmas
mod SaidBounds
mod SaidNames
mod OneForm
pub mod Needs
