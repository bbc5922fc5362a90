mod AnyLemmas
mod AvailableLemmas
mod BesideLemmas
pub mod BlankLemmas
pub mod ChangesLemmas
mod ClimbLemmas
mod ClosureLemmas
mod CountLemmas
mod DominatorLemmas
mod DrawLemmas
mod FindingLemmas
pub mod FirstLemmas
mod FlowLemmas
pub mod GatherLemmas
mod GreatestLemmas
mod GrowLemmas
mod LawLemmas
mod LiveLemmas
mod LosingLemmas
mod NumberingLemmas
mod OrderLemmas
pub mod PartsLemmas
mod PassLemmas
mod ReachLemmas
mod ReachingLemmas
mod ScheduleLemmas
mod SearchLemmas
mod SpanningLemmas
mod SpreadLemmas
pub mod TouchedLemmas
mod TurnsLemmas
mod UnderwayLemmas
mod WayLemmas
