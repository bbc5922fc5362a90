pub mod DefinitionLemmas
mod ExpressionLemmas
mod FaultLemmas
mod FittingLemmas
mod FromLemmas
pub mod LiveLemmas
mod NodeLemmas
mod NumberLemmas
mod OneDominatorLemmas
mod OneOutputLemmas
pub mod ProblemLemmas
mod SameGraphLemmas
mod SameNodesLemmas
mod SameProblemLemmas
mod SameSolutionLemmas
mod WorkedFlow
