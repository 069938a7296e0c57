mod Clock
mod Small
mod Examples
mod WorkedNumbers
mod WorkedBlocks
mod WorkedPosts
mod WorkedTails
mod WorkedCollections
mod WorkedControl
mod WorkedTimes
mod WorkedPaths
mod WorkedFinds
mod WorkedFriends
mod WorkedSessions
pub mod AnswerLaws
pub mod ValueLaws
pub mod OperatorLaws
pub mod ContentLaws
pub mod FieldLaws
pub mod DotLaws
pub mod CallLaws
pub mod FunctionLaws
pub mod NeverStuck
pub mod LookLaws
pub mod AfterLaws
pub mod InputLaws
pub mod LineLaws
pub mod ContributionLaws
