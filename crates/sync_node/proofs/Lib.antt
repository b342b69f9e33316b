pub mod SafeLaws
pub mod WorkLaws
mod OutLaws
mod TakeLaws
mod CauseLaws
mod KeepLaws
mod CallLaws
pub mod AsideLaws
pub mod SentLaws
mod CourseRuns
pub mod CourseLaws
pub mod DidLaws
pub mod WentLaws
pub mod PrimLaws
mod UnderLaws
pub mod BatchLaws
mod LinkActs
mod GroupLaws
mod SendActs
mod RunActLaws
pub mod StartActs
pub mod EventLaws
pub mod NodeRuns
