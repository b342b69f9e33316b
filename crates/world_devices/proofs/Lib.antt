pub mod BroughtLaws
pub mod AllowedLaws
pub mod KeepLaws
pub mod LeaveLaws
pub mod HostLaws
pub mod RunLaws
pub mod RunningLaws
pub mod FullLaws
pub mod CallLaws
pub mod TurnLaws
pub mod NewLaws
pub mod AddLaws
pub mod StartLaws
pub mod NewJournals
mod CutLaws
