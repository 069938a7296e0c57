pub mod Running
pub mod Rounds
pub mod Results
pub mod Working
pub mod JobLaws
