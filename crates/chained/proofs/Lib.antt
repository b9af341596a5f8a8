pub mod Results
pub mod Buffers
pub mod Answers
pub mod Settled
