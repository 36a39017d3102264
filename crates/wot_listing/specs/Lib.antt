pub mod Answer
pub mod EndedRuns
pub mod Machine
pub mod Others
pub mod Places
pub mod Rising
pub mod KeptKeys
pub mod Reading
