pub mod Apart
pub mod Asked
pub mod ConvRows
pub mod DirRows
pub mod ActorRows
pub mod Waiting
pub mod Could
pub mod Moments
