pub mod ByKind
pub mod DuesOf
pub mod FewWorks
pub mod InForce
pub mod Numbering
pub mod Placed
pub mod Said
pub mod Shared
