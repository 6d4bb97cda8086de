pub mod CsTexts
pub mod CsLaws
pub mod NdbFirsts
pub mod NdbBundles
pub mod NdbWritable
pub mod NdbWritten
pub mod NdbBack
pub mod NdbOwn
pub mod PlainTexts
pub mod PlainReplies
pub mod PlainEvents
pub mod PlainHistories
pub mod LastOwn
pub mod OwnEntries
pub mod DnsOrder
pub mod CsAnswers
pub mod StepsAsk
pub mod VersionInForce
pub mod WrittenVersions
pub mod WorldBack
pub mod Walk
mod IlCases
pub mod Worlds
mod ActorCases
pub mod CasesUdp
pub mod CasesIl
pub mod CasesFaults
pub mod CasesRuns
pub mod CasesLimits
pub mod Shared
pub mod Asked
pub mod Deeds
pub mod Carried
pub mod BadLines
pub mod Endings
pub mod Statuses
mod WordsAfterPath
