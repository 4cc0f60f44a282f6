pub mod AnswerLemmas
pub mod AuditLemmas
pub mod AuditorLemmas
pub mod KeptLemmas
