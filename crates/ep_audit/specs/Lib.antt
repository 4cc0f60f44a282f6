pub mod Audit
pub mod Auditor
pub mod Judged
pub mod Kept
