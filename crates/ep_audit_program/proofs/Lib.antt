pub mod CommandLine
pub mod JudgeLemmas
pub mod VerdictLemmas
