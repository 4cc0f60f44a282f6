mod CutLemmas
mod PutLemmas
mod MoveLemmas
mod CountLemmas
mod ScheduleLemmas
