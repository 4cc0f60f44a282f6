pub mod TiedLemmas
