mod Pigeon
mod SameParts
mod PartLemmas
mod ParkedLemmas
mod MayLemmas
