pub mod BoolFacts
pub mod NatFacts
pub mod OptionFacts
pub mod ListFacts
pub mod AmongFacts
pub mod RaisedFacts
