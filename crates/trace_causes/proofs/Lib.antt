pub mod CauseLaws
pub mod Chains
pub mod Cuts
pub mod DigitsFit
pub mod FieldLaws
pub mod OpLaws
pub mod WordLaws
