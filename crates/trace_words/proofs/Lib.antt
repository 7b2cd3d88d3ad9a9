pub mod AnswerLaws
pub mod ChainSteps
pub mod Chains
pub mod LineLaws
pub mod Loops
pub mod Spaced
pub mod StepLaws
pub mod WordLaws
