pub mod Reports
pub mod Looking
