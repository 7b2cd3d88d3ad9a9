pub mod Before
pub mod Building
pub mod Lines
pub mod Refusals
pub mod Refused
pub mod Scenario
pub mod ScenarioLaws
pub mod ScenarioText
