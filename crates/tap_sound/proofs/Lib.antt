pub mod Kit
mod Forms
mod Left
mod Rows
mod Follows
pub mod Steps
mod Firsts
mod Doings
mod Ways
pub mod Taken
pub mod Scripts
mod Whole
mod Entries
mod Files
pub mod Kept
mod Tame
mod TameRows
mod Used
mod Standing
mod Stand
mod Claiming
mod Claims
mod Shut
mod Reached
pub mod Shapes
pub mod ShapeRows
pub mod Turned
pub mod Writers
mod Calls
mod Turns
pub mod Held
mod NamesTurns
mod NamesRows
mod NamesTimes
mod NamesKept
mod RoomTable
mod RoomRows
mod RoomKept
mod FileRows
mod HandTurns
mod HandFiles
mod HandKept
pub mod Views
pub mod TableFiles
pub mod Agreeing
pub mod Publishing
mod TableKept
mod TableEvents
mod Backers
mod BackerEvents
mod FreshTurns
mod FreshRows
mod FreshKept
mod Tabled
mod RingSteps
mod Serving
mod ServedOn
mod RingEvents
mod RingsKept
mod Soundness
mod StepFacts
mod ServedMoved
mod TurnRings
mod EventRings
mod CallRings
mod DriveRings
mod SoundRuns
mod Worlds
