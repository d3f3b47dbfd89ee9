mod Searches
mod Placed
mod AnchorsFound
mod WithValue
mod Rooms
mod Sides
mod InsertionsDoable
mod FirstFound
mod Outside
mod Counts
mod Tests
mod Gathered
mod Cleared
pub mod Removals
mod RemovalsDone
mod Erasing
mod NextThere
mod Turns
mod WholeRemovals
pub mod OneMeaning
