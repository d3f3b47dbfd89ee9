pub mod AllMade
pub mod AllPlaced
mod AmongSteps
pub mod Apart
pub mod AssignedPlaced
pub mod EachMade
mod AddedValues
pub mod ArgumentsDoable
mod Around
mod BetweenDoable
mod BetweenLeft
pub mod AssignedDepth
mod AssignedDoable
mod AssignedLeft
mod AssignedLone
mod AssignedRoom
mod AssignedPlaces
mod ArrayLeft
mod ArrayWritten
mod DepthTexts
mod ElementsEdited
mod ElementsLeft
pub mod Found
mod Frames
mod FreshValues
mod GivenWritten
mod KeyedWritten
mod KeysLeft
mod LastKeys
mod LineRanges
mod LinesWritten
mod ListElements
mod ListStands
mod ListsEdited
mod ListsThere
mod LoneValues
mod Marks
pub mod Meant
mod NewElementsDoable
mod Numbers
pub mod OneMeaning
mod OnLines
pub mod OwnAssigned
pub mod OwnOperands
pub mod OwnValues
mod Pushed
pub mod Refused
mod RoomFound
mod SaidDoable
pub mod SaidLeft
mod SaidSteps
mod SetValues
mod SeveralDoable
mod SlotSteps
pub mod SlotsDoable
pub mod SlotsThere
pub mod Standing
mod ValueListsThere
mod ValuesEdited
pub mod ValuesLeft
pub mod ValuesThere
mod WithRoom
pub mod SortedSteps
pub mod SortedLists
mod SortedOrder
mod SortedValues
