pub mod Records
pub mod Rows
pub mod Rooms
pub mod Stays
pub mod BytesStay
pub mod Untouched
pub mod Slices
